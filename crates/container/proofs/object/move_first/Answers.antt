-- What is left to be moved gives the target; the entry itself goes behind it.
use native.Mathlib.Omega.{arith}
use lib.ListN.{length-set}
use Rattle.container.proofs.ObjectLaws.{moves_start, moves_again, moves_end}
use Rattle.container.proofs.object.move_first.Goals as goal

pub loop-i-init : goal.loop-i-init
loop-i-init c = moves_start 0 _ _ (omega arith, c.requires)

pub loop-i-preserved : goal.loop-i-preserved
loop-i-preserved c = moves_again c.loop-i.invariant c.loop-i-test.true

pub shape_of-entries : goal.shape_of-entries
shape_of-entries c = simp length-set c.loop-i.invariant.size

pub returns : goal.returns
returns c = moves_end c.loop-i.invariant (omega arith)

pub bounds-entries-i-in-loop-i-3 : goal.bounds-entries-i-in-loop-i-3
bounds-entries-i-in-loop-i-3 c = simp length-set (omega arith)

pub bounds-entries-k-2 : goal.bounds-entries-k-2
bounds-entries-k-2 c = simp length-set (omega arith)

-- What is still to be copied, written where the loop stands, gives the whole.
use native.Mathlib.Omega.{arith}
use Rattle.encoding.proofs.SliceLaws.{copies_start, copies_again, copies_end}
use Rattle.encoding.proofs.slices.copy.Goals as goal

pub loop-i-init : goal.loop-i-init
loop-i-init c = copies_start _ _ _ c.requires

pub loop-i-preserved : goal.loop-i-preserved
loop-i-preserved c = copies_again c.loop-i.invariant (omega arith)

pub shape_of-buf : goal.shape_of-buf
shape_of-buf c = c.loop-i.invariant.size

pub returns : goal.returns
returns c = copies_end c.loop-i.invariant (omega arith)

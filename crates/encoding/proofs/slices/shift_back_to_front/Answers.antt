-- What is still to be moved, moved up from where the loop stands, gives the whole.
use native.Mathlib.Omega.{arith}
use Rattle.encoding.proofs.SliceLaws.{moves_start, moves_again, moves_end}
use Rattle.encoding.proofs.slices.shift_back_to_front.Goals as goal

pub loop-i-init : goal.loop-i-init
loop-i-init c = moves_start _ _ _ _ c.requires.0 c.requires.1

pub loop-i-preserved : goal.loop-i-preserved
loop-i-preserved c = moves_again c.loop-i.invariant (omega arith)

pub shape_of-buf : goal.shape_of-buf
shape_of-buf c = c.loop-i.invariant.size

pub returns : goal.returns
returns c = moves_end c.loop-i.invariant (omega arith)

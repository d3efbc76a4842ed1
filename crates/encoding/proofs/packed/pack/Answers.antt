-- The bytes that stand, and those of what is left, give the whole number's. The mask is the remainder by 256, the shift the quotient.
use native.Mathlib.Omega.{arith}
use lib.Bits.{and_mask}
use Rattle.encoding.proofs.SliceLaws.{packs_start, packs_again, packs_end}
use Rattle.encoding.proofs.packed.pack.Goals as goal

pub loop-b-init : goal.loop-b-init
loop-b-init c = packs_start _ _ _

pub loop-b-preserved : goal.loop-b-preserved
loop-b-preserved c = rw (and_mask c.loop-b.rest 8) (packs_again c.loop-b.invariant c.loop-b.auto.b-items (omega arith))

pub returns : goal.returns
returns c = packs_end c.loop-b.invariant c.loop-b.auto.b-items (omega arith)

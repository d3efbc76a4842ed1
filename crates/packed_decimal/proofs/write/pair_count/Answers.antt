-- The logarithm tells.
use native.Mathlib.Omega.{arith}
use Rattle.packed_decimal.proofs.WriteLaws.{pairs_by_digits, pairs_zero}
use Rattle.packed_decimal.proofs.write.pair_count.Goals as goal

pub returns-in-Some : goal.returns-in-Some
returns-in-Some c = pairs_by_digits _ _ c.in-Some.ensures.power_le c.in-Some.ensures.next_power_gt

pub returns-in-None : goal.returns-in-None
returns-in-None c = pairs_zero _ (λ h. omega (arith, c.in-None.ensures.none))

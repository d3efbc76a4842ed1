-- By the power of ten that n reaches.
use native.Mathlib.Omega.{arith}
use Rattle.path_words.proofs.DigitLaws.{size_one, size_power}
use Rattle.path_words.proofs.sizes.decimal_size.Goals as goal

pub returns-then-n-eq0 : goal.returns-then-n-eq0
returns-then-n-eq0 c = (size_one _ c.if-n-eq0.true, omega arith)

pub returns-else-n-eq0 : goal.returns-else-n-eq0
returns-else-n-eq0 c = let r = c.ilog10.ensures in (size_power _ _ r.power_le r.next_power_gt, omega (arith, r.bound))

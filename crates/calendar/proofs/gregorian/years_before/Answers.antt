-- The guess is right, or one too low.
use native.Mathlib.Omega.{arith}
use Rattle.calendar.proofs.LoopLaws.{guess_low, guess_right}
use Rattle.calendar.proofs.gregorian.years_before.Goals as goal

pub returns-then-years_to-n : goal.returns-then-years_to-n
returns-then-years_to-n c = guess_low _ c.requires (omega (arith, c.years_to.ensures, c.if-years_to-n.true))

pub returns-else-years_to-n : goal.returns-else-years_to-n
returns-else-years_to-n c = guess_right _ c.requires (omega (arith, c.years_to.ensures, c.if-years_to-n.false))

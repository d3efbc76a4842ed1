-- The days counted, less those before 1970.
use mathlib.Core.Path.{◌∙◌, ap}
use Prim.Native.Nat.{◌<◌}
use native.Mathlib.Omega.{arith}
use lib.IntN.{pos, ◌-ℤ◌}
use mir.Syntax.{w32}
use Rattle.calendar.specs.Gregorian.{day_number}
use Rattle.calendar.proofs.CalendarLaws.{days_few}
use Rattle.calendar.proofs.CodeLaws.{Less, less}
use Rattle.calendar.proofs.date.CalendarDate.day_number.Goals as goal
use Rattle.calendar.proofs.date.CalendarDate.day_number.Goals.{After-days_before}

few : (c : After-days_before) → c.days_before.result < 3652059
few c = omega (arith, c.days_before.ensures, days_few c.args.self.date c.args.self.known)

number : (c : After-days_before) → Less w32 c.days_before.result 719161
number c = less w32 c.days_before.result 719161 (omega (arith, few c)) (omega arith)

pub returns : goal.returns
unfolding day_number
returns c = (number (goal.at.returns c).After-days_before).is ∙ ap (λ n. pos n -ℤ pos 719162) c.days_before.ensures

pub overflow_cast-result : goal.overflow_cast-result
overflow_cast-result c = record { sfits = omega (arith, few (goal.at.overflow_cast-result c).After-days_before) }

pub overflow_sub-result : goal.overflow_sub-result
overflow_sub-result c = (number (goal.at.overflow_sub-result c).After-days_before).fit

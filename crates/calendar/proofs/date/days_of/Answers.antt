-- The day number where the date is in the calendar.
use mathlib.Core.Path.{sym, ◌∙◌, ap}
use mathlib.Core.Bool.{not}
use native.Mathlib.Omega.{arith}
use mir.Syntax.{w32}
use mir.ValLaws.{to_z-of_z}
use Rattle.calendar.specs.Gregorian.{in_calendar, day_number}
use Rattle.calendar.proofs.AnswerLaws.{told_value, told_exit}
use Rattle.calendar.proofs.date.days_of.Goals as goal

pub returns-in_err-in_calendar : goal.returns-in_err-in_calendar
returns-in_err-in_calendar c = told_exit _ _ c.from_residual.ensures.0 (ap not c.in_err-in_calendar.ensures)

pub returns : goal.returns
returns c =
    let e = c.in_ok-in_calendar.ensures in
    told_value _ (to_z-of_z w32 c.day_number.result (record { sfits = omega arith }) ∙ c.day_number.ensures ∙ ap day_number e)
    (ap not (ap in_calendar (sym e) ∙ c.in_ok-in_calendar.field-0.known))

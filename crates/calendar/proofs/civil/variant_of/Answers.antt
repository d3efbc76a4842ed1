-- Each variant's own number, or 17.
use mathlib.Core.Path.{sym, ◌∙◌, ap}
use mathlib.Core.Bool.{not}
use native.Mathlib.Omega.{arith}
use mir.Syntax.{w32, w64}
use mir.ValLaws.{to_z-of_z}
use Rattle.value.specs.declared.variant.Variant.TheVariants as variant
use Rattle.calendar.specs.Gregorian.{in_calendar, day_number}
use Rattle.calendar.proofs.AnswerLaws.{told_value, told_exit, told_as, exit_as}
use Rattle.calendar.proofs.civil.variant_of.Goals as goal

pub returns-in_err-in_calendar-in-Date : goal.returns-in_err-in_calendar-in-Date
returns-in_err-in_calendar-in-Date c =
    rw c.in-Date.is (told_exit _ _ c.from_residual.ensures.0 (ap not c.in_err-in_calendar-in-Date.ensures))

pub returns-in_err-micros-in-TimestampMicros : goal.returns-in_err-micros-in-TimestampMicros
returns-in_err-micros-in-TimestampMicros c =
    let e = rw (to_z-of_z w64 c.in-TimestampMicros.time (record { sfits = omega arith })) at c.in_err-micros-in-TimestampMicros.ensures in
    rw c.in-TimestampMicros.is (exit_as _ _ _ _ c.from_residual-in_err-micros-in-TimestampMicros.ensures.0 e)

pub returns-in_err-micros-in-TimestampNtzMicros : goal.returns-in_err-micros-in-TimestampNtzMicros
returns-in_err-micros-in-TimestampNtzMicros c =
    let e = rw (to_z-of_z w64 c.in-TimestampNtzMicros.time (record { sfits = omega arith })) at c.in_err-micros-in-TimestampNtzMicros.ensures in
    rw c.in-TimestampNtzMicros.is (exit_as _ _ _ _ c.from_residual-in_err-micros-in-TimestampNtzMicros.ensures.0 e)

pub returns-in_ok-in_calendar-in-Date : goal.returns-in_ok-in_calendar-in-Date
returns-in_ok-in_calendar-in-Date c =
    let g = c.in_ok-in_calendar-in-Date in
    let v = to_z-of_z w32 c.day_number.result (record { sfits = omega arith }) ∙ c.day_number.ensures ∙ ap day_number g.ensures in
    rw c.in-Date.is (told_value _ (ap variant.Date v) (ap not (ap in_calendar (sym g.ensures) ∙ g.field-0.known)))

pub returns-in_ok-micros-in-TimestampMicros : goal.returns-in_ok-micros-in-TimestampMicros
returns-in_ok-micros-in-TimestampMicros c =
    let g = c.in_ok-micros-in-TimestampMicros in
    let e = rw (to_z-of_z w64 c.in-TimestampMicros.time (record { sfits = omega arith })) at g.ensures in
    rw (c.in-TimestampMicros.is, to_z-of_z w64 g.micros (record { sfits = omega arith })) (told_as variant.TimestampMicros _ _ _ e)

pub returns-in_ok-micros-in-TimestampNtzMicros : goal.returns-in_ok-micros-in-TimestampNtzMicros
returns-in_ok-micros-in-TimestampNtzMicros c =
    let g = c.in_ok-micros-in-TimestampNtzMicros in
    let e = rw (to_z-of_z w64 c.in-TimestampNtzMicros.time (record { sfits = omega arith })) at g.ensures in
    rw (c.in-TimestampNtzMicros.is, to_z-of_z w64 g.micros (record { sfits = omega arith })) (told_as variant.TimestampNtzMicros _ _ _ e)

-- The day's microseconds and the time, as the definition adds them.
use mathlib.Core.Path.{◌≡◌, refl, sym, ◌∙◌, ap}
use mathlib.Core.Bool.{false}
use mir.Syntax.{w32, w64}
use mir.Val.{of_z, to_z}
use mir.ValLaws.{to_z-of_z}
use Rattle.value.specs.Decimal.{beyond_day}
use Rattle.calendar.specs.Gregorian.{day_number, in_calendar, timestamp}
use Rattle.calendar.proofs.AnswerLaws.{answer_refused, told_value, told_exit}
use Rattle.calendar.proofs.CodeLaws.{Counts, counts, counted_as, day_near}
use Rattle.calendar.proofs.civil.micros_of.Goals as goal
use Rattle.calendar.proofs.civil.micros_of.Goals.{After-from}

in_day : (c : After-from) → beyond_day c.args.time ≡ false
in_day c = rw (to_z-of_z w64 c.args.time c.ranges.time) at (sym c.time_out_of_range.ensures ∙ c.if-time_out_of_range.false)

number : (c : After-from) → to_z w64 (of_z w64 c.from.result) ≡ day_number c.in_ok-in_calendar.field-0.date
number c =
    to_z-of_z w64 c.from.result (record { sfits = c.from.type_inv })
    ∙ (c.from.ensures ∙ (to_z-of_z w32 c.day_number-days.result (record { sfits = c.day_number-days.type_inv }) ∙ c.day_number-days.ensures))

count : (c : After-from) → Counts (day_number c.in_ok-in_calendar.field-0.date) c.args.time
count c = let d = c.in_ok-in_calendar.field-0 in counts (day_number d.date) c.args.time (day_near d.date d.known) (in_day c)

pub returns-in_err-in_calendar : goal.returns-in_err-in_calendar
returns-in_err-in_calendar c = told_exit _ _ c.from_residual.ensures.0 (rw c.in_err-in_calendar.ensures refl)

pub returns-then-time_out_of_range : goal.returns-then-time_out_of_range
returns-then-time_out_of_range c =
    let d = c.in_ok-in_calendar.field-0 in
    let k = ap in_calendar (sym c.in_ok-in_calendar.ensures) ∙ d.known in
    let h = rw (to_z-of_z w64 c.args.time c.ranges.time) at (sym c.time_out_of_range.ensures ∙ c.if-time_out_of_range.true) in
    sym (answer_refused _ (rw (k, h) refl))

pub overflow_mul-result : goal.overflow_mul-result
overflow_mul-result c = let f = (goal.at.overflow_mul-result c).After-from in rw (number f) (count f).days

pub overflow_add-result : goal.overflow_add-result
overflow_add-result c =
    let f = (goal.at.overflow_add-result c).After-from in
    let k = count f in
    rw (number f, to_z-of_z w64 c.args.time c.ranges.time, to_z-of_z w64 _ k.days) k.all

pub returns : goal.returns
unfolding timestamp
returns c =
    let f = (goal.at.returns c).After-from in
    let d = c.in_ok-in_calendar.field-0 in
    let e = c.in_ok-in_calendar.ensures in
    told_value _ (counted_as c.from.result (count f) c.ranges.time (number f) ∙ ap (λ d. timestamp d c.args.time) e)
    (rw (ap in_calendar (sym e) ∙ d.known, in_day f) refl)

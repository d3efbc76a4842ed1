-- What each call answers: its number in the table, and its value.
use Rattle.std.specs.Prelude.{Bool, cond, not, ◌||◌, List, [], ◌∷◌, ℕ, eqb, ℤ, Result, Ok, Err}
use Rattle.std.proofs.Math.Option.{Option, none, some}
use Rattle.encoding.specs.Rows.{Row, row, first}
use Rattle.value.specs.Decimal.{beyond_day}
use Rattle.value.specs.declared.variant.Variant.{Variant}
use Rattle.value.specs.declared.variant.Variant.TheVariants as variant
use Rattle.calendar.specs.declared.date.Date.{Date}
use Rattle.calendar.specs.declared.date.OutOfCalendar.{OutOfCalendar}
use Rattle.calendar.specs.declared.civil.Civil.{Civil}
use Rattle.calendar.specs.declared.civil.Civil.TheVariants as civil
use Rattle.calendar.specs.Gregorian.{in_calendar, in_span, day_number, timestamp}

-- an answer: its number, 0 where the call was carried out, and its value, which a refusal has not
pub record Told (A : Type 0) : Type 0 where
  pub number : ℕ
  pub value : Option A

abbrev pub done : {A : Type 0} → A → Told A
done x = record { number = 0; value = some x }

abbrev pub refused : {A : Type 0} → ℕ → Told A
refused n = record { number = n; value = none }

-- the answer of a call with these rows that is to give x
unfoldable pub answer : {A : Type 0} → List Row → A → Told A
answer rows x = cond (eqb (first rows) 0) (done x) (refused (first rows))

-- what a result tells: its value, or number 17
abbrev pub told : {A : Type 0} → Result A OutOfCalendar → Told A
told (Ok x) = done x
told (Err e) = refused 17

-- ---- a date to its day number

-- 17, "a date not in the calendar, a year outside the span"
abbrev pub date_rows : Date → List Row
date_rows d = row 17 (not (in_calendar d)) ∷ []

-- ---- a day number to its date

-- 17, "day numbers outside it on the way back"
abbrev pub day_rows : ℤ → List Row
day_rows n = row 17 (not (in_span n)) ∷ []

-- ---- a scalar of a date

-- of a date and a time: "in 7's stead, a time outside 0 to 86,399,999,999 microseconds"
abbrev pub moment_out : Date → ℤ → Bool
moment_out d time = not (in_calendar d) || beyond_day time

abbrev pub moment_rows : Date → ℤ → List Row
moment_rows d time = row 17 (moment_out d time) ∷ []

-- 17's condition for each
abbrev pub out_of_calendar : Civil → Bool
out_of_calendar (civil.Date d) = not (in_calendar d)
out_of_calendar (civil.TimestampMicros d time) = moment_out d time
out_of_calendar (civil.TimestampNtzMicros d time) = moment_out d time

abbrev pub civil_rows : Civil → List Row
civil_rows x = row 17 (out_of_calendar x) ∷ []

-- the scalar that is stored, where 17's condition does not hold; else the same sums, which nothing stores
abbrev pub civil_variant : Civil → Variant
civil_variant (civil.Date d) = variant.Date (day_number d)
civil_variant (civil.TimestampMicros d time) = variant.TimestampMicros (timestamp d time)
civil_variant (civil.TimestampNtzMicros d time) = variant.TimestampNtzMicros (timestamp d time)

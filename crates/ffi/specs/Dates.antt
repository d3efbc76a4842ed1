-- A date as numbers, and what the calls that turn it into a day number and back answer and leave behind.
use Rattle.std.specs.Prelude.{◌≡◌, cond, ℕ, eqb, ℤ}
use Rattle.encoding.specs.Rows.{first}
use Rattle.calendar.specs.declared.date.Date.{Date}
use Rattle.calendar.specs.declared.civil.Civil.{Civil}
use Rattle.calendar.specs.declared.civil.Civil.TheVariants as civils
use Rattle.calendar.specs.Gregorian.{day_number, date_of_day}
use Rattle.calendar.specs.Answers.{date_rows, day_rows}
use Rattle.semantics.specs.Record.{Scalars, fixed, civil}
use Rattle.ffi.specs.Scalars.{no_scalar}

abbrev pub date_of : ℤ → ℤ → ℤ → Date
date_of year month day = record { year = year; month = month; day = day }

-- a date, or a date and a time, by the code of the type that it is stored as: 11, a date; 12, a timestamp; else one without time zone
abbrev pub civil_of : ℕ → Date → ℤ → Civil
civil_of code d time = cond (eqb code 11) (civils.Date d) (cond (eqb code 12) (civils.TimestampMicros d time) (civils.TimestampNtzMicros d time))

-- 13 is its code; those of any other code are no scalar
unfoldable pub civil_by : ℕ → Date → ℤ → Scalars
civil_by code d time =
    cond (eqb code 11) (civil (civil_of code d time)) (cond (eqb code 12) (civil (civil_of code d time)) (cond (eqb code 13) (civil (civil_of code d time)) (fixed no_scalar)))

-- document 02, A2, a date to its day number; a refused call leaves what stood there
pub record TellsDays (n : ℕ) (d : Date) (before after : ℤ) : Type 0 where
  pub number : n ≡ first (date_rows d)
  pub days : after ≡ cond (eqb n 0) (day_number d) before

-- "The way back, from days to the date"
pub record TellsDate (n : ℕ) (days : ℤ) (before after : Date) : Type 0 where
  pub number : n ≡ first (day_rows days)
  pub date : after ≡ cond (eqb n 0) (date_of_day days) before

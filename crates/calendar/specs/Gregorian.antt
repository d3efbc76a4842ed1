-- The Gregorian calendar by its rules, days counted one by one, and "1970-01-01 is day 0".
use Rattle.std.specs.Prelude.{◌≡◌, Bool, cond, not, ◌&&◌, ◌||◌, ℕ, zero, suc, ◌+◌, ◌-◌, ◌%◌, ◌≤◌, ◌<◌, eqb, ℤ, pos, negsuc, nat_abs, ◌+ℤ◌, ◌-ℤ◌, ◌*ℤ◌}
use Rattle.std.proofs.Math.IntN.{suc_ℤ}
use Rattle.std.specs.Int.Signed.{le_z, lt_z}
use Rattle.calendar.specs.declared.date.Date.{Date}

-- ---- years and months

-- every fourth year, but of the hundredth ones only every fourth
unfoldable pub leap : ℕ → Bool
leap y = eqb (y % 4) 0 && (not (eqb (y % 100) 0) || eqb (y % 400) 0)

-- the days of a year, which is a leap year or not
abbrev pub year_length : Bool → ℕ
year_length l = cond l 366 365

-- the days of month m, 1 to 12, of such a year
unfoldable pub month_length : Bool → ℕ → ℕ
month_length l m =
    cond (eqb m 2) (cond l 29 28) (cond (eqb m 4 || (eqb m 6 || (eqb m 9 || eqb m 11))) 30 31)

-- the days of the years 1 to k
unfoldable pub years : ℕ → ℕ
years zero = 0
years (suc k) = years k + year_length (leap (suc k))

-- the days of the months 1 to k
unfoldable pub months : Bool → ℕ → ℕ
months l zero = 0
months l (suc k) = months l k + month_length l (suc k)

-- ---- dates

-- z is one of the numbers from a to b
abbrev pub within : ℤ → ℤ → ℤ → Bool
within a z b = le_z a z && le_z z b

-- the last day of a date's month; nat_abs of a number from 1 on is the number
abbrev pub last_day : Date → ℕ
last_day d = month_length (leap (nat_abs d.year)) (nat_abs d.month)

-- "years 1 to 9999"; not "a date not in the calendar, a year outside the span"
unfoldable pub in_calendar : Date → Bool
in_calendar d =
    within (pos 1) d.year (pos 9999) && (within (pos 1) d.month (pos 12) && within (pos 1) d.day (pos (last_day d)))

-- the days before a date of the calendar, from 0001-01-01 on
unfoldable pub days_before : Date → ℕ
days_before d =
    years (nat_abs d.year - 1) + (months (leap (nat_abs d.year)) (nat_abs d.month - 1) + (nat_abs d.day - 1))

-- "0001-01-01 is −719,162": the number of a date of the calendar
unfoldable pub day_number : Date → ℤ
day_number d = pos (days_before d) -ℤ pos 719162

-- ---- the way back

-- the day after a date of the calendar
unfoldable pub next_day : Date → Date
next_day d =
    cond (lt_z d.day (pos (last_day d))) (record { year = d.year; month = d.month; day = suc_ℤ d.day })
    (cond (lt_z d.month (pos 12)) (record { year = d.year; month = suc_ℤ d.month; day = pos 1 })
    (record { year = suc_ℤ d.year; month = pos 1; day = pos 1 }))

-- the date n days after 0001-01-01
unfoldable pub date_at : ℕ → Date
date_at zero = record { year = pos 1; month = pos 1; day = pos 1 }
date_at (suc n) = next_day (date_at n)

-- not "day numbers outside it on the way back": from −719,162, which negsuc 719161 is, to 2,932,896
abbrev pub in_span : ℤ → Bool
in_span n = within (negsuc 719161) n (pos 2932896)

-- the date of a day number of the span
unfoldable pub date_of_day : ℤ → Date
date_of_day n = date_at (nat_abs (n +ℤ pos 719162))

-- ---- a date and "a time of day"

-- the microseconds since 1970-01-01 began
unfoldable pub timestamp : Date → ℤ → ℤ
timestamp d time = day_number d *ℤ pos 86400000000 +ℤ time

-- ---- For the code

-- r whole years stand before day n
pub record YearOf (n r : ℕ) : Type 0 where
  pub below : r < 9999
  pub from : years r ≤ n
  pub to : n < years (suc r)

-- month m and its day d, from 0, are day n of the year, from 0
pub record MonthOf (l : Bool) (n m d : ℕ) : Type 0 where
  pub from_one : 0 < m
  pub to_twelve : m < 13
  pub in_month : d < month_length l m
  pub sum : months l (m - 1) + d ≡ n

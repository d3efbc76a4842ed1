-- What document 02 says of dates: each way inverts the other, and four days have their numbers.
use mathlib.Core.Path.{◌≡◌, refl, sym, ◌∙◌, ap}
use mathlib.Core.Bool.{true, false}
use Prim.Native.Nat.{ℕ, ◌-◌, ◌≤◌, ◌<◌}
use native.Mathlib.Omega.{arith}
use lib.IntN.{ℤ, pos, negsuc, nat_abs, ◌-ℤ◌, +ℤ-neg_ℤ_cancel, -ℤ-+ℤ_cancel}
use Rattle.encoding.specs.Rows.{first, order, in_order}
use Rattle.value.specs.Decimal.{out_of_range}
use Rattle.calendar.specs.Gregorian.{leap, month_length, years, months, in_calendar, days_before, day_number, date_at, date_of_day, in_span}
use Rattle.calendar.specs.Answers.{answer, done, date_rows, day_rows, civil_rows, civil_variant}
use Rattle.calendar.specs.declared.date.Date.{Date}
use Rattle.calendar.specs.declared.civil.Civil.{Civil}
use Rattle.calendar.specs.declared.civil.Civil.TheVariants as civil
use Rattle.calendar.proofs.CountLaws.{span, years_grow}
use Rattle.calendar.proofs.DateLaws.{Tested, tested, passes, Dated, counted, counted_to, date, index, index_few}
use Rattle.calendar.proofs.NumberLaws.{Before, before, day_in_span}

-- the days before a date of the calendar
pub days_few : (d : Date) → in_calendar d ≡ true → days_before d < 3652059
days_few d e =
    let t : Tested d = tested d e in
    rw t.is (index_few t.year t.month t.day t.valid t.y9999)

-- ---- "each inverts the other over that span"

-- a date of the calendar has a day number of the span, whose date it is
pub date_of_days : (d : Date) → in_calendar d ≡ true → (in_span (day_number d) ≡ true) × (date_of_day (day_number d) ≡ d)
unfolding day_number date_of_day
date_of_days d e =
    let t : Tested d = tested d e in (
      day_in_span (days_before d) (days_few d e),
      ap (λ z. date_at (nat_abs z)) (-ℤ-+ℤ_cancel (pos (days_before d)) (pos 719162))
          ∙ (rw t.is (sym (counted_to t.year t.month t.day (index t.year t.month t.day) t.valid refl))),
    )

year_few : (n : ℕ) (h : Dated (date_at n) n) → n < 3652059 → h.year ≤ 9999
unfolding days_before
year_few n h l =
    let no : 9999 < h.year → ⊥ = λ q. omega (arith, span, years_grow 9999 (h.year - 1) (omega arith), h.number) in
    omega arith

-- a day number of the span has a date of the calendar, whose number it is
pub days_of_date : (n : ℤ) → in_span n ≡ true → (in_calendar (date_of_day n) ≡ true) × (day_number (date_of_day n) ≡ n)
unfolding day_number date_of_day
days_of_date n e =
    let b : Before n = before n e in
    let h : Dated (date_at b.days) b.days = counted b.days in
    rw b.is (
      rw h.is (passes h.year h.month h.day h.valid (year_few b.days h b.low)),
      ap (λ z. z -ℤ pos 719162) (ap pos (ap days_before h.is ∙ h.number) ∙ sym b.is) ∙ +ℤ-neg_ℤ_cancel n (pos 719162),
    )

-- ---- the four days that have their numbers there

-- what `days_of` answers of a date
abbrev Numbered : Date → ℤ → Type 0
Numbered d n = answer (date_rows d) (day_number d) ≡ done n

pub named_days : Numbered (date 1970 1 1) (pos 0) × Numbered (date 1969 12 31) (negsuc 0)
    × Numbered (date 1 1 1) (negsuc 719161) × Numbered (date 9999 12 31) (pos 2932896)
unfolding answer first in_calendar day_number days_before years months leap month_length
named_days = (refl, refl, refl, refl)

-- ---- the table

pub date_order : (d : Date) → in_order order (date_rows d) ≡ true
date_order d = refl

pub day_order : (n : ℤ) → in_order order (day_rows n) ≡ true
day_order n = refl

pub civil_order : (x : Civil) → in_order order (civil_rows x) ≡ true
civil_order x = refl

-- "in 7's stead": what is stored is never out of range
pub civil_in_range : (x : Civil) → out_of_range (civil_variant x) ≡ false
civil_in_range (civil.Date d) = refl
civil_in_range (civil.TimestampMicros d time) = refl
civil_in_range (civil.TimestampNtzMicros d time) = refl

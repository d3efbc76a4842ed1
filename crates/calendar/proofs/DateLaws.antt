-- A date of the calendar and its day determine each other.
use mathlib.Core.Path.{◌≡◌, refl, sym, ◌∙◌, ap, subst}
use mathlib.Core.Bool.{Bool, true, false, cond, ◌&&◌, and-eq-true_iff, false≢true}
use Prim.Native.Nat.{ℕ, zero, suc, ◌+◌, ◌-◌, ◌≤◌, ◌<◌}
use native.Mathlib.Omega.{arith}
use native.Mathlib.Numerals.{add-one}
use lib.Dec.{leb, ltb}
use lib.IntN.{ℤ, pos, negsuc, nat_abs}
use borrow.Author.Tests.{ltb-true, ltb-false, leb-true, le-leb}
use Rattle.calendar.specs.Gregorian.{leap, year_length, month_length, years, months, within, in_calendar, days_before, next_day, date_at, YearOf, MonthOf}
use Rattle.calendar.specs.declared.date.Date.{Date}
use Rattle.calendar.proofs.CountLaws.{span, years_last, years_grow, months_last, months_none, months_grow, month_size, twelve}

-- a date by its natural numbers
abbrev pub date : ℕ → ℕ → ℕ → Date
date y m d = record { year = pos y; month = pos m; day = pos d }

-- a date of the calendar, but for its last year
pub record Valid (y m d : ℕ) : Type 0 where
  pub y1 : 0 < y
  pub m1 : 0 < m
  pub m12 : m < 13
  pub d1 : 0 < d
  pub last : d ≤ month_length (leap y) m

-- ---- the test

pub record Tested (c : Date) : Type 0 where
  pub year : ℕ
  pub month : ℕ
  pub day : ℕ
  pub is : c ≡ date year month day
  pub valid : Valid year month day
  pub y9999 : year ≤ 9999

-- what `within` says of a number from 1 on
pub record From1 (z : ℤ) (b : ℕ) : Type 0 where
  pub number : ℕ
  pub is : z ≡ pos number
  pub low : 1 ≤ number
  pub high : number ≤ b

from_1 : (z : ℤ) (b : ℕ) → within (pos 1) z (pos b) ≡ true → From1 z b
from_1 (pos n) b e =
    let h = (and-eq-true_iff (leb 1 n) (leb n b)).0 e in
    record { number = n; is = refl; low = leb-true 1 n h.0; high = leb-true n b h.1 }
from_1 (negsuc n) b e = absurd (false≢true e)

pub tested : (c : Date) → in_calendar c ≡ true → Tested c
unfolding in_calendar
tested c e =
    let b = month_length (leap (nat_abs c.year)) (nat_abs c.month) in
    let p = (and-eq-true_iff (within (pos 1) c.year (pos 9999)) (within (pos 1) c.month (pos 12) && within (pos 1) c.day (pos b))).0 e in
    let q = (and-eq-true_iff (within (pos 1) c.month (pos 12)) (within (pos 1) c.day (pos b))).0 p.1 in
    let y : From1 c.year 9999 = from_1 c.year 9999 p.0 in
    let m : From1 c.month 12 = from_1 c.month 12 q.0 in
    let d : From1 c.day b = from_1 c.day b q.1 in
    let l : b ≡ month_length (leap y.number) m.number =
    (λ i. month_length (leap (nat_abs (y.is i))) (nat_abs (m.is i))) in
    record {
      year = y.number;
      month = m.number;
      day = d.number;
      is = (λ i. record { year = y.is i; month = m.is i; day = d.is i });
      valid = record { y1 = y.low; m1 = m.low; m12 = omega (arith, m.high); d1 = d.low; last = omega (arith, d.high, l) };
      y9999 = y.high;
    }

pub bounds : (c : Date) → in_calendar c ≡ true → Valid (nat_abs c.year) (nat_abs c.month) (nat_abs c.day) × (nat_abs c.year ≤ 9999)
bounds c e =
    let t = tested c e in
    rw t.is (t.valid, t.y9999)

both : {a b : Bool} → a ≡ true → b ≡ true → (a && b) ≡ true
both {a} {b} p q = (and-eq-true_iff a b).1 (p, q)

pub passes : (y m d : ℕ) → Valid y m d → y ≤ 9999 → in_calendar (date y m d) ≡ true
unfolding in_calendar
passes y m d v h =
    both (both (le-leb 1 y v.y1) (le-leb y 9999 h))
    (both (both (le-leb 1 m v.m1) (le-leb m 12 (omega (arith, v.m12)))) (both (le-leb 1 d v.d1) (le-leb d (month_length (leap y) m) v.last)))

-- ---- the order of days

abbrev pub index : ℕ → ℕ → ℕ → ℕ
index y m d = days_before (date y m d)

-- the day of the year, from 0
abbrev in_year : ℕ → ℕ → ℕ → ℕ
in_year y m d = months (leap y) (m - 1) + (d - 1)

split : (y m d : ℕ) → index y m d ≡ years (y - 1) + in_year y m d
unfolding days_before
split y m d = refl

-- a day of a month is a day of the year
year_holds : (y m d : ℕ) → Valid y m d → in_year y m d < year_length (leap y)
year_holds y m d v =
    omega (arith, months_grow (leap y) m 12 (omega (arith, v.m12)), months_last (leap y) m v.m1, twelve (leap y), v.d1, v.last)

-- an earlier year, an earlier day
year_less : (y m d z n e : ℕ) → Valid y m d → y < z → index y m d < index z n e
year_less y m d z n e v h =
    let g : years y ≤ years (z - 1) = years_grow y (z - 1) (omega arith) in
    omega (arith, split y m d, split z n e, year_holds y m d v, years_last y v.y1)

month_less : (y m d n e : ℕ) → Valid y m d → m < n → index y m d < index y n e
month_less y m d n e v h =
    let g : months (leap y) m ≤ months (leap y) (n - 1) = months_grow (leap y) m (n - 1) (omega arith) in
    omega (arith, split y m d, split y n e, months_last (leap y) m v.m1, v.d1, v.last)

same_year : (y m d z n e : ℕ) → Valid y m d → Valid z n e → index y m d ≡ index z n e → y ≡ z
same_year y m d z n e v w p =
    let f : y < z → ⊥ = λ h. omega (arith, year_less y m d z n e v h) in
    let g : z < y → ⊥ = λ h. omega (arith, year_less z n e y m d w h) in
    omega arith

same_month : (y m d n e : ℕ) → Valid y m d → Valid y n e → index y m d ≡ index y n e → m ≡ n
same_month y m d n e v w p =
    let f : m < n → ⊥ = λ h. omega (arith, month_less y m d n e v h) in
    let g : n < m → ⊥ = λ h. omega (arith, month_less y n e m d w h) in
    omega arith

same_day : (y m d e : ℕ) → Valid y m d → Valid y m e → index y m d ≡ index y m e → d ≡ e
same_day y m d e v w p = omega (arith, split y m d, split y m e, v.d1, w.d1)

-- two dates of one day are one
pub same_date : (y m d z n e : ℕ) → Valid y m d → Valid z n e → index y m d ≡ index z n e → date y m d ≡ date z n e
same_date y m d z n e v w p = year (same_year y m d z n e v w p) w p
  where
    month : (n : ℕ) → m ≡ n → Valid y n e → index y m d ≡ index y n e → date y m d ≡ date y n e
    month n q = subst (λ k. Valid y k e → index y m d ≡ index y k e → date y m d ≡ date y k e) q (λ w p. ap (date y m) (same_day y m d e v w p))

    year : {z : ℕ} → y ≡ z → Valid z n e → index y m d ≡ index z n e → date y m d ≡ date z n e
    year q = subst (λ k. Valid k n e → index y m d ≡ index k n e → date y m d ≡ date k n e) q (λ w p. month n (same_month y m d n e v w p) w p)

pub index_few : (y m d : ℕ) → Valid y m d → y ≤ 9999 → index y m d < 3652059
index_few y m d v h = omega (arith, split y m d, year_holds y m d v, years_last y v.y1, years_grow y 9999 h, span)

-- ---- days counted

-- c is the date of the day with n days before it
pub record Dated (c : Date) (n : ℕ) : Type 0 where
  pub year : ℕ
  pub month : ℕ
  pub day : ℕ
  pub is : c ≡ date year month day
  pub valid : Valid year month day
  pub number : index year month day ≡ n

made : (y m d n : ℕ) → Valid y m d → index y m d ≡ n → Dated (date y m d) n
made y m d n v e = record { year = y; month = m; day = d; is = refl; valid = v; number = e }

first_day : (y m : ℕ) → 0 < y → 0 < m → m < 13 → Valid y m 1
first_day y m h k l = record { y1 = h; m1 = k; m12 = l; d1 = omega arith; last = omega (arith, month_size (leap y) m) }

before : (m : ℕ) → suc m - 1 ≡ m
before m = omega arith

-- the day after a date has the next number
next : (y m d : ℕ) → Valid y m d → Dated (next_day (date y m d)) (suc (index y m d))
unfolding next_day
next y m d v = go (ltb d (month_length (leap y) m)) refl (ltb m 12) refl
  where
    go : (s : Bool) → ltb d (month_length (leap y) m) ≡ s → (t : Bool) → ltb m 12 ≡ t
        → Dated (cond s (date y m (suc d)) (cond t (date y (suc m) 1) (date (suc y) 1 1))) (suc (index y m d))
    go true e t f =
        made y m (suc d) _ (record { y1 = v.y1; m1 = v.m1; m12 = v.m12; d1 = omega arith; last = ltb-true d (month_length (leap y) m) e })
        (omega (arith, split y m d, split y m (suc d), v.d1))
    go false e true f =
        let h : d ≡ month_length (leap y) m = omega (arith, v.last, ltb-false d (month_length (leap y) m) e) in
        made y (suc m) 1 _ (first_day y (suc m) v.y1 (omega arith) (omega (arith, ltb-true m 12 f)))
        (omega (arith, split y m d, split y (suc m) 1, v.d1, ap (months (leap y)) (before m), months_last (leap y) m v.m1))
    go false e false f =
        let h : d ≡ month_length (leap y) m = omega (arith, v.last, ltb-false d (month_length (leap y) m) e) in
        let t : months (leap y) m ≡ months (leap y) 12 = ap (months (leap y)) (omega (arith, v.m12, ltb-false m 12 f)) in
        let u : years (suc y - 1) ≡ years y = ap years (before y) in
        let k = months_last (leap y) m v.m1 in
        made (suc y) 1 1 _ (first_day (suc y) 1 (omega arith) (omega arith) (omega arith))
        (omega (arith, split y m d, split (suc y) 1 1, v.d1, years_last y v.y1, twelve (leap y), months_none (leap (suc y))))

again : (c : Date) (n : ℕ) → Dated c n → Dated (next_day c) (suc n)
again c n h = rw (h.is, ← h.number) (next h.year h.month h.day h.valid)

-- the date counted to has the number counted to
pub counted : (n : ℕ) → Dated (date_at n) n
unfolding date_at days_before years months
counted zero = made 1 1 1 0 (first_day 1 1 (omega arith) (omega arith) (omega arith)) refl
counted (suc n) = again (date_at n) n (counted n)

-- the only one
pub counted_to : (y m d n : ℕ) → Valid y m d → index y m d ≡ n → date y m d ≡ date_at n
counted_to y m d n v e =
    let h : Dated (date_at n) n = counted n in
    same_date y m d h.year h.month h.day v h.valid (e ∙ sym h.number) ∙ sym h.is

-- ---- the code's date

back : (m : ℕ) → m + 1 - 1 ≡ m
back m = omega arith

pub days_left : (n k : ℕ) → YearOf n k → n - years k < year_length (leap (k + 1))
days_left n k y = rw add-one (omega (arith, y.from, y.to, years_last (suc k) (omega arith), ap years (before k)))

pub arrived : (n k m d : ℕ) → YearOf n k → MonthOf (leap (k + 1)) (n - years k) m d → date (k + 1) m (d + 1) ≡ date_at n
arrived n k m d y t =
    counted_to (k + 1) m (d + 1) n
    (record { y1 = omega arith; m1 = t.from_one; m12 = t.to_twelve; d1 = omega arith; last = omega (arith, t.in_month) })
    (omega (arith, split (k + 1) m (d + 1), ap years (back k), t.sum, y.from))

-- What the machine computes, as the definitions say it.
use mathlib.Core.Path.{◌≡◌, ◌∙◌, ap}
use mathlib.Core.Bool.{true, false, true≢false}
use Prim.Native.Nat.{ℕ, suc, ◌+◌, ◌-◌, ◌^◌, ◌≤◌, ◌<◌}
use native.Mathlib.Omega.{arith}
use lib.Dec.{leb, leb-zero}
use lib.IntN.{ℤ, pos, negsuc, nat_abs, ◌+ℤ◌, ◌-ℤ◌, ◌*ℤ◌}
use Rattle.std.proofs.lemmas.Int.{fits_signed_from_abs, unsigned_abs-mul}
use borrow.Author.Tests.{leb-true, not-false}
use mir.Syntax.{Width, w64}
use mir.Val.{SFits, hbits, of_z, to_z}
use mir.ValLaws.{to_z-of_z, to_z_pos}
use Rattle.value.specs.Decimal.{beyond_day}
use Rattle.calendar.specs.Gregorian.{leap, years, in_calendar, days_before, day_number, date_at, YearOf, MonthOf}
use Rattle.calendar.specs.declared.date.Date.{Date}
use Rattle.calendar.proofs.CountLaws.{month_size}
use Rattle.calendar.proofs.DateLaws.{arrived}
use Rattle.calendar.proofs.NumberLaws.{Before, difference_near, small, sum_near}
use Rattle.calendar.proofs.CalendarLaws.{days_few}

-- ---- differences

-- a natural number n less b + 1
pub record Less (w : Width) (n b : ℕ) : Type 0 where
  pub fit : SFits w (to_z w n -ℤ pos (suc b))
  pub is : to_z w (of_z w (to_z w n -ℤ pos (suc b))) ≡ pos n -ℤ pos (suc b)

pub less : (w : Width) (n b : ℕ) → n < 2 ^ hbits w → suc b ≤ 2 ^ hbits w → Less w n b
less w n b h k =
    let e = to_z_pos w n h in
    let f : SFits w (to_z w n -ℤ pos (suc b)) = rw e (record { sfits = small n (suc b) (2 ^ hbits w) h k }) in
    record { fit = f; is = to_z-of_z w (to_z w n -ℤ pos (suc b)) f ∙ ap (λ z. z -ℤ pos (suc b)) e }

-- a day of the span, shifted to the days before it
pub shifted : (x : ℤ) → SFits w64 x → (b : Before x) → to_z w64 (of_z w64 (to_z w64 (of_z w64 x) +ℤ pos 719162)) ≡ pos b.days
shifted x f b = rw (to_z-of_z w64 x f, b.is) (to_z-of_z w64 (pos b.days) (record { sfits = omega (arith, b.low) }))

-- ---- a timestamp

pub day_near : (d : Date) → in_calendar d ≡ true → nat_abs (day_number d) < 4371221
unfolding day_number
day_near d e = omega (arith, difference_near (days_before d) 719161, days_few d e)

-- a day's microseconds, and those with a time of day
pub record Counts (z time : ℤ) : Type 0 where
  pub days : SFits w64 (z *ℤ pos 86400000000)
  pub all : SFits w64 (z *ℤ pos 86400000000 +ℤ time)

pub counts : (z time : ℤ) → nat_abs z < 4371221 → beyond_day time ≡ false → Counts z time
counts z (pos n) h e =
    let l = leb-true n 86399999999 (not-false (leb n 86399999999) (rw leb-zero at e)) in
    let p = unsigned_abs-mul z (pos 86400000000) in
    record {
      days = fits_signed_from_abs w64 _ (omega (arith, p));
      all = fits_signed_from_abs w64 _ (omega (arith, p, sum_near (z *ℤ pos 86400000000) n));
    }
counts z (negsuc n) h e = absurd (true≢false e)

-- x is n as the machine hands it on
pub counted_as : (x : ℤ) {n time : ℤ} → Counts n time → SFits w64 time → to_z w64 (of_z w64 x) ≡ n
    → to_z w64 (of_z w64 (to_z w64 (of_z w64 (to_z w64 (of_z w64 x) *ℤ pos 86400000000)) +ℤ to_z w64 (of_z w64 time))) ≡ n *ℤ pos 86400000000 +ℤ time
counted_as x {n} {time} k f e =
    rw (e, to_z-of_z w64 (n *ℤ pos 86400000000) k.days, to_z-of_z w64 time f, to_z-of_z w64 (n *ℤ pos 86400000000 +ℤ time) k.all)

-- ---- the code's date

pub arrived_as : (n k m d : ℕ) → YearOf n k → MonthOf (leap (k + 1)) (n - years k) m d
    → record { year = to_z w64 (k + 1); month = to_z w64 m; day = to_z w64 (d + 1) } ≡ date_at n
arrived_as n k m d y t =
    rw (
      to_z_pos w64 (k + 1) (omega (arith, y.below)),
      to_z_pos w64 m (omega (arith, t.to_twelve)),
      to_z_pos w64 (d + 1) (omega (arith, t.in_month, month_size (leap (k + 1)) m)),
    )
    (arrived n k m d y t)

-- Signed numbers: from days counted to day numbers, and back.
use mathlib.Core.Path.{◌≡◌, refl}
use mathlib.Core.Bool.{Bool, true, false, cond, and-eq-true_iff}
use Prim.Native.Nat.{ℕ, suc, ◌+◌, ◌-◌, ◌≤◌, ◌<◌}
use native.Mathlib.Omega.{arith}
use lib.Dec.{leb, ltb}
use lib.IntN.{ℤ, pos, negsuc, nat_abs, sub_ℕ, ◌+ℤ◌, ◌-ℤ◌}
use lib.Signed.{mag}
use borrow.Author.Tests.{ltb-true, ltb-false, leb-true, le-ltb, le-leb}
use Rattle.calendar.specs.Gregorian.{in_span}

-- ---- a difference

-- is within the larger bound
pub small : (n b h : ℕ) → n < h → b ≤ h → mag (sub_ℕ n b) < h
small n b h l m = go (ltb n b) refl
  where
    go : (t : Bool) → ltb n b ≡ t → mag (cond t (negsuc (b - suc n)) (pos (n - b))) < h
    go true e = omega (arith, ltb-true n b e)
    go false e = omega arith

near : (n b : ℕ) → nat_abs (sub_ℕ n b) ≤ n + b
near n b = go (ltb n b) refl
  where
    go : (t : Bool) → ltb n b ≡ t → nat_abs (cond t (negsuc (b - suc n)) (pos (n - b))) ≤ n + b
    go true e = omega (arith, ltb-true n b e)
    go false e = omega arith

pub difference_near : (n b : ℕ) → nat_abs (pos n -ℤ pos (suc b)) ≤ n + suc b
difference_near n b = near n (suc b)

pub sum_near : (z : ℤ) (t : ℕ) → nat_abs (z +ℤ pos t) ≤ nat_abs z + t
sum_near (pos n) t = omega arith
sum_near (negsuc n) t = omega (arith, near t (suc n))

-- ---- the span

-- what stands before a day of the span
pub record Before (n : ℤ) : Type 0 where
  pub days : ℕ
  pub is : n +ℤ pos 719162 ≡ pos days
  pub low : days < 3652059

pub before : (n : ℤ) → in_span n ≡ true → Before n
before (pos k) e = record { days = k + 719162; is = refl; low = omega (arith, leb-true k 2932896 e) }
before (negsuc k) e =
    let h : k ≤ 719161 = leb-true k 719161 ((and-eq-true_iff (leb k 719161) true).0 e).0 in
    record { days = 719162 - suc k; is = rw (le-ltb 719162 (suc k) (omega arith)); low = omega arith }

-- a day that is counted is one of the span
pub day_in_span : (n : ℕ) → n < 3652059 → in_span (pos n -ℤ pos 719162) ≡ true
day_in_span n h = go (ltb n 719162) refl
  where
    go : (s : Bool) → ltb n 719162 ≡ s → in_span (cond s (negsuc (719162 - suc n)) (pos (n - 719162))) ≡ true
    go true e = rw (le-leb (719162 - suc n) 719161 (omega arith))
    go false e = le-leb (n - 719162) 2932896 (omega (arith, ltb-false n 719162 e))

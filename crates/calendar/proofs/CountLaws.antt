-- The days of years and months: the closed form of the years' sum, and how the sums grow.
use mathlib.Core.Path.{◌≡◌, refl}
use mathlib.Core.Bool.{Bool, true, false, cond, not, ◌&&◌, ◌||◌}
use Prim.Native.Nat.{ℕ, zero, suc, ◌+◌, ◌-◌, ◌*◌, ◌/◌, ◌%◌, ◌≤◌, ◌<◌}
use native.Mathlib.Nat.{add-zero, add-suc}
use native.Mathlib.Omega.{arith}
use lib.Dec.{eqb}
use borrow.Author.Tests.{eqb-true, eqb-false}
use Rattle.calendar.specs.Gregorian.{leap, year_length, month_length, years, months}

-- ---- the closed form

-- of the days of the years 1 to k
unfoldable pub closed : ℕ → ℕ
closed k = 365 * k + k / 4 + k / 400 - k / 100

-- 1 where the test holds
abbrev one : Bool → ℕ
one t = cond t 1 0

by_4 : (k : ℕ) (t : Bool) → eqb (suc k % 4) 0 ≡ t → suc k / 4 ≡ k / 4 + one t
by_4 k true e = omega (arith, eqb-true (suc k % 4) 0 e)
by_4 k false e = omega (arith, eqb-false (suc k % 4) 0 e)

by_100 : (k : ℕ) (t : Bool) → eqb (suc k % 100) 0 ≡ t → suc k / 100 ≡ k / 100 + one t
by_100 k true e = omega (arith, eqb-true (suc k % 100) 0 e)
by_100 k false e = omega (arith, eqb-false (suc k % 100) 0 e)

by_400 : (k : ℕ) (t : Bool) → eqb (suc k % 400) 0 ≡ t → suc k / 400 ≡ k / 400 + one t
by_400 k true e = omega (arith, eqb-true (suc k % 400) 0 e)
by_400 k false e = omega (arith, eqb-false (suc k % 400) 0 e)

100-of-400 : (n : ℕ) → n % 400 ≡ 0 → n % 100 ≡ 0
100-of-400 n e = omega arith

4-of-100 : (n : ℕ) → n % 100 ≡ 0 → n % 4 ≡ 0
4-of-100 n e = omega arith

-- the steps a, b, c of the three quotients, put together; s, h, q: the tests for 4, 100, 400
sum_step : (k : ℕ) (q h s : Bool) → eqb (suc k % 400) 0 ≡ q → eqb (suc k % 100) 0 ≡ h → eqb (suc k % 4) 0 ≡ s
    → (a b c a' b' c' : ℕ) → a' ≡ a + one s → b' ≡ b + one h → c' ≡ c + one q → b ≤ k
    → 365 * suc k + a' + c' - b' ≡ (365 * k + a + c - b) + year_length (s && (not h || q))
sum_step k true true true eq eh es a b c a' b' c' ea eb ec l = omega arith
sum_step k q true false eq eh es a b c a' b' c' ea eb ec l =
    omega (arith, eqb-false (suc k % 4) 0 es (4-of-100 (suc k) (eqb-true (suc k % 100) 0 eh)))
sum_step k true false s eq eh es a b c a' b' c' ea eb ec l =
    omega (arith, eqb-false (suc k % 100) 0 eh (100-of-400 (suc k) (eqb-true (suc k % 400) 0 eq)))
sum_step k false true true eq eh es a b c a' b' c' ea eb ec l = omega arith
sum_step k false false true eq eh es a b c a' b' c' ea eb ec l = omega arith
sum_step k false false false eq eh es a b c a' b' c' ea eb ec l = omega arith

step : (k : ℕ) → closed (suc k) ≡ closed k + year_length (leap (suc k))
unfolding closed leap
step k =
    sum_step k (eqb (suc k % 400) 0) (eqb (suc k % 100) 0) (eqb (suc k % 4) 0) refl refl refl
    (k / 4) (k / 100) (k / 400) (suc k / 4) (suc k / 100) (suc k / 400)
    (by_4 k (eqb (suc k % 4) 0) refl) (by_100 k (eqb (suc k % 100) 0) refl) (by_400 k (eqb (suc k % 400) 0) refl) (omega arith)

pub years_closed : (k : ℕ) → years k ≡ closed k
unfolding years closed
years_closed zero = refl
years_closed (suc k) = omega (arith, years_closed k, step k)

-- the days of the span
pub span : years 9999 ≡ 3652059
unfolding closed
span = years_closed 9999

-- 400 times the days of k years are about 146,097 for each
pub about : (k : ℕ) → (400 * years k ≤ 146097 * k + 396) × (146097 * k ≤ 400 * years k + 699)
unfolding closed
about k = rw (years_closed k) (omega arith)

-- ---- years

after : (n : ℕ) → 0 < n → suc (n - 1) ≡ n
after n h = omega arith

years_step : (k : ℕ) → years (suc k) ≡ years k + year_length (leap (suc k))
unfolding years
years_step k = refl

pub years_last : (y : ℕ) → 0 < y → years y ≡ years (y - 1) + year_length (leap y)
years_last y h = rw (after y h) at (years_step (y - 1))

years_more : (a n : ℕ) → years a ≤ years (a + n)
years_more a zero = rw add-zero (omega arith)
years_more a (suc n) = rw add-suc (omega (arith, years_more a n, years_step (a + n)))

rest : (a b : ℕ) → a ≤ b → a + (b - a) ≡ b
rest a b h = omega arith

pub years_grow : (a b : ℕ) → a ≤ b → years a ≤ years b
years_grow a b h = rw (← (rest a b h)) (years_more a (b - a))

-- ---- months

months_step : (l : Bool) (k : ℕ) → months l (suc k) ≡ months l k + month_length l (suc k)
unfolding months
months_step l k = refl

pub months_last : (l : Bool) (m : ℕ) → 0 < m → months l m ≡ months l (m - 1) + month_length l m
months_last l m h = rw (after m h) at (months_step l (m - 1))

pub months_none : (l : Bool) → months l 0 ≡ 0
unfolding months
months_none l = refl

months_more : (l : Bool) (a n : ℕ) → months l a ≤ months l (a + n)
months_more l a zero = rw add-zero (omega arith)
months_more l a (suc n) = rw add-suc (omega (arith, months_more l a n, months_step l (a + n)))

pub months_grow : (l : Bool) (a b : ℕ) → a ≤ b → months l a ≤ months l b
months_grow l a b h = rw (← (rest a b h)) (months_more l a (b - a))

-- the twelve months are the year
pub twelve : (l : Bool) → months l 12 ≡ year_length l
unfolding months month_length
twelve true = refl
twelve false = refl

pub month_size : (l : Bool) (m : ℕ) → (28 ≤ month_length l m) × (month_length l m ≤ 31)
unfolding month_length
month_size l m = go l (eqb m 2) (eqb m 4 || (eqb m 6 || (eqb m 9 || eqb m 11)))
  where
    go : (l s t : Bool) → (28 ≤ cond s (cond l 29 28) (cond t 30 31)) × (cond s (cond l 29 28) (cond t 30 31) ≤ 31)
    go true true t = omega arith
    go false true t = omega arith
    go l false true = omega arith
    go l false false = omega arith

-- The invariant of the walk over values: what those still to come say of the bytes is what all of them say; and how many there are.
use mathlib.Core.Path.{◌≡◌, refl, ap}
use mathlib.Core.Bool.{Bool, true, false, ◌&&◌, false≢true}
use mathlib.Core.List.{List}
use Rattle.std.specs.Prelude.{None, Some}
use Prim.Native.Nat.{ℕ, zero, suc, ◌+◌, ◌-◌, ◌≤◌, ◌<◌}
use native.Mathlib.Omega.{arith}
use lib.Dec.{eqb, ltb}
use lib.ListN.{length, take, drop, length-drop}
use lib.Seq.{take_all}
use borrow.Author.Tests.{lt-ltb, ltb-true}
use Rattle.measure.specs.Measure.{measured, some_length, starts_in, whole_values}
use Rattle.measure.proofs.MeasureLaws.{measured_within}

-- the first of these bytes' values, as the code hands it out
some_is : (r m : ℕ) → Some r ≡ some_length m → (r ≡ m) × (0 < m)
some_is r zero e = absurd (cc)
some_is r (suc m) e = (cc, omega arith)

pub whole_fits : (r : ℕ) (bytes : List ℕ) → Some r ≡ some_length (measured bytes) → r ≤ length bytes
whole_fits r bytes e = let f = (some_is r (measured bytes) e).0 in omega (arith, measured_within bytes)

-- of n values one is there, and the others are behind it; or it is not there; or there is none left to be met
pub whole_again : (n m r : ℕ) (bytes : List ℕ) → n ≡ suc m → Some r ≡ some_length (measured bytes)
    → whole_values m (take (length bytes - r) (drop r bytes)) ≡ whole_values n bytes
unfolding whole_values
whole_again n m r bytes h e =
    let f = some_is r (measured bytes) e in
    let t = take_all (length bytes - r) (drop r bytes) (omega (arith, length-drop r bytes)) in
    rw (h, t, f.0, lt-ltb 0 (measured bytes) f.1) refl

pub whole_none : (n : ℕ) (bytes : List ℕ) → 0 < n → None ≡ some_length (measured bytes) → false ≡ whole_values n bytes
unfolding whole_values
whole_none zero bytes h e = absurd (omega arith)
whole_none (suc n) bytes h e = go (measured bytes) e
  where
    go : (m : ℕ) → None ≡ some_length m → false ≡ (ltb 0 m && whole_values n (drop m bytes))
    go zero e = refl
    go (suc m) e = absurd (cc)

pub whole_end : (n : ℕ) (bytes : List ℕ) → n ≡ 0 → eqb (length bytes) 0 ≡ whole_values n bytes
unfolding whole_values
whole_end n bytes h = rw h refl

both : {a b : Bool} → (a && b) ≡ true → (a ≡ true) × (b ≡ true)
both {a = true} e = (refl, e)
both {a = false} e = absurd (false≢true e)

-- every value has a byte
pub whole_count : (n : ℕ) (bytes : List ℕ) → whole_values n bytes ≡ true → n ≤ length bytes
unfolding whole_values
whole_count zero bytes e = omega arith
whole_count (suc n) bytes e =
    let p = both e in
    let q = whole_count n (drop (measured bytes) bytes) p.1 in
    omega (arith, ltb-true 0 (measured bytes) p.0, length-drop (measured bytes) bytes, measured_within bytes)

pub length_starts : (n at : ℕ) (bytes : List ℕ) → length (starts_in n at bytes) ≡ n
unfolding starts_in
length_starts zero at bytes = refl
length_starts (suc n) at bytes = ap suc (length_starts n (at + measured bytes) (drop (measured bytes) bytes))

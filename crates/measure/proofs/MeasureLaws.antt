-- For the code: a value's length, step by step.
use mathlib.Core.Path.{◌≡◌, refl, sym, ◌∙◌, ap}
use mathlib.Core.Bool.{Bool, true, false, cond, ◌||◌}
use mathlib.Core.Logic.{◌⊎◌, inl, inr}
use mathlib.Core.List.{List, [], ◌∷◌}
use Rattle.std.specs.Prelude.{None, Option}
use Rattle.std.specs.Option.{unwrap_or}
use Rattle.std.specs.Bool.{then_some}
use Prim.Native.Nat.{ℕ, zero, suc, ◌+◌, ◌*◌, ◌/◌, ◌%◌, ◌≤◌, ◌<◌}
use native.Mathlib.Nat.{mul-le-mul}
use native.Mathlib.Omega.{arith}
use lib.Dec.{eqb, leb}
use lib.ListN.{length, get_or}
use borrow.Author.Tests.{lt-leb, leb-true, eq-eqb, ne_eqb}
use Rattle.value.specs.Scalar.{scalar_length, payload_sizes}
use Rattle.measure.specs.Measure.{container_length, known_length, list_length, measured, number_at, object_length, some_length, value_length, within}

-- ---- whole, or 0

pub too_long_lem : (n x : ℕ) → n < x → within n x ≡ 0
too_long_lem n x h = rw (lt-leb x n h)

pub measured_within : (bytes : List ℕ) → measured bytes ≤ length bytes
unfolding measured
measured_within bytes = go (value_length bytes) (length bytes) (leb (value_length bytes) (length bytes)) refl
  where
    go : (x n : ℕ) (t : Bool) → leb x n ≡ t → within n x ≤ n
    go x n true e = rw e (leb-true x n e)
    go x n false e = rw e (omega arith)

pub measured_none : (bytes : List ℕ) → length bytes ≡ 0 → 0 ≡ measured bytes
unfolding measured value_length scalar_length
measured_none [] e = refl
measured_none (b ∷ bytes) e = absurd (omega arith)

-- ---- what the first byte tells, of each of the four kinds

-- a typed value's length, by its type code and the number behind its first byte
abbrev pub sized : ℕ → ℕ → ℕ
sized c n = cond (leb c 20) (1 + (get_or payload_sizes c 0 + cond (eqb c 15 || eqb c 16) n 0)) 0

known_sized : (c : ℕ) (bytes : List ℕ) → 0 < length bytes → get_or bytes 0 0 ≡ 4 * c → known_length (4 * c) bytes ≡ sized c (number_at bytes 1 4)
unfolding scalar_length
known_sized c [] h e = absurd (omega arith)
known_sized c (b ∷ bytes) h e =
    let q : b / 4 ≡ c = omega arith in
    let p : 4 * c / 4 ≡ c = omega arith in
    rw (ne_eqb (4 * c % 4) 1 (omega arith), ne_eqb (b % 4) 1 (omega arith), p, q) refl

-- Binary and String, by the code's two tests
abbrev pub Stores : ℕ → Type 0
Stores c = (c ≡ 15) ⊎ ((c ≡ 15 → ⊥) × (c ≡ 16))

pub stores : (c n : ℕ) → Stores c → sized c n ≡ 5 + n
stores c n (inl e) = rw e (omega arith)
stores c n (inr e) = rw e.1 (omega arith)

pub stores_four : (c : ℕ) → Stores c → get_or payload_sizes c 0 ≡ 4
stores_four c (inl e) = rw e refl
stores_four c (inr e) = rw e.1 refl

module _ (c : ℕ) (bytes : List ℕ) (h : (0 < length bytes) × (get_or bytes 0 0 ≡ 4 * c)) where
  pub sized_told : {r : ℕ} → r ≡ sized c (number_at bytes 1 4) → 0 < r → (r ≡ known_length (4 * c) bytes) × (0 < known_length (4 * c) bytes)
  sized_told e k = let f = known_sized c bytes h.0 h.1 in (e ∙ sym f, omega arith)

  pub sized_cut : Stores c → length bytes < 5 → within (length bytes) (known_length (4 * c) bytes) ≡ 0
  sized_cut s k = rw (known_sized c bytes h.0 h.1, stores c (number_at bytes 1 4) s) (too_long_lem (length bytes) (5 + number_at bytes 1 4) (omega arith))

module _ (b : ℕ) (bytes : List ℕ) (e : b ≡ get_or bytes 0 0) (s : 0 < length bytes) where
  pub list_says : b % 4 ≡ 3 → value_length bytes ≡ list_length b bytes
  unfolding value_length
  list_says h = rw (← e, eq-eqb (b % 4) 3 h) refl

  pub object_says : b % 4 ≡ 2 → value_length bytes ≡ object_length b bytes
  unfolding value_length
  object_says h = rw (← e, ne_eqb (b % 4) 3 (omega arith), eq-eqb (b % 4) 2 h) refl

  pub known_says : b % 4 ≤ 1 → value_length bytes ≡ known_length b bytes
  unfolding value_length
  known_says h = rw (← e, ne_eqb (b % 4) 3 (omega arith), ne_eqb (b % 4) 2 (omega arith)) refl

pub short_known : (b : ℕ) (bytes : List ℕ) → b ≡ get_or bytes 0 0 → 0 < length bytes → b % 4 ≡ 1 → known_length b bytes ≡ 1 + b / 4
unfolding scalar_length
short_known b [] e s h = absurd (omega arith)
short_known b (x ∷ bytes) e s h = rw (eq-eqb (b % 4) 1 h, ← e, eq-eqb (b % 4) 1 h) refl

-- ---- the answer: of no byte, of one whose length is cut short, and of one that is there or not

pub none_empty : (bytes : List ℕ) → length bytes ≡ 0 → None ≡ some_length (measured bytes)
none_empty bytes h = ap some_length (measured_none bytes h)

pub none_told : (n : ℕ) (bytes : List ℕ) → value_length bytes ≡ n → within (length bytes) n ≡ 0 → None ≡ some_length (measured bytes)
unfolding measured
none_told n bytes e h = rw (e, h) refl

pub some_told : (n r : ℕ) (bytes : List ℕ) → value_length bytes ≡ n → (r ≡ n) × (0 < n) → then_some (leb r (length bytes)) r ≡ some_length (measured bytes)
unfolding measured
some_told n r bytes e h = rw (e, h.0) (go n (leb n (length bytes)) refl h.1)
  where
    go : (n : ℕ) (t : Bool) → leb n (length bytes) ≡ t → 0 < n → then_some t n ≡ some_length (cond t n 0)
    go zero t e k = absurd (omega arith)
    go (suc n) true e k = refl
    go (suc n) false e k = refl

-- ---- a header read

-- however large the count is
pub table_small : {x y : ℕ} → x ≤ 8 → y < 4294967296 → x * y ≤ 8 * 4294967295
table_small {x} {y} h k = mul-le-mul {n₁ = x} {m₁ = y} {n₂ = 8} {m₂ = 4294967295} h (omega arith)

-- cut short, it says more than there is
pub count_cut : (w v c : ℕ) (bytes : List ℕ) → length bytes < 1 + c → within (length bytes) (container_length w v c bytes) ≡ 0
unfolding container_length
count_cut w v c bytes h = too_long_lem (length bytes) (container_length w v c bytes) (omega arith)

module _ (w v c count : ℕ) (bytes : List ℕ) (e : count ≡ number_at bytes 1 c) where
  pub size_cut : length bytes < 1 + c + (v + w) * count + w → within (length bytes) (container_length w v c bytes) ≡ 0
  unfolding container_length
  size_cut h = rw (← e) (too_long_lem (length bytes) (1 + c + (v + w) * count + w + number_at bytes (1 + c + (v + w) * count) w) (omega arith))

  pub header_told : {size : ℕ} → size ≡ number_at bytes (1 + c + (v + w) * count) w
      → let all = container_length w v c bytes in (1 + c + (v + w) * count + w + size ≡ all) × (0 < all)
  unfolding container_length
  header_told {size} f = rw (← e, ← f) (refl, omega arith)

-- ---- for callers to whom none is 0

pub length_or_zero : (n m : ℕ) (o : Option ℕ) → o ≡ some_length m → n ≡ unwrap_or o 0 → n ≡ m
length_or_zero n zero o e f = f ∙ (rw e refl)
length_or_zero n (suc m) o e f = f ∙ (rw e refl)

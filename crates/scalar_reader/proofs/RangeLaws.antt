-- Ranges by the numbers that bytes stand for.
use mathlib.Core.Path.{◌≡◌, refl, sym}
use mathlib.Core.Bool.{Bool, true, false, not, cond, and-false, or-false}
use mathlib.Core.List.{List, [], ◌∷◌}
use Prim.Native.Nat.{ℕ, suc, ◌+◌, ◌-◌, ◌/◌, ◌%◌, ◌≤◌, ◌<◌}
use native.Mathlib.Omega.{arith}
use lib.Dec.{leb, ltb}
use lib.ListN.{length, take, drop, get_or, length-drop}
use lib.Seq.{take_all}
use borrow.Author.Tests.{lt-ltb, le-ltb, eq-eqb, ne_eqb}
use Rattle.encoding.specs.Utf8.{utf8}
use Rattle.value.specs.Scalar.{type_of_byte, scalar_length}
use Rattle.measure.specs.Measure.{value_length, measured}
use Rattle.grammar.specs.Scalars.{outside}
use Rattle.grammar.specs.Tests.{is_scalar}

-- ---- lengths as stored

pub stored_size : (b : ℕ) (p : List ℕ) → measured (b ∷ p) ≡ suc (length p) → value_length (b ∷ p) ≡ suc (length p)
unfolding measured
stored_size b p m = go (leb (value_length (b ∷ p)) (suc (length p))) m
  where
    go : (t : Bool) → cond t (value_length (b ∷ p)) 0 ≡ suc (length p) → value_length (b ∷ p) ≡ suc (length p)
    go true q = q
    go false q = absurd (omega arith)

-- the last k bytes of k + 1
pub last_bytes : (k : ℕ) (p : List ℕ) → length p ≡ suc k → drop (length p - k) p ≡ drop 1 p
last_bytes k p e = let d : length p - k ≡ 1 = omega arith in rw d

-- ---- texts

to_the_end : (n : ℕ) (v : List ℕ) → take (length v - n) (drop n v) ≡ drop n v
to_the_end n v = take_all (length v - n) (drop n v) (simp length-drop (omega arith))

pub string_read : (p : List ℕ) {u : Bool} → u ≡ utf8 (take (length p - 4) (drop 4 p)) → not u ≡ outside (type_of_byte 64) p
string_read p q = rw (q, to_the_end 4 p)

pub short_read : {b : ℕ} (p : List ℕ) {u : Bool} → measured (b ∷ p) ≡ suc (length p) → b < 256 → b % 4 ≡ 1 → u ≡ utf8 p → not u ≡ outside (type_of_byte b) p
unfolding value_length scalar_length
short_read {b} p m f e q =
    let h = eq-eqb (b % 4) 1 e in
    let l : suc (length p) ≡ 1 + b / 4 = rw (ne_eqb (b % 4) 3 (omega arith), ne_eqb (b % 4) 2 (omega arith), h) at (sym (stored_size b p m)) in
    rw (h, q, le-ltb 63 (length p) (omega arith)) (sym (or-false (not (utf8 p))))

-- ---- any other type has no range

pub other_read : (b : ℕ) (p : List ℕ) → b % 4 < 2 → (b % 4 ≡ 1 → ⊥) → (b ≡ 32 → ⊥) → (b ≡ 36 → ⊥) → (b ≡ 40 → ⊥) → (b ≡ 64 → ⊥) → (b ≡ 68 → ⊥) → false ≡ outside (type_of_byte b) p
other_read b p k s d4 d8 d16 t d =
    rw (
      ne_eqb (b % 4) 1 s,
      ne_eqb (b / 4) 8 (λ e. d4 (omega arith)),
      ne_eqb (b / 4) 9 (λ e. d8 (omega arith)),
      ne_eqb (b / 4) 10 (λ e. d16 (omega arith)),
      ne_eqb (b / 4) 17 (λ e. d (omega arith)),
      ne_eqb (b / 4) 16 (λ e. t (omega arith)),
    )

-- ---- the four tests

pub scalar_empty : (v : List ℕ) → length v ≡ 0 → false ≡ is_scalar v
unfolding is_scalar measured value_length scalar_length
scalar_empty [] e = refl
scalar_empty (b ∷ v) e = absurd (omega arith)

pub scalar_container : (v : List ℕ) → 2 ≤ get_or v 0 0 % 4 → false ≡ is_scalar v
unfolding is_scalar
scalar_container v h = rw (le-ltb (get_or v 0 0 % 4) 2 h)

pub scalar_cut : (v : List ℕ) → (measured v ≡ length v → ⊥) → false ≡ is_scalar v
unfolding is_scalar
scalar_cut v h = rw (ne_eqb (measured v) (length v) h, and-false (ltb (get_or v 0 0 % 4) 2))

pub scalar_whole : (b : ℕ) (p : List ℕ) {o : Bool} → b % 4 < 2 → measured (b ∷ p) ≡ suc (length p) → o ≡ outside (type_of_byte b) p → not o ≡ is_scalar (b ∷ p)
unfolding is_scalar
scalar_whole b p h m e = rw (lt-ltb (b % 4) 2 h, eq-eqb (measured (b ∷ p)) (suc (length p)) m, lt-ltb 0 (suc (length p)) (omega arith), e)

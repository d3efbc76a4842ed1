-- Integers: two's complement read back, and what bytes are by their first one.
use mathlib.Core.Path.{◌≡◌, refl, sym, ap}
use mathlib.Core.Bool.{Bool, true, false, cond, ◌&&◌}
use mathlib.Core.List.{List, [], ◌∷◌, append-nil}
use Prim.Native.Nat.{ℕ, zero, suc, ◌+◌, ◌-◌, ◌/◌, ◌%◌, ◌^◌, ◌≤◌, ◌<◌}
use native.Mathlib.Omega.{arith}
use lib.Dec.{eqb, leb, ltb}
use lib.IntN.{ℤ, pos, negsuc}
use lib.ListN.{length, drop, get_or}
use lib.Signed.{mag}
use borrow.Author.Tests.{ltb-true, eqb-true, eqb-false, eq-eqb, ne_eqb, le-leb, lt-ltb, le-ltb}
use Rattle.encoding.specs.Packed.{le, number}
use Rattle.encoding.specs.Signed.{twos}
use Rattle.encoding.proofs.PackedLaws.{number_le}
use Rattle.value.specs.declared.variant.Variant.TheVariants.{Int8, Int16, Int32, Int64, Date}
use Rattle.value.specs.Scalar.{primitive, short, Scalar, first_byte, scalar_bytes, scalar_length, stored_variant, type_of_byte}
use Rattle.value.proofs.ScalarParse.{type_read}
use Rattle.measure.specs.Measure.{within, value_length, measured}
use Rattle.measure.proofs.ValueLaws.{value_measured, scalar_value}
use Rattle.grammar.specs.Scalars.{signed_in}
use Rattle.grammar.specs.Grammar.{Plain}
use Rattle.grammar.proofs.ShapeLaws.{known_code, first_low}
use Rattle.std.specs.Prelude.{Option, Some, None}
use Rattle.scalar_reader.specs.Integers.{integer_stored, integer_of, integer_in}

-- ---- two's complement

-- all that w bytes hold
signed_stored : (w : ℕ) (z : ℤ) → suc (mag z + mag z) < 256 ^ w → signed_in w (le w (twos w z)) ≡ z
unfolding signed_in twos
signed_stored w (pos n) h =
    let e : number (le w n) ≡ n = number_le w n (omega arith) in
    rw (e, lt-ltb (n + n) (256 ^ w) (omega arith))
signed_stored w (negsuc n) h =
    let m = 256 ^ w - suc n in
    let e : number (le w m) ≡ m = number_le w m (omega arith) in
    let f : 256 ^ w - suc m ≡ n = omega arith in
    rw (e, le-ltb (m + m) (256 ^ w) (omega arith), f)

-- ---- bytes by their first one

-- a length that a first byte tells
exact : (x n : ℕ) → 0 < x → (eqb (within n x) n && ltb 0 n) ≡ eqb n x
exact x n h = go (eqb n x) refl
  where
    other : (n ≡ x → ⊥) → (t : Bool) → leb x n ≡ t → (eqb (cond t x 0) n && ltb 0 n) ≡ false
    other d true p = rw (ne_eqb x n (λ e. d (sym e)))
    other d false p = none n
      where
        none : (n : ℕ) → (eqb 0 n && ltb 0 n) ≡ false
        none zero = refl
        none (suc n) = rw (ne_eqb 0 (suc n) (λ e. omega arith))

    go : (t : Bool) → eqb n x ≡ t → (eqb (within n x) n && ltb 0 n) ≡ t
    go true p = rw (eqb-true n x p, le-leb x x (omega arith), eq-eqb x x refl) (lt-ltb 0 x h)
    go false p = other (eqb-false n x p) (leb x n) refl

-- where the first byte b tells w bytes behind it
integer_by : (b w : ℕ) (p : List ℕ) → value_length (b ∷ p) ≡ suc w → ltb (b % 4) 2 ≡ true → integer_in (b ∷ p) ≡ cond (eqb (suc (length p)) (suc w)) (integer_stored (type_of_byte b) p) None
unfolding integer_in measured
integer_by b w p f k = rw (k, f, exact (suc w) (suc (length p)) (omega arith))

-- they are there
pub integer_there : {v p : List ℕ} {i : Option ℤ} (b w : ℕ) → v ≡ b ∷ p → length p ≡ w → value_length (b ∷ p) ≡ suc w → ltb (b % 4) 2 ≡ true → i ≡ integer_stored (type_of_byte b) p → i ≡ integer_in v
integer_there {p = p} b w e l f k g = rw (e, integer_by b w p f k, eq-eqb (suc (length p)) (suc w) (omega arith)) g

-- they are not
pub integer_cut : {v p : List ℕ} (b w : ℕ) → v ≡ b ∷ p → (length p ≡ w → ⊥) → value_length (b ∷ p) ≡ suc w → ltb (b % 4) 2 ≡ true → None ≡ integer_in v
integer_cut {p = p} b w e l f k = rw (e, integer_by b w p f k, ne_eqb (suc (length p)) (suc w) (λ d. l (omega arith)))

pub integer_none : (b : ℕ) (v : List ℕ) → get_or v 0 0 ≡ b → (b ≡ 12 → ⊥) → (b ≡ 16 → ⊥) → (b ≡ 20 → ⊥) → (b ≡ 24 → ⊥) → None ≡ integer_in v
unfolding integer_in
integer_none b v e h3 h4 h5 h6 = rw e (go (ltb (b % 4) 2) refl)
  where
    stored : (t : Bool) → eqb (b % 4) 1 ≡ t → b % 4 < 2 → None ≡ integer_stored (cond t short (primitive (b / 4))) (drop 1 v)
    stored true p k = refl
    stored false p k =
        let z = eqb-false (b % 4) 1 p in
        rw (ne_eqb (b / 4) 3 (λ d. h3 (omega arith)), ne_eqb (b / 4) 4 (λ d. h4 (omega arith)), ne_eqb (b / 4) 5 (λ d. h5 (omega arith)), ne_eqb (b / 4) 6 (λ d. h6 (omega arith)))

    whole : (t : Bool) (i : Option ℤ) → None ≡ i → None ≡ cond t i None
    whole true i p = p
    whole false i p = refl

    go : (t : Bool) → ltb (b % 4) 2 ≡ t → None ≡ cond (t && (eqb (measured v) (length v) && ltb 0 (length v))) (integer_stored (type_of_byte b) (drop 1 v)) None
    go true p = whole (eqb (measured v) (length v) && ltb 0 (length v)) _ (stored (eqb (b % 4) 1) refl (ltb-true (b % 4) 2 p))
    go false p = refl

pub integer_empty : (v : List ℕ) → length v ≡ 0 → None ≡ integer_in v
unfolding integer_in measured value_length scalar_length
integer_empty [] e = refl
integer_empty (b ∷ v) e = absurd (omega arith)

-- ---- for the crates above

-- a list or an object is no integer
pub integer_other : (v : List ℕ) → 2 ≤ get_or v 0 0 % 4 → integer_in v ≡ None
unfolding integer_in
integer_other v h = rw (le-ltb (get_or v 0 0 % 4) 2 h)

-- the integer of a scalar's bytes is the scalar's
pub integer_scalar : (s : Scalar) → Plain s → integer_in (scalar_bytes s) ≡ integer_of s
unfolding integer_in scalar_bytes
integer_scalar s h =
    let n = length s.payload in
    let b = first_byte s.stored_type n in
    let m : measured (b ∷ s.payload) ≡ suc n = rw append-nil at (value_measured (scalar_value s (record { whole = h.whole; known = known_code s.stored_type h.known })) []) in
    rw (lt-ltb (b % 4) 2 (first_low s.stored_type n), m, eq-eqb (suc n) (suc n) refl, lt-ltb 0 (suc n) (omega arith), type_read s.stored_type n)

-- what the writer stores for an integer is read back; a date is none
pub int8_back : (z : ℤ) → mag z < 2 ^ 7 → integer_of (stored_variant (Int8 z)) ≡ Some z
int8_back z h = ap Some (signed_stored 1 z (omega arith))

pub int16_back : (z : ℤ) → mag z < 2 ^ 15 → integer_of (stored_variant (Int16 z)) ≡ Some z
int16_back z h = ap Some (signed_stored 2 z (omega arith))

pub int32_back : (z : ℤ) → mag z < 2 ^ 31 → integer_of (stored_variant (Int32 z)) ≡ Some z
int32_back z h = ap Some (signed_stored 4 z (omega arith))

pub int64_back : (z : ℤ) → mag z < 2 ^ 63 → integer_of (stored_variant (Int64 z)) ≡ Some z
int64_back z h = ap Some (signed_stored 8 z (omega arith))

pub date_other : (z : ℤ) → integer_of (stored_variant (Date z)) ≡ None
date_other z = refl

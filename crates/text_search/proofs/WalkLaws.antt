-- The loops: the elements and the fields that are left decide as all of them did.
use mathlib.Core.Path.{◌≡◌, refl, sym, ◌∙◌, ap}
use mathlib.Core.Bool.{Bool, true, false, cond, ◌&&◌, and-false}
use mathlib.Core.List.{List}
use Prim.Native.Nat.{ℕ, zero, suc, ◌+◌, ◌-◌, ◌≤◌, ◌<◌}
use native.Mathlib.Omega.{arith}
use lib.Dec.{ltb}
use lib.ListN.{length, drop, get_or, length-drop, drop_of_length-le}
use lib.Seq.{drop-cons, length-take-le}
use borrow.Author.Tests.{lt-ltb, le-ltb, ltb-true}
use Rattle.measure.specs.Measure.{measured}
use Rattle.measure.proofs.MeasureLaws.{measured_within}
use Rattle.lexicon.proofs.DictionaryLaws.{both}
use Rattle.lexicon.proofs.ByteLaws.{length_numbers}
use Rattle.grammar.specs.Tests.{offset_width, offset_table, object_count, object_from, object_offsets}
use Rattle.header_reader.specs.Heads.{value_from}
use Rattle.text_search.specs.Search.{less_at, elements_in, fields_in}

-- ---- values end to end

module _ (deeper : ℕ → List ℕ → ℕ) (v : List ℕ) where
  abbrev size : ℕ → ℕ
  size n = measured (drop n v)

  abbrev more : ℕ → ℕ → Bool
  more n best = ltb n best && ltb 0 (size n)

  pub elements_stop : (fuel n best : ℕ) → more n best ≡ false → elements_in deeper fuel v n best ≡ best
  unfolding elements_in
  elements_stop zero n best e = refl
  elements_stop (suc fuel) n best e = rw e

  pub none_more : (n best : ℕ) → size n ≡ 0 → more n best ≡ false
  none_more n best e = rw e (and-false (ltb n best))

  -- what is left of the bytes is fuel enough
  elements_fuel : (f g n best : ℕ) → length v - n ≤ f → length v - n ≤ g → elements_in deeper f v n best ≡ elements_in deeper g v n best
  unfolding elements_in
  elements_fuel zero g n best h k = sym (elements_stop g n best (none_more n best (omega (arith, measured_within (drop n v), length-drop n v))))
  elements_fuel (suc f) zero n best h k = elements_stop (suc f) n best (none_more n best (omega (arith, measured_within (drop n v), length-drop n v)))
  elements_fuel (suc f) (suc g) n best h k = go (more n best) refl (elements_fuel f g (n + size n) (less_at deeper v n best))
    where
      rest : ℕ → ℕ
      rest fuel = elements_in deeper fuel v (n + size n) (less_at deeper v n best)

      go : (t : Bool) → more n best ≡ t → (length v - (n + size n) ≤ f → length v - (n + size n) ≤ g → rest f ≡ rest g)
          → cond t (rest f) best ≡ cond t (rest g) best
      go false e same = refl
      go true e same = let p = ltb-true 0 (size n) (both {a = ltb n best} e).1 in same (omega arith) (omega arith)

  pub elements_next : (fuel n best : ℕ) → length v - n ≤ fuel → n < best → 0 < size n
      → elements_in deeper fuel v n best ≡ elements_in deeper fuel v (n + size n) (n + deeper (best - n) (value_from n v))
  unfolding elements_in
  elements_next zero n best h l p = absurd (omega (arith, measured_within (drop n v), length-drop n v))
  elements_next (suc fuel) n best h l p =
      rw (lt-ltb n best l, lt-ltb 0 (size n) p) (elements_fuel fuel (suc fuel) (n + size n) (n + deeper (best - n) (value_from n v)) (omega arith) (omega arith))

-- ---- a list's elements, from place n on

pub record Elements (deeper : ℕ → List ℕ → ℕ) (r : ℕ) (v : List ℕ) (best n least : ℕ) : Type 0 where
  pub rest : elements_in deeper (length v) v n least ≡ r
  pub most : least ≤ best

pub elements_start : {deeper : ℕ → List ℕ → ℕ} {r : ℕ} {v : List ℕ} {best n from : ℕ} → n ≡ from → r ≡ elements_in deeper (length v) v from best
    → Elements deeper r v best n best
elements_start e q = record { rest = rw e (sym q); most = omega arith }

element_size : (v : List ℕ) (n : ℕ) {element : List ℕ} → element ≡ value_from n v → length element ≡ measured (drop n v)
element_size v n e = ap length e ∙ length-take-le (measured (drop n v)) (drop n v) (measured_within (drop n v))

-- one that has bytes ends within those of the list
pub element_room : (v : List ℕ) (n : ℕ) {element : List ℕ} → element ≡ value_from n v → (length element ≡ 0 → ⊥) → n + length element ≤ length v
element_room v n e k = omega (arith, element_size v n e, measured_within (drop n v), length-drop n v)

module _ {deeper : ℕ → List ℕ → ℕ} {r : ℕ} {v : List ℕ} {best n least : ℕ} (w : Elements deeper r v best n least) where
  pub elements_end : least ≤ n → (least ≡ r) × (least ≤ best)
  elements_end h = (sym (elements_stop deeper v (length v) n least (rw (le-ltb n least h))) ∙ w.rest, w.most)

  module _ {element : List ℕ} (e : element ≡ value_from n v) where
    pub elements_cut : length element ≡ 0 → (least ≡ r) × (least ≤ best)
    elements_cut z = (sym (elements_stop deeper v (length v) n least (none_more deeper v n least (sym (element_size v n e) ∙ z))) ∙ w.rest, w.most)

    pub elements_again : {x : ℕ} → n < least → (length element ≡ 0 → ⊥) → (x ≡ deeper (least - n) element) × (x ≤ least - n)
        → Elements deeper r v best (n + length element) (n + x)
    elements_again {x} l k y =
        let s = element_size v n e in
        let m = w.most in
        let q : x ≡ deeper (least - n) (value_from n v) = y.0 ∙ ap (deeper (least - n)) e in
        record {
          rest = rw (s, q) (sym (elements_next deeper v (length v) n least (omega arith) l (omega arith)) ∙ w.rest);
          most = omega (arith, y.1);
        }

-- ---- an object's fields, from field k on

pub record FieldsLeft (deeper : ℕ → List ℕ → ℕ) (r : ℕ) (v : List ℕ) (best k least : ℕ) : Type 0 where
  pub rest : fields_in deeper v least (drop k (object_offsets v)) ≡ r
  pub most : least ≤ best

pub fields_start : {deeper : ℕ → List ℕ → ℕ} {r : ℕ} {v : List ℕ} {best : ℕ} → r ≡ fields_in deeper v best (object_offsets v)
    → FieldsLeft deeper r v best 0 best
fields_start q = record { rest = sym q; most = omega arith }

length_offsets : (v : List ℕ) → length (object_offsets v) ≡ object_count v
length_offsets v = length_numbers (offset_width v) (object_count v) (drop (offset_table v) v)

module _ {deeper : ℕ → List ℕ → ℕ} {r : ℕ} {v : List ℕ} {best k least : ℕ} (w : FieldsLeft deeper r v best k least) where
  pub fields_end : object_count v ≤ k → (least ≡ r) × (least ≤ best)
  unfolding fields_in
  fields_end h = let l = length_offsets v in (rw (drop_of_length-le (object_offsets v) {i = k} (omega arith)) at w.rest, w.most)

  module _ {from o : ℕ} (h : k < object_count v) (f : from ≡ object_from v) (e : o ≡ get_or (object_offsets v) k 0) where
    fields_next : fields_in deeper v (less_at deeper v (from + o) least) (drop (k + 1) (object_offsets v)) ≡ r
    unfolding fields_in
    fields_next =
        let l = length_offsets v in
        let z : suc k ≡ k + 1 = omega arith in
        rw (f, e) (rw (drop-cons (object_offsets v) k 0 (omega arith), z) at w.rest)

    -- what starts behind the least so far is passed over
    pub fields_skip : {x : ℕ} → least ≤ from + o → x ≡ least → FieldsLeft deeper r v best (k + 1) x
    fields_skip l q = let m = w.most in record { rest = rw q (rw (le-ltb (from + o) least l) at fields_next); most = omega arith }

    pub fields_again : {value : List ℕ} {x y : ℕ} → from + o < least → value ≡ value_from (from + o) v
        → (y ≡ deeper (least - (from + o)) value) × (y ≤ least - (from + o)) → x ≡ from + o + y → FieldsLeft deeper r v best (k + 1) x
    fields_again l q y z =
        let m = w.most in
        record { rest = rw (z, y.0, q) (rw (lt-ltb (from + o) least l) at fields_next); most = omega (arith, y.1) }

-- The code's walk over a container's values: what is left decides as all did.
use mathlib.Core.Path.{◌≡◌, refl, sym, ◌∙◌}
use mathlib.Core.Bool.{Bool, true, false, cond, ◌&&◌, and-false}
use Rattle.std.specs.Prelude.{Option, Some, None}
use mathlib.Core.List.{List, [], ◌∷◌}
use Prim.Native.Nat.{ℕ, zero, suc, ◌+◌, ◌%◌, ◌≤◌, ◌<◌, max}
use native.Mathlib.Omega.{arith}
use lib.Dec.{eqb, leb, ltb}
use lib.ListN.{length, drop, get_or, length-drop, drop_of_length-le}
use lib.Seq.{drop-cons, length-take-le}
use borrow.Author.Tests.{eq-eqb, ne_eqb, leb-true, le-leb, lt-leb, lt-ltb, le-ltb}
use Rattle.lexicon.proofs.ByteLaws.{length_numbers}
use Rattle.measure.specs.Measure.{measured}
use Rattle.measure.proofs.MeasureLaws.{measured_within}
use Rattle.grammar.specs.Tests.{list_from, id_width, id_table, offset_width, offset_table, object_count, object_from, object_offsets, stored_ids}
use Rattle.header_reader.specs.Heads.{value_from}
use Rattle.path_words.specs.declared.Child.{Child}
use Rattle.path_words.specs.declared.Step.TheVariants.{Element, Field}
use Rattle.path_words.specs.Descent.{within, child_at, element_over, field_over, child_over}

-- ---- a place and a value

pub length_value : (v : List ℕ) (n : ℕ) → length (value_from n v) ≡ measured (drop n v)
length_value v n = length-take-le (measured (drop n v)) (drop n v) (measured_within (drop n v))

-- what has bytes ends within the whole
pub value_room : (v : List ℕ) (n : ℕ) → 0 < measured (drop n v) → n + measured (drop n v) ≤ length v
value_room v n h = omega (arith, measured_within (drop n v), length-drop n v)

-- what has none ends where it starts
pub value_end_lem : (v : List ℕ) (n : ℕ) {m : ℕ} → m ≡ length (value_from n v) → n + m ≤ max n (length v)
value_end_lem v n {m} e = omega (arith, e ∙ length_value v n, measured_within (drop n v), length-drop n v)

pub within_yes : (v : List ℕ) (p n : ℕ) → n ≤ p → p < n + measured (drop n v) → within v p n ≡ true
within_yes v p n h k = rw (le-leb n p h, lt-ltb p (n + measured (drop n v)) k)

pub within_before : (v : List ℕ) (p n : ℕ) → p < n → within v p n ≡ false
within_before v p n h = rw (lt-leb n p h)

pub within_behind : (v : List ℕ) (p n : ℕ) → n + measured (drop n v) ≤ p → within v p n ≡ false
within_behind v p n h = rw (le-ltb p (n + measured (drop n v)) h) (and-false (leb n p))

-- ---- elements

-- what starts behind p is not looked at
elements_behind : (fuel : ℕ) (v : List ℕ) (p k n : ℕ) → p < n → element_over fuel v p k n ≡ None
unfolding element_over
elements_behind zero v p k n h = refl
elements_behind (suc fuel) v p k n h =
    rw (within_before v p n h) (go (ltb 0 (measured (drop n v))) (elements_behind fuel v p (suc k) (n + measured (drop n v)) (omega arith)))
  where
    go : (t : Bool) → element_over fuel v p (suc k) (n + measured (drop n v)) ≡ None
        → cond t (element_over fuel v p (suc k) (n + measured (drop n v))) None ≡ None
    go true e = e
    go false e = refl

pub record Elements (r : Option Child) (v : List ℕ) (p k n : ℕ) : Type 0 where
  pub fuel : ℕ
  pub enough : length v ≤ fuel + n
  pub rest : element_over fuel v p k n ≡ r
  -- each has a byte
  pub count : k ≤ n

pub elements_start : (v : List ℕ) (p n : ℕ) → Elements (element_over (length v) v p 0 n) v p 0 n
elements_start v p n = record { fuel = length v; enough = omega arith; rest = refl; count = omega arith }

pub elements_past : {r : Option Child} {v : List ℕ} {p k n : ℕ} → Elements r v p k n → p < n → None ≡ r
elements_past {v = v} {p} {k} {n} e h = sym (elements_behind e.fuel v p k n h) ∙ e.rest

module _ {r : Option Child} {v : List ℕ} {p k n : ℕ} (e : Elements r v p k n) {m : ℕ} (s : m ≡ length (value_from n v)) where
  size : m ≡ measured (drop n v)
  size = s ∙ length_value v n

  pub elements_none : n ≤ p → m ≡ 0 → None ≡ r
  unfolding element_over
  elements_none h z = go e.fuel e.rest
    where
      go : (fuel : ℕ) → element_over fuel v p k n ≡ r → None ≡ r
      go zero q = q
      go (suc fuel) q =
          let a : measured (drop n v) ≡ 0 = sym size ∙ z in
          let b : n + measured (drop n v) ≤ p = omega arith in
          rw (within_behind v p n b, a) at q

  module _ (z : m ≡ 0 → ⊥) where
    pub elements_room : n + m ≤ length v
    elements_room = let a = size in omega (arith, value_room v n (omega arith))

    next : (fuel : ℕ) × (length v ≤ fuel + (n + m)) × (cond (within v p n) (child_at (Element k) n) (element_over fuel v p (suc k) (n + m)) ≡ r)
    unfolding element_over
    next = go e.fuel e.enough e.rest
      where
        go : (fuel : ℕ) → length v ≤ fuel + n → element_over fuel v p k n ≡ r
            → (fuel : ℕ) × (length v ≤ fuel + (n + m)) × (cond (within v p n) (child_at (Element k) n) (element_over fuel v p (suc k) (n + m)) ≡ r)
        go zero l q = absurd (omega (arith, elements_room))
        go (suc fuel) l q =
            let a = size in
            (fuel, omega arith, rw a (rw (lt-ltb 0 (measured (drop n v)) (omega arith)) at q))

    pub elements_found : n ≤ p → p < n + m → child_at (Element k) n ≡ r
    elements_found h l = let a = size in rw (within_yes v p n h (omega arith)) at next.2

    pub elements_again : n + m ≤ p → Elements r v p (k + 1) (n + m)
    elements_again h =
        let a = size in
        let b : k + 1 ≡ suc k = omega arith in
        record { fuel = next.0; enough = next.1; rest = rw b (rw (within_behind v p n (omega arith)) at next.2); count = omega (arith, e.count) }

-- ---- fields

split : (l : List ℕ) (k : ℕ) → k < length l → drop k l ≡ get_or l k 0 ∷ drop (k + 1) l
split l k h = let e : suc k ≡ k + 1 = omega arith in rw (drop-cons l k 0 h, e)

length_ids : (v : List ℕ) → length (stored_ids v) ≡ object_count v
length_ids v = length_numbers (id_width v) (object_count v) (drop (id_table v) v)

length_offsets : (v : List ℕ) → length (object_offsets v) ≡ object_count v
length_offsets v = length_numbers (offset_width v) (object_count v) (drop (offset_table v) v)

pub record Fields (r : Option Child) (v : List ℕ) (p k : ℕ) : Type 0 where
  pub rest : field_over v p (drop k (stored_ids v)) (drop k (object_offsets v)) ≡ r

pub fields_start : (v : List ℕ) (p : ℕ) → Fields (field_over v p (stored_ids v) (object_offsets v)) v p 0
fields_start v p = record { rest = refl }

pub fields_none : {r : Option Child} {v : List ℕ} {p k : ℕ} → Fields r v p k → object_count v ≤ k → None ≡ r
unfolding field_over
fields_none {v = v} {k = k} f h = let l = length_ids v in rw (drop_of_length-le (stored_ids v) {i = k} (omega arith)) at f.rest

module _ {r : Option Child} {v : List ℕ} {p k : ℕ} (f : Fields r v p k) (h : k < object_count v) {n : ℕ} (s : n ≡ object_from v + get_or (object_offsets v) k 0) where
  field_next : cond (within v p n) (child_at (Field (get_or (stored_ids v) k 0)) n) (field_over v p (drop (k + 1) (stored_ids v)) (drop (k + 1) (object_offsets v))) ≡ r
  unfolding field_over
  field_next =
      let a = split (stored_ids v) k (rw (length_ids v) h) in
      let b = split (object_offsets v) k (rw (length_offsets v) h) in
      rw s (rw (a, b) at f.rest)

  pub fields_before : p < n → Fields r v p (k + 1)
  fields_before l = record { rest = rw (within_before v p n l) at field_next }

  module _ {m : ℕ} (e : m ≡ length (value_from n v)) where
    pub fields_found : {i : ℕ} → i ≡ get_or (stored_ids v) k 0 → n ≤ p → p < n + m → child_at (Field i) n ≡ r
    fields_found q l g = let a = e ∙ length_value v n in rw q (rw (within_yes v p n l (omega arith)) at field_next)

    pub fields_behind : n + m ≤ p → Fields r v p (k + 1)
    fields_behind l = let a = e ∙ length_value v n in record { rest = rw (within_behind v p n (omega arith)) at field_next }

-- ---- a value by its kind

module _ (v : List ℕ) (p : ℕ) where
  pub child_list : get_or v 0 0 % 4 ≡ 3 → child_over v p ≡ element_over (length v) v p 0 (list_from v)
  unfolding child_over
  child_list h = rw (eq-eqb (get_or v 0 0 % 4) 3 h)

  pub child_object : get_or v 0 0 % 4 ≡ 2 → child_over v p ≡ field_over v p (stored_ids v) (object_offsets v)
  unfolding child_over
  child_object h = rw (ne_eqb (get_or v 0 0 % 4) 3 (omega arith), eq-eqb (get_or v 0 0 % 4) 2 h)

  pub child_scalar : (get_or v 0 0 % 4 ≡ 3 → ⊥) → (get_or v 0 0 % 4 ≡ 2 → ⊥) → None ≡ child_over v p
  unfolding child_over
  child_scalar h k = rw (ne_eqb (get_or v 0 0 % 4) 3 h, ne_eqb (get_or v 0 0 % 4) 2 k)

-- ---- a child starts at the place or before

abbrev pub StartsBy : ℕ → Option Child → Type 0
StartsBy p (Some c) = c.start ≤ p
StartsBy p None = Unit {0}

within_low : (v : List ℕ) (p n : ℕ) (t : Bool) → leb n p ≡ t → (t && ltb p (n + measured (drop n v))) ≡ true → n ≤ p
within_low v p n true e h = leb-true n p e
within_low v p n false e h = leb-true n p (e ∙ h)

elements_low : (fuel : ℕ) (v : List ℕ) (p k n : ℕ) → StartsBy p (element_over fuel v p k n)
unfolding element_over
elements_low zero v p k n = tt
elements_low (suc fuel) v p k n = go (within v p n) refl (ltb 0 (measured (drop n v))) (elements_low fuel v p (suc k) (n + measured (drop n v)))
  where
    go : (t : Bool) → within v p n ≡ t → (u : Bool) → StartsBy p (element_over fuel v p (suc k) (n + measured (drop n v)))
        → StartsBy p (cond t (child_at (Element k) n) (cond u (element_over fuel v p (suc k) (n + measured (drop n v))) None))
    go true e u s = within_low v p n (leb n p) refl e
    go false e true s = s
    go false e false s = tt

fields_low : (v : List ℕ) (p : ℕ) (is os : List ℕ) → StartsBy p (field_over v p is os)
unfolding field_over
fields_low v p [] os = tt
fields_low v p (i ∷ is) [] = tt
fields_low v p (i ∷ is) (o ∷ os) = go (within v p (object_from v + o)) refl (fields_low v p is os)
  where
    go : (t : Bool) → within v p (object_from v + o) ≡ t → StartsBy p (field_over v p is os)
        → StartsBy p (cond t (child_at (Field i) (object_from v + o)) (field_over v p is os))
    go true e s = within_low v p (object_from v + o) (leb (object_from v + o) p) refl e
    go false e s = s

pub child_low : (v : List ℕ) (p : ℕ) → StartsBy p (child_over v p)
unfolding child_over
child_low v p = go (eqb (get_or v 0 0 % 4) 3) (eqb (get_or v 0 0 % 4) 2)
  where
    go : (t u : Bool) → StartsBy p (cond t (element_over (length v) v p 0 (list_from v)) (cond u (field_over v p (stored_ids v) (object_offsets v)) None))
    go true u = elements_low (length v) v p 0 (list_from v)
    go false true = fields_low v p (stored_ids v) (object_offsets v)
    go false false = tt

-- A value's parts: how many there are, and each by its number.
use mathlib.Core.Path.{◌≡◌, refl, sym, ◌∙◌, ap}
use mathlib.Core.Bool.{Bool, true, false, cond}
use mathlib.Core.List.{List, [], ◌∷◌, ◌++◌}
use mathlib.Core.Option.{none}
use Prim.Native.Nat.{ℕ, zero, suc, ◌+◌, ◌%◌, ◌≤◌, ◌<◌}
use native.Mathlib.Omega.{arith}
use lib.ListN.{length, take, drop, get_or}
use lib.Seq.{drop-cons, take-suc}
use borrow.Author.Tests.{eqb-true, ne_eqb, lt-ltb, le-ltb}
use Rattle.metadata.specs.Names.{Name}
use Rattle.lexicon.proofs.ByteLaws.{length_numbers}
use Rattle.grammar.specs.Tests.{offset_width, id_width, list_table, list_count, list_offsets, list_from}
use Rattle.grammar.specs.Tests.{id_table, object_count, stored_ids, offset_table, object_offsets, object_from}
use Rattle.header_reader.specs.Heads.{Head, value_from}
use Rattle.std.specs.Prelude.{Some, None}
use Rattle.header_reader.specs.Kinds.{is_list, is_object}
use Rattle.children.specs.Children.{Counts, child_bytes, Part, held_name, element_parts, field_parts, parts_of, no_part, part_at}

-- ---- by offsets, and by ids and offsets

abbrev pub element_part : List ℕ → ℕ → Part
element_part v o = record { label = none; bytes = value_from (list_from v + o) v }

abbrev pub field_part : List Name → List ℕ → ℕ → ℕ → Part
field_part names v i o = record { label = held_name names i; bytes = value_from (object_from v + o) v }

elements_length : (v os : List ℕ) → length (element_parts v os) ≡ length os
unfolding element_parts
elements_length v [] = refl
elements_length v (o ∷ os) = ap suc (elements_length v os)

elements_at_lem : (v os : List ℕ) (k : ℕ) → k < length os → get_or (element_parts v os) k no_part ≡ element_part v (get_or os k 0)
unfolding element_parts
elements_at_lem v [] k h = absurd (omega arith)
elements_at_lem v (o ∷ os) zero h = refl
elements_at_lem v (o ∷ os) (suc k) h = elements_at_lem v os k (omega arith)

elements_label : (v os : List ℕ) (k : ℕ) → (get_or (element_parts v os) k no_part).label ≡ none
unfolding element_parts
elements_label v [] k = refl
elements_label v (o ∷ os) zero = refl
elements_label v (o ∷ os) (suc k) = elements_label v os k

fields_length : (names : List Name) (v is os : List ℕ) → length is ≡ length os → length (field_parts names v is os) ≡ length is
unfolding field_parts
fields_length names v [] os h = refl
fields_length names v (i ∷ is) [] h = absurd (omega arith)
fields_length names v (i ∷ is) (o ∷ os) h = ap suc (fields_length names v is os (omega arith))

fields_at : (names : List Name) (v is os : List ℕ) (k : ℕ) → length is ≡ length os → k < length is
    → get_or (field_parts names v is os) k no_part ≡ field_part names v (get_or is k 0) (get_or os k 0)
unfolding field_parts
fields_at names v [] os k h l = absurd (omega arith)
fields_at names v (i ∷ is) [] k h l = absurd (omega arith)
fields_at names v (i ∷ is) (o ∷ os) zero h l = refl
fields_at names v (i ∷ is) (o ∷ os) (suc k) h l = fields_at names v is os k (omega arith) (omega arith)

fields_bytes : (names : List Name) (v is os : List ℕ) (k : ℕ) → (get_or (field_parts names v is os) k no_part).bytes ≡ (get_or (field_parts [] v is os) k no_part).bytes
unfolding field_parts
fields_bytes names v [] os k = refl
fields_bytes names v (i ∷ is) [] k = refl
fields_bytes names v (i ∷ is) (o ∷ os) zero = refl
fields_bytes names v (i ∷ is) (o ∷ os) (suc k) = fields_bytes names v is os k

-- ---- kinds

pub list_only : (v : List ℕ) → is_list v ≡ true → is_object v ≡ false
list_only v e = ne_eqb (get_or v 0 0 % 4) 2 (omega (arith, eqb-true (get_or v 0 0 % 4) 3 e))

pub object_only : (v : List ℕ) → is_object v ≡ true → is_list v ≡ false
object_only v e = ne_eqb (get_or v 0 0 % 4) 3 (omega (arith, eqb-true (get_or v 0 0 % 4) 2 e))

module _ (names : List Name) (v : List ℕ) where
  pub parts_list : is_list v ≡ true → parts_of names v ≡ element_parts v (list_offsets v)
  unfolding parts_of
  parts_list e = rw e

  pub parts_object : is_object v ≡ true → parts_of names v ≡ field_parts names v (stored_ids v) (object_offsets v)
  unfolding parts_of
  parts_object e = rw (object_only v e, e)

  pub parts_none : is_list v ≡ false → is_object v ≡ false → parts_of names v ≡ []
  unfolding parts_of
  parts_none e f = rw (e, f)

  -- as many as the header counts
  pub list_many : is_list v ≡ true → length (parts_of names v) ≡ list_count v
  list_many e = rw (parts_list e) (elements_length v (list_offsets v) ∙ length_numbers (offset_width v) (list_count v) (drop (list_table v) v))

  ids_many : length (stored_ids v) ≡ object_count v
  ids_many = length_numbers (id_width v) (object_count v) (drop (id_table v) v)

  paired : length (stored_ids v) ≡ length (object_offsets v)
  paired = ids_many ∙ sym (length_numbers (offset_width v) (object_count v) (drop (offset_table v) v))

  pub object_many : is_object v ≡ true → length (parts_of names v) ≡ object_count v
  object_many e = rw (parts_object e) (fields_length names v (stored_ids v) (object_offsets v) paired ∙ ids_many)

  -- by number
  pub list_part : (k : ℕ) → is_list v ≡ true → k < length (parts_of names v) → part_at names v k ≡ element_part v (get_or (list_offsets v) k 0)
  unfolding part_at
  list_part k e h = rw (parts_list e) (elements_at_lem v (list_offsets v) k (rw (← elements_length v (list_offsets v)) (rw (parts_list e) at h)))

  pub object_part : (k : ℕ) → is_object v ≡ true → k < length (parts_of names v)
      → part_at names v k ≡ field_part names v (get_or (stored_ids v) k 0) (get_or (object_offsets v) k 0)
  unfolding part_at
  object_part k e h = rw (parts_object e) (fields_at names v (stored_ids v) (object_offsets v) k paired (omega (arith, h, object_many e, ids_many)))

-- ---- what does not depend on the names

pub parts_length : (names : List Name) (v : List ℕ) → length (parts_of names v) ≡ length (parts_of [] v)
parts_length names v = go (is_list v) (is_object v) refl refl
  where
    go : (t u : Bool) → is_list v ≡ t → is_object v ≡ u → length (parts_of names v) ≡ length (parts_of [] v)
    go true u e f = list_many names v e ∙ sym (list_many [] v e)
    go false true e f = object_many names v f ∙ sym (object_many [] v f)
    go false false e f = rw (parts_none names v e f, parts_none [] v e f)

pub part_bytes : (names : List Name) (v : List ℕ) (k : ℕ) → (part_at names v k).bytes ≡ (part_at [] v k).bytes
unfolding part_at
part_bytes names v k = go (is_list v) (is_object v) refl refl
  where
    go : (t u : Bool) → is_list v ≡ t → is_object v ≡ u → (get_or (parts_of names v) k no_part).bytes ≡ (get_or (parts_of [] v) k no_part).bytes
    go true u e f = rw (parts_list names v e, parts_list [] v e)
    go false true e f = rw (parts_object names v f, parts_object [] v f) (fields_bytes names v (stored_ids v) (object_offsets v) k)
    go false false e f = rw (parts_none names v e f, parts_none [] v e f)

-- ---- what does: an object's fields are named by their ids, a list's elements have no name

module _ (names : List Name) (v : List ℕ) (k : ℕ) where
  pub part_label : is_object v ≡ true → k < object_count v → (part_at names v k).label ≡ held_name names (get_or (stored_ids v) k 0)
  part_label e h = ap (λ (p : Part). p.label) (object_part names v k e (omega (arith, h, object_many names v e)))

  pub element_label : is_list v ≡ true → (part_at names v k).label ≡ none
  unfolding part_at
  element_label e = rw (parts_list names v e) (elements_label v (list_offsets v) k)

  -- ---- from one to the next, forwards and backwards

  pub parts_split : k < length (parts_of names v) → drop k (parts_of names v) ≡ part_at names v k ∷ drop (k + 1) (parts_of names v)
  unfolding part_at
  parts_split h = let e : k + 1 ≡ suc k = omega arith in rw e (drop-cons (parts_of names v) k no_part h)

  pub parts_snoc : k < length (parts_of names v) → take (k + 1) (parts_of names v) ≡ take k (parts_of names v) ++ (part_at names v k ∷ [])
  unfolding part_at
  parts_snoc h = let e : k + 1 ≡ suc k = omega arith in rw e (take-suc (parts_of names v) k no_part h)

-- ---- as the code counts and cuts

-- a header's count and offsets are its children's
module _ (v : List ℕ) {h : Head} where
  pub list_counts : is_list v ≡ true → h.count ≡ list_count v → h.offsets ≡ list_offsets v → h.from ≡ list_from v → Counts v h
  list_counts e n o f =
      let many = n ∙ sym (list_many [] v e) in
      record { count = many; bytes = λ k l. rw (o, f) (ap (λ (p : Part). p.bytes) (list_part [] v k e (rw many at l))) }

  pub object_counts : is_object v ≡ true → h.count ≡ object_count v → h.offsets ≡ object_offsets v → h.from ≡ object_from v → Counts v h
  object_counts e n o f =
      let many = n ∙ sym (object_many [] v e) in
      record { count = many; bytes = λ k l. rw (o, f) (ap (λ (p : Part). p.bytes) (object_part [] v k e (rw many at l))) }

  module _ (c : Counts v h) {n k : ℕ} (m : n ≡ h.count) where
    pub child_there : {from o : ℕ} {r : List ℕ} → k < n → from ≡ h.from → o ≡ get_or h.offsets k 0 → r ≡ value_from (from + o) v → Some r ≡ child_bytes v k
    child_there {from} {o} {r} l f g e =
        let b = c.bytes k (rw m at l) in
        rw (lt-ltb k (length (parts_of [] v)) (rw (m ∙ c.count) at l)) (ap Some (rw (f, g) at e ∙ sym b))

    pub child_behind : n ≤ k → None ≡ child_bytes v k
    child_behind l = rw (le-ltb k (length (parts_of [] v)) (rw (m ∙ c.count) at l))

pub child_none : (v : List ℕ) (k : ℕ) → parts_of [] v ≡ [] → None ≡ child_bytes v k
child_none v k e = rw (le-ltb k (length (parts_of [] v)) (rw e (omega arith)))

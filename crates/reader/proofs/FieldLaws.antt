-- Fields found: the code's walk over ids and offsets, and that it finds what the reading has.
use mathlib.Core.Path.{◌≡◌, refl, sym, ◌∙◌, ap}
use mathlib.Core.Bool.{Bool, true, false, cond, and-false, false≢true}
use mathlib.Core.List.{List, [], ◌∷◌}
use Prim.Native.Nat.{ℕ, suc, ◌+◌, ◌-◌, ◌%◌, ◌≤◌, ◌<◌}
use native.Mathlib.Omega.{arith}
use lib.Dec.{eqb, leb, ltb}
use lib.IntN.{ℤ}
use lib.ListN.{length, take, drop, get_or, length-drop, drop_of_length-le}
use lib.Seq.{drop-cons}
use borrow.Author.Tests.{leb-true, leb-false, lt-leb, le-leb, eq-eqb, ne_eqb}
use Rattle.metadata.specs.Names.{Name, same}
use Rattle.container.specs.Sort.{name_at}
use Rattle.measure.specs.Measure.{measured}
use Rattle.measure.proofs.MeasureLaws.{measured_within}
use Rattle.lexicon.proofs.DictionaryLaws.{both}
use Rattle.lexicon.proofs.ByteLaws.{length_numbers}
use Rattle.grammar.specs.Grammar.{among, starting}
use Rattle.grammar.proofs.FieldLaws.{among_at}
use Rattle.header_reader.proofs.StartLaws.{rest_is, start_high}
use Rattle.grammar.specs.Tests.{starts_of, id_width, id_table, offset_width, offset_table, object_count, object_from, object_offsets, stored_ids, is_object_head}
use Rattle.std.specs.Prelude.{Option, Some, None}
use Rattle.reader.specs.declared.Part.{Part}
use Rattle.reader.specs.declared.IntegerField.{IntegerField}
use Rattle.scalar_reader.specs.Integers.{integer_in}
use Rattle.reader.specs.Answers.{Inside, part, part_of, part_at, field_by, field_of, integer_by, integer_field_of, or_next}

-- ---- the part at a place

pub part_there : (v : List ℕ) (p : Part) → p.start ≤ p.end → p.end ≤ length v → take (p.end - p.start) (drop p.start v) ≡ part_of v (Some p)
unfolding part_of
part_there v p h k = rw (le-leb p.start p.end h, le-leb p.end (length v) k)

pub part_turned : (v : List ℕ) (p : Part) → p.end < p.start → [] ≡ part_of v (Some p)
unfolding part_of
part_turned v p h = rw (lt-leb p.start p.end h)

pub part_over : (v : List ℕ) (p : Part) → length v < p.end → [] ≡ part_of v (Some p)
unfolding part_of
part_over v p h = rw (lt-leb p.end (length v) h, and-false (leb p.start p.end))

-- ---- the part of field k

pub end_room : (v : List ℕ) (at : ℕ) {n : ℕ} → at ≤ length v → n ≡ measured (take (length v - at) (drop at v)) → at + n ≤ length v
end_room v at {n} h e =
    let m : n ≡ measured (drop at v) = e ∙ ap measured (rest_is v at) in
    omega (arith, measured_within (drop at v), length-drop at v)

pub part_placed : (v : List ℕ) {at start n : ℕ} → at ≡ start → n ≡ measured (take (length v - at) (drop at v)) → part at (at + n) ≡ part start (start + measured (drop start v))
part_placed v {at} {start} {n} x e =
    let m : n ≡ measured (drop at v) = e ∙ ap measured (rest_is v at) in
    rw (m, x)

-- ---- fields one behind the other

length_ids : (v : List ℕ) → length (stored_ids v) ≡ object_count v
length_ids v = length_numbers (id_width v) (object_count v) (drop (id_table v) v)

length_offsets : (v : List ℕ) → length (object_offsets v) ≡ object_count v
length_offsets v = length_numbers (offset_width v) (object_count v) (drop (offset_table v) v)

-- the fields from k on decide as all of them do
pub record Seeks (names : List Name) (name v : List ℕ) (r : Option Part) (k : ℕ) : Type 0 where
  pub rest : field_by names name v (drop k (stored_ids v)) (drop k (object_offsets v)) ≡ r

pub record Hunts (v : List ℕ) (r : Option IntegerField) (k : ℕ) : Type 0 where
  pub rest : integer_by v (drop k (stored_ids v)) (drop k (object_offsets v)) ≡ r

pub seeks_start : (names : List Name) (name v : List ℕ) → get_or v 0 0 % 4 ≡ 2 → Seeks names name v (field_of names name v) 0
seeks_start names name v e = record { rest = rw (eq-eqb (get_or v 0 0 % 4) 2 e) }

pub hunts_start : (v : List ℕ) → get_or v 0 0 % 4 ≡ 2 → Hunts v (integer_field_of v) 0
hunts_start v e = record { rest = rw (eq-eqb (get_or v 0 0 % 4) 2 e) }

pub no_field : (names : List Name) (name v : List ℕ) → (get_or v 0 0 % 4 ≡ 2 → ⊥) → None ≡ field_of names name v
no_field names name v h = rw (ne_eqb (get_or v 0 0 % 4) 2 h)

pub no_integer : (v : List ℕ) → (get_or v 0 0 % 4 ≡ 2 → ⊥) → None ≡ integer_field_of v
no_integer v h = rw (ne_eqb (get_or v 0 0 % 4) 2 h)

split : (l : List ℕ) (k : ℕ) → k < length l → drop k l ≡ get_or l k 0 ∷ drop (k + 1) l
split l k h = let e : suc k ≡ k + 1 = omega arith in rw (drop-cons l k 0 h, e)

ids_split : (v : List ℕ) (k : ℕ) → k < object_count v → drop k (stored_ids v) ≡ get_or (stored_ids v) k 0 ∷ drop (k + 1) (stored_ids v)
ids_split v k h = split (stored_ids v) k (rw (length_ids v) h)

offsets_split : (v : List ℕ) (k : ℕ) → k < object_count v → drop k (object_offsets v) ≡ get_or (object_offsets v) k 0 ∷ drop (k + 1) (object_offsets v)
offsets_split v k h = split (object_offsets v) k (rw (length_offsets v) h)

module _ {names : List Name} {name v : List ℕ} {r : Option Part} {k : ℕ} (s : Seeks names name v r k) where
  next : k < object_count v
      → cond (same (name_at names (get_or (stored_ids v) k 0)) name) (Some (part_at v (get_or (object_offsets v) k 0))) (field_by names name v (drop (k + 1) (stored_ids v)) (drop (k + 1) (object_offsets v))) ≡ r
  unfolding field_by
  next h = rw (ids_split v k h, offsets_split v k h) at s.rest

  module _ {i : ℕ} {t : Bool} (h : k < object_count v) (e : i ≡ get_or (stored_ids v) k 0) (u : t ≡ same (name_at names i) name) where
    pub seeks_found : {p : Part} → t ≡ true → p ≡ part_at v (get_or (object_offsets v) k 0) → Some p ≡ r
    seeks_found y q = ap Some q ∙ (rw (← e, ← u, y) at (next h))

    pub seeks_again : t ≡ false → Seeks names name v r (k + 1)
    seeks_again y = record { rest = rw (← e, ← u, y) at (next h) }

  pub seeks_none : object_count v ≤ k → None ≡ r
  unfolding field_by
  seeks_none h = let l = length_ids v in rw (drop_of_length-le (stored_ids v) {i = k} (omega arith)) at s.rest

module _ {v : List ℕ} {r : Option IntegerField} {k : ℕ} (s : Hunts v r k) where
  number_next : k < object_count v
      → or_next (integer_in (part_of v (Some (part_at v (get_or (object_offsets v) k 0))))) (get_or (stored_ids v) k 0) (integer_by v (drop (k + 1) (stored_ids v)) (drop (k + 1) (object_offsets v))) ≡ r
  unfolding integer_by
  number_next h = rw (ids_split v k h, offsets_split v k h) at s.rest

  module _ {i : ℕ} {p : Part} {bytes : List ℕ} {x : Option ℤ} (h : k < object_count v) (e : i ≡ get_or (stored_ids v) k 0) (q : p ≡ part_at v (get_or (object_offsets v) k 0))
      (b : bytes ≡ part_of v (Some p)) (j : x ≡ integer_in bytes) where
    told : x ≡ integer_in (part_of v (Some (part_at v (get_or (object_offsets v) k 0))))
    told = j ∙ ap integer_in (b ∙ ap (λ o. part_of v (Some o)) q)

    pub hunts_found : {n : ℤ} → x ≡ Some n → Some (record { id = i; number = n }) ≡ r
    hunts_found y = rw (← told, y, ← e) at (number_next h)

    pub hunts_again : x ≡ None → Hunts v r (k + 1)
    hunts_again y = record { rest = rw (← told, y) at (number_next h) }

  pub hunts_none : object_count v ≤ k → None ≡ r
  unfolding integer_by
  hunts_none h = let l = length_ids v in rw (drop_of_length-le (stored_ids v) {i = k} (omega arith)) at s.rest

-- ---- offsets lie in the bytes

below_start : (values : List ℕ) (o : ℕ) (t : Bool) → leb (length values) o ≡ t → among o (starts_of values) ≡ true → o < length values
below_start values o true e i = absurd (false≢true (sym (start_high values o (leb-true (length values) o e)) ∙ i))
below_start values o false e i = omega (arith, leb-false (length values) o e)

pub offsets_inside : (names : List Name) (v : List ℕ) → is_object_head names v ≡ true → Inside v
unfolding is_object_head
offsets_inside names v h k l =
    let values = drop (object_from v) v in
    let o = get_or (object_offsets v) k 0 in
    let a = (both {a = eqb (get_or v 0 0 % 4) 2} h).1 in
    let b = (both {a = ltb (get_or v 0 0) 128} a).1 in
    let c = (both {a = eqb (measured v) (length v)} b).1 in
    let s = (both {a = starting (starts_of values) (object_offsets v)} c).0 in
    let i = among_at (starts_of values) (object_offsets v) k s (rw (length_offsets v) l) in
    omega (arith, below_start values o (leb (length values) o) refl i, length-drop (object_from v) v)

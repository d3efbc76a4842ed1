-- The test says exactly what the grammar says: what passes has a reading, and what has one passes.
use mathlib.Core.Path.{◌≡◌, refl, sym, ◌∙◌, ap}
use mathlib.Core.Logic.{◌↔◌}
use mathlib.Core.Bool.{Bool, true, false, cond, ◌&&◌, ◌||◌, false≢true}
use mathlib.Core.List.{List, [], ◌∷◌, map}
use Prim.Native.Nat.{ℕ, zero, suc, ◌+◌, ◌-◌, ◌*◌, ◌/◌, ◌%◌, ◌<◌}
use native.Mathlib.Omega.{arith}
use lib.Dec.{eqb, leb, ltb}
use lib.ListN.{length, drop, get_or, length-drop}
use borrow.Author.Tests.{eq-eqb, ne_eqb, eqb-true, eqb-false, lt-ltb, ltb-true, leb-true, le-leb, not-true}
use Rattle.encoding.specs.Rows.{order, in_order, first}
use Rattle.encoding.proofs.PackedLaws.{Below}
use Rattle.value.specs.Scalar.{primitive, short, Scalar, first_byte, scalar_bytes, scalar_length, payload_size, type_of_byte}
use Rattle.value.proofs.ScalarParse.{type_read}
use Rattle.metadata.specs.Names.{Name, ascending}
use Rattle.metadata.specs.Bytes.{joined, dictionary_names}
use Rattle.metadata.proofs.DictionaryLaws.{equal_same}
use Rattle.container.specs.declared.Entry.{Entry}
use Rattle.container.specs.Entries.{ids_of, offsets_of}
use Rattle.container.specs.Sort.{name_at}
use Rattle.measure.specs.Measure.{known_length, value_length, measured}
use Rattle.lexicon.specs.Dictionary.{each_below, is_dictionary, most_bytes, width_in, mark_in}
use Rattle.lexicon.proofs.ByteLaws.{below_drop}
use Rattle.lexicon.proofs.DictionaryLaws.{both, with_both, reads_names}
use Rattle.lexicon.proofs.DictionaryLaws.{is_reads as is_names, reads_is as names_is}
use Rattle.grammar.specs.Scalars.{outside}
use Rattle.grammar.specs.Grammar.{Shape, scalar, list, object, Shapes, layout, layouts, starts_from, starting, Plain, Fits, FitsAll, Reads, ReadsValue, ReadsPair, most_containers}
use Rattle.grammar.specs.Tests.{starts_of, each_value, is_scalar, offset_width, id_width, list_large, object_large, list_from, stored_ids, object_offsets, object_from, is_list_head, is_object_head, is_value, pair_rows}
use Rattle.grammar.proofs.ShapeLaws.{held_list, held_object, first_low}
use Rattle.grammar.proofs.CutLaws.{Values, shape_whole, starts_values, each_reads, each_is}
use Rattle.grammar.proofs.HeadLaws.{list_parts, object_parts, whole_length, list_head_lem, object_head_lem}

-- ---- scalars

-- bytes are those of a scalar of the grammar
pub record PlainBytes (v : List ℕ) : Type 0 where
  pub value : Scalar
  pub plain : Plain value
  pub laid : v ≡ scalar_bytes value

-- the scalar of bytes that are as long as they say
kind_plain : (b : ℕ) (rest : List ℕ) → b % 4 < 2 → known_length b (b ∷ rest) ≡ length (b ∷ rest) → outside (type_of_byte b) rest ≡ false → PlainBytes (b ∷ rest)
unfolding scalar_length scalar_bytes
kind_plain b rest k e o = go (eqb (b % 4) 1) refl e o
  where
    -- a type code
    typed : b % 4 ≡ 0 → (t : Bool) → leb (b / 4) 20 ≡ t → cond t (1 + payload_size (primitive (b / 4)) (b / 4) rest) 0 ≡ length (b ∷ rest)
        → outside (primitive (b / 4)) rest ≡ false → PlainBytes (b ∷ rest)
    typed z true q p o =
        let f : b ≡ 4 * (b / 4) = omega arith in
        record {
          value = record { stored_type = primitive (b / 4); payload = rest };
          plain = record { whole = omega arith; known = q; range = o };
          laid = ap (λ x. x ∷ rest) f;
        }
    typed z false q p o = absurd (omega arith)

    go : (t : Bool) → eqb (b % 4) 1 ≡ t → cond (t || leb (b / 4) 20) (1 + payload_size (cond t short (primitive (b / 4))) (b / 4) rest) 0 ≡ length (b ∷ rest)
        → outside (cond t short (primitive (b / 4))) rest ≡ false → PlainBytes (b ∷ rest)
    go true q p o =
        let z = eqb-true (b % 4) 1 q in
        let f : b ≡ 4 * length rest + 1 = omega arith in
        record {
          value = record { stored_type = short; payload = rest };
          plain = record { whole = refl; known = refl; range = o };
          laid = ap (λ x. x ∷ rest) f;
        }
    go false q p o = let z = eqb-false (b % 4) 1 q in typed (omega arith) (leb (b / 4) 20) refl p o

pub scalar_plain : (v : List ℕ) → is_scalar v ≡ true → PlainBytes v
unfolding is_scalar value_length
scalar_plain [] h = absurd (false≢true (both {a = eqb (measured []) 0} h).1)
scalar_plain (b ∷ rest) h =
    let v = b ∷ rest in
    let p = both {a = ltb (b % 4) 2} h in
    let q = both {a = eqb (measured v) (length v)} p.1 in
    let r = both {a = ltb 0 (length v)} q.1 in
    let k = ltb-true (b % 4) 2 p.0 in
    let e = whole_length v (omega arith) (eqb-true (measured v) (length v) q.0) in
    kind_plain b rest k (rw (ne_eqb (b % 4) 3 (omega arith), ne_eqb (b % 4) 2 (omega arith)) at e) (not-true (outside (type_of_byte b) rest) r.1)

pub plain_scalar : (s : Scalar) → Plain s → is_scalar (scalar_bytes s) ≡ true
unfolding is_scalar layout scalar_bytes
plain_scalar s h =
    let b = first_byte s.stored_type (length s.payload) in
    let m : measured (b ∷ s.payload) ≡ length (b ∷ s.payload) = shape_whole [] 0 (scalar s) h in
    with_both (lt-ltb (b % 4) 2 (first_low s.stored_type (length s.payload)))
    (with_both (eq-eqb (measured (b ∷ s.payload)) (length (b ∷ s.payload)) m)
    (with_both (lt-ltb 0 (length (b ∷ s.payload)) (omega arith)) (rw (type_read s.stored_type (length s.payload), h.range))))

scalar_is : (s : Scalar) → Plain s → is_scalar (layout (scalar s)) ≡ true
unfolding layout
scalar_is s h = plain_scalar s h

-- ---- containers

module _ (names : List Name) (d : ℕ) where
  -- a list's header passes, and what stands behind it is its elements
  pub list_is : (w : ℕ) (big : Bool) (ts : Shapes) → Fits names d (list w big ts)
      → let v = layout (list w big ts) in (is_list_head v ≡ true) × (drop (list_from v) v ≡ joined (layouts ts))
  unfolding is_list_head layout
  list_is w big ts h =
      let v = layout (list w big ts) in
      let p = list_parts w big (starts_from 0 (layouts ts)) (joined (layouts ts)) (held_list h.1) in
      let m = shape_whole names d (list w big ts) h in
      let s : starts_of (drop (list_from v) v) ≡ starts_from 0 (layouts ts) = ap starts_of p.rest ∙ starts_values names (d - 1) ts h.2 in (
        with_both (eq-eqb (get_or v 0 0 % 4) 3 p.kind) (with_both (lt-ltb (get_or v 0 0) 32 p.small)
            (with_both (eq-eqb (measured v) (length v) m) (equal_same (p.offsets ∙ sym s)))),
        p.rest,
      )

  -- an object's alike
  pub object_is : (w u : ℕ) (big : Bool) (es : List Entry) (ts : Shapes) → Fits names d (object w u big es ts)
      → let v = layout (object w u big es ts) in (is_object_head names v ≡ true) × (drop (object_from v) v ≡ joined (layouts ts))
  unfolding is_object_head layout
  object_is w u big es ts h =
      let v = layout (object w u big es ts) in
      let p = object_parts w u big (ids_of es) (offsets_of es) (joined (layouts ts)) (held_object es h.1) in
      let m = shape_whole names d (object w u big es ts) h in
      let s : starts_of (drop (object_from v) v) ≡ starts_from 0 (layouts ts) = ap starts_of p.rest ∙ starts_values names (d - 1) ts h.3 in
      let o : starting (starts_of (drop (object_from v) v)) (object_offsets v) ≡ true = rw (s, p.offsets) h.2.offsets in
      let i : each_below (length names) (stored_ids v) ≡ true = rw p.ids h.2.ids in
      let a : ascending (map (name_at names) (stored_ids v)) ≡ true = rw p.ids h.2.order in (
        with_both (eq-eqb (get_or v 0 0 % 4) 2 p.kind) (with_both (lt-ltb (get_or v 0 0) 128 p.small)
            (with_both (eq-eqb (measured v) (length v) m) (with_both o (with_both i a)))),
        p.rest,
      )

  -- bytes whose header passes and whose data is values have a reading
  list_reads : (v : List ℕ) → 0 < d → Below 256 v → is_list_head v ≡ true → Values names (d - 1) (drop (list_from v) v) → Reads names d v
  unfolding layout
  list_reads v z b h x =
      let e = x.laid in
      let r = list_head_lem v b h in
      let s : starts_of (drop (list_from v) v) ≡ starts_from 0 (layouts x.shapes) = ap starts_of e ∙ starts_values names (d - 1) x.shapes x.fits in
      record { shape = list (offset_width v) (list_large v) x.shapes; fits = (z, rw (s, e) at r.held, x.fits); laid = rw (s, e) at r.laid }

  object_reads : (v : List ℕ) → 0 < d → Below 256 v → is_object_head names v ≡ true → Values names (d - 1) (drop (object_from v) v) → Reads names d v
  unfolding layout
  object_reads v z b h x =
      let e = x.laid in
      let r = object_head_lem names v b h in
      let s : starts_of (drop (object_from v) v) ≡ starts_from 0 (layouts x.shapes) = ap starts_of e ∙ starts_values names (d - 1) x.shapes x.fits in
      record {
        shape = object (offset_width v) (id_width v) (object_large v) r.entries x.shapes;
        fits = (z, rw e at r.held, rw s at r.fields, x.fits);
        laid = rw e at r.laid;
      }

scalar_reads : (names : List Name) (d : ℕ) (v : List ℕ) → is_scalar v ≡ true → Reads names d v
unfolding layout
scalar_reads names d v h = let x = scalar_plain v h in record { shape = scalar x.value; fits = x.plain; laid = x.laid }

-- ---- values

one_less_lem : (d : ℕ) → suc d - 1 ≡ d
one_less_lem d = omega arith

-- with one container more
step_reads : (names : List Name) (d : ℕ) → ((v : List ℕ) → Below 256 v → is_value names d v ≡ true → Reads names d v)
    → (v : List ℕ) → Below 256 v → is_value names (suc d) v ≡ true → Reads names (suc d) v
unfolding is_value
step_reads names d f v b h = go (is_scalar v) (is_list_head v && each_value (is_value names d) (length v) (drop (list_from v) v)) refl refl h
  where
    values : (from : ℕ) → each_value (is_value names d) (length v) (drop from v) ≡ true → Values names (suc d - 1) (drop from v)
    values from e = rw (one_less_lem d) (each_reads names d (is_value names d) f (length v) (drop from v) (below_drop from v b) e)

    go : (t u : Bool) → is_scalar v ≡ t → (is_list_head v && each_value (is_value names d) (length v) (drop (list_from v) v)) ≡ u
        → (t || (u || (is_object_head names v && each_value (is_value names d) (length v) (drop (object_from v) v)))) ≡ true → Reads names (suc d) v
    go true u p q h = scalar_reads names (suc d) v p
    go false true p q h = let r = both {a = is_list_head v} q in list_reads names (suc d) v (omega arith) b r.0 (values (list_from v) r.1)
    go false false p q h = let r = both {a = is_object_head names v} h in object_reads names (suc d) v (omega arith) b r.0 (values (object_from v) r.1)

-- what passes has a reading
pub is_reads : (names : List Name) (d : ℕ) (v : List ℕ) → Below 256 v → is_value names d v ≡ true → Reads names d v
unfolding is_value
is_reads names zero v b h = scalar_reads names zero v h
is_reads names (suc d) v b h = step_reads names d (is_reads names d) v b h

-- the first, the second or the third of three tests
one_of : (a b c : Bool) → a ≡ true → (a || (b || c)) ≡ true
one_of a b c e = rw e

two_of : (a b c : Bool) → b ≡ true → (a || (b || c)) ≡ true
two_of true b c e = refl
two_of false b c e = rw e

three_of : (a b c : Bool) → c ≡ true → (a || (b || c)) ≡ true
three_of true b c e = refl
three_of false true c e = refl
three_of false false c e = e

module _ (names : List Name) (d : ℕ) (f : (v : List ℕ) → Reads names d v → is_value names d v ≡ true) where
  lists : List ℕ → Bool
  lists v = is_list_head v && each_value (is_value names d) (length v) (drop (list_from v) v)

  objects : List ℕ → Bool
  objects v = is_object_head names v && each_value (is_value names d) (length v) (drop (object_from v) v)

  data_is : (v : List ℕ) (from : ℕ) (ts : Shapes) → FitsAll names (suc d - 1) ts → drop from v ≡ joined (layouts ts) → each_value (is_value names d) (length v) (drop from v) ≡ true
  data_is v from ts h e =
      let l = length-drop from v in
      let k = ap length e in
      rw e (each_is names d (is_value names d) f (length v) ts (rw (one_less_lem d) at h) (omega arith))

  step_is : (t : Shape) → Fits names (suc d) t → is_value names (suc d) (layout t) ≡ true
  unfolding is_value lists objects
  step_is (scalar s) h = let v = layout (scalar s) in one_of (is_scalar v) (lists v) (objects v) (scalar_is s h)
  step_is (list w big ts) h =
      let v = layout (list w big ts) in
      let p = list_is names (suc d) w big ts h in
      two_of (is_scalar v) (lists v) (objects v) (with_both p.0 (data_is v (list_from v) ts h.2 p.1))
  step_is (object w u big es ts) h =
      let v = layout (object w u big es ts) in
      let p = object_is names (suc d) w u big es ts h in
      three_of (is_scalar v) (lists v) (objects v) (with_both p.0 (data_is v (object_from v) ts h.3 p.1))

none_is : (names : List Name) (t : Shape) → Fits names 0 t → is_scalar (layout t) ≡ true
none_is names (scalar s) h = scalar_is s h
none_is names (list w big ts) h = absurd (omega (arith, h.0))
none_is names (object w u big es ts) h = absurd (omega (arith, h.0))

-- what has a reading passes
pub reads_is : (names : List Name) (d : ℕ) (v : List ℕ) → Reads names d v → is_value names d v ≡ true
unfolding is_value
reads_is names zero v x = rw x.laid (none_is names x.shape x.fits)
reads_is names (suc d) v x = rw x.laid (step_is names d (reads_is names d) x.shape x.fits)

-- ---- pairs

-- the second half as a test
abbrev value_passes : List ℕ → List ℕ → Bool
value_passes d v = leb (length v) most_bytes && is_value (dictionary_names d) most_containers v

value_reads : (d v : List ℕ) → Below 256 v → value_passes d v ≡ true → (t : Shape) × ReadsValue (dictionary_names d) v t
value_reads d v b h =
    let p = both {a = leb (length v) most_bytes} h in
    let r = is_reads (dictionary_names d) most_containers v b p.1 in
    (r.shape, record { laid = r.laid; fits = r.fits; size = leb-true (length v) most_bytes p.0 })

reads_value : (d v : List ℕ) (t : Shape) → ReadsValue (dictionary_names d) v t → value_passes d v ≡ true
reads_value d v t x = with_both (le-leb (length v) most_bytes x.size) (reads_is (dictionary_names d) most_containers v (record { shape = t; fits = x.fits; laid = x.laid }))

-- the number, by the two tests
pair_number : (d v : List ℕ) (s t : Bool) → is_dictionary d ≡ s → value_passes d v ≡ t → first (pair_rows d v) ≡ cond s (cond t 0 20) 19
unfolding first
pair_number d v true true e f = rw (e, f)
pair_number d v true false e f = rw (e, f)
pair_number d v false t e f = rw e

pub pair_order : (d v : List ℕ) → in_order order (pair_rows d v) ≡ true
pair_order d v = refl

-- "accepts exactly this": a pair that is not refused has a reading, over the names that stand in the dictionary
pub pair_reads : (d v : List ℕ) → Below 256 v → first (pair_rows d v) ≡ 0 → (t : Shape) × ReadsPair d v (width_in d) (mark_in d) (dictionary_names d) t
pair_reads d v b h = go (is_dictionary d) (value_passes d v) refl refl
  where
    go : (s t : Bool) → is_dictionary d ≡ s → value_passes d v ≡ t → (u : Shape) × ReadsPair d v (width_in d) (mark_in d) (dictionary_names d) u
    go true true e f = let r = value_reads d v b f in (r.0, record { first = is_names e; second = r.1 })
    go true false e f = absurd (omega (arith, sym h ∙ pair_number d v true false e f))
    go false t e f = absurd (omega (arith, sym h ∙ pair_number d v false t e f))

-- and one that has a reading is not refused
pub reads_pair : {d v : List ℕ} {w : ℕ} {mark : Bool} {names : List Name} {t : Shape} → ReadsPair d v w mark names t → first (pair_rows d v) ≡ 0
reads_pair {d} {v} {t = t} x = pair_number d v true true (names_is x.first) (reads_value d v t (rw (reads_names x.first) x.second))

-- "It refuses with 19 a bad dictionary, checked first"
pub number_19 : (d v : List ℕ) → (first (pair_rows d v) ≡ 19) ↔ (is_dictionary d ≡ false)
number_19 d v = (go (is_dictionary d) (value_passes d v) refl refl, λ e. pair_number d v false (value_passes d v) e refl)
  where
    go : (s t : Bool) → is_dictionary d ≡ s → value_passes d v ≡ t → first (pair_rows d v) ≡ 19 → is_dictionary d ≡ false
    go true true e f h = absurd (omega (arith, sym h ∙ pair_number d v true true e f))
    go true false e f h = absurd (omega (arith, sym h ∙ pair_number d v true false e f))
    go false t e f h = e

-- "and with 20 a value outside the grammar": over the names of a good dictionary it has no reading
pub number_20 : (d v : List ℕ) → Below 256 v → (first (pair_rows d v) ≡ 20) ↔ ((is_dictionary d ≡ true) × ((t : Shape) → ReadsValue (dictionary_names d) v t → ⊥))
number_20 d v b = (into (is_dictionary d) (value_passes d v) refl refl, λ h. back h.0 h.1 (value_passes d v) refl)
  where
    into : (s t : Bool) → is_dictionary d ≡ s → value_passes d v ≡ t → first (pair_rows d v) ≡ 20 → (is_dictionary d ≡ true) × ((t : Shape) → ReadsValue (dictionary_names d) v t → ⊥)
    into true true e f h = absurd (omega (arith, sym h ∙ pair_number d v true true e f))
    into true false e f h = (e, λ u x. false≢true (sym f ∙ reads_value d v u x))
    into false t e f h = absurd (omega (arith, sym h ∙ pair_number d v false t e f))

    back : is_dictionary d ≡ true → ((t : Shape) → ReadsValue (dictionary_names d) v t → ⊥) → (t : Bool) → value_passes d v ≡ t → first (pair_rows d v) ≡ 20
    back e n true f = let r = value_reads d v b f in absurd (n r.0 r.1)
    back e n false f = pair_number d v true false e f

-- Over a reading: a value's parts are the children of its live tree, and a leaf's bytes are those of its scalar.
use mathlib.Core.Path.{◌≡◌, refl, sym, ap}
use mathlib.Core.Logic.{◌⊎◌, inl, inr}
use mathlib.Core.Bool.{Bool, true, false, cond, not, ◌||◌, false≢true}
use mathlib.Core.List.{List, [], ◌∷◌, ◌++◌}
use Prim.Native.Nat.{ℕ, suc, ◌+◌, ◌-◌, ◌*◌, ◌%◌, ◌≤◌, ◌<◌}
use native.Mathlib.Omega.{arith}
use lib.Dec.{eqb, ltb}
use lib.ListN.{length, take, drop, get_or, length-drop, take-append-drop}
use lib.Seq.{length-take-le}
use borrow.Author.Tests.{eqb-true, eqb-false, eq-eqb, ne_eqb, leb-true, ltb-false, lt-ltb, not-false}
use Rattle.encoding.specs.Packed.{number}
use Rattle.encoding.specs.Utf8.{utf8}
use Rattle.encoding.proofs.PackedLaws.{Below}
use Rattle.value.specs.Scalar.{Stored, primitive, short, Scalar, scalar_bytes}
use Rattle.metadata.specs.Names.{Name}
use Rattle.metadata.specs.Bytes.{joined}
use Rattle.container.specs.declared.Entry.{Entry}
use Rattle.container.specs.Entries.{ids_of, offsets_of}
use Rattle.container.specs.Layout.{list_header_at, object_header_at}
use Rattle.measure.specs.Measure.{measured}
use Rattle.lexicon.proofs.DictionaryLaws.{each_below_lem}
use Rattle.grammar.specs.Scalars.{outside}
use Rattle.grammar.specs.Grammar.{Shape, Shapes, layout, layouts, starts_from, starting, Plain, Fits, FitsAll, ReadsValue, most_containers}
use Rattle.grammar.specs.Grammar as grammar
use Rattle.grammar.specs.Tests.{list_from, object_from}
use Rattle.grammar.proofs.CutLaws.{shape_some, shape_whole}
use Rattle.grammar.proofs.FieldLaws.{scalar_first}
use Rattle.header_reader.specs.Heads.{value_from}
use Rattle.live.specs.Live.{Leaf, text, other, leaf_by, leaf_of, Live, leaf, nest, Lives, end, live_fields, live_of, live_elements, live_at}
use Rattle.live.proofs.ChildLaws.{Part as Slice, value_there, Stands, stands_fits, value_part, among_stands, list_laid, object_laid, stands_live, start_parts}
use Rattle.header_reader.specs.Kinds.{is_list, is_object}
use Rattle.children.specs.Children.{element_parts, field_parts, parts_of, Holds, HoldsAll}
use Rattle.children.proofs.PartLaws.{list_only, object_only, parts_list, parts_object, parts_none}

-- ---- a reading holds, and so do its parts

pub holds_read : {names : List Name} {v : List ℕ} {t : Shape} → ReadsValue names v t → Holds names most_containers v (live_of names t)
holds_read {t = t} x = record { shape = t; fits = x.fits; laid = x.laid; tree = refl }

-- its bytes are one value, as long as they say
pub holds_some : {names : List Name} {d : ℕ} {v : List ℕ} {l : Live} → Holds names d v l → (measured v ≡ length v) × (0 < length v)
holds_some {names} {d} x = rw x.laid (shape_whole names d x.shape x.fits, shape_some names d x.shape x.fits)

-- ---- the parts of a container: values that stand behind a header h

module _ (names : List Name) (d : ℕ) (v h : List ℕ) (all : Shapes) (e : v ≡ h ++ joined (layouts all)) (a : FitsAll names d all) where
  part_holds : (k n from : ℕ) (t : Shape) → from ≡ length h → Stands k n t 0 0 all → Holds names d (value_from (from + n) v) (live_of names t)
  part_holds k n from t f s =
      let x = stands_fits names d k n t 0 0 all a s in
      let p : Slice v (layout t) (from + n) = rw (e, f) (value_part h k n t all s) in
      record { shape = t; fits = x; laid = (value_there names d v t (from + n) x p).part; tree = refl }

  elements_hold : list_from v ≡ length h → (i at : ℕ) (ts : Shapes) → ((k n : ℕ) (t : Shape) → Stands k n t i at ts → Stands k n t 0 0 all)
      → HoldsAll names d (element_parts v (starts_from at (layouts ts))) (live_elements names ts)
  unfolding element_parts starts_from layout live_of
  elements_hold f i at grammar.none s = tt
  elements_hold f i at (grammar.more t ts) s = (
    refl,
    part_holds i at (list_from v) t f (s i at t (inl (refl, refl, refl))),
    elements_hold f (suc i) (at + length (layout t)) ts (λ k n u x. s k n u (inr x)),
  )

  fields_hold : object_from v ≡ length h → (es : List Entry) → starting (starts_from 0 (layouts all)) (offsets_of es) ≡ true → Below (length names) (ids_of es)
      → HoldsAll names d (field_parts names v (ids_of es) (offsets_of es)) (live_fields (λ o. live_at names o 0 all) names es)
  unfolding field_parts live_fields
  fields_hold f [] o b = tt
  fields_hold f (x ∷ es) o b =
      let s = start_parts (starts_from 0 (layouts all)) x.offset (offsets_of es) o in
      let w = among_stands x.offset 0 0 all s.one in (
        rw (lt-ltb x.id (length names) b.0),
        rw (stands_live names d w.0 x.offset w.1 0 0 all a w.2) (part_holds w.0 x.offset (object_from v) w.1 f w.2),
        fields_hold f es s.others b.1,
      )

-- ---- leaves and containers apart

abbrev is_nest : Live → Bool
is_nest (leaf x) = false
is_nest (nest object ls) = true

abbrev of_object : Live → Bool
of_object (leaf x) = false
of_object (nest object ls) = object

abbrev inside : Live → Lives
inside (leaf x) = end
inside (nest object ls) = ls

-- bytes are those of a container, with at most d one in another, an object or a list, and these are its live children
abbrev pub Nests : List Name → ℕ → List ℕ → Bool → Lives → Type 0
Nests names d v object ls = (0 < d) × (is_object v ≡ object) × (is_list v ≡ not object) × HoldsAll names (d - 1) (parts_of names v) ls

shape_nest : (names : List Name) (d : ℕ) (t : Shape) (object : Bool) (ls : Lives) → Fits names d t → nest object ls ≡ live_of names t
    → Nests names d (layout t) object ls
unfolding layout live_of
shape_nest names d (grammar.scalar s) object ls h e = absurd (false≢true (sym (ap is_nest e)))
shape_nest names d (grammar.list w big ts) object ls h e =
    let header = list_header_at w big (starts_from 0 (layouts ts)) (length (joined (layouts ts))) in
    let v = header ++ joined (layouts ts) in
    let p = list_laid names d w big ts h in
    let k : is_list v ≡ true = eq-eqb (get_or v 0 0 % 4) 3 p.kind in
    let parts = elements_hold names (d - 1) v header ts refl h.2 p.from 0 0 ts (λ k n t s. s) in
    rw (ap of_object e, ap inside e) (h.0, list_only v k, k, rw (parts_list names v k, p.offsets) parts)
shape_nest names d (grammar.object w u big es ts) object ls h e =
    let header = object_header_at w u big (ids_of es) (offsets_of es) (length (joined (layouts ts))) in
    let v = header ++ joined (layouts ts) in
    let p = object_laid names d w u big es ts h in
    let k : is_object v ≡ true = eq-eqb (get_or v 0 0 % 4) 2 p.kind in
    let parts = fields_hold names (d - 1) v header ts refl h.3 p.from es h.2.offsets (each_below_lem (length names) (ids_of es) h.2.ids) in
    rw (ap of_object e, ap inside e) (h.0, k, object_only v k, rw (parts_object names v k, p.ids, p.offsets) parts)

pub holds_nest : {names : List Name} {d : ℕ} {v : List ℕ} {object : Bool} {ls : Lives} → Holds names d v (nest object ls) → Nests names d v object ls
holds_nest {names} {d} {object = object} {ls = ls} x = rw x.laid (shape_nest names d x.shape object ls x.fits x.tree)

-- ---- the bytes of a leaf

abbrev of_leaf : Leaf → Live → Leaf
of_leaf x (leaf y) = y
of_leaf x (nest object ls) = x

abbrev is_text : Leaf → Bool
is_text (text bytes) = true
is_text (other s) = false

abbrev of_text : Leaf → List ℕ
of_text (text bytes) = bytes
of_text (other s) = []

abbrev of_other : Scalar → Leaf → Scalar
of_other x (text bytes) = x
of_other x (other s) = s

record PlainLeaf (v : List ℕ) (x : Leaf) : Type 0 where
  scalar : Scalar
  plain : Plain scalar
  laid : v ≡ scalar_bytes scalar
  told : x ≡ leaf_of scalar
  first : get_or v 0 0 % 4 < 2

-- a text in the short form
pub record ShortText (v bytes : List ℕ) : Type 0 where
  pub laid : v ≡ (4 * length bytes + 1) ∷ bytes
  pub first : get_or v 0 0 ≡ 4 * length bytes + 1
  pub rest : drop 1 v ≡ bytes
  pub small : length bytes ≤ 63
  pub valid : utf8 bytes ≡ true

-- a text as String: four bytes of length, `size`, before it
pub record LongText (v bytes : List ℕ) : Type 0 where
  pub size : List ℕ
  pub four : length size ≡ 4
  pub told : number size ≡ length bytes
  pub laid : v ≡ 64 ∷ (size ++ bytes)
  pub first : get_or v 0 0 ≡ 64
  pub rest : drop 5 v ≡ bytes
  pub valid : utf8 bytes ≡ true

-- any other scalar
pub record OtherBytes (v : List ℕ) (s : Scalar) : Type 0 where
  pub plain : Plain s
  pub laid : v ≡ scalar_bytes s
  pub code : ℕ
  pub typed : s.stored_type ≡ primitive code
  pub known : code ≤ 20
  pub apart : code ≡ 16 → ⊥
  pub first : get_or v 0 0 ≡ 4 * code

short_good : (payload : List ℕ) → outside short payload ≡ false → (length payload ≤ 63) × (utf8 payload ≡ true)
short_good payload = go (utf8 payload) (ltb 63 (length payload)) refl refl
  where
    go : (t u : Bool) → utf8 payload ≡ t → ltb 63 (length payload) ≡ u → (not t || u) ≡ false → (length payload ≤ 63) × (utf8 payload ≡ true)
    go true false e f h = (ltb-false 63 (length payload) f, e)
    go true true e f h = absurd (false≢true (sym h))
    go false u e f h = absurd (false≢true (sym h))

scalar_text : (st : Stored) (payload bytes : List ℕ) → let s : Scalar = record { stored_type = st; payload = payload } in
    Plain s → text bytes ≡ leaf_of s → ShortText (scalar_bytes s) bytes ⊎ LongText (scalar_bytes s) bytes
unfolding scalar_bytes leaf_by
scalar_text short payload bytes h e =
    let g = short_good payload h.range in
    rw (ap of_text e) (inl (record { laid = refl; first = refl; rest = refl; small = g.0; valid = g.1 }))
scalar_text (primitive c) payload bytes h e = go (eqb c 16) refl e
  where
    go : (t : Bool) → eqb c 16 ≡ t → text bytes ≡ cond t (text (drop 4 payload)) (other (record { stored_type = primitive c; payload = payload }))
        → ShortText (4 * c ∷ payload) bytes ⊎ LongText (4 * c ∷ payload) bytes
    go false q e = absurd (false≢true (sym (ap is_text e)))
    go true q e =
        let z = eqb-true c 16 q in
        let w : 4 + number (take 4 payload) ≡ length payload = rw z at h.whole in
        let u : not (utf8 (drop 4 payload)) ≡ false = rw z at h.range in
        rw (ap of_text e, z) (inr (record {
          size = take 4 payload;
          four = length-take-le 4 payload (omega arith);
          told = omega (arith, length-drop 4 payload);
          laid = ap (λ x. 64 ∷ x) (sym (take-append-drop 4 payload));
          first = refl;
          rest = refl;
          valid = not-false (utf8 (drop 4 payload)) u;
        }))

scalar_other : (st : Stored) (payload : List ℕ) (x : Scalar) → let s : Scalar = record { stored_type = st; payload = payload } in
    Plain s → other x ≡ leaf_of s → OtherBytes (scalar_bytes s) x
unfolding scalar_bytes leaf_by
scalar_other short payload x h e = absurd (false≢true (ap is_text e))
scalar_other (primitive c) payload x h e = go (eqb c 16) refl e
  where
    s : Scalar
    s = record { stored_type = primitive c; payload = payload }

    go : (t : Bool) → eqb c 16 ≡ t → other x ≡ cond t (text (drop 4 payload)) (other s) → OtherBytes (4 * c ∷ payload) x
    go true q e = absurd (false≢true (ap is_text e))
    go false q e =
        rw (ap (of_other x) e)
        (record { plain = h; laid = refl; code = c; typed = refl; known = leb-true c 20 h.known; apart = eqb-false c 16 q; first = refl })

shape_leaf : (names : List Name) (d : ℕ) (t : Shape) (x : Leaf) → Fits names d t → leaf x ≡ live_of names t → PlainLeaf (layout t) x
unfolding layout live_of
shape_leaf names d (grammar.scalar s) x h e = record { scalar = s; plain = h; laid = refl; told = ap (of_leaf x) e; first = scalar_first s }
shape_leaf names d (grammar.list w big ts) x h e = absurd (false≢true (ap is_nest e))
shape_leaf names d (grammar.object w u big es ts) x h e = absurd (false≢true (ap is_nest e))

module _ {names : List Name} {d : ℕ} {v : List ℕ} where
  -- a leaf is a scalar
  holds_plain : {x : Leaf} → Holds names d v (leaf x) → PlainLeaf v x
  holds_plain {x} y = rw y.laid (shape_leaf names d y.shape x y.fits y.tree)

  pub holds_leaf : {x : Leaf} → Holds names d v (leaf x) → (is_object v ≡ false) × (is_list v ≡ false) × (parts_of names v ≡ [])
  holds_leaf y =
      let l = (holds_plain y).first in
      let object = ne_eqb (get_or v 0 0 % 4) 2 (omega arith) in
      let list = ne_eqb (get_or v 0 0 % 4) 3 (omega arith) in
      (object, list, parts_none names v list object)

  pub holds_text : {bytes : List ℕ} → Holds names d v (leaf (text bytes)) → ShortText v bytes ⊎ LongText v bytes
  holds_text {bytes} y = let p = holds_plain y in rw p.laid (scalar_text p.scalar.stored_type p.scalar.payload bytes p.plain p.told)

  pub holds_other : {s : Scalar} → Holds names d v (leaf (other s)) → OtherBytes v s
  holds_other {s} y = let p = holds_plain y in rw p.laid (scalar_other p.scalar.stored_type p.scalar.payload s p.plain p.told)

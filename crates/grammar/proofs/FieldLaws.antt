-- An object's fields, read by their places: each offset is that of one whole value of the grammar, at one container less.
use mathlib.Core.Path.{◌≡◌, refl, sym, ◌∙◌, ap}
use mathlib.Core.Bool.{Bool, true, false, not, ◌||◌, false≢true}
use mathlib.Core.List.{List, [], ◌∷◌, ◌++◌}
use Prim.Native.Nat.{ℕ, zero, suc, ◌+◌, ◌-◌, ◌%◌, ◌≤◌, ◌<◌}
use native.Mathlib.Omega.{arith}
use lib.Dec.{eqb}
use lib.ListN.{length, take, drop, get_or, length-append, length-drop, length-map}
use lib.Seq.{take_at, drop-drop, drop-append-add}
use borrow.Author.Tests.{eqb-true}
use Rattle.value.specs.Scalar.{Scalar, scalar_bytes}
use Rattle.metadata.specs.Names.{Name}
use Rattle.metadata.specs.Bytes.{joined}
use Rattle.container.specs.declared.Entry.{Entry}
use Rattle.container.specs.Entries.{ids_of, offsets_of}
use Rattle.container.specs.Layout.{list_header_at, object_header_at}
use Rattle.container.proofs.LayoutLaws.{list_kind, object_kind}
use Rattle.measure.specs.Measure.{measured}
use Rattle.lexicon.proofs.DictionaryLaws.{both, each_below_lem}
use Rattle.encoding.proofs.PackedLaws.{Below}
use Rattle.grammar.specs.Grammar.{Shape, scalar, list, object, Shapes, none, more, layout, layouts, starts_from, among, starting, Fits, FitsAll, ReadsValue, ReadsPair, most_containers}
use Rattle.grammar.specs.Tests.{stored_ids, object_count, object_offsets, object_from}
use Rattle.grammar.specs.Fields.{shape_at}
use Rattle.grammar.proofs.ShapeLaws.{held_object, first_low}
use Rattle.grammar.proofs.CutLaws.{shape_some, shape_measured}
use Rattle.grammar.proofs.HeadLaws.{ObjectParts, object_parts}

-- ---- more containers are allowed

mutual
  pub fits_more : (names : List Name) {d e : ℕ} (t : Shape) → Fits names d t → d ≤ e → Fits names e t
  fits_more names (scalar s) h l = h
  fits_more names (list w big ts) h l = (omega (arith, h.0), h.1, fits_all_more names ts h.2 (omega arith))
  fits_more names (object w u big es ts) h l = (omega (arith, h.0), h.1, h.2, fits_all_more names ts h.3 (omega arith))

  pub fits_all_more : (names : List Name) {d e : ℕ} (ts : Shapes) → FitsAll names d ts → d ≤ e → FitsAll names e ts
  fits_all_more names none h l = tt
  fits_all_more names (more t ts) h l = (fits_more names t h.0 l, fits_all_more names ts h.1 l)

-- ---- kinds by the first byte: below 2 of a scalar, 2 of an object, 3 of a list

pub scalar_first : (s : Scalar) → get_or (layout (scalar s)) 0 0 % 4 < 2
unfolding layout scalar_bytes
scalar_first s = first_low s.stored_type (length s.payload)

pub list_first : (w : ℕ) (big : Bool) (ts : Shapes) → get_or (layout (list w big ts)) 0 0 % 4 ≡ 3
unfolding layout list_header_at
list_first w big ts = list_kind w big

pub object_first : (w u : ℕ) (big : Bool) (es : List Entry) (ts : Shapes) → get_or (layout (object w u big es ts)) 0 0 % 4 ≡ 2
unfolding layout object_header_at
object_first w u big es ts = object_kind w u big

-- a shape that is an object
pub record ObjectShape (t : Shape) : Type 0 where
  pub offset_width : ℕ
  pub id_width : ℕ
  pub big : Bool
  pub entries : List Entry
  pub values : Shapes
  pub same : t ≡ object offset_width id_width big entries values

pub first_object : (t : Shape) → get_or (layout t) 0 0 % 4 ≡ 2 → ObjectShape t
first_object (scalar s) e = absurd (omega (arith, scalar_first s))
first_object (list w big ts) e = absurd (omega (arith, list_first w big ts))
first_object (object w u big es ts) e = record { offset_width = w; id_width = u; big = big; entries = es; values = ts; same = refl }

-- ---- the value at an offset

record StandsAt (names : List Name) (d n at : ℕ) (ts : Shapes) : Type 0 where
  fits : Fits names d (shape_at n at ts)
  low : at ≤ n
  rest : List ℕ
  found : drop (n - at) (joined (layouts ts)) ≡ layout (shape_at n at ts) ++ rest

stands_at : (names : List Name) (d n at : ℕ) (ts : Shapes) → FitsAll names d ts → among n (starts_from at (layouts ts)) ≡ true → StandsAt names d n at ts
unfolding among starts_from layout joined shape_at
stands_at names d n at none f h = absurd (false≢true h)
stands_at names d n at (more t ts) f h = go (eqb n at) refl h (stands_at names d n (at + length (layout t)) ts f.1)
  where
    next : ℕ
    next = at + length (layout t)

    go : (b : Bool) → eqb n at ≡ b → (b || among n (starts_from next (layouts ts))) ≡ true → (among n (starts_from next (layouts ts)) ≡ true → StandsAt names d n next ts)
        → StandsAt names d n at (more t ts)
    go true e h i =
        let q = eqb-true n at e in
        let z : n - at ≡ 0 = omega arith in
        record { fits = rw e f.0; low = omega arith; rest = joined (layouts ts); found = rw (e, z) }
    go false e h i =
        let r = i h in
        let l = r.low in
        let z : n - at ≡ length (layout t) + (n - next) = omega arith in
        record { fits = rw e r.fits; low = omega arith; rest = r.rest; found = rw (e, z) (drop-append-add (layout t) (joined (layouts ts)) (n - next) ∙ r.found) }

pub among_at : (starts ns : List ℕ) (k : ℕ) → starting starts ns ≡ true → k < length ns → among (get_or ns k 0) starts ≡ true
unfolding starting
among_at starts [] k h l = absurd (omega arith)
among_at starts (n ∷ ns) zero h l = (both h).0
among_at starts (n ∷ ns) (suc k) h l = among_at starts ns k (both {a = not (among n ns)} (both {a = among n starts} h).1).1 (omega arith)

below_at : (b : ℕ) (ns : List ℕ) (k : ℕ) → Below b ns → k < length ns → get_or ns k 0 < b
below_at b [] k h l = absurd (omega arith)
below_at b (n ∷ ns) zero h l = h.0
below_at b (n ∷ ns) (suc k) h l = below_at b ns k h.1 (omega arith)

-- ---- an object's bytes

-- what the header of an object's bytes says
pub record ObjectBytes (v : List ℕ) (es : List Entry) (ts : Shapes) : Type 0 where
  pub kind : get_or v 0 0 % 4 ≡ 2
  pub count : object_count v ≡ length es
  pub ids : stored_ids v ≡ ids_of es
  pub offsets : object_offsets v ≡ offsets_of es
  pub size : object_from v + length (joined (layouts ts)) ≡ length v
  pub rest : drop (object_from v) v ≡ joined (layouts ts)

-- the value at offset o of an object's bytes
pub record FieldAt (names : List Name) (d : ℕ) (v : List ℕ) (ts : Shapes) (o : ℕ) : Type 0 where
  pub fits : Fits names d (shape_at o 0 ts)
  pub inside : object_from v + o < length v
  pub size : measured (drop (object_from v + o) v) ≡ length (layout (shape_at o 0 ts))
  pub room : object_from v + o + length (layout (shape_at o 0 ts)) ≤ length v
  pub part : take (measured (drop (object_from v + o) v)) (drop (object_from v + o) v) ≡ layout (shape_at o 0 ts)

module _ (names : List Name) (d w u : ℕ) (big : Bool) (es : List Entry) (ts : Shapes) (h : Fits names d (object w u big es ts))
    (v : List ℕ) (e : v ≡ layout (object w u big es ts)) where
  pub object_bytes_lem : ObjectBytes v es ts
  unfolding layout
  object_bytes_lem = rw e (go (object_parts w u big (ids_of es) (offsets_of es) (joined (layouts ts)) (held_object es h.1)))
    where
      header : List ℕ
      header = object_header_at w u big (ids_of es) (offsets_of es) (length (joined (layouts ts)))

      go : ObjectParts (header ++ joined (layouts ts)) w u big (ids_of es) (offsets_of es) (joined (layouts ts)) → ObjectBytes (header ++ joined (layouts ts)) es ts
      go p =
          let l = length-append header (joined (layouts ts)) in
          record {
            kind = p.kind;
            count = p.count ∙ length-map es _;
            ids = p.ids;
            offsets = p.offsets;
            size = omega (arith, p.from);
            rest = p.rest;
          }

  pub value_at : (o : ℕ) → among o (starts_from 0 (layouts ts)) ≡ true → FieldAt names (d - 1) v ts o
  value_at o a =
      let b = object_bytes_lem in
      let s = stands_at names (d - 1) o 0 ts h.3 a in
      let t = shape_at o 0 ts in
      let q : o - 0 ≡ o = omega arith in
      let f : drop (object_from v + o) v ≡ layout t ++ s.rest = sym (drop-drop o (object_from v) v) ∙ (ap (drop o) b.rest ∙ (rw q at s.found)) in
      let m : measured (drop (object_from v + o) v) ≡ length (layout t) = ap measured f ∙ shape_measured names (d - 1) t s.rest s.fits in
      let z = shape_some names (d - 1) t s.fits in
      let x = length-drop (object_from v + o) v in
      let y = ap length f ∙ length-append (layout t) s.rest in
      record {
        fits = s.fits;
        inside = omega arith;
        size = m;
        room = omega arith;
        part = rw (m, f) (take_at (layout t) s.rest (length (layout t)) refl);
      }

  -- by its place among the fields
  pub field_at : (k : ℕ) → k < length es → FieldAt names (d - 1) v ts (get_or (object_offsets v) k 0)
  field_at k l =
      let n : length (offsets_of es) ≡ length es = length-map es _ in
      value_at (get_or (object_offsets v) k 0) (rw object_bytes_lem.offsets (among_at (starts_from 0 (layouts ts)) (offsets_of es) k h.2.offsets (omega arith)))

  pub field_id : (k : ℕ) → k < length es → get_or (stored_ids v) k 0 < length names
  field_id k l =
      let n : length (ids_of es) ≡ length es = length-map es _ in
      rw object_bytes_lem.ids (below_at (length names) (ids_of es) k (each_below_lem (length names) (ids_of es) h.2.ids) (omega arith))

-- ---- a field's value is accepted again over the same dictionary

abbrev pub field_bytes : List ℕ → ℕ → List ℕ
field_bytes v o = let rest = drop (object_from v + o) v in take (measured rest) rest

module _ {names : List Name} {v : List ℕ} {w u : ℕ} {big : Bool} {es : List Entry} {ts : Shapes} where
  pub field_reads : ReadsValue names v (object w u big es ts) → (k : ℕ) → k < length es
      → let o = get_or (object_offsets v) k 0 in ReadsValue names (field_bytes v o) (shape_at o 0 ts)
  field_reads x k l =
      let f = field_at names most_containers w u big es ts x.fits v x.laid k l in
      let r = f.room in
      let s = x.size in
      record { laid = f.part; fits = fits_more names (shape_at (get_or (object_offsets v) k 0) 0 ts) f.fits (omega arith); size = rw f.part (omega arith) }

  pub field_pair : {d : List ℕ} {width : ℕ} {mark : Bool} → ReadsPair d v width mark names (object w u big es ts) → (k : ℕ) → k < length es
      → let o = get_or (object_offsets v) k 0 in ReadsPair d (field_bytes v o) width mark names (shape_at o 0 ts)
  field_pair x k l = record { first = x.first; second = field_reads x.second k l }

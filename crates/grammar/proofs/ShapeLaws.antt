-- A reading is unique.
use mathlib.Core.Path.{◌≡◌, refl, sym, ◌∙◌, ap}
use mathlib.Core.Bool.{Bool, true}
use mathlib.Core.List.{List, [], ◌∷◌, ◌++◌}
use Prim.Native.Nat.{ℕ, suc, ◌-◌, ◌^◌, ◌<◌, ◌%◌}
use native.Mathlib.Omega.{arith}
use lib.ListN.{length, length-append}
use borrow.Author.Tests.{leb-true}
use Rattle.encoding.proofs.PackedLaws.{append_split}
use Rattle.value.specs.Scalar.{Stored, primitive, short, Scalar, first_byte, scalar_bytes}
use Rattle.value.proofs.ScalarParse.{scalar_inj}
use Rattle.metadata.specs.Names.{Name}
use Rattle.metadata.specs.Bytes.{joined}
use Rattle.container.specs.declared.Entry.{Entry}
use Rattle.container.specs.Layout.{count_size}
use Rattle.container.specs.Entries.{ids_of, offsets_of}
use Rattle.container.proofs.EntryLaws.{entries_equal}
use Rattle.container.proofs.LayoutLaws.{HoldsList, HoldsObject, list_split, list_widths, object_split, object_widths, list_not_object, list_not_scalar, object_not_scalar}
use Rattle.measure.specs.Measure.{value_length}
use Rattle.measure.proofs.ValueLaws.{Value, Known, scalar_value, list_value, object_value}
use Rattle.lexicon.proofs.DictionaryLaws.{each_below_lem}
use Rattle.lexicon.proofs.DictionaryLaws.{reading_unique as names_unique}
use Rattle.grammar.specs.Scalars.{coded}
use Rattle.grammar.specs.Grammar.{Shape, scalar, list, object, Shapes, none, more, layout, layouts, starts_from, HeldList, HeldObject, Fits, FitsAll, ReadsValue, ReadsPair}

-- ---- headers whose numbers are held

pub ids_paired : (es : List Entry) → length (offsets_of es) ≡ length (ids_of es)
ids_paired [] = refl
ids_paired (e ∷ es) = ap suc (ids_paired es)

pub held_list : {w : ℕ} {big : Bool} {offsets : List ℕ} {size : ℕ} → HeldList w big offsets size → HoldsList w big offsets size
held_list {w} {big} {offsets} {size} h =
    record {
      width = (h.least, h.most);
      count = (each_below_lem (256 ^ count_size big) (length offsets ∷ []) h.count).0;
      offsets = each_below_lem (256 ^ w) offsets h.numbers;
      size = (each_below_lem (256 ^ w) (size ∷ []) h.data_size).0;
    }

pub held_object : {w v : ℕ} {big : Bool} (es : List Entry) {size : ℕ} → HeldObject w v big (ids_of es) (offsets_of es) size → HoldsObject w v big (ids_of es) (offsets_of es) size
held_object {w} {v} {big} es {size} h =
    let l = held_list h.list in
    record {
      width = l.width;
      id_width = (h.least, h.most);
      count = rw (← ids_paired es) l.count;
      pairs = ids_paired es;
      ids = each_below_lem (256 ^ v) (ids_of es) h.numbers;
      offsets = l.offsets;
      size = l.size;
    }

-- ---- a value's length can be read off its first bytes

pub known_code : (s : Stored) → coded s ≡ true → Known s
known_code (primitive c) h = leb-true c 20 h
known_code short h = tt

pub shape_value : (names : List Name) (d : ℕ) (t : Shape) → Fits names d t → Value (layout t)
unfolding layout
shape_value names d (scalar s) h = scalar_value s (record { whole = h.whole; known = known_code s.stored_type h.known })
shape_value names d (list w big ts) h = list_value w big (starts_from 0 (layouts ts)) (joined (layouts ts)) (held_list h.1)
shape_value names d (object w v big es ts) h = object_value w v big (ids_of es) (offsets_of es) (joined (layouts ts)) (held_object es h.1)

-- values that stand before anything are read off part by part
shape_split : (names : List Name) (d : ℕ) (t u : Shape) (r s : List ℕ) → Fits names d t → Fits names d u → layout t ++ r ≡ layout u ++ s → (layout t ≡ layout u) × (r ≡ s)
shape_split names d t u r s h k e =
    append_split (layout t) (layout u) r s (sym ((shape_value names d t h).told r) ∙ (ap value_length e ∙ (shape_value names d u k).told s)) e

-- ---- kinds apart

pub first_low : (s : Stored) (n : ℕ) → first_byte s n % 4 < 2
first_low (primitive c) n = omega arith
first_low short n = omega arith

not_empty : (names : List Name) (d : ℕ) (t : Shape) (r : List ℕ) → Fits names d t → [] ≡ layout t ++ r → ⊥
not_empty names d t r h e = let f = (shape_value names d t h).some in omega (arith, simp length-append at (ap length e))

list_scalar : (w : ℕ) (big : Bool) (ts : Shapes) (x : Scalar) → layout (list w big ts) ≡ scalar_bytes x → ⊥
unfolding layout scalar_bytes
list_scalar w big ts x e = list_not_scalar _ _ _ _ _ _ _ (first_low x.stored_type (length x.payload)) e

object_scalar : (w v : ℕ) (big : Bool) (es : List Entry) (ts : Shapes) (x : Scalar) → layout (object w v big es ts) ≡ scalar_bytes x → ⊥
unfolding layout scalar_bytes
object_scalar w v big es ts x e = object_not_scalar _ _ _ _ _ _ _ _ _ (first_low x.stored_type (length x.payload)) e

-- ---- unique

mutual
  unfolding layout joined

  shape_inj : (names : List Name) (d : ℕ) (t u : Shape) → Fits names d t → Fits names d u → layout t ≡ layout u → t ≡ u
  shape_inj names d (scalar s) (scalar x) h k e = ap scalar (scalar_inj s x e)
  shape_inj names d (scalar s) (list w big ts) h k e = absurd (list_scalar w big ts s (sym e))
  shape_inj names d (scalar s) (object w v big es ts) h k e = absurd (object_scalar w v big es ts s (sym e))
  shape_inj names d (list w big ts) (scalar s) h k e = absurd (list_scalar w big ts s e)
  shape_inj names d (object w v big es ts) (scalar s) h k e = absurd (object_scalar w v big es ts s e)
  shape_inj names d (list w big ts) (object x y b es us) h k e = absurd (list_not_object _ _ _ _ _ _ _ _ _ _ _ _ e)
  shape_inj names d (object x y b es us) (list w big ts) h k e = absurd (list_not_object _ _ _ _ _ _ _ _ _ _ _ _ (sym e))
  shape_inj names d (list w a ts) (list x b us) h k e =
      let m = held_list h.1 in
      let n = held_list k.1 in
      let p = list_widths (joined (layouts ts)) (joined (layouts us)) m n e in
      let q = list_split (joined (layouts ts)) (joined (layouts us)) m n e in
      let i = shapes_inj names (d - 1) ts us h.2 k.2 q.rest in
      let p0 = p.0 in
      let p1 = p.1 in
      cc
  shape_inj names d (object w v a es ts) (object x y b fs us) h k e =
      let m = held_object es h.1 in
      let n = held_object fs k.1 in
      let p = object_widths (joined (layouts ts)) (joined (layouts us)) m n e in
      let q = object_split (joined (layouts ts)) (joined (layouts us)) m n e in
      let f = entries_equal es fs q.ids q.list.offsets in
      let i = shapes_inj names (d - 1) ts us h.3 k.3 q.list.rest in
      let p0 = p.0 in
      let p1 = p.1 in
      let p2 = p.2 in
      cc

  shapes_inj : (names : List Name) (d : ℕ) (ts us : Shapes) → FitsAll names d ts → FitsAll names d us → joined (layouts ts) ≡ joined (layouts us) → ts ≡ us
  shapes_inj names d none none h k e = refl
  shapes_inj names d none (more u us) h k e = absurd (not_empty names d u (joined (layouts us)) k.0 e)
  shapes_inj names d (more t ts) none h k e = absurd (not_empty names d t (joined (layouts ts)) h.0 (sym e))
  shapes_inj names d (more t ts) (more u us) h k e =
      let p = shape_split names d t u (joined (layouts ts)) (joined (layouts us)) h.0 k.0 e in
      let q = shape_inj names d t u h.0 k.0 p.0 in
      let r = shapes_inj names d ts us h.1 k.1 p.1 in
      cc

-- of a value, over one list of names
pub value_unique : {names : List Name} {value : List ℕ} {t u : Shape} → ReadsValue names value t → ReadsValue names value u → t ≡ u
value_unique {names} {value} {t} {u} x y = shape_inj names 64 t u x.fits y.fits (sym x.laid ∙ y.laid)

-- "a reading is unique": of a pair, names and shape, and all that the bytes choose besides
pub reading_unique : {dictionary value : List ℕ} {w v : ℕ} {mark other : Bool} {names others : List Name} {t u : Shape}
    → ReadsPair dictionary value w mark names t → ReadsPair dictionary value v other others u → (w ≡ v) × (mark ≡ other) × (names ≡ others) × (t ≡ u)
reading_unique {u = u} x y =
    let p = names_unique x.first y.first in
    (p.0, p.1, p.2, value_unique x.second (rw p.2 y.second))

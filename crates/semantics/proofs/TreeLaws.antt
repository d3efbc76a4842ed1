-- A tree's bytes tell it apart: they are read in one way, whatever stands behind them; and names that come later do not
-- change them.
use mathlib.Core.Path.{◌≡◌, refl, sym, ◌∙◌, ap}
use mathlib.Core.Logic.{inl, inr, ◌≢◌}
use mathlib.Core.Bool.{Bool, true, false}
use mathlib.Core.List.{List, [], ◌∷◌, ◌++◌, append_assoc, head-eq_of_cons-eq, tail-eq_of_cons-eq}
use Prim.Native.Nat.{ℕ, suc, ◌+◌, ◌%◌, ◌^◌, ◌≤◌, ◌<◌}
use native.Mathlib.Omega.{arith}
use lib.ListN.{length, get_or, length-append, length-map}
use borrow.Author.Tests.{le-ltb, lt-leb}
use Rattle.encoding.proofs.PackedLaws.{Below, append_split}
use Rattle.value.specs.Scalar.{Stored, primitive, short, Scalar, first_byte, scalar_bytes}
use Rattle.value.proofs.ScalarParse.{scalar_split}
use Rattle.metadata.specs.Names.{Name, place}
use Rattle.metadata.proofs.DictionaryLaws.{place_here, place_held}
use Rattle.container.specs.declared.Entry.{Entry}
use Rattle.container.specs.Layout.{list_header_at, list_header, object_header_at, object_header}
use Rattle.container.specs.Entries.{ids_of, offsets_of, misplaced}
use Rattle.container.specs.Sort.{sort}
use Rattle.container.proofs.EntryLaws.{ids_bounded, entries_equal}
use Rattle.container.proofs.LayoutLaws.{BoundsList, BoundsObject, list_count_lem, object_count_lem, list_not_object, list_not_scalar, object_not_scalar, written_list_split, written_object_split}
use Rattle.container.proofs.SortLaws.{Mem, Incl, Distinct, length_sort, sort_incl, sort_grows, object_bounds}
use Rattle.measure.proofs.ValueLaws.{Plain}
use Rattle.semantics.specs.Tree.{Label, element, live, replaced, Tree, scalar, nest, Items, empty, item, Part, data_of, starts_from, with_field, fields_from, list_bytes, object_bytes, encode, parts_of}

-- ---- what is well formed

-- an object's item is live or replaced, a list's an element
abbrev pub Fits : Bool → Label → Type 0
Fits true element = ⊥
Fits true (live n) = Unit {0}
Fits true replaced = Unit {0}
Fits false m = m ≡ element

-- scalars are whole and of a known type, and items fit their container
abbrev mutual
  pub Formed : Tree → Type 0
  Formed (scalar s) = Plain s
  Formed (nest object is) = FormedItems object is

  pub FormedItems : Bool → Items → Type 0
  FormedItems object empty = Unit {0}
  FormedItems object (item m t is) = Fits object m × Formed t × FormedItems object is

-- the live names are held
abbrev pub HeldLabel : List Name → Label → Type 0
HeldLabel names element = Unit {0}
HeldLabel names (live n) = place n names < length names
HeldLabel names replaced = Unit {0}

abbrev mutual
  pub Held : List Name → Tree → Type 0
  Held names (scalar s) = Unit {0}
  Held names (nest object is) = HeldItems names is

  pub HeldItems : List Name → Items → Type 0
  HeldItems names empty = Unit {0}
  HeldItems names (item m t is) = HeldLabel names m × Held names t × HeldItems names is

-- both, of a tree whose bytes four bytes count
pub record Sound (floor : ℕ) (names : List Name) (t : Tree) : Type 0 where
  pub formed : Formed t
  pub held : Held names t
  pub small : length (encode floor names t) < 256 ^ 4

pub record SoundItems (floor : ℕ) (names : List Name) (object : Bool) (is : Items) : Type 0 where
  pub formed : FormedItems object is
  pub held : HeldItems names is
  pub small : length (data_of (parts_of floor names is)) < 256 ^ 4

-- ---- a container's numbers are bounded

pub starts_bounded : (at size : ℕ) (ps : List Part) → at + length (data_of ps) ≤ size → Below (suc size) (starts_from at ps)
unfolding starts_from data_of
starts_bounded at size [] h = tt
starts_bounded at size (p ∷ ps) h =
    let l = length-append p.bytes (data_of ps) in
    (omega arith, starts_bounded (at + length p.bytes) size ps (omega arith))

pub list_bounded : (floor : ℕ) (ps : List Part) → length (list_bytes floor ps) < 256 ^ 4 → BoundsList (starts_from 0 ps) (length (data_of ps))
unfolding list_bytes
list_bounded floor ps h =
    let size = length (data_of ps) in
    let l = length-append (list_header floor (starts_from 0 ps) size) (data_of ps) in
    let c = list_count_lem floor (starts_from 0 ps) size in
    record { count = omega arith; offsets = starts_bounded 0 size ps (omega arith); size = omega arith }

module _ (floor : ℕ) (names : List Name) where
  pub fields_placed : (at size : ℕ) (is : Items) → HeldItems names is → at + length (data_of (parts_of floor names is)) ≤ size
      → misplaced true (length names) size (fields_from names at (parts_of floor names is)) ≡ false
  unfolding parts_of data_of fields_from with_field misplaced
  fields_placed at size empty h l = refl
  fields_placed at size (item m t is) h l =
      let k = length-append (encode floor names t) (data_of (parts_of floor names is)) in
      go m h.0 (fields_placed (at + length (encode floor names t)) size is h.2 (omega arith))
    where
      rest : List Entry
      rest = fields_from names (at + length (encode floor names t)) (parts_of floor names is)

      go : (m : Label) → HeldLabel names m → misplaced true (length names) size rest ≡ false
          → misplaced true (length names) size (with_field names at m rest) ≡ false
      go element k e = e
      go (live n) k e = rw (le-ltb size at (omega arith), lt-leb (length names) (place n names) k) e
      go replaced k e = e

  pub object_bounded : (is : Items) → HeldItems names is → length names ≤ 256 ^ 4 → length (object_bytes floor names (parts_of floor names is)) < 256 ^ 4
      → let fields = sort names (fields_from names 0 (parts_of floor names is)) in BoundsObject (ids_of fields) (offsets_of fields) (length (data_of (parts_of floor names is)))
  unfolding object_bytes
  object_bounded is k few h =
      let ps = parts_of floor names is in
      let es = fields_from names 0 ps in
      let fields = sort names es in
      let size = length (data_of ps) in
      let l = length-append (object_header floor (ids_of fields) (offsets_of fields) size) (data_of ps) in
      let i = length-map fields (λ e. e.id) in
      let o = length-map fields (λ e. e.offset) in
      let n = length_sort names es in
      let c = object_count_lem floor (ids_of fields) (offsets_of fields) size (o ∙ sym i) in
      object_bounds names size es (omega arith) (omega arith) few (fields_placed 0 size is k (omega arith))

-- ---- an object's marks are read back from its entries

pub fields_after : (names : List Name) (at : ℕ) (ps : List Part) (e : Entry) → Mem e (fields_from names at ps) → at ≤ e.offset
unfolding fields_from with_field
fields_after names at [] e m = absurd m
fields_after names at (p ∷ ps) e m = go p.label (fields_after names (at + length p.bytes) ps e) m
  where
    rest : List Entry
    rest = fields_from names (at + length p.bytes) ps

    go : (k : Label) → (Mem e rest → at + length p.bytes ≤ e.offset) → Mem e (with_field names at k rest) → at ≤ e.offset
    go element f m = omega (arith, f m)
    go (live n) f (inl q) = omega (arith, ap (λ (x : Entry). x.offset) q)
    go (live n) f (inr m) = omega (arith, f m)
    go replaced f m = omega (arith, f m)

pub place_inj : (m n : Name) (names : List Name) → place m names < length names → place n names < length names → place m names ≡ place n names → m ≡ n
place_inj m n names h k e = sym (place_here m names h) ∙ (ap (λ i. get_or names i []) e ∙ place_here n names k)

-- the first item's, where all other entries come later
module _ (names : List Name) (at : ℕ) (es fs : List Entry) (les : (e : Entry) → Mem e es → at < e.offset) (lfs : (e : Entry) → Mem e fs → at < e.offset) where
  first_label : (j k : Label) → Fits true j → Fits true k → HeldLabel names j → HeldLabel names k
      → Incl (with_field names at j es) (with_field names at k fs)
      → Incl (with_field names at k fs) (with_field names at j es) → j ≡ k
  unfolding with_field
  first_label element k f g h l i o = absurd f
  first_label (live m) element f g h l i o = absurd g
  first_label (live m) (live n) f g h l i o = go (i (record { id = place m names; offset = at }) (inl refl))
    where
      go : Mem (record { id = place m names; offset = at }) (with_field names at (live n) fs) → live m ≡ live n
      go (inl e) = ap live (place_inj m n names h l (ap (λ (x : Entry). x.id) e))
      go (inr b) = absurd (omega (arith, lfs (record { id = place m names; offset = at }) b))
  first_label (live m) replaced f g h l i o =
      let x : Entry = record { id = place m names; offset = at } in
      absurd (omega (arith, lfs x (i x (inl refl))))
  first_label replaced element f g h l i o = absurd g
  first_label replaced (live n) f g h l i o =
      let x : Entry = record { id = place n names; offset = at } in
      absurd (omega (arith, les x (o x (inl refl))))
  first_label replaced replaced f g h l i o = refl

-- an entry that starts later is behind the first item's
behind : (names : List Name) (at : ℕ) (k : Label) (es : List Entry) (e : Entry) → at < e.offset → Mem e (with_field names at k es) → Mem e es
unfolding with_field
behind names at element es e l m = m
behind names at (live n) es e l (inl q) = absurd (omega (arith, ap (λ (x : Entry). x.offset) q))
behind names at (live n) es e l (inr m) = m
behind names at replaced es e l m = m

before : (names : List Name) (at : ℕ) (k : Label) (es : List Entry) (e : Entry) → Mem e es → Mem e (with_field names at k es)
unfolding with_field
before names at element es e m = m
before names at (live n) es e m = inr m
before names at replaced es e m = m

abbrev pub trees_of : Items → List Tree
trees_of empty = []
trees_of (item m t is) = t ∷ trees_of is

module _ (floor : ℕ) (names : List Name) where
  pub encode_some : (t : Tree) → 1 ≤ length (encode floor names t)
  unfolding encode scalar_bytes list_bytes list_header list_header_at object_bytes object_header object_header_at
  encode_some (scalar s) = omega arith
  encode_some (nest true is) = omega arith
  encode_some (nest false is) = omega arith

  pub labels_read : (at : ℕ) (is js : Items) → FormedItems true is → FormedItems true js → HeldItems names is → HeldItems names js
      → trees_of is ≡ trees_of js
      → Incl (fields_from names at (parts_of floor names is)) (fields_from names at (parts_of floor names js)) → Incl (fields_from names at (parts_of floor names js)) (fields_from names at (parts_of floor names is)) → is ≡ js
  unfolding parts_of fields_from
  labels_read at empty empty f g h k e i o = refl
  labels_read at empty (item n u js) f g h k e i o = absurd (let z : ◌≡◌ {A = ℕ} 0 1 = cc in omega arith)
  labels_read at (item m t is) empty f g h k e i o = absurd (let z : ◌≡◌ {A = ℕ} 0 1 = cc in omega arith)
  labels_read at (item m t is) (item n u js) f g h k e i o =
      let p : t ≡ u = head-eq_of_cons-eq e in
      let next = at + length (encode floor names t) in
      let es = fields_from names next (parts_of floor names is) in
      let fs = fields_from names next (parts_of floor names js) in
      let i1 : Incl (with_field names at m es) (with_field names at n fs) = rw (← p) at i in
      let o1 : Incl (with_field names at n fs) (with_field names at m es) = rw (← p) at o in
      let full = encode_some t in
      let les : (x : Entry) → Mem x es → at < x.offset = λ x b. omega (arith, fields_after names next (parts_of floor names is) x b) in
      let lfs : (x : Entry) → Mem x fs → at < x.offset = λ x b. omega (arith, fields_after names next (parts_of floor names js) x b) in
      let q : m ≡ n = first_label names at es fs les lfs m n f.0 g.0 h.0 k.0 i1 o1 in
      let w : is ≡ js = labels_read next is js f.2 g.2 h.2 k.2 (tail-eq_of_cons-eq e)
      (λ x b. behind names at n fs x (les x b) (i1 x (before names at m es x b)))
      (λ x b. behind names at m es x (lfs x b) (o1 x (before names at n fs x b))) in
      cc

elements_read : (is js : Items) → FormedItems false is → FormedItems false js → trees_of is ≡ trees_of js → is ≡ js
elements_read empty empty f g e = refl
elements_read empty (item n u js) f g e = absurd (let z : ◌≡◌ {A = ℕ} 0 1 = cc in omega arith)
elements_read (item m t is) empty f g e = absurd (let z : ◌≡◌ {A = ℕ} 0 1 = cc in omega arith)
elements_read (item m t is) (item n u js) f g e =
    let p : t ≡ u = head-eq_of_cons-eq e in
    let q : m ≡ n = f.0 ∙ sym g.0 in
    let w = elements_read is js f.2 g.2 (tail-eq_of_cons-eq e) in
    cc

-- ---- live names that are apart

-- no item is live under n
abbrev pub NotLive : Name → Items → Type 0
NotLive n empty = Unit {0}
NotLive n (item m t is) = (m ≢ live n) × NotLive n is

-- of these items none is live under the mark's name
abbrev pub ApartFrom : Label → Items → Type 0
ApartFrom element is = Unit {0}
ApartFrom (live n) is = NotLive n is
ApartFrom replaced is = Unit {0}

-- in each container the live names are apart
abbrev mutual
  pub Apart : Tree → Type 0
  Apart (scalar s) = Unit {0}
  Apart (nest object is) = ApartItems is

  pub ApartItems : Items → Type 0
  ApartItems empty = Unit {0}
  ApartItems (item m t is) = ApartFrom m is × Apart t × ApartItems is

-- the entries of items that are apart have names that are apart
module _ (floor : ℕ) (names : List Name) where
  not_among : (n : Name) (at : ℕ) (is : Items) → HeldItems names is → NotLive n is → (e : Entry) → Mem e (fields_from names at (parts_of floor names is)) → get_or names e.id [] ≢ n
  unfolding parts_of fields_from with_field
  not_among n at empty h d e m = absurd m
  not_among n at (item k t is) h d e m = go k h.0 d.0 (not_among n (at + length (encode floor names t)) is h.2 d.1 e) m
    where
      rest : List Entry
      rest = fields_from names (at + length (encode floor names t)) (parts_of floor names is)

      go : (k : Label) → HeldLabel names k → k ≢ live n → (Mem e rest → get_or names e.id [] ≢ n) → Mem e (with_field names at k rest)
          → get_or names e.id [] ≢ n
      go element l q f m = f m
      go (live j) l q f (inl p) = λ r. q (ap live (sym (place_here j names l) ∙ (ap (λ (x : Entry). get_or names x.id []) (sym p) ∙ r)))
      go (live j) l q f (inr m) = f m
      go replaced l q f m = f m

  pub fields_apart : (at : ℕ) (is : Items) → HeldItems names is → ApartItems is → Distinct names (fields_from names at (parts_of floor names is))
  unfolding parts_of fields_from with_field
  fields_apart at empty h d = tt
  fields_apart at (item k t is) h d = go k h.0 d.0 (fields_apart next is h.2 d.2)
    where
      next : ℕ
      next = at + length (encode floor names t)

      go : (k : Label) → HeldLabel names k → ApartFrom k is → Distinct names (fields_from names next (parts_of floor names is))
          → Distinct names (with_field names at k (fields_from names next (parts_of floor names is)))
      go element l q f = f
      go (live j) l q f = ((λ e m. rw (place_here j names l) (not_among j next is h.2 q e m)), f)
      go replaced l q f = f

-- ---- unique parse

first_low : (s : Stored) (n : ℕ) → first_byte s n % 4 < 2
first_low (primitive c) n = omega arith
first_low short n = omega arith

-- the first byte tells a list from an object, and either from a scalar
kinds_apart : (floor : ℕ) (names : List Name) (ps qs : List Part) (r s : List ℕ) → list_bytes floor ps ++ r ≡ object_bytes floor names qs ++ s → ⊥
unfolding list_bytes object_bytes list_header object_header
kinds_apart floor names ps qs r s e = list_not_object _ _ _ _ _ _ _ _ _ _ _ _ (simp append_assoc at e)

scalar_apart : (floor : ℕ) (names : List Name) (object : Bool) (x : Scalar) (is : Items) (r s : List ℕ) → encode floor names (nest object is) ++ r ≡ scalar_bytes x ++ s → ⊥
unfolding encode scalar_bytes list_bytes object_bytes list_header object_header
scalar_apart floor names true x is r s e = object_not_scalar _ _ _ _ _ _ _ _ _ (first_low x.stored_type (length x.payload)) (simp append_assoc at e)
scalar_apart floor names false x is r s e = list_not_scalar _ _ _ _ _ _ _ (first_low x.stored_type (length x.payload)) (simp append_assoc at e)

module _ (floor : ℕ) (names : List Name) where
  -- a sound container's items are sound
  pub inside : {object : Bool} {is : Items} → Sound floor names (nest object is) → SoundItems floor names object is
  unfolding encode list_bytes object_bytes
  inside {object = true} h = record { formed = h.formed; held = h.held; small = omega (arith, simp length-append at h.small) }
  inside {object = false} h = record { formed = h.formed; held = h.held; small = omega (arith, simp length-append at h.small) }

  pub first_item : {object : Bool} {m : Label} {t : Tree} {is : Items} → SoundItems floor names object (item m t is) → Sound floor names t
  unfolding parts_of data_of
  first_item h = record { formed = h.formed.1; held = h.held.1; small = omega (arith, simp length-append at h.small) }

  pub other_items : {object : Bool} {m : Label} {t : Tree} {is : Items} → SoundItems floor names object (item m t is) → SoundItems floor names object is
  unfolding parts_of data_of
  other_items h = record { formed = h.formed.2; held = h.held.2; small = omega (arith, simp length-append at h.small) }

  not_empty : (t : Tree) (r : List ℕ) → [] ≡ encode floor names t ++ r → ⊥
  not_empty t r e = let f = encode_some floor names t in omega (arith, simp length-append at (ap length e))

module _ (floor : ℕ) (names : List Name) (few : length names ≤ 256 ^ 4) where
  nest_split : (object other : Bool) (is js : Items) (r s : List ℕ) → Sound floor names (nest object is) → Sound floor names (nest other js)
      → (data_of (parts_of floor names is) ≡ data_of (parts_of floor names js) → trees_of is ≡ trees_of js) → encode floor names (nest object is) ++ r ≡ encode floor names (nest other js) ++ s
      → (nest object is ≡ nest other js) × (r ≡ s)
  unfolding encode list_bytes object_bytes
  nest_split false false is js r s h k g e =
      let ps = parts_of floor names is in
      let qs = parts_of floor names js in
      let t = written_list_split floor floor (data_of ps ++ r) (data_of qs ++ s) (list_bounded floor ps h.small) (list_bounded floor qs k.small) (simp append_assoc at e) in
      let d = append_split (data_of ps) (data_of qs) r s t.size t.rest in
      (ap (nest false) (elements_read is js h.formed k.formed (g d.0)), d.1)
  nest_split false true is js r s h k g e = absurd (kinds_apart floor names (parts_of floor names is) (parts_of floor names js) r s e)
  nest_split true false is js r s h k g e = absurd (kinds_apart floor names (parts_of floor names js) (parts_of floor names is) s r (sym e))
  nest_split true true is js r s h k g e =
      let ps = parts_of floor names is in
      let qs = parts_of floor names js in
      let es = fields_from names 0 ps in
      let fs = fields_from names 0 qs in
      let t = written_object_split floor floor (data_of ps ++ r) (data_of qs ++ s) (object_bounded floor names is h.held few h.small) (object_bounded floor names js k.held few k.small) (simp append_assoc at e) in
      let d = append_split (data_of ps) (data_of qs) r s t.list.size t.list.rest in
      let q = entries_equal (sort names es) (sort names fs) t.ids t.list.offsets in (
        ap (nest true)
            (labels_read floor names 0 is js h.formed k.formed h.held k.held (g d.0) (sort_incl names es fs q) (sort_incl names fs es (sym q))),
        d.1,
      )

  mutual
    unfolding encode data_of

    pub tree_split : (t u : Tree) (r s : List ℕ) → Sound floor names t → Sound floor names u → encode floor names t ++ r ≡ encode floor names u ++ s → (t ≡ u) × (r ≡ s)
    tree_split (scalar x) (scalar y) r s h k e = let v = scalar_split x y r s h.formed.whole k.formed.whole e in (ap scalar v.0, v.1)
    tree_split (scalar x) (nest other js) r s h k e = absurd (scalar_apart floor names other x js s r (sym e))
    tree_split (nest object is) (scalar y) r s h k e = absurd (scalar_apart floor names object y is r s e)
    tree_split (nest object is) (nest other js) r s h k e = nest_split object other is js r s h k (λ d. items_split object other is js (inside floor names h) (inside floor names k) d) e

    pub items_split : (object other : Bool) (is js : Items) → SoundItems floor names object is → SoundItems floor names other js → data_of (parts_of floor names is) ≡ data_of (parts_of floor names js) → trees_of is ≡ trees_of js
    items_split object other empty empty h k e = refl
    items_split object other empty (item n u js) h k e = absurd (not_empty floor names u (data_of (parts_of floor names js)) e)
    items_split object other (item m t is) empty h k e = absurd (not_empty floor names t (data_of (parts_of floor names is)) (sym e))
    items_split object other (item m t is) (item n u js) h k e =
        let v = tree_split t u (data_of (parts_of floor names is)) (data_of (parts_of floor names js)) (first_item floor names h) (first_item floor names k) e in
        let p = v.0 in
        let w = items_split object other is js (other_items floor names h) (other_items floor names k) v.1 in
        cc

  pub tree_inj : (t u : Tree) → Sound floor names t → Sound floor names u → encode floor names t ≡ encode floor names u → t ≡ u
  tree_inj t u h k e = (tree_split t u [] [] h k (ap (λ b. b ++ []) e)).0

-- ---- names that come later
module _ (names more : List Name) where
  pub label_grows : (m : Label) → HeldLabel names m → HeldLabel (names ++ more) m
  label_grows element h = h
  label_grows (live n) h = omega (arith, place_held n names more h, length-append names more)
  label_grows replaced h = h

  mutual
    pub held_grows : (t : Tree) → Held names t → Held (names ++ more) t
    held_grows (scalar s) h = h
    held_grows (nest object is) h = items_grow is h

    pub items_grow : (is : Items) → HeldItems names is → HeldItems (names ++ more) is
    items_grow empty h = h
    items_grow (item m t is) h = (label_grows m h.0, held_grows t h.1, items_grow is h.2)

  field_grows : (at : ℕ) (m : Label) (es : List Entry) → HeldLabel names m → with_field (names ++ more) at m es ≡ with_field names at m es
  unfolding with_field
  field_grows at element es h = refl
  field_grows at (live n) es h = rw (place_held n names more h)
  field_grows at replaced es h = refl

module _ (floor : ℕ) (names more : List Name) where
  pub fields_grow : (at : ℕ) (is : Items) → HeldItems names is → fields_from (names ++ more) at (parts_of floor names is) ≡ fields_from names at (parts_of floor names is)
  unfolding parts_of fields_from
  fields_grow at empty h = refl
  fields_grow at (item m t is) h =
      let next = at + length (encode floor names t) in
      ap (with_field (names ++ more) at m) (fields_grow next is h.2) ∙ field_grows names more at m (fields_from names next (parts_of floor names is)) h.0

  pub sorted_grow : (is : Items) → HeldItems names is → sort (names ++ more) (fields_from (names ++ more) 0 (parts_of floor names is)) ≡ sort names (fields_from names 0 (parts_of floor names is))
  sorted_grow is h =
      let size = length (data_of (parts_of floor names is)) in
      let es = fields_from names 0 (parts_of floor names is) in
      ap (sort (names ++ more)) (fields_grow 0 is h) ∙ sort_grows names more es (ids_bounded (length names) size es (fields_placed floor names 0 size is h (omega arith)))

  nest_grows : (object : Bool) (is : Items) → HeldItems names is → parts_of floor (names ++ more) is ≡ parts_of floor names is → encode floor (names ++ more) (nest object is) ≡ encode floor names (nest object is)
  unfolding encode object_bytes
  nest_grows true is h e = rw (e, sorted_grow is h)
  nest_grows false is h e = rw e

  mutual
    unfolding encode

    pub encode_grows : (t : Tree) → Held names t → encode floor (names ++ more) t ≡ encode floor names t
    encode_grows (scalar s) h = refl
    encode_grows (nest object is) h = nest_grows object is h (parts_grow is h)

    pub parts_grow : (is : Items) → HeldItems names is → parts_of floor (names ++ more) is ≡ parts_of floor names is
    parts_grow empty h = refl
    parts_grow (item m t is) h =
        let p = encode_grows t h.1 in
        let q = parts_grow is h.2 in
        λ i. record { label = m; bytes = p i } ∷ q i

  pub sound_grows : {t : Tree} → Sound floor names t → Sound floor (names ++ more) t
  sound_grows {t} h = record { formed = h.formed; held = held_grows names more t h.held; small = rw (encode_grows t h.held) h.small }

-- A kept tree's bytes are laid out from its reading, and where its scalars are in range and it is not too deep, the reading fits.
use mathlib.Core.Path.{◌≡◌, refl, sym, ◌∙◌, ap}
use mathlib.Core.Logic.{inl, inr}
use mathlib.Core.Bool.{Bool, true, false, not, ◌||◌, true≢false, false≢true}
use mathlib.Core.List.{List, [], ◌∷◌, ◌++◌, map}
use Prim.Native.Nat.{ℕ, ◌+◌, ◌-◌, ◌^◌, ◌≤◌, ◌<◌}
use native.Mathlib.Omega.{arith}
use lib.Dec.{eqb}
use lib.ListN.{length}
use borrow.Author.Tests.{eqb-true, eq-eqb}
use Rattle.encoding.specs.Width.{width_at}
use Rattle.value.specs.Scalar.{Scalar}
use Rattle.metadata.specs.Names.{Name, below, ascending}
use Rattle.metadata.specs.Bytes.{joined}
use Rattle.metadata.proofs.DictionaryLaws.{below_self}
use Rattle.container.specs.declared.Entry.{Entry}
use Rattle.container.specs.Layout.{count_size, list_header, object_header, large, largest}
use Rattle.container.specs.Entries.{ids_of, offsets_of}
use Rattle.container.specs.Sort.{name_at, sort}
use Rattle.container.proofs.EntryLaws.{ids_bounded}
use Rattle.container.proofs.LayoutLaws.{HoldsList, HoldsObject, list_holds, object_holds}
use Rattle.container.proofs.SortLaws.{Mem, Ascending, name_of, below_sort, sort_mem, sort_ascending}
use Rattle.measure.proofs.ValueLaws as measure
use Rattle.semantics.specs.Tree.{Label, element, live, replaced, Tree, scalar, nest, Items, empty, item, Part, data_of, starts_from, with_field, fields_from, list_bytes, object_bytes, encode, parts_of}
use Rattle.semantics.proofs.TreeLaws.{Sound, SoundItems, HeldItems, ApartItems, Apart, encode_some, fields_after, fields_apart, fields_placed, list_bounded, object_bounded, inside, first_item, other_items}
use Rattle.lexicon.proofs.DictionaryLaws.{with_both, below_each}
use Rattle.grammar.specs.Scalars.{outside}
use Rattle.grammar.specs.Grammar.{Plain, HeldList, HeldObject, layout, layouts, among, starting, Fields, Fits, FitsAll, ReadsValue}
use Rattle.grammar.specs.Grammar as grammar
use Rattle.grammar.proofs.ScalarLaws.{code_known}
use Rattle.accept.specs.Shape.{shape_of, shapes_of, Within, WithinItems}

-- ---- the bytes

bytes_of : List Part → List (List ℕ)
bytes_of ps = map (λ (p : Part). p.bytes) ps

joined_data : (ps : List Part) → joined (bytes_of ps) ≡ data_of ps
unfolding joined data_of bytes_of
joined_data [] = refl
joined_data (p ∷ ps) = ap (λ l. p.bytes ++ l) (joined_data ps)

starts_data : (at : ℕ) (ps : List Part) → grammar.starts_from at (bytes_of ps) ≡ starts_from at ps
unfolding grammar.starts_from starts_from bytes_of
starts_data at [] = refl
starts_data at (p ∷ ps) = ap (λ l. at ∷ l) (starts_data (at + length p.bytes) ps)

module _ (floor : ℕ) (names : List Name) where
  nest_laid : (object : Bool) (is : Items) → layouts (shapes_of floor names is) ≡ bytes_of (parts_of floor names is)
      → layout (shape_of floor names (nest object is)) ≡ encode floor names (nest object is)
  unfolding layout shape_of encode list_bytes object_bytes list_header object_header
  nest_laid true is e = let j = ap joined e ∙ joined_data (parts_of floor names is) in rw j refl
  nest_laid false is e =
      let j = ap joined e ∙ joined_data (parts_of floor names is) in
      let s = ap (grammar.starts_from 0) e ∙ starts_data 0 (parts_of floor names is) in
      rw (j, s) refl

  mutual
    unfolding layout shape_of encode bytes_of

    -- THE BYTES are those laid out from the reading, under every floor
    pub tree_laid : (t : Tree) → layout (shape_of floor names t) ≡ encode floor names t
    tree_laid (scalar s) = refl
    tree_laid (nest object is) = nest_laid object is (items_laid is)

    items_laid : (is : Items) → layouts (shapes_of floor names is) ≡ bytes_of (parts_of floor names is)
    items_laid empty = refl
    items_laid (item m t is) =
        let p = tree_laid t in
        let q = items_laid is in
        λ i. p i ∷ q i

-- ---- scalars

in_range : (s : Scalar) → measure.Plain s → outside s.stored_type s.payload ≡ false → Plain s
in_range s h r = record { whole = h.whole; known = code_known s.stored_type h.known; range = r }

-- ---- headers

holds_list : {w : ℕ} {big : Bool} {os : List ℕ} {n : ℕ} → HoldsList w big os n → HeldList w big os n
holds_list {w} {big} {os} {n} h =
    record {
      least = h.width.0;
      most = h.width.1;
      count = below_each (256 ^ count_size big) (length os ∷ []) (h.count, tt);
      numbers = below_each (256 ^ w) os h.offsets;
      data_size = below_each (256 ^ w) (n ∷ []) (h.size, tt);
    }

holds_object : {w v : ℕ} {big : Bool} {is os : List ℕ} {n : ℕ} → HoldsObject w v big is os n → HeldObject w v big is os n
holds_object {w} {v} {big} {is} {os} {n} h =
    record {
      list = holds_list (record { width = h.width; count = rw h.pairs h.count; offsets = h.offsets; size = h.size });
      least = h.id_width.0;
      most = h.id_width.1;
      numbers = below_each (256 ^ v) is h.ids;
    }

-- ---- an object's fields

among_here : (n : ℕ) (ms : List ℕ) → among n (n ∷ ms) ≡ true
unfolding among
among_here n ms = rw (eq-eqb n n refl)

among_later : (n m : ℕ) (ms : List ℕ) → among n ms ≡ true → among n (m ∷ ms) ≡ true
unfolding among
among_later n m ms h = go (eqb n m)
  where
    go : (t : Bool) → (t || among n ms) ≡ true
    go true = refl
    go false = h

found : (n : ℕ) (es : List Entry) → among n (offsets_of es) ≡ true → (f : Entry) × Mem f es × (n ≡ f.offset)
unfolding among
found n [] h = absurd (false≢true h)
found n (e ∷ es) h = go (eqb n e.offset) refl h (found n es)
  where
    go : (t : Bool) → eqb n e.offset ≡ t → (t || among n (offsets_of es)) ≡ true → (among n (offsets_of es) ≡ true → (f : Entry) × Mem f es × (n ≡ f.offset))
        → (f : Entry) × Mem f (e ∷ es) × (n ≡ f.offset)
    go true p q k = (e, inl refl, eqb-true n e.offset p)
    go false p q k = let r = k q in (r.0, inr r.1, r.2)

module _ (names : List Name) where
  ascend : (es : List Entry) → Ascending names es → ascending (map (name_at names) (ids_of es)) ≡ true
  unfolding ascending
  ascend [] a = refl
  ascend (e ∷ []) a = refl
  ascend (e ∷ (f ∷ es)) a = with_both (a.0 f (inl refl)) (ascend (f ∷ es) a.1)

  -- an offset that is named twice would be that of one entry, whose name is below itself
  starting_each : (starts : List ℕ) (es : List Entry) → ((e : Entry) → Mem e es → among e.offset starts ≡ true)
      → ((e f : Entry) → Mem e es → Mem f es → e.offset ≡ f.offset → e ≡ f) → Ascending names es → starting starts (offsets_of es) ≡ true
  unfolding starting
  starting_each starts [] i s a = refl
  starting_each starts (e ∷ es) i s a =
      with_both (i e (inl refl))
      (with_both (once (among e.offset (offsets_of es)) refl)
      (starting_each starts es (λ f m. i f (inr m)) (λ f g m n. s f g (inr m) (inr n)) a.1))
    where
      once : (t : Bool) → among e.offset (offsets_of es) ≡ t → not t ≡ true
      once false p = refl
      once true p =
          let r = found e.offset es p in
          let same : e ≡ r.0 = s e r.0 (inl refl) (inr r.1) r.2 in
          let b : below (name_of names e) (name_of names r.0) ≡ true = a.0 r.0 r.1 in
          absurd (true≢false (sym (rw (← same) at b) ∙ below_self (name_of names e)))

  fields_among : (at : ℕ) (ps : List Part) (e : Entry) → Mem e (fields_from names at ps) → among e.offset (starts_from at ps) ≡ true
  unfolding fields_from with_field starts_from
  fields_among at [] e m = absurd m
  fields_among at (p ∷ ps) e m = go p.label m (fields_among next ps e)
    where
      next : ℕ
      next = at + length p.bytes

      go : (k : Label) → Mem e (with_field names at k (fields_from names next ps))
          → (Mem e (fields_from names next ps) → among e.offset (starts_from next ps) ≡ true) → among e.offset (at ∷ starts_from next ps) ≡ true
      go element m f = among_later e.offset at (starts_from next ps) (f m)
      go (live n) (inl q) f = rw q (among_here at (starts_from next ps))
      go (live n) (inr m) f = among_later e.offset at (starts_from next ps) (f m)
      go replaced m f = among_later e.offset at (starts_from next ps) (f m)

module _ (floor : ℕ) (names : List Name) where
  -- two fields that start alike are one
  same_offset : (at : ℕ) (is : Items) (e f : Entry) → Mem e (fields_from names at (parts_of floor names is)) → Mem f (fields_from names at (parts_of floor names is))
      → e.offset ≡ f.offset → e ≡ f
  unfolding fields_from with_field parts_of
  same_offset at empty e f m n q = absurd m
  same_offset at (item k t is) e f m n q = go k m n (λ a b. same_offset next is e f a b q)
    where
      next : ℕ
      next = at + length (encode floor names t)

      rest : List Entry
      rest = fields_from names next (parts_of floor names is)

      late : (x : Entry) → Mem x rest → at < x.offset
      late x m = omega (arith, encode_some floor names t, fields_after names next (parts_of floor names is) x m)

      go : (k : Label) → Mem e (with_field names at k rest) → Mem f (with_field names at k rest) → (Mem e rest → Mem f rest → e ≡ f) → e ≡ f
      go element m n g = g m n
      go (live j) (inl a) (inl b) g = a ∙ sym b
      go (live j) (inl a) (inr b) g = absurd (omega (arith, late f b, ap (λ (x : Entry). x.offset) a))
      go (live j) (inr a) (inl b) g = absurd (omega (arith, late e a, ap (λ (x : Entry). x.offset) b))
      go (live j) (inr a) (inr b) g = g a b
      go replaced m n g = g m n

-- ---- a kept tree fits

module _ (floor : ℕ) (names : List Name) (few : length names ≤ 256 ^ 4) where
  list_fits : (is : Items) → length (encode floor names (nest false is)) < 256 ^ 4
      → HeldList (width_at floor (length (data_of (parts_of floor names is)))) (large (length (starts_from 0 (parts_of floor names is))))
      (grammar.starts_from 0 (layouts (shapes_of floor names is))) (length (joined (layouts (shapes_of floor names is))))
  unfolding encode
  list_fits is h =
      let ps = parts_of floor names is in
      rw (items_laid floor names is, starts_data 0 ps, joined_data ps) (holds_list (list_holds floor (list_bounded floor ps h)))

  object_fits : (is : Items) → Sound floor names (nest true is)
      → let fields = sort names (fields_from names 0 (parts_of floor names is)) in
      HeldObject (width_at floor (length (data_of (parts_of floor names is)))) (width_at floor (largest (ids_of fields))) (large (length (ids_of fields))) (ids_of fields)
      (offsets_of fields) (length (joined (layouts (shapes_of floor names is))))
  unfolding encode
  object_fits is h =
      let ps = parts_of floor names is in
      rw (items_laid floor names is, joined_data ps) (holds_object (object_holds floor (object_bounded floor names is h.held few h.small)))

  fields_fit : (is : Items) → HeldItems names is → ApartItems is
      → Fields names (sort names (fields_from names 0 (parts_of floor names is))) (grammar.starts_from 0 (layouts (shapes_of floor names is)))
  fields_fit is h a =
      let ps = parts_of floor names is in
      let es = fields_from names 0 ps in
      let size = length (data_of ps) in
      let up = sort_ascending names es (fields_apart floor names 0 is h a) in
      record {
        offsets =
            rw (items_laid floor names is, starts_data 0 ps)
            (starting_each names (starts_from 0 ps) (sort names es) (λ e m. fields_among names 0 ps e (sort_mem names es e m))
            (λ e f m n. same_offset floor names 0 is e f (sort_mem names es e m) (sort_mem names es f n)) up);
        ids =
            below_each (length names) (ids_of (sort names es))
            (below_sort names (λ e. e.id) (length names) es (ids_bounded (length names) size es (fields_placed floor names 0 size is h (omega arith))));
        order = ascend names (sort names es) up;
      }

  mutual
    unfolding shape_of

    pub tree_fits : (d : ℕ) (t : Tree) → Sound floor names t → Apart t → Within d t → Fits names d (shape_of floor names t)
    tree_fits d (scalar s) h a w = in_range s h.formed w
    tree_fits d (nest false is) h a w = (w.0, list_fits is h.small, items_fit (d - 1) false is (inside floor names h) a w.1)
    tree_fits d (nest true is) h a w = (w.0, object_fits is h, fields_fit is h.held a, items_fit (d - 1) true is (inside floor names h) a w.1)

    items_fit : (d : ℕ) (object : Bool) (is : Items) → SoundItems floor names object is → ApartItems is → WithinItems d is → FitsAll names d (shapes_of floor names is)
    items_fit d object empty h a w = tt
    items_fit d object (item m t is) h a w =
        (tree_fits d t (first_item floor names h) a.1 w.0, items_fit d object is (other_items floor names h) a.2 w.1)

  -- A TREE'S BYTES are accepted, under every floor, and read as the tree: names held and apart, scalars in range, at most 64 containers
  -- one in another
  pub tree_accepted : (t : Tree) → Sound floor names t → Apart t → Within 64 t → ReadsValue names (encode floor names t) (shape_of floor names t)
  tree_accepted t h a w = record { laid = sym (tree_laid floor names t); fits = tree_fits 64 t h a w; size = let s = h.small in omega arith }

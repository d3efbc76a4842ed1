-- How many bytes the new pair has.
use mathlib.Core.Path.{◌≡◌, refl, sym, ◌∙◌, ap}
use mathlib.Core.Logic.{inl}
use mathlib.Core.Bool.{Bool, true, false, true≢false}
use mathlib.Core.List.{List, []}
use mathlib.Core.Option.{none, some}
use Prim.Native.Nat.{ℕ, suc, ◌+◌, ◌-◌, ◌≤◌, ◌<◌, max}
use native.Mathlib.Omega.{arith}
use native.Mathlib.Decide.{dec_le}
use lib.ListN.{length, get_or, length-append}
use Rattle.value.specs.Scalar.{scalar_bytes}
use Rattle.metadata.specs.Names.{Name, below, place}
use Rattle.metadata.specs.Bytes.{joined, size_of as bytes_of_names}
use Rattle.metadata.proofs.DictionaryLaws.{place_here, below_asym}
use Rattle.metadata.proofs.BytesLaws.{dictionary_size}
use Rattle.container.specs.declared.Entry.{Entry}
use Rattle.container.specs.Layout.{largest, list_header, object_header}
use Rattle.container.specs.Entries.{ids_of, offsets_of}
use Rattle.container.specs.Sort.{sort}
use Rattle.container.proofs.LayoutLaws.{length_list}
use Rattle.container.proofs.SortLaws.{Mem, length_object_entries}
use Rattle.semantics.specs.Tree.{data_of, starts_from, with_field, fields_from, list_bytes, object_bytes, encode, parts_of}
use Rattle.semantics.specs.Tree as tree
use Rattle.semantics.proofs.TreeLaws.{Held, HeldItems}
use Rattle.live.specs.Live.{Live, leaf, nest, Lives, end, child}
use Rattle.live.proofs.ListLaws.{Rises}
use Rattle.canonical.specs.Canonical.{tree_of, items_of, in_use, one_value, one_dictionary}
use Rattle.canonical.specs.Sizes.{count, last_id, size_of, total}
use Rattle.canonical.proofs.UseLaws.{rises_at, in_use_rises, in_use_held}
use Rattle.canonical.proofs.GoodLaws.{Good, GoodAll}
use Rattle.canonical.proofs.AgainLaws.{fields, over_entries}

module _ (names : List Name) where
  pub fields_count : (d at : ℕ) (ls : Lives) → GoodAll d true ls → length (fields 1 names at ls) ≡ count ls
  unfolding fields tree_of parts_of fields_from with_field count
  fields_count d at end g = refl
  fields_count d at (child none v ls) g = absurd g.0
  fields_count d at (child (some n) v ls) g = ap suc (fields_count d (at + length (encode 1 names (tree_of v))) ls g.2)

  pub starts_count : (at : ℕ) (ls : Lives) → length (starts_from at (parts_of 1 names (items_of ls))) ≡ count ls
  unfolding tree_of parts_of starts_from count
  starts_count at end = refl
  starts_count at (child n v ls) = ap suc (starts_count (at + length (encode 1 names (tree_of v))) ls)

module _ (names : List Name) (r : Rises names) where
  -- an id whose name is above n comes behind n's
  place_up : (n : Name) (id : ℕ) → place n names < length names → below n (get_or names id []) ≡ true → place n names ≤ id
  place_up n id h b = go (dec_le (place n names) id)
    where
      go : Dec (place n names ≤ id) → place n names ≤ id
      go (yes p) = p
      go (no p) =
          let k = rises_at names id (place n names) r (omega arith) h in
          absurd (true≢false (sym (rw (place_here n names h) at k) ∙ below_asym n (get_or names id []) b))

  -- the last id is the largest
  last_largest : (d at id : ℕ) (ls : Lives) → GoodAll d true ls → HeldItems names (items_of ls) → ((e : Entry) → Mem e (fields 1 names at ls) → id ≤ e.id)
      → max id (largest (ids_of (fields 1 names at ls))) ≡ last_id names id ls
  unfolding fields tree_of parts_of fields_from with_field last_id largest
  last_largest d at id end g h l = omega arith
  last_largest d at id (child none v ls) g h l = absurd g.0
  last_largest d at id (child (some n) v ls) g h l =
      let next = at + length (encode 1 names (tree_of v)) in
      let up : (e : Entry) → Mem e (fields 1 names next ls) → place n names ≤ e.id =
      λ e m. place_up n e.id h.0 (over_entries 1 names n next ls g.0 h.2 e m) in
      let p = last_largest d next (place n names) ls g.2 h.2 up in
      let q : id ≤ place n names = l (record { id = place n names; offset = at }) (inl refl) in
      omega arith

  nest_size : (d : ℕ) (object : Bool) (ls : Lives) → GoodAll d object ls → HeldItems names (items_of ls)
      → length (data_of (parts_of 1 names (items_of ls))) ≡ total names ls
      → length (encode 1 names (tree.nest object (items_of ls))) ≡ size_of names (nest object ls)
  unfolding encode size_of list_bytes object_bytes fields
  nest_size d false ls g h e =
      let ps = parts_of 1 names (items_of ls) in
      length-append (list_header 1 (starts_from 0 ps) (length (data_of ps))) (data_of ps)
      ∙ rw (length_list 1 (starts_from 0 ps) (length (data_of ps)), starts_count names 0 ls, e) refl
  nest_size d true ls g h e =
      let ps = parts_of 1 names (items_of ls) in
      let es = fields 1 names 0 ls in
      let m : largest (ids_of es) ≡ last_id names 0 ls = omega (arith, last_largest d 0 0 ls g h (λ x k. omega arith)) in
      length-append (object_header 1 (ids_of (sort names es)) (offsets_of (sort names es)) (length (data_of ps))) (data_of ps)
      ∙ rw (length_object_entries names (length (data_of ps)) es 1, fields_count names d 0 ls g, m, e) refl

  mutual
    unfolding encode tree_of size_of data_of scalar_bytes

    -- THE SIZE of a live tree's bytes, over ascending names that hold its own
    pub encode_size : (d : ℕ) (l : Live) → Good d l → Held names (tree_of l) → length (encode 1 names (tree_of l)) ≡ size_of names l
    encode_size d (leaf l) g h = refl
    encode_size d (nest object ls) g h = nest_size (d - 1) object ls g.1 h (data_size_lem (d - 1) object ls g.1 h)

    pub data_size_lem : (d : ℕ) (object : Bool) (ls : Lives) → GoodAll d object ls → HeldItems names (items_of ls)
        → length (data_of (parts_of 1 names (items_of ls))) ≡ total names ls
    data_size_lem d object end g h = refl
    data_size_lem d object (child n l ls) g h =
        length-append (encode 1 names (tree_of l)) (data_of (parts_of 1 names (items_of ls)))
        ∙ (λ i. encode_size d l g.1 h.1 i + data_size_lem d object ls g.2 h.2 i)

-- what 14 compares with its output
pub value_size : (d : ℕ) (l : Live) → Good d l → length (one_value l) ≡ size_of (in_use l) l
unfolding one_value
value_size d l g = encode_size (in_use l) (in_use_rises l) d l g (in_use_held l)

-- and 16
pub dictionary_is : (l : Live) → length (one_dictionary l) ≡ bytes_of_names 1 (length (in_use l)) (length (joined (in_use l)))
unfolding one_dictionary
dictionary_is l = dictionary_size 1 (in_use l)

-- A tree's bytes are one value by its first bytes, whatever comes behind them; and a container's data is as many values as it has items, which
-- start where the items do.
use mathlib.Core.Path.{◌≡◌, refl, sym, ◌∙◌, ap}
use mathlib.Core.Bool.{Bool, true, false}
use mathlib.Core.List.{List, [], ◌∷◌, ◌++◌, append_assoc, map}
use Prim.Native.Nat.{ℕ, ◌+◌, ◌^◌, ◌≤◌, ◌<◌}
use native.Mathlib.Omega.{arith}
use lib.ListN.{length, length-append, length-map}
use Rattle.encoding.specs.Width.{width_at}
use Rattle.encoding.proofs.WidthLaws.{width_at_low, width_at_high, width_at_holds}
use Rattle.metadata.specs.Names.{Name}
use Rattle.container.specs.Layout.{large, largest, list_header, object_header}
use Rattle.container.specs.Entries.{ids_of, offsets_of}
use Rattle.container.specs.Sort.{sort}
use Rattle.container.proofs.LayoutLaws.{Width, count_held, list_holds, object_count_lem}
use Rattle.measure.specs.Measure.{starts_in, whole_values}
use Rattle.measure.proofs.ValueLaws.{Value, Values, end_to_end, starts_of, scalar_value, list_value, object_told, whole_parts, starts_parts}
use Rattle.semantics.specs.Tree.{Tree, scalar, nest, Items, empty, item, Part, data_of, starts_from, fields_from, list_bytes, object_bytes, encode, parts_of}
use Rattle.semantics.specs.Ledger.{item_count}
use Rattle.semantics.proofs.TreeLaws.{Formed, FormedItems, encode_some, list_bounded}

data_parts : (ps : List Part) → data_of ps ≡ end_to_end (map (λ p. p.bytes) ps)
unfolding data_of end_to_end
data_parts [] = refl
data_parts (p ∷ ps) = ap (λ z. p.bytes ++ z) (data_parts ps)

starts_are : (at : ℕ) (ps : List Part) → starts_from at ps ≡ starts_of at (map (λ p. p.bytes) ps)
unfolding starts_from starts_of
starts_are at [] = refl
starts_are at (p ∷ ps) = ap (λ z. at ∷ z) (starts_are (at + length p.bytes) ps)

module _ (floor : ℕ) (names : List Name) where
  -- THE MEASURE of a tree's bytes, whatever comes behind them
  pub tree_value : (t : Tree) → Formed t → length (encode floor names t) < 256 ^ 4 → Value (encode floor names t)
  unfolding encode list_bytes list_header object_bytes object_header
  tree_value (scalar s) f l = scalar_value s f
  tree_value (nest false is) f l =
      let ps = parts_of floor names is in
      let os = starts_from 0 ps in
      let n = length (data_of ps) in
      list_value (width_at floor n) (large (length os)) os (data_of ps) (list_holds floor (list_bounded floor ps l))
  tree_value (nest true is) f l =
      let ps = parts_of floor names is in
      let fields = sort names (fields_from names 0 ps) in
      let ids = ids_of fields in
      let os = offsets_of fields in
      let n = length (data_of ps) in
      let header = object_header floor ids os n in
      let e : length os ≡ length ids = length-map fields (λ x. x.offset) ∙ sym (length-map fields (λ x. x.id)) in
      let k = length-append header (data_of ps) in
      let c = object_count_lem floor ids os n e in
      let w = width_at floor n in
      let v = width_at floor (largest ids) in
      let few = count_held (length ids) (omega arith) in
      let size = width_at_holds floor n (omega arith) in
      let one : Width w = (width_at_low floor n, width_at_high floor n) in
      let two : Width v = (width_at_low floor (largest ids), width_at_high floor (largest ids)) in
      record { some = encode_some floor names (nest true is); told = λ rest. rw append_assoc (object_told w v (large (length ids)) ids os n (data_of ps ++ rest) one two few e size ∙ sym k) }

  items_values : (object : Bool) (is : Items) → FormedItems object is → length (data_of (parts_of floor names is)) < 256 ^ 4 → Values (map (λ p. p.bytes) (parts_of floor names is))
  unfolding parts_of data_of
  items_values object empty f l = tt
  items_values object (item m t is) f l =
      let k = length-append (encode floor names t) (data_of (parts_of floor names is)) in
      (tree_value t f.1 (omega arith), items_values object is f.2 (omega arith))

  parts_count : (is : Items) → length (map (λ p. p.bytes) (parts_of floor names is)) ≡ item_count is
  unfolding parts_of item_count
  parts_count empty = refl
  parts_count (item m t is) = omega (arith, parts_count is)

  -- no value is empty, so that there are no more of them than bytes
  pub items_low : (is : Items) → item_count is ≤ length (data_of (parts_of floor names is))
  unfolding parts_of data_of item_count
  items_low empty = omega arith
  items_low (item m t is) = omega (arith, items_low is, encode_some floor names t, length-append (encode floor names t) (data_of (parts_of floor names is)))

  -- THE DATA of a container's items is as many whole values
  pub items_whole : (object : Bool) (is : Items) → FormedItems object is → length (data_of (parts_of floor names is)) < 256 ^ 4 → whole_values (item_count is) (data_of (parts_of floor names is)) ≡ true
  items_whole object is f l =
      let ps = parts_of floor names is in
      rw (← parts_count is, data_parts ps) (whole_parts (map (λ p. p.bytes) ps) (items_values object is f l))

  -- THEIR STARTS are had again by walking it
  pub items_starts : (object : Bool) (is : Items) → FormedItems object is → length (data_of (parts_of floor names is)) < 256 ^ 4
      → starts_in (item_count is) 0 (data_of (parts_of floor names is)) ≡ starts_from 0 (parts_of floor names is)
  items_starts object is f l =
      let ps = parts_of floor names is in
      rw (← parts_count is, data_parts ps, starts_are 0 ps) (starts_parts 0 (map (λ p. p.bytes) ps) (items_values object is f l))

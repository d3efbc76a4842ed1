-- The reading of a tree that a run keeps: what its bytes (`encode`) hold and choose, by document 01's rules and the floor of document 02's A10.
use Rattle.std.specs.Prelude.{◌≡◌, true, false, List, ℕ, ◌-◌, ◌<◌, length}
use Rattle.encoding.specs.Width.{width_at}
use Rattle.metadata.specs.Names.{Name}
use Rattle.container.specs.Layout.{large, largest}
use Rattle.container.specs.Entries.{ids_of}
use Rattle.container.specs.Sort.{sort}
use Rattle.semantics.specs.Tree.{Tree, scalar, nest, Items, empty, item, data_of, fields_from, parts_of, starts_from}
use Rattle.grammar.specs.Grammar.{Shape, Shapes}
use Rattle.grammar.specs.Grammar as grammar
use Rattle.grammar.specs.Scalars.{outside}

unfoldable mutual
  pub shape_of : ℕ → List Name → Tree → Shape
  shape_of floor names (scalar s) = grammar.scalar s
  shape_of floor names (nest true is) =
      let ps = parts_of floor names is in
      let fields = sort names (fields_from names 0 ps) in
      let w = width_at floor (length (data_of ps)) in
      let v = width_at floor (largest (ids_of fields)) in
      grammar.object w v (large (length (ids_of fields))) fields (shapes_of floor names is)
  shape_of floor names (nest false is) =
      let ps = parts_of floor names is in
      grammar.list (width_at floor (length (data_of ps))) (large (length (starts_from 0 ps))) (shapes_of floor names is)

  pub shapes_of : ℕ → List Name → Items → Shapes
  shapes_of floor names empty = grammar.none
  shapes_of floor names (item m t is) = grammar.more (shape_of floor names t) (shapes_of floor names is)

-- every scalar is in range, and at most d containers lie one in another
abbrev mutual
  pub Within : ℕ → Tree → Type 0
  Within d (scalar s) = outside s.stored_type s.payload ≡ false
  Within d (nest object is) = (0 < d) × WithinItems (d - 1) is

  pub WithinItems : ℕ → Items → Type 0
  WithinItems d empty = Unit {0}
  WithinItems d (item m t is) = Within d t × WithinItems d is

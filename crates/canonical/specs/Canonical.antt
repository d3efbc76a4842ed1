-- Document 02, A11: "From an accepted pair, write the pair whose dictionary has just the names in use, strictly ascending, data in name order, replaced
-- values gone, texts to 63 bytes short, least widths, the sorted mark by A3." It is written for the live tree that the pair holds (crates/live), in which
-- replaced values are gone and an object's fields stand in order of names.
use Rattle.std.specs.Prelude.{◌≡◌, ◌⊎◌, cond, List, [], ◌∷◌, ℕ}
use Rattle.std.proofs.Math.Option.{Option, none, some}
use Rattle.value.specs.Scalar.{Scalar, plain}
use Rattle.metadata.specs.Names.{Name, same, below}
use Rattle.metadata.specs.Bytes.{dictionary}
use Rattle.semantics.specs.Tree.{Label, Tree, Items, encode}
use Rattle.semantics.specs.Tree as tree
use Rattle.live.specs.Live.{Leaf, text, other, Live, leaf, nest, Lives, end, child}

-- ---- the new dictionary's names

-- a name put among ascending ones, once
unfoldable pub put : Name → List Name → List Name
put n [] = n ∷ []
put n (m ∷ ms) = cond (below n m) (n ∷ (m ∷ ms)) (cond (same n m) (m ∷ ms) (m ∷ put n ms))

abbrev pub put_label : Option Name → List Name → List Name
put_label none names = names
put_label (some n) names = put n names

-- the names of live fields, at any depth, put among those already there
unfoldable mutual
  pub used : Live → List Name → List Name
  used (leaf l) names = names
  used (nest object ls) names = used_all ls names

  pub used_all : Lives → List Name → List Name
  used_all end names = names
  used_all (child n l ls) names = put_label n (used l (used_all ls names))

-- "just the names in use, strictly ascending"
abbrev pub in_use : Live → List Name
in_use l = used l []

-- what "in use" says: n names a live field, at any depth
abbrev mutual
  pub Uses : Name → Live → Type 0
  Uses n (leaf l) = ⊥
  Uses n (nest object ls) = UsesAny n ls

  pub UsesAny : Name → Lives → Type 0
  UsesAny n end = ⊥
  UsesAny n (child m l ls) = (m ≡ some n) ⊎ (Uses n l ⊎ UsesAny n ls)

-- ---- the new value's tree

-- "texts to 63 bytes short"
abbrev pub scalar_of : Leaf → Scalar
scalar_of (text bytes) = plain bytes
scalar_of (other s) = s

abbrev pub label_of : Option Name → Label
label_of none = tree.element
label_of (some n) = tree.live n

-- "data in name order": fields as they stand in the live tree; none is replaced
unfoldable mutual
  pub tree_of : Live → Tree
  tree_of (leaf l) = tree.scalar (scalar_of l)
  tree_of (nest object ls) = tree.nest object (items_of ls)

  pub items_of : Lives → Items
  items_of end = tree.empty
  items_of (child n l ls) = tree.item (label_of n) (tree_of l) (items_of ls)

-- ---- the one pair

-- "least widths": document 01's layout at floor 1
unfoldable pub one_value : Live → List ℕ
one_value l = encode 1 (in_use l) (tree_of l)

-- "the sorted mark by A3", which every dictionary has
unfoldable pub one_dictionary : Live → List ℕ
one_dictionary l = dictionary 1 (in_use l)

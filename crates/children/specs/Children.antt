-- For the code: a value's live children, found in bytes that are not looked at otherwise: a list's elements and an object's fields, as the header has
-- them. proofs/HoldLaws says that over a reading these are the children of its live tree.
use Rattle.std.specs.Prelude.{Option as Maybe, Some, None, ◌≡◌, Bool, cond, List, [], ◌∷◌, ℕ, ◌+◌, ◌%◌, ◌<◌, eqb, ltb, get_or, length}
use Rattle.std.proofs.Math.Option.{Option, none, some}
use Rattle.metadata.specs.Names.{Name}
use Rattle.container.specs.Sort.{name_at}
use Rattle.grammar.specs.Grammar.{Shape, layout, Fits}
use Rattle.grammar.specs.Tests.{list_from, list_offsets, object_from, object_offsets, stored_ids}
use Rattle.header_reader.specs.Heads.{Head, value_from}
use Rattle.header_reader.specs.Kinds.{is_list, is_object}
use Rattle.live.specs.Live.{Live, Lives, end, child, live_of}

-- ---- in bytes

-- a child: its name, which an element has not, and its bytes
pub record Part : Type 0 where
  pub label : Option Name
  pub bytes : List ℕ

-- the name of an id, where it is held
abbrev pub held_name : List Name → ℕ → Option Name
held_name names id = cond (ltb id (length names)) (some (name_at names id)) none

-- by their offsets; of an object by ids and offsets
unfoldable pub element_parts : List ℕ → List ℕ → List Part
element_parts v [] = []
element_parts v (o ∷ os) = record { label = none; bytes = value_from (list_from v + o) v } ∷ element_parts v os

unfoldable pub field_parts : List Name → List ℕ → List ℕ → List ℕ → List Part
field_parts names v [] os = []
field_parts names v (i ∷ is) [] = []
field_parts names v (i ∷ is) (o ∷ os) = record { label = held_name names i; bytes = value_from (object_from v + o) v } ∷ field_parts names v is os

-- a scalar has none
unfoldable pub parts_of : List Name → List ℕ → List Part
parts_of names v = cond (is_list v) (element_parts v (list_offsets v)) (cond (is_object v) (field_parts names v (stored_ids v) (object_offsets v)) [])

-- the bytes of child k, and its name; none where there is no such child
abbrev pub no_part : Part
no_part = record { label = none; bytes = [] }

unfoldable pub part_at : List Name → List ℕ → ℕ → Part
part_at names v k = get_or (parts_of names v) k no_part

-- its bytes, if there is such a child; they do not depend on the names
abbrev pub child_bytes : List ℕ → ℕ → Maybe (List ℕ)
child_bytes v k = cond (ltb k (length (parts_of [] v))) (Some (part_at [] v k).bytes) None

-- a header counts them, and by its offsets says where each lies
pub record Counts (v : List ℕ) (h : Head) : Type 0 where
  pub count : h.count ≡ length (parts_of [] v)
  pub bytes : (k : ℕ) → k < h.count → (part_at [] v k).bytes ≡ value_from (h.from + get_or h.offsets k 0) v

-- ---- over a reading

-- the bytes are those of a value that fits over these names, with at most d containers one in another, and this is its live tree
pub record Holds (names : List Name) (d : ℕ) (v : List ℕ) (l : Live) : Type 0 where
  pub shape : Shape
  pub fits : Fits names d shape
  pub laid : v ≡ layout shape
  pub tree : l ≡ live_of names shape

-- child by child
abbrev pub HoldsAll : List Name → ℕ → List Part → Lives → Type 0
HoldsAll names d [] end = Unit {0}
HoldsAll names d [] (child n l ls) = ⊥
HoldsAll names d (p ∷ ps) end = ⊥
HoldsAll names d (p ∷ ps) (child n l ls) = (p.label ≡ n) × Holds names d p.bytes l × HoldsAll names d ps ls

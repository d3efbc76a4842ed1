-- Values as trees, and the bytes that document 01's layout gives to them.
use Rattle.std.specs.Prelude.{Bool, cond, List, [], ◌∷◌, ◌++◌, ℕ, ◌+◌, length}
use Rattle.value.specs.Scalar.{Scalar, scalar_bytes}
use Rattle.metadata.specs.Names.{Name, place}
use Rattle.container.specs.Layout.{list_header, object_header}
use Rattle.container.specs.Entries.{ids_of, offsets_of}
use Rattle.container.specs.Sort.{sort}
use Rattle.container.specs.declared.Entry.{Entry}

-- document 01, an item "is live" under its name, or "becomes replaced and loses that name"; a list's is an element
pub data Label : Type 0 where
  element : Label
  live : Name → Label
  replaced : Label

-- a scalar, or a closed container: "its kind and items"
mutual
  pub data Tree : Type 0 where
    scalar : Scalar → Tree
    nest : Bool → Items → Tree

  pub data Items : Type 0 where
    empty : Items
    item : Label → Tree → Items → Items

-- an item as its container sees it
pub record Part : Type 0 where
  pub label : Label
  pub bytes : List ℕ

-- document 01, "An offset counts from the container's first data byte": the items' bytes one behind the other, where each
-- starts, and the entries of the live ones
unfoldable pub data_of : List Part → List ℕ
data_of [] = []
data_of (p ∷ ps) = p.bytes ++ data_of ps

unfoldable pub starts_from : ℕ → List Part → List ℕ
starts_from at [] = []
starts_from at (p ∷ ps) = at ∷ starts_from (at + length p.bytes) ps

unfoldable pub with_field : List Name → ℕ → Label → List Entry → List Entry
with_field names at element es = es
with_field names at (live n) es = record { id = place n names; offset = at } ∷ es
with_field names at replaced es = es

unfoldable pub fields_from : List Name → ℕ → List Part → List Entry
fields_from names at [] = []
fields_from names at (p ∷ ps) = with_field names at p.label (fields_from names (at + length p.bytes) ps)

-- a list's and an object's bytes, by the floor under their widths
unfoldable pub list_bytes : ℕ → List Part → List ℕ
list_bytes floor ps = list_header floor (starts_from 0 ps) (length (data_of ps)) ++ data_of ps

unfoldable pub object_bytes : ℕ → List Name → List Part → List ℕ
object_bytes floor names ps =
    let fields = sort names (fields_from names 0 ps) in
    object_header floor (ids_of fields) (offsets_of fields) (length (data_of ps)) ++ data_of ps

-- the bytes of a tree, where the names are held in this order
unfoldable mutual
  pub encode : ℕ → List Name → Tree → List ℕ
  encode floor names (scalar s) = scalar_bytes s
  encode floor names (nest object is) = cond object (object_bytes floor names (parts_of floor names is)) (list_bytes floor (parts_of floor names is))

  pub parts_of : ℕ → List Name → Items → List Part
  parts_of floor names empty = []
  parts_of floor names (item m t is) = record { label = m; bytes = encode floor names t } ∷ parts_of floor names is

-- document 02, A6: "The grammar is to be written without the reader, and a reading is unique." A value's reading is a shape: the values that
-- the bytes hold, with what they choose besides, the widths and the large bit of each header. Its bytes are laid out from it.
use Rattle.std.specs.Prelude.{◌≡◌, Bool, true, false, not, ◌&&◌, ◌||◌, List, [], ◌∷◌, ◌++◌, map, ℕ, ◌+◌, ◌-◌, ◌≤◌, ◌<◌, eqb, length}
use Rattle.value.specs.Scalar.{Scalar, scalar_bytes, Whole}
use Rattle.metadata.specs.Names.{Name, ascending}
use Rattle.metadata.specs.Bytes.{joined}
use Rattle.container.specs.declared.Entry.{Entry}
use Rattle.container.specs.Entries.{ids_of, offsets_of}
use Rattle.container.specs.Layout.{count_size, list_header_at, object_header_at}
use Rattle.container.specs.Sort.{name_at}
use Rattle.lexicon.specs.Dictionary.{ReadsNames, each_below, holds, most_bytes}
use Rattle.grammar.specs.Scalars.{coded, outside}

-- ---- shapes and their bytes

mutual
  pub data Shape : Type 0 where
    scalar : Scalar → Shape
    -- offset width, large bit, elements
    list : ℕ → Bool → Shapes → Shape
    -- offset width, id width, large bit; the fields, each an id and an offset, as the header has them; the values that the data is
    object : ℕ → ℕ → Bool → List Entry → Shapes → Shape

  pub data Shapes : Type 0 where
    none : Shapes
    more : Shape → Shapes → Shapes

-- where each part starts, the first at `at`
unfoldable pub starts_from : ℕ → List (List ℕ) → List ℕ
starts_from at [] = []
starts_from at (p ∷ ps) = at ∷ starts_from (at + length p) ps

-- "A list's data is its elements end to end from offset 0. An object's data is whole values end to end"
unfoldable mutual
  pub layout : Shape → List ℕ
  layout (scalar s) = scalar_bytes s
  layout (list w big ts) = list_header_at w big (starts_from 0 (layouts ts)) (length (joined (layouts ts))) ++ joined (layouts ts)
  layout (object w v big es ts) = object_header_at w v big (ids_of es) (offsets_of es) (length (joined (layouts ts))) ++ joined (layouts ts)

  pub layouts : Shapes → List (List ℕ)
  layouts none = []
  layouts (more t ts) = layout t ∷ layouts ts

-- ---- which shapes are accepted

-- "Scalars obey 01's ranges"; the payload is as long as its type says
pub record Plain (s : Scalar) : Type 0 where
  pub whole : Whole s
  pub known : coded s.stored_type ≡ true
  pub range : outside s.stored_type s.payload ≡ false

-- "Every width that holds its numbers is allowed, and the large bit with any count"
pub record HeldList (w : ℕ) (big : Bool) (offsets : List ℕ) (size : ℕ) : Type 0 where
  pub least : 1 ≤ w
  pub most : w ≤ 4
  pub count : holds (count_size big) (length offsets ∷ []) ≡ true
  pub numbers : holds w offsets ≡ true
  pub data_size : holds w (size ∷ []) ≡ true

pub record HeldObject (w v : ℕ) (big : Bool) (ids offsets : List ℕ) (size : ℕ) : Type 0 where
  pub list : HeldList w big offsets size
  pub least : 1 ≤ v
  pub most : v ≤ 4
  pub numbers : holds v ids ≡ true

-- n is one of these
unfoldable pub among : ℕ → List ℕ → Bool
among n [] = false
among n (m ∷ ms) = eqb n m || among n ms

-- "each offset the start of one, no two alike"
unfoldable pub starting : List ℕ → List ℕ → Bool
starting starts [] = true
starting starts (n ∷ ns) = among n starts && (not (among n ns) && starting starts ns)

-- an object's fields, over names and the starts of its values
pub record Fields (names : List Name) (es : List Entry) (starts : List ℕ) : Type 0 where
  pub offsets : starting starts (offsets_of es) ≡ true
  -- "ids those of strictly ascending names"
  pub ids : each_below (length names) (ids_of es) ≡ true
  pub order : ascending (map (name_at names) (ids_of es)) ≡ true

-- with at most d containers one in another, empty ones and those in values that no offset names among them
abbrev mutual
  pub Fits : List Name → ℕ → Shape → Type 0
  Fits names d (scalar s) = Plain s
  Fits names d (list w big ts) = (0 < d) × HeldList w big (starts_from 0 (layouts ts)) (length (joined (layouts ts))) × FitsAll names (d - 1) ts
  Fits names d (object w v big es ts) =
      (0 < d) × HeldObject w v big (ids_of es) (offsets_of es) (length (joined (layouts ts))) × Fields names es (starts_from 0 (layouts ts)) × FitsAll names (d - 1) ts

  pub FitsAll : List Name → ℕ → Shapes → Type 0
  FitsAll names d none = Unit {0}
  FitsAll names d (more t ts) = Fits names d t × FitsAll names d ts

-- bytes have a reading with at most d containers one in another
pub record Reads (names : List Name) (d : ℕ) (bytes : List ℕ) : Type 0 where
  pub shape : Shape
  pub fits : Fits names d shape
  pub laid : bytes ≡ layout shape

-- "nesting is at most 64 containers"
abbrev pub most_containers : ℕ
most_containers = 64

-- "then one value and no more", over the names of a dictionary
pub record ReadsValue (names : List Name) (value : List ℕ) (shape : Shape) : Type 0 where
  pub laid : value ≡ layout shape
  pub fits : Fits names most_containers shape
  -- "each part up to 4,294,967,295 bytes"
  pub size : length value ≤ most_bytes

-- "accepts exactly this": the pair reads as these names and this shape
pub record ReadsPair (dictionary value : List ℕ) (w : ℕ) (mark : Bool) (names : List Name) (shape : Shape) : Type 0 where
  pub first : ReadsNames dictionary w mark names
  pub second : ReadsValue names value shape

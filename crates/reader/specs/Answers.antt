-- document 02, A6: what is found in a pair that is read, over its reading.
use Rattle.std.specs.Prelude.{◌≡◌, cond, ◌&&◌, List, [], ◌∷◌, ℕ, ◌+◌, ◌-◌, ◌%◌, ◌≤◌, ◌<◌, eqb, leb, ℤ, Option, Some, None}
use Rattle.std.specs.Prelude.{Result, Ok, Err, drop, get_or, length, take}
use Rattle.encoding.specs.Rows.{first}
use Rattle.metadata.specs.Names.{Name, same}
use Rattle.metadata.specs.Bytes.{dictionary_names, joined}
use Rattle.container.specs.declared.Entry.{Entry}
use Rattle.container.specs.Sort.{name_at}
use Rattle.measure.specs.Measure.{measured}
use Rattle.grammar.specs.Grammar.{Shape, scalar, list, object, Shapes, layout, layouts, ReadsValue}
use Rattle.grammar.specs.Tests.{object_count, object_from, object_offsets, pair_rows, stored_ids}
use Rattle.grammar.specs.Fields.{shape_at}
use Rattle.header_reader.specs.Heads.{Head}
use Rattle.reader.specs.declared.Part.{Part}
use Rattle.reader.specs.declared.IntegerField.{IntegerField}
use Rattle.reader.specs.declared.errors.ReadError.{ReadError}
use Rattle.reader.specs.declared.errors.ReadError.TheVariants.{BadDictionary, BadValue}
use Rattle.scalar_reader.specs.Integers.{integer_in, integer_of}

-- ---- refusals

-- a refusal's number in the table
abbrev pub error_number : ReadError → ℕ
error_number BadDictionary = 19
error_number BadValue = 20

-- an answer's, 0 without a refusal
abbrev pub number_of : {T : Type 0} → Result T ReadError → ℕ
number_of (Ok x) = 0
number_of (Err e) = error_number e

-- ---- by name

-- from a place up to another
abbrev pub part : ℕ → ℕ → Part
part start end = record { start = start; end = end }

-- of the fields, in the header's order, the first that has this name; `from` bytes stand before the values
unfoldable pub field_among : List Name → Name → ℕ → Shapes → List Entry → Option Part
field_among names name from ts [] = None
field_among names name from ts (e ∷ es) =
    cond (same (name_at names e.id) name) (Some (part (from + e.offset) (from + e.offset + length (layout (shape_at e.offset 0 ts)))))
    (field_among names name from ts es)

-- "By name, a field's value is handed back as the part of the caller's bytes it occupies, or the answer says that there is no such field, as
-- for a value that is no object"
unfoldable pub field_in : List Name → Name → Shape → Option Part
field_in names name (scalar s) = None
field_in names name (list w big ts) = None
field_in names name (object w u big es ts) = field_among names name (length (layout (object w u big es ts)) - length (joined (layouts ts))) ts es

-- a field looked for by name: refused as the pair is, else by the pair's reading
pub record FindsField (d v name : List ℕ) (r : Result (Option Part) ReadError) : Type 0 where
  pub number : number_of r ≡ first (pair_rows d v)
  pub found : (t : Shape) → ReadsValue (dictionary_names d) v t → number_of r ≡ 0 → r ≡ Ok (field_in (dictionary_names d) name t)

-- the part of the bytes that lies at a place; none where it does not lie in them
unfoldable pub part_of : List ℕ → Option Part → List ℕ
part_of v (Some p) = cond (leb p.start p.end && leb p.end (length v)) (take (p.end - p.start) (drop p.start v)) []
part_of v None = []

-- ---- the first integer

-- what a shape is to a caller who wants a number; a container is none
abbrev pub integer_shape : Shape → Option ℤ
integer_shape (scalar s) = integer_of s
integer_shape (list w big ts) = None
integer_shape (object w u big es ts) = None

-- "a caller wanting a number takes it or goes on to the next field"
abbrev pub or_next : Option ℤ → ℕ → Option IntegerField → Option IntegerField
or_next (Some n) id next = Some (record { id = id; number = n })
or_next None id next = next

unfoldable pub integer_among : Shapes → List Entry → Option IntegerField
integer_among ts [] = None
integer_among ts (e ∷ es) = or_next (integer_shape (shape_at e.offset 0 ts)) e.id (integer_among ts es)

-- "So a call gives the id and number of a value's first field, in order of names, that is int8 to int64, or says none."
unfoldable pub integer_first : Shape → Option IntegerField
integer_first (scalar s) = None
integer_first (list w big ts) = None
integer_first (object w u big es ts) = integer_among ts es

pub record FindsInteger (d v : List ℕ) (r : Result (Option IntegerField) ReadError) : Type 0 where
  pub number : number_of r ≡ first (pair_rows d v)
  pub found : (t : Shape) → ReadsValue (dictionary_names d) v t → number_of r ≡ 0 → r ≡ Ok (integer_first t)

-- ---- For the code, over bytes

-- each offset lies in the bytes
abbrev pub Inside : List ℕ → Type 0
Inside v = (k : ℕ) → k < object_count v → object_from v + get_or (object_offsets v) k 0 ≤ length v

-- the value at an offset: it is as long as its own first bytes say
abbrev pub part_at : List ℕ → ℕ → Part
part_at v n = part (object_from v + n) (object_from v + n + measured (drop (object_from v + n) v))

-- by ids and offsets as the header has them
unfoldable pub field_by : List Name → Name → List ℕ → List ℕ → List ℕ → Option Part
field_by names name v [] ns = None
field_by names name v (i ∷ is) [] = None
field_by names name v (i ∷ is) (n ∷ ns) = cond (same (name_at names i) name) (Some (part_at v n)) (field_by names name v is ns)

-- of all fields
abbrev pub field_found : List Name → Name → List ℕ → Option Part
field_found names name v = field_by names name v (stored_ids v) (object_offsets v)

-- the first number, alike
unfoldable pub integer_by : List ℕ → List ℕ → List ℕ → Option IntegerField
integer_by v [] ns = None
integer_by v (i ∷ is) [] = None
integer_by v (i ∷ is) (n ∷ ns) = or_next (integer_in (part_of v (Some (part_at v n)))) i (integer_by v is ns)

abbrev pub integer_found : List ℕ → Option IntegerField
integer_found v = integer_by v (stored_ids v) (object_offsets v)

-- of a value that need be no object
abbrev pub field_of : List Name → Name → List ℕ → Option Part
field_of names name v = cond (eqb (get_or v 0 0 % 4) 2) (field_found names name v) None

abbrev pub integer_field_of : List ℕ → Option IntegerField
integer_field_of v = cond (eqb (get_or v 0 0 % 4) 2) (integer_found v) None

-- a header is these bytes', an object's, and each offset lies in them
pub record IsObject (v : List ℕ) (h : Head) : Type 0 where
  pub object : get_or v 0 0 % 4 ≡ 2
  pub count : h.count ≡ object_count v
  pub ids : h.ids ≡ stored_ids v
  pub offsets : h.offsets ≡ object_offsets v
  pub from : h.from ≡ object_from v
  pub inside : Inside v

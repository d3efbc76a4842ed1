-- The grammar as a test of bytes, value by value: a container's data is cut by the values' first bytes and stored lengths (document 02, A8).
-- proofs/TestLaws says that what passes is what has a reading.
use Rattle.std.specs.Prelude.{Bool, cond, not, ◌&&◌, ◌||◌, List, [], ◌∷◌, map, ℕ, zero, suc, ◌+◌, ◌*◌, ◌/◌, ◌%◌, eqb, leb, ltb, Option, Some, None, drop, get_or, length, take}
use Rattle.encoding.specs.Rows.{Row, row}
use Rattle.value.specs.Scalar.{type_of_byte}
use Rattle.metadata.specs.Names.{Name, same, ascending}
use Rattle.metadata.specs.Bytes.{numbers, dictionary_names}
use Rattle.container.specs.Layout.{count_size}
use Rattle.container.specs.Sort.{name_at}
use Rattle.measure.specs.Measure.{number_at, measured}
use Rattle.lexicon.specs.Dictionary.{each_below, is_dictionary, most_bytes}
use Rattle.grammar.specs.Scalars.{outside}
use Rattle.grammar.specs.Grammar.{starts_from, starting, most_containers}

-- ---- values end to end

-- bytes cut into whole values by their lengths, at most n of them
unfoldable pub cut_by : ℕ → List ℕ → List (List ℕ)
cut_by zero bytes = []
cut_by (suc n) bytes = cond (eqb (measured bytes) 0) [] (take (measured bytes) bytes ∷ cut_by n (drop (measured bytes) bytes))

-- where the values start that bytes begin with
unfoldable pub starts_of : List ℕ → List ℕ
starts_of bytes = starts_from 0 (cut_by (length bytes) bytes)

-- bytes are whole values end to end, at most n of them, and each passes
unfoldable pub each_value : (List ℕ → Bool) → ℕ → List ℕ → Bool
each_value test zero bytes = eqb (length bytes) 0
each_value test (suc n) bytes =
    eqb (length bytes) 0
    || (ltb 0 (measured bytes) && (test (take (measured bytes) bytes) && each_value test n (drop (measured bytes) bytes)))

-- ---- scalars

-- one scalar and no more, "codes 0 to 20", within 01's ranges
unfoldable pub is_scalar : List ℕ → Bool
is_scalar v = ltb (get_or v 0 0 % 4) 2 && (eqb (measured v) (length v) && (ltb 0 (length v) && not (outside (type_of_byte (get_or v 0 0)) (drop 1 v))))

-- ---- headers, by the first byte: "3 + 4 × (offset width − 1) + 16 × large" of a list,
-- "2 + 4 × (offset width − 1) + 16 × (id width − 1) + 64 × large" of an object

abbrev pub offset_width : List ℕ → ℕ
offset_width v = get_or v 0 0 / 4 % 4 + 1

abbrev pub id_width : List ℕ → ℕ
id_width v = get_or v 0 0 / 16 % 4 + 1

abbrev pub list_large : List ℕ → Bool
list_large v = eqb (get_or v 0 0 / 16 % 2) 1

abbrev pub object_large : List ℕ → Bool
object_large v = eqb (get_or v 0 0 / 64 % 2) 1

-- where a list's offsets stand, how many they are, what they are, and where its data begins
abbrev pub list_table : List ℕ → ℕ
list_table v = 1 + count_size (list_large v)

abbrev pub list_count : List ℕ → ℕ
list_count v = number_at v 1 (count_size (list_large v))

abbrev pub list_offsets : List ℕ → List ℕ
list_offsets v = numbers (offset_width v) (list_count v) (drop (list_table v) v)

abbrev pub list_from : List ℕ → ℕ
list_from v = list_table v + offset_width v * (list_count v + 1)

-- an object's ids and offsets likewise
abbrev pub id_table : List ℕ → ℕ
id_table v = 1 + count_size (object_large v)

abbrev pub object_count : List ℕ → ℕ
object_count v = number_at v 1 (count_size (object_large v))

abbrev pub stored_ids : List ℕ → List ℕ
stored_ids v = numbers (id_width v) (object_count v) (drop (id_table v) v)

abbrev pub offset_table : List ℕ → ℕ
offset_table v = id_table v + id_width v * object_count v

abbrev pub object_offsets : List ℕ → List ℕ
object_offsets v = numbers (offset_width v) (object_count v) (drop (offset_table v) v)

abbrev pub object_from : List ℕ → ℕ
object_from v = offset_table v + offset_width v * (object_count v + 1)

-- "unused header bits are zero"; the value is as long as its bytes; "A list's data is its elements end to end from offset 0"
unfoldable pub is_list_head : List ℕ → Bool
is_list_head v =
    eqb (get_or v 0 0 % 4) 3
    && (ltb (get_or v 0 0) 32
    && (eqb (measured v) (length v)
    && same (list_offsets v) (starts_of (drop (list_from v) v))))

-- "each offset the start of one, no two alike, ids those of strictly ascending names"
unfoldable pub is_object_head : List Name → List ℕ → Bool
is_object_head names v =
    eqb (get_or v 0 0 % 4) 2
    && (ltb (get_or v 0 0) 128
    && (eqb (measured v) (length v)
    && (starting (starts_of (drop (object_from v) v)) (object_offsets v)
    && (each_below (length names) (stored_ids v)
    && ascending (map (name_at names) (stored_ids v))))))

-- the size of a header that passes
abbrev pub list_head : List ℕ → Option ℕ
list_head v = cond (is_list_head v) (Some (list_from v)) None

abbrev pub object_head : List Name → List ℕ → Option ℕ
object_head names v = cond (is_object_head names v) (Some (object_from v)) None

-- ---- values

-- one value and no more, with at most d containers one in another
unfoldable pub is_value : List Name → ℕ → List ℕ → Bool
is_value names zero v = is_scalar v
is_value names (suc d) v =
    is_scalar v
    || ((is_list_head v && each_value (is_value names d) (length v) (drop (list_from v) v))
    || (is_object_head names v && each_value (is_value names d) (length v) (drop (object_from v) v)))

-- "It refuses with 19 a bad dictionary, checked first, and with 20 a value outside the grammar"; "each part up to 4,294,967,295 bytes"
abbrev pub pair_rows : List ℕ → List ℕ → List Row
pair_rows d v =
    row 19 (not (is_dictionary d))
    ∷ row 20 (not (leb (length v) most_bytes && is_value (dictionary_names d) most_containers v))
    ∷ []

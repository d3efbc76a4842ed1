-- For the code: what is left to test of an object's header that is as long as it says; a value by where it starts.
use Rattle.std.specs.Prelude.{Bool, ◌&&◌, List, map, ℕ, ◌+◌, ◌*◌, ◌%◌, eqb, ltb, drop, get_or, length, take}
use Rattle.metadata.specs.Names.{Name, ascending}
use Rattle.container.specs.Sort.{name_at}
use Rattle.metadata.specs.Bytes.{numbers}
use Rattle.measure.specs.Measure.{number_at, measured}
use Rattle.lexicon.specs.Dictionary.{each_below}
use Rattle.grammar.specs.Grammar.{starting}
use Rattle.grammar.specs.Tests.{object_from, object_offsets, offset_width, starts_of}

-- the first byte tells this kind and is below `most`, "unused header bits are zero"; "the value is as long as its bytes"
abbrev pub is_whole : ℕ → ℕ → List ℕ → Bool
is_whole kind most v = eqb (get_or v 0 0 % 4) kind && (ltb (get_or v 0 0) most && eqb (measured v) (length v))

-- "ids those of strictly ascending names"
abbrev pub ids_good : List Name → List ℕ → Bool
ids_good names ids = each_below (length names) ids && ascending (map (name_at names) ids)

-- "each offset the start of one, no two alike"
abbrev pub offsets_good : List ℕ → Bool
offsets_good v = starting (starts_of (drop (object_from v) v)) (object_offsets v)

-- the value that starts at place n of bytes, as long as its own first bytes say; no bytes where none does
abbrev pub value_from : ℕ → List ℕ → List ℕ
value_from n v = take (measured (drop n v)) (drop n v)

-- what a header says: how many elements or fields, an object's ids, the offsets, and where the data begins
pub record Head : Type 0 where
  pub count : ℕ
  pub ids : List ℕ
  pub offsets : List ℕ
  pub from : ℕ

-- as it stands in these bytes, the count in `size` bytes, an id in `width`
abbrev pub header_in : (v : List ℕ) (size width : ℕ) → Head
header_in v size width =
    let count = number_at v 1 size in
    let table = 1 + size + width * count in
    record {
      count = count;
      ids = numbers width count (drop (1 + size) v);
      offsets = numbers (offset_width v) count (drop table v);
      from = table + offset_width v * (count + 1);
    }

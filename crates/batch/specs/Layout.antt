-- Document 02, A7: the bytes of a batch file.
use Rattle.std.specs.Prelude.{List, [], ◌∷◌, ◌++◌, reverse, ℕ, ◌+◌, length}
use Rattle.encoding.specs.Packed.{le, number}

-- "four-byte big-endian": n modulo 256 ^ 4 in four bytes, highest first
unfoldable pub big_endian : ℕ → List ℕ
big_endian n = reverse (le 4 n)

-- the number that bytes stand for, highest first
unfoldable pub big_number : List ℕ → ℕ
big_number bs = number (reverse bs)

-- "the dictionary and the value, whose content the batch doesn't judge"
pub record Record : Type 0 where
  pub dictionary : List ℕ
  pub value : List ℕ

abbrev pub record_of : List ℕ → List ℕ → Record
record_of dictionary value = record { dictionary = dictionary; value = value }

-- "count of what follows": the dictionary length's four bytes, the dictionary and the value
abbrev pub count_of : Record → ℕ
count_of x = 4 + (length x.dictionary + length x.value)

-- "for each record a four-byte big-endian count of what follows, a four-byte big-endian dictionary length, the dictionary and the value"
unfoldable pub record_bytes : Record → List ℕ
record_bytes x = big_endian (count_of x) ++ (big_endian (length x.dictionary) ++ (x.dictionary ++ x.value))

-- the records' bytes, one record behind the other
unfoldable pub records_bytes : List Record → List ℕ
records_bytes [] = []
records_bytes (x ∷ xs) = record_bytes x ++ records_bytes xs

-- "The file has version byte 01, then for each record .."
unfoldable pub batch_bytes : List Record → List ℕ
batch_bytes xs = 1 ∷ records_bytes xs

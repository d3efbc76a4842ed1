-- document 02, A13: "For length 1, 2 or 3, and dictionary `01 00 00`, write every value that the reader accepts, each once, ascending by bytes."
use Rattle.std.specs.Prelude.{◌≡◌, Bool, cond, not, ◌&&◌, List, [], ◌∷◌, ◌++◌, map, ℕ, zero, suc, eqb, leb, ltb, Result, Ok, Err, length}
use Rattle.encoding.specs.Rows.{Row, row, first}
use Rattle.encoding.specs.Slices.{write}
use Rattle.metadata.specs.Bytes.{never_used}
use Rattle.batch.specs.Layout.{batch_bytes, record_of}
use Rattle.grammar.specs.Tests.{pair_rows}
use Rattle.small_values.specs.declared.SmallError.{SmallError}
use Rattle.small_values.specs.declared.SmallError.TheVariants.{BadLength, NoRoom}

-- ---- all byte strings of a length, ascending

-- n numbers from k on
unfoldable pub up_from : ℕ → ℕ → List ℕ
up_from zero k = []
up_from (suc n) k = k ∷ up_from n (suc k)

-- each of these bytes before each of these strings
unfoldable pub each : List ℕ → List (List ℕ) → List (List ℕ)
each [] tails = []
each (a ∷ bytes) tails = map (λ t. a ∷ t) tails ++ each bytes tails

unfoldable pub strings : ℕ → List (List ℕ)
strings zero = [] ∷ []
strings (suc n) = each (up_from 256 0) (strings n)

-- ---- those that the reader accepts

-- "dictionary `01 00 00` .. every value that the reader accepts"
unfoldable pub accepted : List ℕ → Bool
accepted v = eqb (first (pair_rows never_used v)) 0

unfoldable pub keep : List (List ℕ) → List (List ℕ)
keep [] = []
keep (x ∷ xs) = cond (accepted x) (x ∷ keep xs) (keep xs)

unfoldable pub values_of : ℕ → List (List ℕ)
values_of n = keep (strings n)

-- "They go out in the batch form."
unfoldable pub file_of : ℕ → List ℕ
file_of n = batch_bytes (map (record_of never_used) (values_of n))

-- ---- the call

-- "It refuses, before all else, with 26 any other length; an output too short is 14."
abbrev pub small_rows : ℕ → List ℕ → List Row
small_rows n out = row 26 (not (leb 1 n && leb n 3)) ∷ row 14 (ltb (length out) (length (file_of n))) ∷ []

-- an answer's number in the table, and how many bytes it says are written
abbrev pub small_number : Result ℕ SmallError → ℕ
small_number (Ok n) = 0
small_number (Err BadLength) = 26
small_number (Err NoRoom) = 14

abbrev pub small_written : Result ℕ SmallError → ℕ
small_written (Ok n) = n
small_written (Err e) = 0

-- the file stands at the front of the output, and of that nothing else is written; a refused call writes nothing
pub record WritesSmall (n : ℕ) (out : List ℕ) (r : Result ℕ SmallError) (after : List ℕ) : Type 0 where
  pub number : small_number r ≡ first (small_rows n out)
  pub written : small_written r ≡ cond (eqb (small_number r) 0) (length (file_of n)) 0
  pub bytes : after ≡ cond (eqb (small_number r) 0) (write 0 (file_of n) out) out

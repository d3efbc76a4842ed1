-- Document 02, A7: "The writer starts a file, or adds a record behind the used bytes of one."
use Rattle.std.specs.Prelude.{◌≡◌, Bool, true, cond, not, ◌||◌, List, [], ◌∷◌, ℕ, ◌+◌, ◌^◌, eqb, leb, ltb, length, take}
use Rattle.std.specs.Prelude.{Result, Ok, Err}
use Rattle.encoding.specs.Rows.{Row, row, first}
use Rattle.encoding.specs.Slices.{Placed, placed_number, write}
use Rattle.batch.specs.declared.AddError.{AddError}
use Rattle.batch.specs.declared.AddError.TheVariants.{Damaged, NoBatch, NoRoom}
use Rattle.batch.specs.Layout.{Record, count_of, record_bytes, batch_bytes}

-- 21: "an empty file or another version"
abbrev pub no_batch : List ℕ → Bool
no_batch [] = true
no_batch (version ∷ bs) = not (eqb version 1)

-- ---- a file started

-- 14: "What doesn't fit the output"
abbrev pub start_rows : List ℕ → List Row
start_rows file = row 14 (ltb (length file) (length (batch_bytes []))) ∷ []

-- the version byte at place 0 and nothing else, or nothing
pub record Starts (file : List ℕ) (r : Placed) (after : List ℕ) : Type 0 where
  pub number : placed_number r ≡ first (start_rows file)
  pub bytes : after ≡ cond (eqb (first (start_rows file)) 0) (write 0 (batch_bytes []) file) file

-- ---- a record added

-- 1: the used count exceeds the lent buffer; 21, "directly after 1", of the used bytes; 14: "What doesn't fit the output, or the four-byte
-- count". The output is the whole buffer: a batch file has no cap of its own.
abbrev pub add_rows : List ℕ → ℕ → Record → List Row
add_rows file used x =
    row 1 (ltb (length file) used)
    ∷ (row 21 (no_batch (take used file))
    ∷ (row 14 (leb (256 ^ 4) (count_of x) || ltb (length file) (used + length (record_bytes x)))
    ∷ []))

-- an answer's number in the table, 0 without a refusal, and its value: the used bytes then
abbrev pub added_number : Result ℕ AddError → ℕ
added_number (Ok used) = 0
added_number (Err Damaged) = 1
added_number (Err NoBatch) = 21
added_number (Err NoRoom) = 14

abbrev pub added_at : Result ℕ AddError → ℕ
added_at (Ok used) = used
added_at (Err e) = 0

-- an answer, and the buffer at exit: the record behind the used bytes and nothing else, or nothing
pub record Adds (file : List ℕ) (used : ℕ) (x : Record) (r : Result ℕ AddError) (after : List ℕ) : Type 0 where
  pub number : added_number r ≡ first (add_rows file used x)
  pub used_then : added_at r ≡ cond (eqb (first (add_rows file used x)) 0) (used + length (record_bytes x)) 0
  pub bytes : after ≡ cond (eqb (first (add_rows file used x)) 0) (write used (record_bytes x) file) file

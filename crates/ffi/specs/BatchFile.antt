-- What the calls on a batch file answer and leave behind.
use Rattle.std.specs.Prelude.{◌≡◌, cond, List, [], ℕ, ◌+◌, eqb, length, Result, Ok, Err}
use Rattle.encoding.specs.Rows.{first}
use Rattle.encoding.specs.Slices.{write}
use Rattle.batch.specs.declared.NoBatch.{NoBatch}
use Rattle.batch.specs.declared.Step.{Step}
use Rattle.batch.specs.declared.Step.TheVariants.{Whole, Bad, Tail}
use Rattle.batch.specs.Layout.{Record, batch_bytes, record_bytes}
use Rattle.batch.specs.Writing.{add_rows, start_rows}
use Rattle.batch.specs.Reading.{read_rows, step_at}

-- document 02, A7, "The writer starts a file"
pub record StartsWords (n : ℕ) (file after : List ℕ) : Type 0 where
  pub number : n ≡ first (start_rows file)
  pub bytes : after ≡ cond (eqb n 0) (write 0 (batch_bytes []) file) file

-- "or adds a record behind the used bytes of one"; a refused call leaves the file and the used count
pub record AddsWords (n : ℕ) (x : Record) (file after : List ℕ) (usedBefore used : ℕ) : Type 0 where
  pub number : n ≡ first (add_rows file usedBefore x)
  pub bytes : after ≡ cond (eqb n 0) (write usedBefore (record_bytes x) file) file
  pub used_then : used ≡ cond (eqb n 0) (usedBefore + length (record_bytes x)) usedBefore

-- a step as numbers
pub record StepWords : Type 0 where
  pub kind : ℕ
  pub dictionary : ℕ
  pub value : ℕ
  pub next : ℕ
  pub tail : ℕ

abbrev pub step_words : ℕ → ℕ → ℕ → ℕ → ℕ → StepWords
step_words kind dictionary value next tail = record { kind = kind; dictionary = dictionary; value = value; next = next; tail = tail }

-- the kind, and what the step tells, over what stood there
unfoldable pub step_over : StepWords → Result Step NoBatch → StepWords
step_over w (Ok (Whole dictionary value next)) = step_words 0 dictionary value next w.tail
step_over w (Ok (Bad next)) = step_words 1 w.dictionary w.value next w.tail
step_over w (Ok (Tail size)) = step_words 2 w.dictionary w.value w.next size
step_over w (Err e) = w

-- a refused call leaves all of them
pub record TellsStep (n : ℕ) (file : List ℕ) (place : ℕ) (before after : StepWords) : Type 0 where
  pub number : n ≡ first (read_rows file)
  pub words : after ≡ step_over before (step_at file place)

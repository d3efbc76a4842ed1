-- What the reader's calls answer as numbers, over what stood there.
use Rattle.std.specs.Prelude.{◌≡◌, cond, List, ℕ, eqb, ℤ, Option, Some, None, Result, Ok, Err, length}
use Rattle.encoding.specs.Rows.{first}
use Rattle.encoding.specs.Slices.{write}
use Rattle.reader.specs.declared.Part.{Part}
use Rattle.reader.specs.declared.IntegerField.{IntegerField}
use Rattle.reader.specs.declared.errors.ReadError.{ReadError}
use Rattle.reader.specs.Answers.{FindsField, FindsInteger, number_of}
use Rattle.small_values.specs.Small.{file_of, small_rows}

-- ---- a field by its name

pub record FieldWords : Type 0 where
  pub kind : ℕ
  pub start : ℕ
  pub end : ℕ

abbrev pub field_words : ℕ → ℕ → ℕ → FieldWords
field_words kind start end = record { kind = kind; start = start; end = end }

-- a part is kind 0, "no such field" kind 1; a refused call leaves all of them
abbrev pub field_over : FieldWords → Result (Option Part) ReadError → FieldWords
field_over w (Ok (Some p)) = field_words 0 p.start p.end
field_over w (Ok None) = field_words 1 w.start w.end
field_over w (Err e) = w

pub record TellsField (n : ℕ) (d v name : List ℕ) (before after : FieldWords) : Type 0 where
  pub answer : Result (Option Part) ReadError
  pub finds : FindsField d v name answer
  pub number : n ≡ number_of answer
  pub words : after ≡ field_over before answer

-- ---- the first integer

pub record IntegerWords : Type 0 where
  pub kind : ℕ
  pub id : ℕ
  pub number : ℤ

abbrev pub integer_words : ℕ → ℕ → ℤ → IntegerWords
integer_words kind id number = record { kind = kind; id = id; number = number }

abbrev pub integer_over : IntegerWords → Result (Option IntegerField) ReadError → IntegerWords
integer_over w (Ok (Some f)) = integer_words 0 f.id f.number
integer_over w (Ok None) = integer_words 1 w.id w.number
integer_over w (Err e) = w

pub record TellsInteger (n : ℕ) (d v : List ℕ) (before after : IntegerWords) : Type 0 where
  pub answer : Result (Option IntegerField) ReadError
  pub finds : FindsInteger d v answer
  pub answered : n ≡ number_of answer
  pub words : after ≡ integer_over before answer

-- ---- all the small values

-- document 02, A13: the file at the front of the output, its length told; a refused call leaves both
pub record TellsSmall (n size : ℕ) (out after : List ℕ) (before written : ℕ) : Type 0 where
  pub number : n ≡ first (small_rows size out)
  pub bytes : after ≡ cond (eqb n 0) (write 0 (file_of size) out) out
  pub length : written ≡ cond (eqb n 0) (length (file_of size)) before

-- What is told as numbers is the reader's answer.
use mathlib.Core.Path.{◌≡◌, sym, ◌∙◌}
use mathlib.Core.List.{List}
use Prim.Native.Nat.{ℕ}
use borrow.Author.Tests.{ne_eqb}
use Rattle.std.specs.Prelude.{Option, Result, Ok}
use Rattle.reader.specs.declared.Part.{Part}
use Rattle.reader.specs.declared.IntegerField.{IntegerField}
use Rattle.reader.specs.declared.errors.ReadError.{ReadError}
use Rattle.reader.specs.Answers.{FindsField, FindsInteger, number_of}
use Rattle.small_values.specs.declared.SmallError.{SmallError}
use Rattle.small_values.specs.Small.{WritesSmall, small_number}
use Rattle.reader_ffi.specs.Words.{FieldWords, IntegerWords, field_over, integer_over, TellsField, TellsInteger, TellsSmall}

pub tells_field : {d v name : List ℕ} {before after : FieldWords} {n : ℕ} {p q : Result (Option Part) ReadError} → FindsField d v name p → p ≡ q → number_of q ≡ n → field_over before q ≡ after
    → TellsField n d v name before after
tells_field {q = q} f e k w = record { answer = q; finds = rw e at f; number = sym k; words = sym w }

pub tells_integer : {d v : List ℕ} {before after : IntegerWords} {n : ℕ} {p q : Result (Option IntegerField) ReadError} → FindsInteger d v p → p ≡ q → number_of q ≡ n → integer_over before q ≡ after
    → TellsInteger n d v before after
tells_integer {q = q} f e k w = record { answer = q; finds = rw e at f; answered = sym k; words = sym w }

module _ {size : ℕ} {out after : List ℕ} {r : Result ℕ SmallError} (w : WritesSmall size out r after) where
  pub tells_small : {n before : ℕ} → r ≡ Ok n → TellsSmall 0 size out after before n
  tells_small e = record { number = rw e at w.number; bytes = rw e at w.bytes; length = rw e at w.written }

  pub tells_none : {n before : ℕ} → small_number r ≡ n → (n ≡ 0 → ⊥) → TellsSmall n size out after before before
  tells_none {n} e z = let q = ne_eqb n 0 z in record { number = sym e ∙ w.number; bytes = rw q (rw (e, q) at w.bytes); length = rw q }

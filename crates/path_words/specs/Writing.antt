-- Words at the front of an output, and of that nothing else is written; where they do not fit, nothing is.
use Rattle.std.specs.Prelude.{◌≡◌, cond, Result, Ok, Err, List, [], ◌++◌, ℕ, length}
use Rattle.encoding.specs.Slices.{fits, write}
use Rattle.live.specs.Words.{Step, field, element, decimal, field_word, bytes_word, element_word}
use Rattle.encoding.specs.declared.slices.NoRoom.{NoRoom}

-- "for each step `, field N bytes NAME` or `, element K`"
abbrev pub step_words : Step → List ℕ
step_words (field n) = field_word ++ decimal (length n) (bytes_word ++ n)
step_words (element k) = element_word ++ decimal k []

-- an answer's number in the table, "words that don't fit are 14", and how many bytes it says are written
abbrev pub words_number : Result ℕ NoRoom → ℕ
words_number (Ok n) = 0
words_number (Err e) = 14

abbrev pub words_written : Result ℕ NoRoom → ℕ
words_written (Ok n) = n
words_written (Err e) = 0

pub record WritesWords (said out : List ℕ) (r : Result ℕ NoRoom) (after : List ℕ) : Type 0 where
  pub number : words_number r ≡ cond (fits 0 (length said) (length out)) 0 14
  pub written : words_written r ≡ cond (fits 0 (length said) (length out)) (length said) 0
  pub bytes : after ≡ cond (fits 0 (length said) (length out)) (write 0 said out) out

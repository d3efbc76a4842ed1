-- Document 02, A12, "write its path": a path, and its words.
use Rattle.std.specs.Prelude.{cond, List, [], ◌∷◌, ◌++◌, ℕ, zero, suc, ◌+◌, ◌/◌, ◌%◌, ltb, length}
use Rattle.metadata.specs.Names.{Name}

-- "for each step `, field N bytes NAME` or `, element K`"
pub data Step : Type 0 where
  field : Name → Step
  element : ℕ → Step

abbrev pub Path : Type 0
Path = List Step

-- the digits of n before `rest`, highest first, by at most `fuel` divisions
unfoldable pub digits : ℕ → ℕ → List ℕ → List ℕ
digits zero n rest = rest
digits (suc fuel) n rest = cond (ltb n 10) ((48 + n) ∷ rest) (digits fuel (n / 10) ((48 + n % 10) ∷ rest))

-- a number in decimal, without leading zeros, before `rest`
unfoldable pub decimal : ℕ → List ℕ → List ℕ
decimal n rest = digits (suc n) n rest

-- ", field ", " bytes ", ", element ", "record"
abbrev pub field_word : List ℕ
field_word = 44 ∷ 32 ∷ 102 ∷ 105 ∷ 101 ∷ 108 ∷ 100 ∷ 32 ∷ []

abbrev pub bytes_word : List ℕ
bytes_word = 32 ∷ 98 ∷ 121 ∷ 116 ∷ 101 ∷ 115 ∷ 32 ∷ []

abbrev pub element_word : List ℕ
element_word = 44 ∷ 32 ∷ 101 ∷ 108 ∷ 101 ∷ 109 ∷ 101 ∷ 110 ∷ 116 ∷ 32 ∷ []

abbrev pub record_word : List ℕ
record_word = 114 ∷ 101 ∷ 99 ∷ 111 ∷ 114 ∷ 100 ∷ []

-- "with N the name's byte count and K counted from 0"
unfoldable pub steps_words : Path → List ℕ
steps_words [] = []
steps_words (field n ∷ p) = field_word ++ decimal (length n) (bytes_word ++ (n ++ steps_words p))
steps_words (element k ∷ p) = element_word ++ decimal k (steps_words p)

-- "`record`, then for each step .."
unfoldable pub words : Path → List ℕ
words p = record_word ++ steps_words p

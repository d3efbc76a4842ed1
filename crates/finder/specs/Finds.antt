-- Document 02, A12: "Given a tag, find the first live text equal to it, in order of data, and write its path".
use Rattle.std.specs.Prelude.{◌≡◌, Result, Ok, Err, Bool, true, false, cond, not, List, [], ◌∷◌, ◌++◌, ℕ, eqb, length}
use Rattle.std.proofs.Math.Option.{Option, none, some}
use Rattle.encoding.specs.Rows.{Row, row, first}
use Rattle.encoding.specs.Slices.{fits, write}
use Rattle.metadata.specs.Names.{Name}
use Rattle.grammar.specs.Grammar.{Shape, ReadsPair}
use Rattle.grammar.specs.Tests.{pair_rows}
use Rattle.live.specs.Texts.{words_for}
use Rattle.reader.specs.Answers.{error_number}
use Rattle.finder.specs.declared.find.FindError.{FindError}
use Rattle.finder.specs.declared.find.FindError.TheVariants.{Read, Missing, NoRoom}

-- what is said of a tag: nothing where no live text equals it
abbrev pub unsaid : Option (List ℕ) → Bool
unsaid none = true
unsaid (some said) = false

abbrev pub words_of : Option (List ℕ) → List ℕ
words_of none = []
words_of (some said) = said

-- "It refuses, after 20, with 25 a tag that no live text equals; words that don't fit are 14."
abbrev pub find_rows : List ℕ → List ℕ → Option (List ℕ) → List ℕ → List Row
find_rows d v said out = pair_rows d v ++ (row 25 (unsaid said) ∷ row 14 (not (fits 0 (length (words_of said)) (length out))) ∷ [])

-- the table's numbers in its order, 25 among them, which `order` does not hold
abbrev pub order_with_missing : List ℕ
order_with_missing = 26 ∷ 1 ∷ 21 ∷ 2 ∷ 3 ∷ 4 ∷ 5 ∷ 6 ∷ 22 ∷ 18 ∷ 7 ∷ 17 ∷ 8 ∷ 9
    ∷ 10 ∷ 11 ∷ 12 ∷ 13 ∷ 23 ∷ 19 ∷ 20 ∷ 25 ∷ 14 ∷ 15 ∷ 16 ∷ 24 ∷ []

-- an answer's number in the table, and how many bytes it says are written
abbrev pub found_number : Result ℕ FindError → ℕ
found_number (Ok n) = 0
found_number (Err Missing) = 25
found_number (Err NoRoom) = 14
found_number (Err (Read e)) = error_number e

abbrev pub found_written : Result ℕ FindError → ℕ
found_written (Ok n) = n
found_written (Err e) = 0

-- the words stand at the front of the output, and of that nothing else is written; a refused call writes nothing
pub record FindsText (d v wanted out : List ℕ) (r : Result ℕ FindError) (after : List ℕ) : Type 0 where
  pub said : Option (List ℕ)
  -- by the pair's reading, of which there is at most one; a pair without one is refused before
  pub says : (w : ℕ) (mark : Bool) (names : List Name) (t : Shape) → ReadsPair d v w mark names t → said ≡ words_for names t wanted
  pub number : found_number r ≡ first (find_rows d v said out)
  pub written : found_written r ≡ cond (eqb (found_number r) 0) (length (words_of said)) 0
  pub bytes : after ≡ cond (eqb (found_number r) 0) (write 0 (words_of said) out) out

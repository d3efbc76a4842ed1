-- Document 02, A11, the whole call: from a dictionary d and a value v to two outputs.
use Rattle.std.specs.Prelude.{◌≡◌, Bool, cond, not, List, [], ◌∷◌, ◌++◌, ℕ, eqb, length}
use Rattle.encoding.specs.Rows.{Row, row, first}
use Rattle.encoding.specs.Slices.{fits, write}
use Rattle.metadata.specs.Names.{Name}
use Rattle.grammar.specs.Grammar.{Shape, ReadsPair}
use Rattle.grammar.specs.Tests.{pair_rows}
use Rattle.live.specs.Live.{Live, live_of}
use Rattle.canonical.specs.Canonical.{one_value, one_dictionary}

-- the live tree that an accepted pair holds
abbrev pub held : {d v : List ℕ} {w : ℕ} {mark : Bool} {names : List Name} {t : Shape} → ReadsPair d v w mark names t → Live
held {names = names} {t = t} x = live_of names t

-- "A pair that the reader refuses gives 19 or 20; then it is 14 exactly if the new value is longer than its output, and then 16 exactly if the new
-- dictionary is." l is the live tree that the pair holds; the outputs have so many bytes, of which 4,294,967,295 count.
abbrev pub canon_rows : List ℕ → List ℕ → Live → ℕ → ℕ → List Row
canon_rows d v l valueRoom dictionaryRoom =
    pair_rows d v
    ++ (row 14 (not (fits 0 (length (one_value l)) valueRoom))
    ∷ row 16 (not (fits 0 (length (one_dictionary l)) dictionaryRoom))
    ∷ [])

-- the answer's number and both outputs behind the call: the new pair at their fronts and nothing else written; a refused call writes nothing
pub record WritesOneForm (d v value dictionary : List ℕ) (number : ℕ) (valueAfter dictionaryAfter : List ℕ) : Type 0 where
  pub tree : Live
  -- by the pair's reading, of which there is at most one; a pair without one is refused before
  pub holds : (w : ℕ) (mark : Bool) (names : List Name) (t : Shape) → ReadsPair d v w mark names t → tree ≡ live_of names t
  pub told : number ≡ first (canon_rows d v tree (length value) (length dictionary))
  pub value_bytes : valueAfter ≡ cond (eqb number 0) (write 0 (one_value tree) value) value
  pub dictionary_bytes : dictionaryAfter ≡ cond (eqb number 0) (write 0 (one_dictionary tree) dictionary) dictionary

-- document 02, A6, the pair's first half: "a whole dictionary of the stated layout, unused bits zero, UTF-8 names, the mark only if names
-- ascend strictly". The layout is the writer's, at any width and with either mark; there is no reader in it.
use Rattle.std.specs.Prelude.{◌≡◌, Bool, true, cond, not, ◌&&◌, ◌||◌, List, [], ◌∷◌, ℕ, zero, suc, ◌+◌, ◌-◌, ◌*◌, ◌^◌, ◌/◌, ◌%◌, ◌≤◌, eqb, leb, ltb, drop}
use Rattle.std.specs.Prelude.{get_or, length, take, Result, Ok, Err}
use Rattle.encoding.specs.Rows.{Row, row}
use Rattle.encoding.specs.Utf8.{utf8}
use Rattle.measure.specs.Measure.{number_at}
use Rattle.metadata.specs.Names.{Name, same, ascending}
use Rattle.metadata.specs.Bytes.{ends_from, laid_out, dictionary_names}
use Rattle.lexicon.specs.declared.BadDictionary.{BadDictionary}

-- ---- the grammar

-- "UTF-8 names": each by itself
unfoldable pub each_utf8 : List Name → Bool
each_utf8 [] = true
each_utf8 (n ∷ ns) = utf8 n && each_utf8 ns

-- a dictionary's numbers: "count; count + 1 offsets"
abbrev pub stored_numbers : List Name → List ℕ
stored_numbers ns = length ns ∷ (0 ∷ ends_from 0 ns)

-- each number is below b
unfoldable pub each_below : ℕ → List ℕ → Bool
each_below b [] = true
each_below b (n ∷ ns) = ltb n b && each_below b ns

-- "Every width that holds its numbers": w bytes hold each of these
abbrev pub holds : ℕ → List ℕ → Bool
holds w ns = each_below (256 ^ w) ns

-- "each part up to 4,294,967,295 bytes"
abbrev pub most_bytes : ℕ
most_bytes = 4294967295

-- d reads as these names, with numbers of w bytes and this mark
pub record ReadsNames (d : List ℕ) (w : ℕ) (mark : Bool) (ns : List Name) : Type 0 where
  -- "a whole dictionary of the stated layout, unused bits zero": these bytes and no others
  pub layout : d ≡ laid_out w mark ns
  -- "Every width that holds its numbers is allowed"
  pub least : 1 ≤ w
  pub most : w ≤ 4
  pub held : holds w (stored_numbers ns) ≡ true
  -- "UTF-8 names"
  pub text : each_utf8 ns ≡ true
  -- "the mark only if names ascend strictly"; without it nothing is said of their order, and names may be equal
  pub marked : mark ≡ true → ascending ns ≡ true
  -- "each part up to 4,294,967,295 bytes"
  pub size : length d ≤ most_bytes

-- ---- the same as a test

-- the width and the mark by the first byte, "1 + 16 × sorted + 64 × (width − 1)"
abbrev pub width_in : List ℕ → ℕ
width_in d = get_or d 0 0 / 64 + 1

abbrev pub mark_in : List ℕ → Bool
mark_in d = eqb (get_or d 0 0 / 16 % 2) 1

-- d reads as the names that stand in it (`dictionary_names`), with its own width and mark
unfoldable pub is_dictionary : List ℕ → Bool
is_dictionary d =
    let ns = dictionary_names d in
    same d (laid_out (width_in d) (mark_in d) ns)
    && (leb (width_in d) 4
    && (holds (width_in d) (stored_numbers ns)
    && (each_utf8 ns
    && ((not (mark_in d) || ascending ns)
    && leb (length d) most_bytes))))

-- "It refuses with 19 a bad dictionary"
abbrev pub dictionary_rows : List ℕ → List Row
dictionary_rows d = row 19 (not (is_dictionary d)) ∷ []

-- an answer's number in the table, 0 without a refusal
abbrev pub dictionary_number : Result ℕ BadDictionary → ℕ
dictionary_number (Ok count) = 0
dictionary_number (Err e) = 19

-- how many names a dictionary has, or 19
unfoldable pub read_dictionary : List ℕ → Result ℕ BadDictionary
read_dictionary d = cond (is_dictionary d) (Ok (length (dictionary_names d))) (Err (record {}))

-- ---- names by their ids, in any bytes

-- document 01, "Ids run from 0 in order of registration"; an id that is not held has the empty name
abbrev pub name_in : List ℕ → ℕ → Name
name_in d id = get_or (dictionary_names d) id []

-- For the code: where the name of an id begins in the text, by numbers of w bytes: at the end before it.
abbrev pub start_in : List ℕ → ℕ → ℕ → ℕ
start_in d w zero = 0
start_in d w (suc id) = number_at d (1 + w * (id + 2)) w

-- For the code: the ends rise from `at` to the text's, and what lies between two is UTF-8.
unfoldable pub good_names : ℕ → List ℕ → List ℕ → Bool
good_names at [] text = eqb at (length text)
good_names at (e ∷ ends) text = leb at e && (utf8 (take (e - at) (drop at text)) && good_names e ends text)

-- For the code: offsets beside the starts of values, window by window.
use Rattle.std.specs.Prelude.{◌≡◌, Bool, true, false, not, ◌&&◌, ◌||◌, List, [], ◌∷◌, ℕ, ◌+◌, ◌-◌, ◌≤◌, ◌<◌}
use Rattle.std.specs.Prelude.{eqb, leb, ltb, Option, Some, None, drop, get_or, length}
use Rattle.grammar.specs.Grammar.{starts_from, among}
use Rattle.grammar.specs.Tests.{cut_by, starts_of}

-- where values start at `at` and behind, the data being walked from there
unfoldable pub starts_at : List ℕ → ℕ → List ℕ
starts_at vs at = starts_from at (cut_by (length vs) (drop at vs))

-- n lies from lo on and below hi
abbrev pub inside : ℕ → ℕ → ℕ → Bool
inside lo hi n = leb lo n && ltb n hi

-- as `starting`, of the numbers inside lo and hi only, a start being what passes the test
unfoldable pub starting_by : (ℕ → Bool) → ℕ → ℕ → List ℕ → Bool
starting_by test lo hi [] = true
starting_by test lo hi (n ∷ ns) = (not (inside lo hi n) || (test n && not (among n ns))) && starting_by test lo hi ns

-- n is one of the starts of these data
abbrev pub is_start : List ℕ → ℕ → Bool
is_start vs n = among n (starts_of vs)

-- each of the numbers below the values' size is a start, and none is like a later one
abbrev pub starting_in : List ℕ → List ℕ → Bool
starting_in vs ns = starting_by (is_start vs) 0 (length vs) ns

-- the cell of n has a mark, the first cell being that of lo
abbrev pub marked : ℕ → List ℕ → ℕ → Bool
marked lo cells n = eqb (get_or cells (n - lo) 0) 1

-- a walk that stands at `at` still meets every start from lo on
pub record Reached (vs : List ℕ) (lo at : ℕ) : Type 0 where
  pub low : lo ≤ at
  pub high : at ≤ length vs
  pub ahead : (x : ℕ) → lo ≤ x → among x (starts_at vs at) ≡ is_start vs x

-- the cells of the numbers inside lo and hi are marked where these pass
abbrev pub Marks : (ℕ → Bool) → ℕ → ℕ → List ℕ → Type 0
Marks test lo hi cells = (x : ℕ) → lo ≤ x → x < hi → marked lo cells x ≡ test x

-- a walk has marked the starts inside lo and hi, and stands at r
abbrev pub Walked : List ℕ → ℕ → ℕ → List ℕ → ℕ → Type 0
Walked vs lo hi cells r = Reached vs hi r × Marks (is_start vs) lo hi cells

-- what a window answers: none, if an offset in it is no start or is like a later one; else where the walk stands behind it
abbrev pub Window : List ℕ → List ℕ → ℕ → ℕ → Option ℕ → Type 0
Window vs ns lo hi None = starting_by (is_start vs) lo hi ns ≡ false
Window vs ns lo hi (Some at) = (starting_by (is_start vs) lo hi ns ≡ true) × Reached vs hi at

-- what a number x does to the marks: it takes its own, if it is inside
pub record Takes (lo x : ℕ) (cells after : List ℕ) (r : Bool) : Type 0 where
  pub answer : r ≡ (not (inside lo (lo + length cells) x) || marked lo cells x)
  pub taken : Marks (λ y. marked lo cells y && not (eqb y x)) lo (lo + length cells) after

-- Document 01's table of refused calls: a call's rows as a list, the number that they give, and the table's order.
use Rattle.std.specs.Prelude.{◌≡◌, ◌⊎◌, Bool, true, false, cond, ◌&&◌, ◌||◌, List, [], ◌∷◌, ℕ, eqb, ltb}

-- a row: its number, and "Exactly when"
pub record Row : Type 0 where
  pub number : ℕ
  pub test : Bool

abbrev pub row : ℕ → Bool → Row
row n t = record { number = n; test = t }

-- the first row whose test holds gives the number; 0 where none does
unfoldable pub first : List Row → ℕ
first [] = 0
first (r ∷ rs) = cond r.test r.number (first rs)

-- the test of row n; false where there is no such row
abbrev pub test_of : ℕ → List Row → Bool
test_of n [] = false
test_of n (r ∷ rs) = cond (eqb n r.number) r.test (test_of n rs)

-- ---- what a number says

-- the number is n by these rows: row n's test holds, and no earlier one's
abbrev pub FirstHolds : ℕ → List Row → Type 0
FirstHolds n [] = ⊥
FirstHolds n (r ∷ rs) = ((r.test ≡ true) × (r.number ≡ n)) ⊎ ((r.test ≡ false) × FirstHolds n rs)

-- no row's test holds
abbrev pub Clear : List Row → Type 0
Clear [] = Unit {0}
Clear (r ∷ rs) = (r.test ≡ false) × Clear rs

-- ---- the order, in which the table's rows are checked

-- the numbers of the table, in its order
abbrev pub order : List ℕ
order = 26 ∷ 1 ∷ 21 ∷ 2 ∷ 3 ∷ 4 ∷ 5 ∷ 6 ∷ 22 ∷ 18 ∷ 7 ∷ 17 ∷ 8 ∷ 9 ∷ 10 ∷ 11 ∷ 12 ∷ 13 ∷ 23 ∷ 19 ∷ 20 ∷ 14 ∷ 15 ∷ 16 ∷ 24 ∷ []

-- n is one of these, and not 0, which is no number of the table
abbrev pub listed : ℕ → List ℕ → Bool
listed n [] = false
listed n (m ∷ ms) = (ltb 0 n && eqb n m) || listed n ms

-- those behind n
abbrev pub behind : ℕ → List ℕ → List ℕ
behind n [] = []
behind n (m ∷ ms) = cond (eqb n m) ms (behind n ms)

-- the rows' numbers are some of these, in their order
abbrev pub in_order : List ℕ → List Row → Bool
in_order ns [] = true
in_order ns (r ∷ rs) = listed r.number ns && in_order (behind r.number ns) rs

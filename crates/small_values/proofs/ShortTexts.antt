-- Well-formed texts of one and of two bytes.
use mathlib.Core.Path.{◌≡◌, refl, ◌∙◌, ap}
use mathlib.Core.Bool.{Bool, true, false, cond, ◌&&◌, and-false, and-true}
use mathlib.Core.List.{List, [], ◌∷◌}
use mathlib.Core.Option.{Option, none, some}
use Prim.Native.Nat.{ℕ, suc, ◌<◌}
use native.Mathlib.Omega.{arith}
use lib.Dec.{leb}
use lib.ListN.{length}
use borrow.Author.Tests.{le-leb}
use Rattle.encoding.specs.Utf8.{Range, within, ◌‥◌, table, follow, rest, utf8}

rest_of : Option (List Range) → List ℕ → Bool
rest_of none bs = false
rest_of (some rs) bs = rest rs bs

-- the bytes after a lead byte b, by the row that b is in
rest_lead : (b : ℕ) (bs : List ℕ) → utf8 (b ∷ bs) ≡ rest_of (follow b table) bs
unfolding utf8 rest rest_of
rest_lead b bs = go (follow b table)
  where
    go : (x : Option (List Range)) → elim x [ none ↦ false | some rs ↦ rest rs bs ] ≡ rest_of x bs
    go none = refl
    go (some rs) = refl

-- every row wants more than k bytes after the lead byte
abbrev Wanting : ℕ → List (List Range) → Type 0
Wanting k [] = Unit {0}
Wanting k (row ∷ rows) = (suc k < length row) × Wanting k rows

too_few : (rs : List Range) (bs : List ℕ) → length bs < length rs → rest rs bs ≡ false
unfolding rest
too_few [] bs h = absurd (omega arith)
too_few (r ∷ rs) [] h = refl
too_few (r ∷ rs) (b ∷ bs) h = rw (too_few rs bs (omega arith), and-false)

wanting_more : (b : ℕ) (bs : List ℕ) (rows : List (List Range)) → Wanting (length bs) rows → rest_of (follow b rows) bs ≡ false
unfolding follow rest_of
wanting_more b bs [] w = refl
wanting_more b bs ([] ∷ rows) w = absurd (omega (arith, w.0))
wanting_more b bs ((r ∷ rs) ∷ rows) w = go (within r b) (wanting_more b bs rows w.1)
  where
    go : (t : Bool) → rest_of (follow b rows) bs ≡ false → rest_of (cond t (some rs) (follow b rows)) bs ≡ false
    go true h = too_few rs bs (omega (arith, w.0))
    go false h = h

-- the table's rows behind the second, and behind the first
abbrev longer : List (List Range)
longer =
    (0xE0 ‥ 0xE0 ∷ 0xA0 ‥ 0xBF ∷ 0x80 ‥ 0xBF ∷ [])
    ∷ (0xE1 ‥ 0xEC ∷ 0x80 ‥ 0xBF ∷ 0x80 ‥ 0xBF ∷ [])
    ∷ (0xED ‥ 0xED ∷ 0x80 ‥ 0x9F ∷ 0x80 ‥ 0xBF ∷ [])
    ∷ (0xEE ‥ 0xEF ∷ 0x80 ‥ 0xBF ∷ 0x80 ‥ 0xBF ∷ [])
    ∷ (0xF0 ‥ 0xF0 ∷ 0x90 ‥ 0xBF ∷ 0x80 ‥ 0xBF ∷ 0x80 ‥ 0xBF ∷ [])
    ∷ (0xF1 ‥ 0xF3 ∷ 0x80 ‥ 0xBF ∷ 0x80 ‥ 0xBF ∷ 0x80 ‥ 0xBF ∷ [])
    ∷ (0xF4 ‥ 0xF4 ∷ 0x80 ‥ 0x8F ∷ 0x80 ‥ 0xBF ∷ 0x80 ‥ 0xBF ∷ [])
    ∷ []

abbrev later : List (List Range)
later = (0xC2 ‥ 0xDF ∷ 0x80 ‥ 0xBF ∷ []) ∷ longer

follow_first : (b : ℕ) → follow b table ≡ cond (leb b 0x7F) (some []) (follow b later)
unfolding follow table
follow_first b = rw (le-leb 0 b (omega arith)) refl

-- one byte below 80
pub text_one : (b : ℕ) → utf8 (b ∷ []) ≡ leb b 0x7F
unfolding follow table rest_of rest
text_one b = rest_lead b [] ∙ (ap (λ x. rest_of x []) (follow_first b) ∙ go (leb b 0x7F) (wanting_more b [] later (omega arith)))
  where
    go : (t : Bool) → rest_of (follow b later) [] ≡ false → rest_of (cond t (some []) (follow b later)) [] ≡ t
    go true h = refl
    go false h = h

second : (c : ℕ) → rest (0x80 ‥ 0xBF ∷ []) (c ∷ []) ≡ within (0x80 ‥ 0xBF) c
unfolding rest
second c = and-true (within (0x80 ‥ 0xBF) c)

-- two bytes below 80, or C2 to DF and 80 to BF
pub text_two : (b c : ℕ) → utf8 (b ∷ (c ∷ [])) ≡ cond (leb b 0x7F) (leb c 0x7F) (within (0xC2 ‥ 0xDF) b && within (0x80 ‥ 0xBF) c)
unfolding follow table rest_of utf8
text_two b c =
    rest_lead b (c ∷ [])
    ∙ (ap (λ x. rest_of x (c ∷ [])) (follow_first b)
    ∙ go (leb b 0x7F) (within (0xC2 ‥ 0xDF) b) (wanting_more b (c ∷ []) longer (omega arith)))
  where
    go : (t u : Bool) → rest_of (follow b longer) (c ∷ []) ≡ false
        → rest_of (cond t (some []) (cond u (some (0x80 ‥ 0xBF ∷ [])) (follow b longer))) (c ∷ []) ≡ cond t (leb c 0x7F) (u && within (0x80 ‥ 0xBF) c)
    go true u h = text_one c
    go false true h = second c
    go false false h = h

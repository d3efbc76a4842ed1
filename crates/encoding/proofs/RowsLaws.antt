-- Demand 1 over any list of rows: which number comes, and when none does.
use mathlib.Core.Path.{◌≡◌, refl, sym, ◌∙◌, ap}
use mathlib.Core.Logic.{◌↔◌, ◌⊎◌, inl, inr}
use mathlib.Core.Bool.{Bool, true, false, cond, not, ◌&&◌, ◌||◌, and-eq-true_iff, true≢false}
use mathlib.Core.List.{List, [], ◌∷◌, ◌++◌}
use Prim.Native.Nat.{ℕ, ◌<◌}
use native.Mathlib.Omega.{arith}
use lib.Dec.{eqb, ltb}
use borrow.Author.Tests.{ltb-true, ne_eqb}
use Rattle.encoding.specs.Rows.{Row, row, first, test_of, FirstHolds, Clear, listed, behind, in_order}

-- ---- a number

first_holds : (n : ℕ) (rs : List Row) → (n ≡ 0 → ⊥) → first rs ≡ n → FirstHolds n rs
unfolding first
first_holds n [] z e = absurd (z (sym e))
first_holds n (r ∷ rs) z e = go r.test refl e (first_holds n rs z)
  where
    go : (t : Bool) → r.test ≡ t → cond t r.number (first rs) ≡ n → (first rs ≡ n → FirstHolds n rs) → FirstHolds n (r ∷ rs)
    go true p q f = inl (p, q)
    go false p q f = inr (p, f q)

holds_first : (n : ℕ) (rs : List Row) → FirstHolds n rs → first rs ≡ n
unfolding first
holds_first n [] h = absurd h
holds_first n (r ∷ rs) (inl h) = rw h.0 h.1
holds_first n (r ∷ rs) (inr h) = rw h.0 (holds_first n rs h.1)

-- each number comes exactly under its row where no earlier row's test holds
pub first_exact : (n : ℕ) (rs : List Row) → (n ≡ 0 → ⊥) → (first rs ≡ n) ↔ FirstHolds n rs
first_exact n rs z = (first_holds n rs z, holds_first n rs)

-- ---- the order

-- a number that is listed is not 0
listed_some : (n : ℕ) (ns : List ℕ) → listed n ns ≡ true → 0 < n
listed_some n [] e = absurd (true≢false (sym e))
listed_some n (m ∷ ms) e = go (ltb 0 n) refl e (listed_some n ms)
  where
    go : (t : Bool) → ltb 0 n ≡ t → ((t && eqb n m) || listed n ms) ≡ true → (listed n ms ≡ true → 0 < n) → 0 < n
    go true p q f = ltb-true 0 n p
    go false p q f = f q

-- what is listed behind a number is listed
behind_listed : (n m : ℕ) (ns : List ℕ) → listed n (behind m ns) ≡ true → listed n ns ≡ true
behind_listed n m [] e = e
behind_listed n m (k ∷ ns) e = go (eqb m k) e (behind_listed n m ns)
  where
    late : (t : Bool) → listed n ns ≡ true → (t || listed n ns) ≡ true
    late true h = refl
    late false h = h

    go : (t : Bool) → listed n (cond t ns (behind m ns)) ≡ true → (listed n (behind m ns) ≡ true → listed n ns ≡ true) → listed n (k ∷ ns) ≡ true
    go true h f = late (ltb 0 n && eqb n k) h
    go false h f = late (ltb 0 n && eqb n k) (f h)

-- what the order says of the first row, and of the others
ordered : (ns : List ℕ) (r : Row) (rs : List Row) → in_order ns (r ∷ rs) ≡ true → (listed r.number ns ≡ true) × (in_order (behind r.number ns) rs ≡ true)
ordered ns r rs e = (and-eq-true_iff (listed r.number ns) (in_order (behind r.number ns) rs)).0 e

-- rows in order give no number or a listed one
pub first_listed : (ns : List ℕ) (rs : List Row) → in_order ns rs ≡ true → (first rs ≡ 0) ⊎ (listed (first rs) ns ≡ true)
unfolding first
first_listed ns [] e = inl refl
first_listed ns (r ∷ rs) e = go r.test (ordered ns r rs e).0 (first_listed (behind r.number ns) rs (ordered ns r rs e).1)
  where
    go : (t : Bool) → listed r.number ns ≡ true → (first rs ≡ 0) ⊎ (listed (first rs) (behind r.number ns) ≡ true)
        → (cond t r.number (first rs) ≡ 0) ⊎ (listed (cond t r.number (first rs)) ns ≡ true)
    go true h k = inr h
    go false h (inl z) = inl z
    go false h (inr k) = inr (behind_listed (first rs) r.number ns k)

-- so that a number which is not listed never comes
pub first_unlisted : (n : ℕ) (ns : List ℕ) (rs : List Row) → (n ≡ 0 → ⊥) → listed n ns ≡ false → in_order ns rs ≡ true → first rs ≡ n → ⊥
first_unlisted n ns rs z u o e = go (first_listed ns rs o)
  where
    go : (first rs ≡ 0) ⊎ (listed (first rs) ns ≡ true) → ⊥
    go (inl h) = z (sym e ∙ h)
    go (inr h) = true≢false (sym h ∙ (ap (λ k. listed k ns) e ∙ u))

-- ---- no number

first_clear : (ns : List ℕ) (rs : List Row) → in_order ns rs ≡ true → first rs ≡ 0 → Clear rs
unfolding first
first_clear ns [] o e = tt
first_clear ns (r ∷ rs) o e = go r.test refl e (listed_some r.number ns (ordered ns r rs o).0) (first_clear (behind r.number ns) rs (ordered ns r rs o).1)
  where
    go : (t : Bool) → r.test ≡ t → cond t r.number (first rs) ≡ 0 → 0 < r.number → (first rs ≡ 0 → Clear rs) → Clear (r ∷ rs)
    go true p q h f = absurd (omega arith)
    go false p q h f = (p, f q)

clear_first : (rs : List Row) → Clear rs → first rs ≡ 0
unfolding first
clear_first [] k = refl
clear_first (r ∷ rs) k = rw k.0 (clear_first rs k.1)

-- rows in order give no number exactly where no test holds
pub first_none : (ns : List ℕ) (rs : List Row) → in_order ns rs ≡ true → (first rs ≡ 0) ↔ Clear rs
first_none ns rs o = (first_clear ns rs o, clear_first rs)

-- then row n's test does not, whichever n is
pub clear_at : (n : ℕ) (rs : List Row) → Clear rs → test_of n rs ≡ false
clear_at n [] k = refl
clear_at n (r ∷ rs) k = go (eqb n r.number) k.0 (clear_at n rs k.1)
  where
    go : (t : Bool) → r.test ≡ false → test_of n rs ≡ false → cond t r.test (test_of n rs) ≡ false
    go true a b = a
    go false a b = b

-- ---- rows in the midst of others

-- they may be taken out
pub clear_around : (a own b : List Row) → Clear (a ++ (own ++ b)) → Clear (a ++ b)
clear_around [] [] b k = k
clear_around [] (r ∷ own) b k = clear_around [] own b k.1
clear_around (r ∷ a) own b k = (k.0, clear_around a own b k.1)

first_both : (ns : List ℕ) (own b : List Row) → in_order ns own ≡ true → first (own ++ b) ≡ cond (not (eqb (first own) 0)) (first own) (first b)
unfolding first
first_both ns [] b o = refl
first_both ns (r ∷ own) b o = go r.test (listed_some r.number ns (ordered ns r own o).0) (first_both (behind r.number ns) own b (ordered ns r own o).1)
  where
    go : (t : Bool) → 0 < r.number → first (own ++ b) ≡ cond (not (eqb (first own) 0)) (first own) (first b)
        → cond t r.number (first (own ++ b)) ≡ cond (not (eqb (cond t r.number (first own)) 0)) (cond t r.number (first own)) (first b)
    go true h e = rw (ne_eqb r.number 0 (λ z. absurd (omega arith)))
    go false h e = e

-- and one row, of the number that they give, may stand for them
pub first_own : (ns : List ℕ) (a own b : List Row) → in_order ns own ≡ true
    → first (a ++ (own ++ b)) ≡ first (a ++ (row (first own) (not (eqb (first own) 0)) ∷ b))
unfolding first
first_own ns [] own b o = first_both ns own b o
first_own ns (r ∷ a) own b o = ap (cond r.test r.number) (first_own ns a own b o)

-- Laws that the documents name, of forms that the code had: a number of two digits in halves, and a fact about a signed number by its sign.
-- No proof here needs them now; a proof of code in these forms does.
use mathlib.Core.Path.{◌≡◌, refl, sym, ◌∙◌, ap}
use mathlib.Core.Bool.{Bool, true, false, not, ◌&&◌, ◌||◌, true≢false, false≢true}
use Prim.Native.Nat.{ℕ, ◌+◌, ◌*◌, ◌≤◌, ◌<◌}
use native.Mathlib.Nat.{suc-mul, mul-le-mul_right}
use native.Mathlib.Omega.{arith}
use lib.Dec.{eqb, ltb}
use lib.IntN.{ℤ, pos, negsuc}
use lib.Signed.{non_neg}
use borrow.Author.Tests.{ltb-true, ltb-false, eqb-true, eqb-false, lt-ltb, le-ltb}

-- ---- the two halves of a 128-bit number

-- two tests that follow from each other
same_test : (a b c d : ℕ) → (a < b → c < d) → (b ≤ a → d ≤ c) → ltb a b ≡ ltb c d
same_test a b c d f g = go (ltb a b) refl
  where
    go : (t : Bool) → ltb a b ≡ t → t ≡ ltb c d
    go true e = sym (lt-ltb c d (f (ltb-true a b e)))
    go false e = sym (le-ltb c d (g (ltb-false a b e)))

-- for any base b: numbers of two digits are compared by the high one, then by the low one
pub by_halves : (b m k h l : ℕ) → k < b → l < b → (ltb m h || (eqb h m && ltb k l)) ≡ ltb (m * b + k) (h * b + l)
by_halves b m k h l p q = high (ltb m h) refl
  where
    more : (x y : ℕ) → x < y → x * b + b ≤ y * b
    more x y e = rw suc-mul at (mul-le-mul_right b e)

    low : (t : Bool) → eqb h m ≡ t → h ≤ m → (t && ltb k l) ≡ ltb (m * b + k) (h * b + l)
    low true e g =
        let s : h * b ≡ m * b = ap (λ n. n * b) (eqb-true h m e) in
        same_test k l (m * b + k) (h * b + l) (λ r. omega arith) (λ r. omega arith)
    low false e g =
        let n = eqb-false h m e in
        sym (le-ltb (m * b + k) (h * b + l) (omega (arith, more h m (omega arith))))

    high : (t : Bool) → ltb m h ≡ t → (t || (eqb h m && ltb k l)) ≡ ltb (m * b + k) (h * b + l)
    high true e = sym (lt-ltb (m * b + k) (h * b + l) (omega (arith, more m h (ltb-true m h e))))
    high false e = low (eqb h m) refl (ltb-false m h e)

-- ---- a fact about x by its sign

pub by_sign : (P : ℤ → Type 0) (x : ℤ) {t : Bool} → t ≡ not (non_neg x) → t ≡ true → ((n : ℕ) → P (negsuc n)) → P x
by_sign P (pos n) p e f = absurd (false≢true (sym p ∙ e))
by_sign P (negsuc n) p e f = f n

pub by_no_sign : (P : ℤ → Type 0) (x : ℤ) {t : Bool} → t ≡ not (non_neg x) → t ≡ false → ((n : ℕ) → P (pos n)) → P x
by_no_sign P (pos n) p e f = f n
by_no_sign P (negsuc n) p e f = absurd (true≢false (sym p ∙ e))

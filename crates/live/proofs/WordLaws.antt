-- Different paths have different words, whichever names are used: N says how long NAME is.
use mathlib.Core.Path.{◌≡◌, refl, sym, ◌∙◌, ap}
use mathlib.Core.Bool.{Bool, true, false, cond, ◌&&◌}
use mathlib.Core.List.{List, [], ◌∷◌, ◌++◌}
use Prim.Native.Nat.{ℕ, zero, suc, ◌+◌, ◌-◌, ◌*◌, ◌/◌, ◌%◌, ◌<◌}
use native.Mathlib.Omega.{arith}
use lib.Dec.{leb, ltb}
use lib.ListN.{length}
use borrow.Author.Tests.{le-leb, ltb-true, ltb-false}
use Rattle.encoding.proofs.PackedLaws.{append_split}
use Rattle.metadata.specs.Names.{Name}
use Rattle.live.specs.Words.{Step, field, element, Path, digits, decimal, field_word, bytes_word, element_word, record_word, steps_words, words}

-- ---- a number is read back from its digits, up to what is no digit

abbrev digit : ℕ → Bool
digit b = leb 48 b && leb b 57

number_in : ℕ → List ℕ → ℕ
number_in n [] = n
number_in n (b ∷ bs) = cond (digit b) (number_in (n * 10 + (b - 48)) bs) n

behind : List ℕ → List ℕ
behind [] = []
behind (b ∷ bs) = cond (digit b) (behind bs) (b ∷ bs)

is_digit : (n : ℕ) → n < 10 → digit (48 + n) ≡ true
is_digit n h = rw (le-leb 48 (48 + n) (omega arith), le-leb (48 + n) 57 (omega arith))

-- neither what is empty nor what begins with no digit goes on with a number
abbrev Ends : List ℕ → Type 0
Ends [] = Unit {0}
Ends (b ∷ bs) = digit b ≡ false

number_ends : (n : ℕ) (r : List ℕ) → Ends r → number_in n r ≡ n
unfolding number_in
number_ends n [] h = refl
number_ends n (b ∷ bs) h = rw h

behind_ends : (r : List ℕ) → Ends r → behind r ≡ r
unfolding behind
behind_ends [] h = refl
behind_ends (b ∷ bs) h = rw h

number_digits : (fuel n : ℕ) (r : List ℕ) → n < fuel → number_in 0 (digits fuel n r) ≡ number_in n r
unfolding number_in digits
number_digits zero n r h = absurd (omega arith)
number_digits (suc fuel) n r h = go (ltb n 10) refl (number_digits fuel (n / 10) ((48 + n % 10) ∷ r))
  where
    one : (m d : ℕ) → d < 10 → number_in m ((48 + d) ∷ r) ≡ number_in (m * 10 + d) r
    one m d k = let p : m * 10 + (48 + d - 48) ≡ m * 10 + d = omega arith in rw (is_digit d k, p)

    go : (t : Bool) → ltb n 10 ≡ t → (n / 10 < fuel → number_in 0 (digits fuel (n / 10) ((48 + n % 10) ∷ r)) ≡ number_in (n / 10) ((48 + n % 10) ∷ r))
        → number_in 0 (cond t ((48 + n) ∷ r) (digits fuel (n / 10) ((48 + n % 10) ∷ r))) ≡ number_in n r
    go true e f = one 0 n (ltb-true n 10 e) ∙ ap (λ m. number_in m r) (let p : 0 * 10 + n ≡ n = omega arith in p)
    go false e f =
        let l = ltb-false n 10 e in
        let p : n / 10 * 10 + n % 10 ≡ n = omega arith in
        f (omega arith) ∙ (one (n / 10) (n % 10) (omega arith) ∙ ap (λ m. number_in m r) p)

behind_digits : (fuel n : ℕ) (r : List ℕ) → n < fuel → behind (digits fuel n r) ≡ behind r
unfolding behind digits
behind_digits zero n r h = absurd (omega arith)
behind_digits (suc fuel) n r h = go (ltb n 10) refl (behind_digits fuel (n / 10) ((48 + n % 10) ∷ r))
  where
    one : (d : ℕ) → d < 10 → behind ((48 + d) ∷ r) ≡ behind r
    one d k = rw (is_digit d k)

    go : (t : Bool) → ltb n 10 ≡ t → (n / 10 < fuel → behind (digits fuel (n / 10) ((48 + n % 10) ∷ r)) ≡ behind ((48 + n % 10) ∷ r))
        → behind (cond t ((48 + n) ∷ r) (digits fuel (n / 10) ((48 + n % 10) ∷ r))) ≡ behind r
    go true e f = one n (ltb-true n 10 e)
    go false e f = let l = ltb-false n 10 e in f (omega arith) ∙ one (n % 10) (omega arith)

pub decimal_split : (m n : ℕ) (r s : List ℕ) → Ends r → Ends s → decimal m r ≡ decimal n s → (m ≡ n) × (r ≡ s)
unfolding decimal
decimal_split m n r s h k e = (
  sym (number_ends m r h) ∙ (sym (number_digits (suc m) m r (omega arith)) ∙ (ap (number_in 0) e ∙ (number_digits (suc n) n s (omega arith) ∙ number_ends n s k))),
  sym (behind_ends r h) ∙ (sym (behind_digits (suc m) m r (omega arith)) ∙ (ap behind e ∙ (behind_digits (suc n) n s (omega arith) ∙ behind_ends s k))),
)

-- ---- paths

steps_end : (p : Path) → Ends (steps_words p)
unfolding steps_words
steps_end [] = tt
steps_end (field n ∷ p) = refl
steps_end (element k ∷ p) = refl

-- the third byte of a step tells its kind
third : List ℕ → ℕ
third [] = 0
third (a ∷ []) = 0
third (a ∷ (b ∷ [])) = 0
third (a ∷ (b ∷ (c ∷ l))) = c

field_split : (m n : Name) (p q : Path) → steps_words (field m ∷ p) ≡ steps_words (field n ∷ q) → (m ≡ n) × (steps_words p ≡ steps_words q)
unfolding steps_words
field_split m n p q e =
    let a = (append_split field_word field_word (decimal (length m) (bytes_word ++ (m ++ steps_words p))) (decimal (length n) (bytes_word ++ (n ++ steps_words q))) refl e).1 in
    let d = decimal_split (length m) (length n) (bytes_word ++ (m ++ steps_words p)) (bytes_word ++ (n ++ steps_words q)) refl refl a in
    let b = (append_split bytes_word bytes_word (m ++ steps_words p) (n ++ steps_words q) refl d.1).1 in
    append_split m n (steps_words p) (steps_words q) d.0 b

element_split : (j k : ℕ) (p q : Path) → steps_words (element j ∷ p) ≡ steps_words (element k ∷ q) → (j ≡ k) × (steps_words p ≡ steps_words q)
unfolding steps_words
element_split j k p q e =
    let a = (append_split element_word element_word (decimal j (steps_words p)) (decimal k (steps_words q)) refl e).1 in
    decimal_split j k (steps_words p) (steps_words q) (steps_end p) (steps_end q) a

field_not_element : (n : Name) (k : ℕ) (p q : Path) → steps_words (field n ∷ p) ≡ steps_words (element k ∷ q) → ⊥
unfolding steps_words third
field_not_element n k p q e = let z : ◌≡◌ {A = ℕ} 102 101 = ap third e in omega arith

some_words : (s : Step) (p : Path) → [] ≡ steps_words (s ∷ p) → ⊥
unfolding steps_words
some_words (field n) p e = let z : 0 ≡ suc _ = ap length e in omega arith
some_words (element k) p e = let z : 0 ≡ suc _ = ap length e in omega arith

pub steps_inj : (p q : Path) → steps_words p ≡ steps_words q → p ≡ q
unfolding steps_words
steps_inj [] [] e = refl
steps_inj [] (s ∷ q) e = absurd (some_words s q e)
steps_inj (s ∷ p) [] e = absurd (some_words s p (sym e))
steps_inj (field m ∷ p) (field n ∷ q) e =
    let d = field_split m n p q e in
    let i = steps_inj p q d.1 in
    let j = d.0 in
    cc
steps_inj (field n ∷ p) (element k ∷ q) e = absurd (field_not_element n k p q e)
steps_inj (element k ∷ p) (field n ∷ q) e = absurd (field_not_element n k q p (sym e))
steps_inj (element j ∷ p) (element k ∷ q) e =
    let d = element_split j k p q e in
    let i = steps_inj p q d.1 in
    let f = d.0 in
    cc

-- "Different paths always give different words, whichever names are used."
pub words_inj : (p q : Path) → words p ≡ words q → p ≡ q
unfolding words
words_inj p q e = steps_inj p q (append_split record_word record_word (steps_words p) (steps_words q) refl e).1

-- The strings of k bytes are the numbers below 256 ^ k, in order, highest byte first.
use mathlib.Core.Path.{◌≡◌, refl, sym, ◌∙◌, ap}
use mathlib.Core.List.{List, [], ◌∷◌, ◌++◌, map, map-map, map-append}
use Prim.Native.Nat.{ℕ, zero, suc, ◌+◌, ◌*◌, ◌^◌, ◌/◌, ◌%◌, ◌≤◌, ◌<◌}
use native.Mathlib.Nat.{zero-add, zero-mul, suc-mul, mul_assoc, one-le-pow, mod-lt, mod-eq_of_lt, mul-add-div_right, mul-add-mod_self_right, div-one}
use native.Mathlib.Omega.{arith, pow_step}
use lib.Arith.{digits_div}
use lib.ListN.{length}
use Rattle.encoding.proofs.PackedLaws.{Below}
use Rattle.small_values.specs.Small.{up_from, each, strings, keep, values_of}

-- the lowest k bytes of n, the highest of them first
unfoldable pub digits : ℕ → ℕ → List ℕ
digits zero n = []
digits (suc k) n = (n / 256 ^ k % 256) ∷ digits k n

pub digits_length : (k n : ℕ) → length (digits k n) ≡ k
unfolding digits
digits_length zero n = refl
digits_length (suc k) n = ap suc (digits_length k n)

pub digits_below : (k n : ℕ) → Below 256 (digits k n)
unfolding digits
digits_below zero n = tt
digits_below (suc k) n = (mod-lt (n / 256 ^ k) {m = 256} (omega arith), digits_below k n)

-- what stands above them makes no difference
digits_low : (k a j n : ℕ) → n ≡ a * 256 ^ k + j → digits k n ≡ digits k j
unfolding digits
digits_low zero a j n e = refl
digits_low (suc k) a j n e =
    let s : a * 256 ^ suc k ≡ a * 256 * 256 ^ k = ap (λ x. a * x) (pow_step 256 k) ∙ sym (mul_assoc a 256 (256 ^ k)) in
    let f : n ≡ a * 256 * 256 ^ k + j = e ∙ ap (λ x. x + j) s in
    let d : n / 256 ^ k ≡ a * 256 + j / 256 ^ k = ap (λ x. x / 256 ^ k) f ∙ mul-add-div_right (one-le-pow k 256 (omega arith)) (a * 256) j in
    let h : n / 256 ^ k % 256 ≡ j / 256 ^ k % 256 = ap (λ x. x % 256) d ∙ mul-add-mod_self_right a 256 (j / 256 ^ k) in
    λ i. h i ∷ digits_low k (a * 256) j n f i

digits_first : (k a j : ℕ) → a < 256 → j < 256 ^ k → digits (suc k) (a * 256 ^ k + j) ≡ a ∷ digits k j
unfolding digits
digits_first k a j h l =
    let d : (a * 256 ^ k + j) / 256 ^ k % 256 ≡ a = ap (λ x. x % 256) (digits_div a l) ∙ mod-eq_of_lt h in
    λ i. d i ∷ digits_low k a j (a * 256 ^ k + j) refl i

-- numbers from k on, in two parts
pub up_append : (m n k s t : ℕ) → s ≡ m + n → t ≡ k + m → up_from s k ≡ up_from m k ++ up_from n t
unfolding up_from
up_append zero n k s t e f = let p : s ≡ n = omega arith in let q : k ≡ t = omega arith in λ i. up_from (p i) (q i)
up_append (suc m) n k zero t e f = absurd (omega arith)
up_append (suc m) n k (suc s) t e f = ap (λ l. k ∷ l) (up_append m n (suc k) s t (omega arith) (omega arith))

-- two walks that go the same way
up_same : {A : Type 0} (f g : ℕ → A) (n a b : ℕ) → ((j : ℕ) → j < n → f (a + j) ≡ g (b + j)) → map f (up_from n a) ≡ map g (up_from n b)
unfolding up_from
up_same f g zero a b h = refl
up_same f g (suc n) a b h =
    let p : a + 0 ≡ a = omega arith in
    let q : b + 0 ≡ b = omega arith in
    let first : f a ≡ g b = sym (ap f p) ∙ (h 0 (omega arith) ∙ ap g q) in
    λ i. first i ∷ up_same f g n (suc a) (suc b) later i
  where
    later : (j : ℕ) → j < n → f (suc a + j) ≡ g (suc b + j)
    later j l =
        let p : suc a + j ≡ a + suc j = omega arith in
        let q : b + suc j ≡ suc b + j = omega arith in
        ap f p ∙ (h (suc j) (omega arith) ∙ ap g q)

-- one first byte before all strings of k bytes
row_digits : (k a : ℕ) → a < 256 → map (λ t. a ∷ t) (map (digits k) (up_from (256 ^ k) 0)) ≡ map (digits (suc k)) (up_from (256 ^ k) (a * 256 ^ k))
row_digits k a h =
    map-map (λ t. a ∷ t) (digits k) (up_from (256 ^ k) 0)
    ∙ up_same (λ n. a ∷ digits k n) (digits (suc k)) (256 ^ k) 0 (a * 256 ^ k) (λ j l. ap (λ n. a ∷ digits k n) (zero-add j) ∙ sym (digits_first k a j h l))

-- m of them
rows_digits : (k m a : ℕ) → a + m ≤ 256
    → each (up_from m a) (map (digits k) (up_from (256 ^ k) 0)) ≡ map (digits (suc k)) (up_from (m * 256 ^ k) (a * 256 ^ k))
unfolding up_from each
rows_digits k zero a h = let z : 0 ≡ 0 * 256 ^ k = sym (zero-mul (256 ^ k)) in λ i. map (digits (suc k)) (up_from (z i) (a * 256 ^ k))
rows_digits k (suc m) a h =
    let p = 256 ^ k in
    let s : suc m * p ≡ p + m * p = suc-mul m p ∙ (omega arith) in
    let t : suc a * p ≡ a * p + p = suc-mul a p in
    let u = row_digits k a (omega arith) in
    let v = rows_digits k m (suc a) (omega arith) in
    (λ i. u i ++ v i)
    ∙ (sym (map-append (digits (suc k)) (up_from p (a * p)) (up_from (m * p) (suc a * p)))
    ∙ sym (ap (map (digits (suc k))) (up_append p (m * p) (a * p) (suc m * p) (suc a * p) s t)))

strings_none : strings 0 ≡ map (digits 0) (up_from 1 0)
unfolding strings digits up_from
strings_none = refl

-- all strings of k bytes, ascending
pub strings_are : (k : ℕ) → strings k ≡ map (digits k) (up_from (256 ^ k) 0)
unfolding strings
strings_are zero = strings_none
strings_are (suc k) =
    let s : 256 * 256 ^ k ≡ 256 ^ suc k = sym (pow_step 256 k) in
    let z : 0 * 256 ^ k ≡ 0 = zero-mul (256 ^ k) in
    ap (each (up_from 256 0)) (strings_are k) ∙ (rows_digits k 256 0 (omega arith) ∙ λ i. map (digits (suc k)) (up_from (s i) (z i)))

pub digits_one : (n : ℕ) → digits 1 n ≡ (n % 256) ∷ []
unfolding digits
digits_one n = ap (λ x. (x % 256) ∷ []) (div-one n)

pub digits_two : (n : ℕ) → digits 2 n ≡ (n / 256 % 256) ∷ ((n % 256) ∷ [])
unfolding digits
digits_two n = ap (λ x. (n / 256 % 256) ∷ ((x % 256) ∷ [])) (div-one n)

pub digits_three : (n : ℕ) → digits 3 n ≡ (n / 65536 % 256) ∷ ((n / 256 % 256) ∷ ((n % 256) ∷ []))
unfolding digits
digits_three n = ap (λ x. (n / 65536 % 256) ∷ ((n / 256 % 256) ∷ ((x % 256) ∷ []))) (div-one n)

pub strings_three : strings 3 ≡ map (λ n. (n / 65536 % 256) ∷ ((n / 256 % 256) ∷ ((n % 256) ∷ []))) (up_from 16777216 0)
strings_three = strings_are 3 ∙ λ i. map (λ n. digits_three n i) (up_from 16777216 0)

-- the values of k bytes are those numbers that the reader accepts, in order
pub values_digits : (k : ℕ) → values_of k ≡ keep (map (digits k) (up_from (256 ^ k) 0))
unfolding values_of
values_digits k = ap keep (strings_are k)

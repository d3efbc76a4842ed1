-- A number's digits: how many there are, and that they are written from the last to the first.
use mathlib.Core.Path.{◌≡◌, refl, ◌∙◌, ap}
use mathlib.Core.Bool.{Bool, true, false, cond}
use mathlib.Core.List.{List, [], ◌∷◌, ◌++◌, append_assoc}
use Prim.Native.Nat.{ℕ, zero, suc, ◌+◌, ◌-◌, ◌*◌, ◌/◌, ◌%◌, ◌^◌, ◌≤◌, ◌<◌}
use native.Mathlib.Nat.{pow-suc}
use native.Mathlib.Omega.{arith}
use lib.Dec.{ltb}
use lib.ListN.{set, length, length-set, length-append}
use lib.Seq.{drop-cons, get_or-set_same, take-set-le, drop-set-lt}
use borrow.Author.Tests.{ltb-true, ltb-false, le-ltb, lt-ltb}
use Rattle.encoding.specs.Slices.{write}
use Rattle.encoding.proofs.SliceLaws.{write_none}
use Rattle.live.specs.Words.{digits, decimal}

-- ---- digits before others

digits_append : (fuel n : ℕ) (a b : List ℕ) → digits fuel n (a ++ b) ≡ digits fuel n a ++ b
unfolding digits
digits_append zero n a b = refl
digits_append (suc fuel) n a b = go (ltb n 10) (digits_append fuel (n / 10) ((48 + n % 10) ∷ a) b)
  where
    go : (t : Bool) → digits fuel (n / 10) ((48 + n % 10) ∷ (a ++ b)) ≡ digits fuel (n / 10) ((48 + n % 10) ∷ a) ++ b
        → cond t ((48 + n) ∷ (a ++ b)) (digits fuel (n / 10) ((48 + n % 10) ∷ (a ++ b))) ≡ cond t ((48 + n) ∷ a) (digits fuel (n / 10) ((48 + n % 10) ∷ a)) ++ b
    go true e = refl
    go false e = e

pub decimal_append : (n : ℕ) (b : List ℕ) → decimal n b ≡ decimal n [] ++ b
unfolding decimal
decimal_append n b = digits_append (suc n) n [] b

digits_more : (fuel n : ℕ) → 9 < n → length (digits (suc fuel) n []) ≡ 1 + length (digits fuel (n / 10) [])
unfolding digits
digits_more fuel n h =
    let l = ap length (digits_append fuel (n / 10) [] ((48 + n % 10) ∷ [])) ∙ length-append (digits fuel (n / 10) []) ((48 + n % 10) ∷ []) in
    rw (le-ltb n 10 (omega arith)) (omega arith)

digits_last : (fuel n : ℕ) → n ≤ 9 → length (digits (suc fuel) n []) ≡ 1
unfolding digits
digits_last fuel n h = rw (lt-ltb n 10 (omega arith))

power_some : (k : ℕ) → 0 < 10 ^ k
power_some zero = omega arith
power_some (suc k) = let p = pow-suc 10 k in let o = power_some k in omega arith

-- ---- how many: one more than the power of ten that is reached

digits_power : (k fuel n : ℕ) → n ≤ fuel → 10 ^ k ≤ n → n < 10 * 10 ^ k → length (digits (suc fuel) n []) ≡ suc k
digits_power zero fuel n l h g = digits_last fuel n (omega arith)
digits_power (suc k) zero n l h g = let p = pow-suc 10 k in let o = power_some k in absurd (omega arith)
digits_power (suc k) (suc fuel) n l h g =
    let p = pow-suc 10 k in
    let o = power_some k in
    let r = digits_power k fuel (n / 10) (omega arith) (omega arith) (omega arith) in
    omega (arith, digits_more (suc fuel) n (omega arith))

pub size_power : (k n : ℕ) → 10 ^ k ≤ n → n < 10 * 10 ^ k → k + 1 ≡ length (decimal n [])
unfolding decimal
size_power k n h g = omega (arith, digits_power k n n (omega arith) h g)

pub size_one : (n : ℕ) → n ≡ 0 → 1 ≡ length (decimal n [])
unfolding decimal
size_one n h = omega (arith, digits_last n n (omega arith))

-- ---- the last k digits of n before others

unfoldable pub last_digits : ℕ → ℕ → List ℕ → List ℕ
last_digits zero n rest = rest
last_digits (suc k) n rest = last_digits k (n / 10) ((48 + n % 10) ∷ rest)

last_append : (k n : ℕ) (a b : List ℕ) → last_digits k n (a ++ b) ≡ last_digits k n a ++ b
unfolding last_digits
last_append zero n a b = refl
last_append (suc k) n a b = last_append k (n / 10) ((48 + n % 10) ∷ a) b

length_last : (k n : ℕ) (rest : List ℕ) → length (last_digits k n rest) ≡ k + length rest
unfolding last_digits
length_last zero n rest = omega arith
length_last (suc k) n rest = omega (arith, length_last k (n / 10) ((48 + n % 10) ∷ rest))

-- a number's digits are its last, as many as it has
digits_are : (fuel n : ℕ) (rest : List ℕ) → n < fuel → last_digits (length (digits fuel n [])) n rest ≡ digits fuel n rest
unfolding last_digits digits
digits_are zero n rest h = absurd (omega arith)
digits_are (suc fuel) n rest h = go (ltb n 10) refl (digits_are fuel (n / 10) ((48 + n % 10) ∷ rest))
  where
    go : (t : Bool) → ltb n 10 ≡ t
        → (n / 10 < fuel → last_digits (length (digits fuel (n / 10) [])) (n / 10) ((48 + n % 10) ∷ rest) ≡ digits fuel (n / 10) ((48 + n % 10) ∷ rest))
        → last_digits (length (cond t ((48 + n) ∷ []) (digits fuel (n / 10) ((48 + n % 10) ∷ [])))) n rest
        ≡ cond t ((48 + n) ∷ rest) (digits fuel (n / 10) ((48 + n % 10) ∷ rest))
    go true e f =
        let l = ltb-true n 10 e in
        let z : n % 10 ≡ n = omega arith in
        rw z
    go false e f =
        let l = ltb-false n 10 e in
        let m = ap length (digits_append fuel (n / 10) [] ((48 + n % 10) ∷ [])) ∙ length-append (digits fuel (n / 10) []) ((48 + n % 10) ∷ []) in
        let z : length (digits fuel (n / 10) ((48 + n % 10) ∷ [])) ≡ suc (length (digits fuel (n / 10) [])) = omega arith in
        rw z (f (omega arith))

-- ---- written from the last to the first

-- a last one that is written first
write_last : (l a : List ℕ) (at p x : ℕ) → p ≡ at + length a → p < length l → write at a (set l p x) ≡ write at (a ++ (x ∷ [])) l
unfolding write
write_last l a at p x e h =
    let n = length-set l p x in
    let k = length-append a (x ∷ []) in
    let z : at + length (a ++ (x ∷ [])) ≡ suc p = omega arith in
    rw (take-set-le at l p x (omega arith), z, append_assoc, ← e)
    (rw (drop-cons (set l p x) p 0 (omega arith), get_or-set_same l p x 0 h, drop-set-lt (suc p) l p x (omega arith)))

pub record Digits (target : List ℕ) (at long : ℕ) (l : List ℕ) (p left : ℕ) : Type 0 where
  pub same : write at (last_digits (p - at) left []) l ≡ target
  pub low : at ≤ p
  pub high : p ≤ long
  pub size : length l ≡ long

pub digits_start : (l : List ℕ) (at n : ℕ) {end s : ℕ} → s ≡ length (decimal n []) → end ≡ at + s → at + length (decimal n []) ≤ length l
    → Digits (write at (decimal n []) l) at (length l) l end n
unfolding decimal
digits_start l at n {end} {s} e q h =
    let z : end - at ≡ length (digits (suc n) n []) = omega arith in
    record { same = rw z (ap (λ b. write at b l) (digits_are (suc n) n [] (omega arith))); low = omega arith; high = omega arith; size = refl }

pub digits_again : {target : List ℕ} {at long : ℕ} {l : List ℕ} {p left : ℕ} → Digits target at long l p left → at < p
    → Digits target at long (set l (p - 1) (48 + left % 10)) (p - 1) (left / 10)
unfolding last_digits
digits_again {target} {at} {long} {l} {p} {left} d h =
    let a = last_digits (p - 1 - at) (left / 10) [] in
    let k = d.high in
    let m = d.size in
    let z : p - at ≡ suc (p - 1 - at) = omega arith in
    let q = length_last (p - 1 - at) (left / 10) [] in
    let w : write at a (set l (p - 1) (48 + left % 10)) ≡ write at (a ++ ((48 + left % 10) ∷ [])) l =
    write_last l a at (p - 1) (48 + left % 10) (omega arith) (omega arith) in
    let b = last_append (p - 1 - at) (left / 10) [] ((48 + left % 10) ∷ []) in
    record { same = w ∙ (rw (z, b) at d.same); low = omega arith; high = omega arith; size = length-set l (p - 1) (48 + left % 10) ∙ m }

pub digits_end : {target : List ℕ} {at long : ℕ} {l : List ℕ} {p left : ℕ} → Digits target at long l p left → p ≤ at → l ≡ target
unfolding last_digits
digits_end {at = at} {l = l} {p = p} d h = let z : p - at ≡ 0 = omega arith in write_none l at ∙ (rw z at d.same)

-- The way back: the pairs of digits, how many there are, and how they come into the output.
use mathlib.Core.Path.{◌≡◌, refl, sym, ◌∙◌, ap}
use mathlib.Core.Bool.{Bool, true, false, not, ◌||◌}
use mathlib.Core.List.{List, [], ◌∷◌, ◌++◌, append_assoc}
use mathlib.Core.Logic.{◌⊎◌, inl, inr}
use Prim.Native.Nat.{ℕ, zero, suc, ◌+◌, ◌-◌, ◌*◌, ◌/◌, ◌%◌, ◌^◌, ◌≤◌, ◌<◌}
use native.Mathlib.Omega.{arith}
use native.Mathlib.Nat.{pow-suc, zero-add, le_trans, lt_of_le_of_lt, one-le-pow}
use native.Mathlib.Numerals.{add-one}
use lib.Dec.{ltb, lit<}
use lib.IntN.{ℤ, nat_abs}
use lib.Signed.{mag}
use mir.Syntax.{w64, w128}
use mir.Val.{SFits, of_z, to_z}
use mir.ValLaws.{to_z-of_z}
use lib.ListN.{length, drop, set, length-append, length-set}
use lib.Seq.{drop-cons, drop-length, drop-set-lt, get_or-set_same}
use borrow.Author.Tests.{ltb-false}
use Rattle.encoding.specs.Rows.{first}
use Rattle.encoding.specs.Signed.{whole}
use Rattle.encoding.specs.Slices.{fits, write}
use Rattle.std.proofs.lemmas.List.{append-nil}
use Rattle.encoding.proofs.SliceLaws.{fits_within, write_none}
use Rattle.packed_decimal.specs.PackedDecimal.{byte_of, pairs, digit_pairs, packed_bytes, sign_of}
use Rattle.packed_decimal.specs.Calls.{WritesPacked, too_large}
use Rattle.std.specs.Prelude.{Ok, Err}
use Rattle.packed_decimal.specs.declared.write.WriteError.TheVariants.{OutOfRange, NoRoom}
use Rattle.packed_decimal.proofs.ReadLaws.{neither}

-- ---- the pairs

enough : (f g n : ℕ) → n ≤ f → n ≤ g → pairs f n ≡ pairs g n
unfolding pairs
enough zero zero n h k = refl
enough zero (suc g) zero h k = refl
enough (suc f) zero zero h k = refl
enough (suc f) (suc g) zero h k = refl
enough zero (suc g) (suc n) h k = absurd (omega arith)
enough (suc f) zero (suc n) h k = absurd (omega arith)
enough (suc f) (suc g) (suc n) h k = rw (enough f g (suc n / 100) (omega arith) (omega arith))

-- n has the digits of u and then e and d
pub record Splits (n u e d : ℕ) : Type 0 where
  pub is : (u * 10 + e) * 10 + d ≡ n
  pub high : e < 10
  pub low : d < 10

pub splits : (n : ℕ) → Splits n (n / 100) (n / 10 % 10) (n % 10)
splits n = record { is = omega arith; high = omega arith; low = omega arith }

-- n is divided by ten, and again
pub splits_twice : (n : ℕ) {u t : ℕ} → t ≡ n / 10 → u ≡ t / 10 → Splits n u (t % 10) (n % 10)
splits_twice n e f = record { is = omega arith; high = omega arith; low = omega arith }

-- the last pair stands behind those of the number without it
last_pair : {n u e d : ℕ} → Splits n u e d → 0 < n → digit_pairs n ≡ digit_pairs u ++ (byte_of e d ∷ [])
unfolding pairs
last_pair {n = zero} s z = absurd (omega arith)
last_pair {n = suc n} {u = u} {e = e} {d = d} s z =
    let a : suc n / 100 ≡ u = omega arith in
    let b : suc n / 10 % 10 ≡ e = omega arith in
    let c : suc n % 10 ≡ d = omega arith in
    rw (a, b, c, enough n u u (omega arith) (omega arith))

-- a number below 100 ^ k has no more than k
pub pairs_few : (k f n : ℕ) → n < 100 ^ k → length (pairs f n) ≤ k
unfolding pairs
pairs_few k zero n h = omega arith
pairs_few k (suc f) zero h = omega arith
pairs_few zero (suc f) (suc n) h = absurd (omega arith)
pairs_few (suc k) (suc f) (suc n) h =
    let p = pow-suc 100 k in
    simp length-append (omega (arith, pairs_few k f (suc n / 100) (omega arith)))

some_pairs : (n : ℕ) → 0 < length (digit_pairs n) → 0 < n
unfolding pairs
some_pairs zero h = h
some_pairs (suc n) h = omega arith

no_pairs : (n : ℕ) → length (digit_pairs n) ≤ 0 → digit_pairs n ≡ []
no_pairs n h = go (digit_pairs n) h
  where
    go : (ps : List ℕ) → length ps ≤ 0 → ps ≡ []
    go [] h = refl
    go (p ∷ ps) h = absurd (omega arith)

-- ---- counted

one_more_lem : {n u e d : ℕ} → Splits n u e d → 0 < n → length (digit_pairs n) ≡ length (digit_pairs u) + 1
one_more_lem {u = u} {e = e} {d = d} s z = ap length (last_pair s z) ∙ length-append (digit_pairs u) (byte_of e d ∷ [])

-- a number of at least 100 ^ k has more than k
pub pairs_many : (k n : ℕ) → 100 ^ k ≤ n → k < length (digit_pairs n)
pairs_many zero n h = let p = one_more_lem (splits n) (omega arith) in omega arith
pairs_many (suc k) n h =
    let q = pow-suc 100 k in
    let o : 1 ≤ 100 ^ k = one-le-pow k 100 (omega arith) in
    let i = pairs_many k (n / 100) (omega arith) in
    let p = one_more_lem (splits n) (omega arith) in
    omega arith

pub pairs_told : (k n : ℕ) → 100 ^ k ≤ n → n < 100 * 100 ^ k → k + 1 ≡ length (digit_pairs n)
pairs_told k n h g =
    let q = pow-suc 100 k in
    let i = pairs_few (suc k) n n (omega arith) in
    let j = pairs_many k n h in
    omega arith

hundreds : (j : ℕ) → 100 ^ j ≡ 10 ^ (2 * j)
hundreds zero = refl
hundreds (suc j) =
    let e : 2 * suc j ≡ suc (suc (2 * j)) = omega arith in
    let i = hundreds j in
    let p = pow-suc 100 j in
    let q = pow-suc 10 (2 * j) in
    let r = pow-suc 10 (suc (2 * j)) in
    rw e (omega arith)

halved : (k : ℕ) → (k ≡ 2 * (k / 2)) ⊎ (k ≡ suc (2 * (k / 2)))
halved k = go (k % 2) refl
  where
    go : (r : ℕ) → k % 2 ≡ r → (k ≡ 2 * (k / 2)) ⊎ (k ≡ suc (2 * (k / 2)))
    go zero e = inl (omega arith)
    go (suc zero) e = inr (omega arith)
    go (suc (suc r)) e = absurd (omega arith)

-- the same by the digits, k of them behind the first
pub pairs_by_digits : (k n : ℕ) → 10 ^ k ≤ n → n < 10 * 10 ^ k → k / 2 + 1 ≡ length (digit_pairs n)
pairs_by_digits k n h g =
    let j = k / 2 in
    let p = hundreds j in
    elim (halved k) [
      | inl e ↦ let a : 10 ^ k ≡ 10 ^ (2 * j) = ap (λ m. 10 ^ m) e in pairs_told j n (omega arith) (omega arith)
      | inr e ↦
          let a : 10 ^ k ≡ 10 ^ suc (2 * j) = ap (λ m. 10 ^ m) e in
          let q = pow-suc 10 (2 * j) in
          pairs_told j n (omega arith) (omega arith)
    ]

pub pairs_zero : (n : ℕ) → (0 < n → ⊥) → 0 ≡ length (digit_pairs n)
unfolding pairs
pairs_zero zero h = refl
pairs_zero (suc n) h = absurd (h (omega arith))

-- ---- written, from the last to the first

-- bytes written before a byte that stands already
pub write_before : (l p : List ℕ) (n b : ℕ) → n ≡ length p → n < length l → write 0 p (set l n b) ≡ write 0 (p ++ (b ∷ [])) l
unfolding write
write_before l p n b e h =
    let a : n < length (set l n b) = simp length-set h in
    let k : n < suc n = omega arith in
    rw (zero-add (length p), zero-add, ← e, drop-cons (set l n b) n 0 a, get_or-set_same l n b 0 h, drop-set-lt (suc n) l n b k)
    (rw (length-append, ← e, add-one, append_assoc))

-- the pairs of n, written before what stands from place i on, give the target
pub record Fills (target : List ℕ) (long : ℕ) (l : List ℕ) (n i : ℕ) : Type 0 where
  pub same : write 0 (digit_pairs n) l ≡ target
  pub left : i ≡ length (digit_pairs n)
  pub room : i ≤ long
  pub size : length l ≡ long

pub fills_again : {target : List ℕ} {long : ℕ} {l : List ℕ} {n i u e d : ℕ} → Fills target long l n i → Splits n u e d → 0 < i
    → Fills target long (set l (i - 1) (byte_of e d)) u (i - 1)
fills_again {l = l} {n = n} {i = i} {u = u} {e = e} {d = d} f s h =
    let g = f.left in
    let x = f.room in
    let y = f.size in
    let z = some_pairs n (omega arith) in
    let b : i - 1 ≡ length (digit_pairs u) = omega (arith, one_more_lem s z) in
    record {
      same = rw (write_before l (digit_pairs u) (i - 1) (byte_of e d) b (omega arith), ← last_pair s z) f.same;
      left = b;
      room = omega arith;
      size = simp length-set y;
    }

pub fills_all : {target : List ℕ} {long : ℕ} {l : List ℕ} {n i : ℕ} → Fills target long l n i → i ≤ 0 → l ≡ target
fills_all {l = l} {n = n} f h = write_none l 0 ∙ (rw (no_pairs n (let g = f.left in omega arith)) at f.same)

pub write_whole : (l bs : List ℕ) → length l ≡ length bs → write 0 bs l ≡ bs
unfolding write
write_whole l bs e = rw (zero-add (length bs), ← e, drop-length, append-nil)

-- pairs, before a byte that stands already
pub pairs_put : (l ps : List ℕ) (n b : ℕ) {m : List ℕ} → m ≡ ps → n ≡ length ps → n < length l → m ++ drop n (set l n b) ≡ write 0 (ps ++ (b ∷ [])) l
unfolding write
pairs_put l ps n b e q h = rw e (rw (zero-add (length ps), ← q) at (write_before l ps n b q h))

-- ---- the answers

-- t tells that the number n is too large
pub record Weighed (z : ℤ) (scale n : ℕ) (t : Bool) : Type 0 where
  pub is : n ≡ nat_abs z
  pub test : t ≡ (ltb 38 scale || ltb (10 ^ 38 - 1) n)

pub weigh : {h y : ℤ} (l : ℕ) {scale n : ℕ} {t : Bool} → SFits w64 h → y ≡ whole (to_z w64 (of_z w64 h)) l → mag y < 2 ^ 127
    → n ≡ nat_abs (to_z w128 (of_z w128 y)) → t ≡ too_large scale (to_z w128 (of_z w128 y)) → Weighed (whole h l) scale n t
weigh {h} {y} l {scale} f e m p q =
    record {
      is = rw (to_z-of_z w128 y (record { sfits = m }), e, to_z-of_z w64 h f) at p;
      test = q ∙ ap (λ k. ltb 38 scale || ltb (10 ^ 38 - 1) k) (sym p);
    }

-- a number that is not too large: its last digit, and what is left without it
pub record Formed (z : ℤ) (scale rest digit : ℕ) : Type 0 where
  pub clear : too_large scale z ≡ false
  pub few : rest ≤ 10 ^ 38 - 1
  pub is : rest * 10 + digit ≡ nat_abs z
  pub low : digit < 10

module _ {z : ℤ} {scale n : ℕ} {t : Bool} (w : Weighed z scale n t) where
  row_seven : t ≡ too_large scale z
  row_seven = w.test ∙ rw w.is

  pub too_large_back : (out : List ℕ) → t ≡ true → WritesPacked z scale out (Err OutOfRange) out
  unfolding first
  too_large_back out f = let g = sym row_seven ∙ f in record { number = rw g; size = rw g; bytes = rw g }

  -- the number without its last digit, and that digit
  pub weighed_form : {rest digit : ℕ} → t ≡ false → (rest * 10 + digit ≡ n) × (digit < 10) → Formed z scale rest digit
  weighed_form f p =
      let h = ltb-false (10 ^ 38 - 1) n (neither (ltb 38 scale) (sym w.test ∙ f)).1 in
      let e = p.0 in
      record { clear = sym row_seven ∙ f; few = le_trans (omega arith) h; is = e ∙ w.is; low = p.1 }

form : {z : ℤ} {scale rest digit : ℕ} → Formed z scale rest digit → packed_bytes z ≡ digit_pairs rest ++ (byte_of digit (sign_of z) ∷ [])
unfolding packed_bytes
form {z} {rest = rest} {digit = digit} f =
    let e = f.is in
    let l = f.low in
    let a : nat_abs z / 10 ≡ rest = omega arith in
    let b : nat_abs z % 10 ≡ digit = omega arith in
    rw (a, b)

pub few_pairs : {z : ℤ} {scale rest digit : ℕ} (count : ℕ) → Formed z scale rest digit → count ≡ length (digit_pairs rest) → count + 1 < 2 ^ 64
few_pairs {rest = rest} count f e = let h = pairs_few 19 rest rest (lt_of_le_of_lt f.few (lit< tt)) in omega arith

-- r tells that the output has room for the pairs and the last byte
pub record Roomy (z : ℤ) (scale rest digit count : ℕ) (out : List ℕ) (r : Bool) : Type 0 where
  pub formed : Formed z scale rest digit
  pub count_is : count ≡ length (digit_pairs rest)
  pub test : r ≡ fits 0 (count + 1) (length out)

module _ {z : ℤ} {scale rest digit count : ℕ} {out : List ℕ} {r : Bool} (w : Roomy z scale rest digit count out r) where
  form_size : count + 1 ≡ length (packed_bytes z)
  form_size = rw (form w.formed, length-append, w.count_is)

  row_fourteen : not (fits 0 (length (packed_bytes z)) (length out)) ≡ not r
  row_fourteen = rw (← form_size, ← w.test)

  pub no_room_back : r ≡ false → WritesPacked z scale out (Err NoRoom) out
  unfolding first
  no_room_back g =
      let a = w.formed.clear in
      let b = row_fourteen ∙ ap not g in
      record { number = rw (a, b); size = rw (a, b); bytes = rw (a, b) }

  pub place : r ≡ true → count < length out
  place g = let h = fits_within 0 (count + 1) (length out) w.test g in omega arith

  pub written_back : {b : ℕ} {after : List ℕ} → r ≡ true → b ≡ byte_of digit (sign_of z)
      → after ≡ write 0 (digit_pairs rest ++ (b ∷ [])) out → WritesPacked z scale out (Ok (count + 1)) after
  unfolding first
  written_back g k j =
      let a = w.formed.clear in
      let b = row_fourteen ∙ ap not g in
      record { number = rw (a, b); size = rw (a, b) form_size; bytes = rw (a, b, form w.formed, ← k) j }

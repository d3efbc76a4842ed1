-- Bytes: numbers read from them and written again.
use mathlib.Core.Path.{◌≡◌, refl, sym, ◌∙◌, ap}
use mathlib.Core.List.{List, [], ◌∷◌}
use Prim.Native.Nat.{ℕ, zero, suc, ◌+◌, ◌*◌, ◌^◌, ◌/◌, ◌%◌, ◌≤◌, ◌<◌}
use native.Mathlib.Nat.{mul-suc, mul-zero, pow-suc}
use native.Mathlib.Omega.{arith}
use lib.ListN.{length, take, drop, get_or, length-drop}
use lib.Seq.{take-add, length-take-le}
use Rattle.encoding.specs.Packed.{le, les, number}
use Rattle.encoding.proofs.PackedLaws.{Below}
use Rattle.metadata.specs.Bytes.{numbers}

-- every element is a byte
pub bytes_below : (v : List ℕ) → ((i : ℕ) → get_or v i 0 < 256) → Below 256 v
bytes_below [] h = tt
bytes_below (b ∷ v) h = (h 0, bytes_below v (λ i. h (suc i)))

below_take : (n : ℕ) (v : List ℕ) → Below 256 v → Below 256 (take n v)
below_take zero v h = tt
below_take (suc n) [] h = tt
below_take (suc n) (b ∷ v) h = (h.0, below_take n v h.1)

pub below_drop : (n : ℕ) (v : List ℕ) → Below 256 v → Below 256 (drop n v)
below_drop zero v h = h
below_drop (suc n) [] h = tt
below_drop (suc n) (b ∷ v) h = below_drop n v h.1

le_number : (bs : List ℕ) → Below 256 bs → le (length bs) (number bs) ≡ bs
unfolding le number
le_number [] h = refl
le_number (b ∷ bs) h =
    let k = h.0 in
    let p : (b + 256 * number bs) % 256 ≡ b = omega arith in
    let q : (b + 256 * number bs) / 256 ≡ number bs = omega arith in
    rw (p, q, le_number bs h.1)

number_below : (bs : List ℕ) → Below 256 bs → number bs < 256 ^ length bs
unfolding number
number_below [] h = omega arith
number_below (b ∷ bs) h = let p = pow-suc 256 (length bs) in omega (arith, h.0, number_below bs h.1)

-- the number in w bytes
pub le_at : (w : ℕ) (bytes : List ℕ) → Below 256 bytes → w ≤ length bytes → le w (number (take w bytes)) ≡ take w bytes
le_at w bytes h k = ap (λ n. le n (number (take w bytes))) (sym (length-take-le w bytes k)) ∙ le_number (take w bytes) (below_take w bytes h)

pub small_at : (w : ℕ) (bytes : List ℕ) → Below 256 bytes → w ≤ length bytes → number (take w bytes) < 256 ^ w
small_at w bytes h k = let l = length-take-le w bytes k in rw l at (number_below (take w bytes) (below_take w bytes h))

-- k numbers of w bytes each
pub les_at : (w k : ℕ) (bytes : List ℕ) → Below 256 bytes → w * k ≤ length bytes → les w (numbers w k bytes) ≡ take (w * k) bytes
unfolding les numbers
les_at w zero bytes h l = rw (mul-zero w)
les_at w (suc k) bytes h l =
    let m = mul-suc w k in
    let p : w * suc k ≡ w + w * k = omega arith in
    let n = length-drop w bytes in
    rw (p, take-add w (w * k) bytes, le_at w bytes h (omega arith), les_at w k (drop w bytes) (below_drop w bytes h) (omega arith))

pub length_numbers : (w k : ℕ) (bytes : List ℕ) → length (numbers w k bytes) ≡ k
unfolding numbers
length_numbers w zero bytes = refl
length_numbers w (suc k) bytes = ap suc (length_numbers w k (drop w bytes))

pub numbers_below : (w k : ℕ) (bytes : List ℕ) → Below 256 bytes → w * k ≤ length bytes → Below (256 ^ w) (numbers w k bytes)
unfolding numbers
numbers_below w zero bytes h l = tt
numbers_below w (suc k) bytes h l =
    let m = mul-suc w k in
    let n = length-drop w bytes in
    (small_at w bytes h (omega arith), numbers_below w k (drop w bytes) (below_drop w bytes h) (omega arith))

-- Numbers of four bytes, highest first: their bytes by shifts, what they stand for, and bytes written and read one by one.
use mathlib.Core.Path.{◌≡◌, refl, ◌∙◌}
use mathlib.Core.List.{List, [], ◌∷◌, reverse-reverse}
use Prim.Native.Nat.{ℕ, ◌^◌, ◌<◌, ◌/◌}
use native.Mathlib.Omega.{arith}
use lib.ListN.{length, length-reverse}
use mir.Syntax.{w32}
use Rattle.std.specs.Int.{to_be_bytes, from_be_bytes}
use Rattle.encoding.specs.Packed.{le, number}
use Rattle.encoding.proofs.PackedLaws.{length_le, number_le}
use Rattle.batch.specs.Layout.{big_endian, big_number}

pub length_big : (n : ℕ) → length (big_endian n) ≡ 4
unfolding big_endian
length_big n = length-reverse (le 4 n) ∙ length_le 4 n

pub number_big : (n : ℕ) → n < 256 ^ 4 → big_number (big_endian n) ≡ n
unfolding big_endian big_number
number_big n h = rw (reverse-reverse (le 4 n)) (number_le 4 n h)

-- as they are written, and read
pub big_bytes : (n : ℕ) → to_be_bytes w32 n ≡ big_endian n
unfolding big_endian le
big_bytes n =
    let a : n / 256 / 256 / 256 ≡ n / 2 ^ 24 = omega arith in
    let b : n / 256 / 256 ≡ n / 2 ^ 16 = omega arith in
    rw (a, b) refl

big_read : (a b c d : ℕ) → from_be_bytes w32 (a ∷ (b ∷ (c ∷ (d ∷ [])))) ≡ big_number (a ∷ (b ∷ (c ∷ (d ∷ []))))
unfolding big_number number
big_read a b c d = omega arith

pub read_four : (l : List ℕ) → length l ≡ 4 → from_be_bytes w32 l ≡ big_number l
read_four [] h = absurd (omega arith)
read_four (a ∷ []) h = absurd (omega arith)
read_four (a ∷ (b ∷ [])) h = absurd (omega arith)
read_four (a ∷ (b ∷ (c ∷ []))) h = absurd (omega arith)
read_four (a ∷ (b ∷ (c ∷ (d ∷ [])))) h = big_read a b c d
read_four (a ∷ (b ∷ (c ∷ (d ∷ (e ∷ l))))) h = absurd (omega arith)

-- What is stored: a magnitude with its sign, and the smallest decimal that holds it.
use mathlib.Core.Path.{◌≡◌, refl}
use mathlib.Core.Bool.{Bool, true, false}
use Prim.Native.Nat.{ℕ, zero, suc, ◌-◌, ◌*◌, ◌^◌, ◌≤◌, ◌<◌}
use native.Mathlib.Omega.{arith}
use native.Mathlib.Nat.{div-lt_iff_lt-mul}
use lib.Dec.{lit<}
use lib.Signed.{mag, shr_z}
use lib.IntN.{ℤ, pos, negsuc, nat_abs}
use borrow.Author.Tests.{le-leb, lt-leb}
use Rattle.std.specs.Int.{int_rem_euclid}
use Rattle.value.specs.declared.variant.Variant.TheVariants.{Decimal4, Decimal8, Decimal16}
use Rattle.packed_decimal.specs.PackedDecimal.{in_halves, low_half, signed, smallest}

pub abs_signed : (t : Bool) (n : ℕ) → nat_abs (signed t n) ≡ n
abs_signed true zero = refl
abs_signed true (suc n) = refl
abs_signed false n = refl

-- the high half fits in 64 bits
pub high_fits : (z : ℤ) → mag z < 2 ^ 63 * 2 ^ 64 → mag (shr_z z (2 ^ 64)) < 2 ^ 63
high_fits (pos n) h = (div-lt_iff_lt-mul (lit< tt)).1 h
high_fits (negsuc n) h = (div-lt_iff_lt-mul (lit< tt)).1 h

-- the low half is the remainder that is not below 0
pub low_rest : (z : ℤ) → nat_abs (int_rem_euclid z (pos (2 ^ 64))) ≡ low_half z
low_rest (pos n) = refl
low_rest (negsuc n) = refl

-- ---- the smallest decimal, where the magnitude has told which

pub smallest_16 : (scale : ℕ) (z : ℤ) → 10 ^ 18 - 1 < nat_abs z → Decimal16 (in_halves scale z) ≡ smallest scale z
unfolding smallest
smallest_16 scale z h = rw (lt-leb (nat_abs z) (10 ^ 9 - 1) (omega arith), lt-leb (nat_abs z) (10 ^ 18 - 1) h)

pub smallest_8 : (scale : ℕ) (z : ℤ) → 10 ^ 9 - 1 < nat_abs z → nat_abs z ≤ 10 ^ 18 - 1 → Decimal8 (record { integer = z; scale = scale }) ≡ smallest scale z
unfolding smallest
smallest_8 scale z h k = rw (lt-leb (nat_abs z) (10 ^ 9 - 1) h, le-leb (nat_abs z) (10 ^ 18 - 1) k)

pub smallest_4 : (scale : ℕ) (z : ℤ) → nat_abs z ≤ 10 ^ 9 - 1 → Decimal4 (record { integer = z; scale = scale }) ≡ smallest scale z
unfolding smallest
smallest_4 scale z h = rw (le-leb (nat_abs z) (10 ^ 9 - 1) h)

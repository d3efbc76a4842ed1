-- Packed decimal, in the order of document 02's A4.
use Rattle.std.specs.Prelude.{Bool, cond, not, false, ◌||◌, List, [], ◌∷◌, ◌++◌, ℕ, zero, suc}
use Rattle.std.specs.Prelude.{◌+◌, ◌-◌, ◌*◌, ◌/◌, ◌%◌, ◌^◌, eqb, leb, ltb, get_or, length, ℤ, pos, negsuc, nat_abs, neg_ℤ}
use Rattle.std.specs.Int.Signed.{non_neg, shr_z}
use Rattle.value.specs.declared.decimal.VariantDecimal16.{VariantDecimal16}
use Rattle.value.specs.declared.variant.Variant.{Variant}
use Rattle.value.specs.declared.variant.Variant.TheVariants.{Decimal4, Decimal8, Decimal16}

-- ---- what the bytes say

-- "two digits a byte, high half first": all halves but the last
unfoldable pub digits : List ℕ → List ℕ
digits [] = []
digits (b ∷ []) = b / 16 ∷ []
digits (b ∷ c ∷ bs) = b / 16 ∷ b % 16 ∷ digits (c ∷ bs)

-- "in the last low half C or F for plus, D for minus"
unfoldable pub sign : List ℕ → ℕ
sign bs = get_or bs (length bs - 1) 0 % 16

abbrev pub is_plus : ℕ → Bool
is_plus s = eqb s 0xC || eqb s 0xF

abbrev pub is_minus : ℕ → Bool
is_minus s = eqb s 0xD

-- the number whose digits are those of n and then these
unfoldable pub continued : ℕ → List ℕ → ℕ
continued n [] = n
continued n (d ∷ ds) = continued (n * 10 + d) ds

-- the number that the digits make
abbrev pub magnitude : List ℕ → ℕ
magnitude bs = continued 0 (digits bs)

-- a magnitude below zero or not; "minus zero is zero"
abbrev pub signed : Bool → ℕ → ℤ
signed negative n = cond negative (neg_ℤ (pos n)) (pos n)

-- the number that the bytes stand for
unfoldable pub packed_value : List ℕ → ℤ
packed_value bs = signed (is_minus (sign bs)) (magnitude bs)

-- "a digit above 9"
unfoldable pub digit_above9 : List ℕ → Bool
digit_above9 [] = false
digit_above9 (d ∷ ds) = ltb 9 d || digit_above9 ds

-- number 18, "no bytes, more than 20, a digit above 9 or another sign"
unfoldable pub not_packed : List ℕ → Bool
not_packed bs =
    eqb (length bs) 0 || (ltb 20 (length bs) || (digit_above9 (digits bs) || not (is_plus (sign bs) || is_minus (sign bs))))

-- ---- what is stored

-- the halves of a 128-bit number: the high one signed and rounded down, the low one not
abbrev pub high_half : ℤ → ℤ
high_half z = shr_z z (2 ^ 64)

abbrev pub low_half : ℤ → ℕ
low_half (pos n) = n % 2 ^ 64
low_half (negsuc n) = 2 ^ 64 - 1 - n % 2 ^ 64

-- the decimal16 of a number
abbrev pub in_halves : ℕ → ℤ → VariantDecimal16
in_halves scale z = record { high = high_half z; low = low_half z; scale = scale }

-- "the smallest of the three decimals that holds the number"
unfoldable pub smallest : ℕ → ℤ → Variant
smallest scale z =
    cond (leb (nat_abs z) (10 ^ 9 - 1)) (Decimal4 (record { integer = z; scale = scale }))
    (cond (leb (nat_abs z) (10 ^ 18 - 1)) (Decimal8 (record { integer = z; scale = scale }))
    (Decimal16 (in_halves scale z)))

-- what is appended for the bytes and a scale
abbrev pub packed_variant : List ℕ → ℕ → Variant
packed_variant bs scale = smallest scale (packed_value bs)

-- ---- the way back

-- a byte of its halves
abbrev pub byte_of : ℕ → ℕ → ℕ
byte_of high low = high * 16 + low

-- n's digits, two a byte, in as few bytes as hold them: none for 0. No more than `most` bytes are made; n are always enough.
unfoldable pub pairs : ℕ → ℕ → List ℕ
pairs zero n = []
pairs (suc most) zero = []
pairs (suc most) (suc m) = let n = suc m in pairs most (n / 100) ++ (byte_of (n / 10 % 10) (n % 10) ∷ [])

-- all of them
abbrev pub digit_pairs : ℕ → List ℕ
digit_pairs n = pairs n n

-- "C, or D below zero"
abbrev pub sign_of : ℤ → ℕ
sign_of z = cond (non_neg z) 0xC 0xD

-- "the shortest packed form": the last digit stands beside the sign
unfoldable pub packed_bytes : ℤ → List ℕ
packed_bytes z = digit_pairs (nat_abs z / 10) ++ (byte_of (nat_abs z % 10) (sign_of z) ∷ [])

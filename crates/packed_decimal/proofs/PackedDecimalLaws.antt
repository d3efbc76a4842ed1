-- Theorems about packed decimal: what is stored is in range, the written form reads as its number, and none is shorter.
use mathlib.Core.Path.{◌≡◌, refl, sym, ◌∙◌, ap}
use mathlib.Core.Bool.{Bool, true, false, cond, ◌||◌}
use mathlib.Core.List.{List, [], ◌∷◌, ◌++◌}
use Prim.Native.Nat.{ℕ, zero, suc, ◌+◌, ◌-◌, ◌*◌, ◌/◌, ◌%◌, ◌^◌, ◌≤◌, ◌<◌}
use native.Mathlib.Omega.{arith}
use native.Mathlib.Nat.{suc_inj, pow-suc, mul_assoc, mul-le-mul_right, lt_of_le_of_lt}
use lib.Dec.{leb, ltb, lit<}
use lib.IntN.{ℤ, pos, negsuc, nat_abs}
use lib.ListN.{length, length-append}
use borrow.Author.Tests.{ltb-false, le-ltb, leb-true}
use Rattle.encoding.specs.Rows.{Clear, first, in_order, order}
use Rattle.encoding.specs.Signed.{whole}
use Rattle.encoding.proofs.SignedLaws.{whole_natural, whole_negative}
use Rattle.value.specs.Decimal.{out_of_range}
use Rattle.value.specs.declared.variant.Variant.TheVariants.{Decimal4, Decimal8, Decimal16}
use Rattle.packed_decimal.specs.PackedDecimal.{continued, digit_above9, digits, is_minus, is_plus, magnitude, not_packed, packed_value, sign, signed}
use Rattle.packed_decimal.specs.PackedDecimal.{high_half, in_halves, low_half, packed_variant, smallest}
use Rattle.packed_decimal.specs.PackedDecimal.{byte_of, digit_pairs, packed_bytes, pairs, sign_of}
use Rattle.packed_decimal.specs.Calls.{packed_rows, too_large, way_back_rows}
use Rattle.packed_decimal.proofs.ReadLaws.{Packed, abs_packed, last_sign, neither, packed, packed_holds}
use Rattle.packed_decimal.proofs.WriteLaws.{pairs_few}

-- ---- the rows stand in the table's order

pub packed_order : (bs : List ℕ) (scale : ℕ) → in_order order (packed_rows bs scale) ≡ true
packed_order bs scale = refl

pub way_back_order : (z : ℤ) (scale size : ℕ) → in_order order (way_back_rows z scale size) ≡ true
way_back_order z scale size = refl

-- ---- what is stored

-- the halves of a number make it
pub whole_halves : (z : ℤ) → whole (high_half z) (low_half z) ≡ z
whole_halves (pos n) = whole_natural (n / 2 ^ 64) (n % 2 ^ 64) ∙ ap pos (omega arith)
whole_halves (negsuc n) =
    let l = 2 ^ 64 - 1 - n % 2 ^ 64 in
    whole_negative (n / 2 ^ 64) l (omega arith) ∙ ap negsuc (omega arith)

-- the smallest decimal that holds a number in range is in range
pub smallest_in_range : (scale : ℕ) (z : ℤ) → too_large scale z ≡ false → out_of_range (smallest scale z) ≡ false
unfolding smallest
smallest_in_range scale z e = four (leb (nat_abs z) (10 ^ 9 - 1)) refl
  where
    a : (ltb 38 scale ≡ false) × (ltb (10 ^ 38 - 1) (nat_abs z) ≡ false)
    a = neither (ltb 38 scale) e

    eight : (t : Bool) → leb (nat_abs z) (10 ^ 18 - 1) ≡ t
        → out_of_range (cond t (Decimal8 (record { integer = z; scale = scale })) (Decimal16 (in_halves scale z))) ≡ false
    eight true p = rw (a.0, le-ltb (10 ^ 18 - 1) (nat_abs z) (leb-true (nat_abs z) (10 ^ 18 - 1) p))
    eight false p = rw (a.0, whole_halves z) a.1

    four : (t : Bool) → leb (nat_abs z) (10 ^ 9 - 1) ≡ t
        → out_of_range (cond t (Decimal4 (record { integer = z; scale = scale }))
        (cond (leb (nat_abs z) (10 ^ 18 - 1)) (Decimal8 (record { integer = z; scale = scale })) (Decimal16 (in_halves scale z)))) ≡ false
    four true p = rw (a.0, le-ltb (10 ^ 9 - 1) (nat_abs z) (leb-true (nat_abs z) (10 ^ 9 - 1) p))
    four false p = eight (leb (nat_abs z) (10 ^ 18 - 1)) refl

-- where neither 18 nor 7 holds
pub packed_in_range : (bs : List ℕ) (scale : ℕ) → Clear (packed_rows bs scale) → out_of_range (packed_variant bs scale) ≡ false
packed_in_range bs scale k = smallest_in_range scale (packed_value bs) k.1.0

-- "minus zero is zero"
pub minus_zero : (bs : List ℕ) → magnitude bs ≡ 0 → packed_value bs ≡ pos 0
unfolding packed_value
minus_zero bs e = rw e (go (is_minus (sign bs)))
  where
    go : (t : Bool) → signed t 0 ≡ pos 0
    go true = refl
    go false = refl

-- ---- pairs of digits, and the last byte behind them

-- the digits of n, then the pairs
unfoldable led : ℕ → List ℕ → ℕ
led n [] = n
led n (p ∷ ps) = led ((n * 10 + p / 16) * 10 + p % 16) ps

led_last : (n : ℕ) (ps : List ℕ) (b : ℕ) → continued n (digits (ps ++ (b ∷ []))) ≡ led n ps * 10 + b / 16
unfolding continued digits led
led_last n [] b = refl
led_last n (p ∷ []) b = refl
led_last n (p ∷ q ∷ ps) b = led_last ((n * 10 + p / 16) * 10 + p % 16) (q ∷ ps) b

led_more : (n : ℕ) (ps : List ℕ) (q : ℕ) → led n (ps ++ (q ∷ [])) ≡ (led n ps * 10 + q / 16) * 10 + q % 16
unfolding led
led_more n [] q = refl
led_more n (p ∷ ps) q = led_more ((n * 10 + p / 16) * 10 + p % 16) ps q

byte_halves : (x y : ℕ) → y < 16 → (byte_of x y / 16 ≡ x) × (byte_of x y % 16 ≡ y)
byte_halves x y h = (omega arith, omega arith)

led_pairs : (f n : ℕ) → n ≤ f → led 0 (pairs f n) ≡ n
unfolding pairs led
led_pairs zero n h = omega arith
led_pairs (suc f) zero h = refl
led_pairs (suc f) (suc m) h =
    let n = suc m in
    let b = byte_halves (n / 10 % 10) (n % 10) (omega arith) in
    led_more 0 (pairs f (n / 100)) (byte_of (n / 10 % 10) (n % 10)) ∙ rw (led_pairs f (n / 100) (omega arith), b.0, b.1) (omega arith)

-- both halves of each are digits
abbrev Paired : List ℕ → Type 0
Paired [] = Unit {0}
Paired (p ∷ ps) = (p / 16 ≤ 9) × (p % 16 ≤ 9) × Paired ps

paired_more : (ps : List ℕ) (q : ℕ) → Paired ps → q / 16 ≤ 9 → q % 16 ≤ 9 → Paired (ps ++ (q ∷ []))
paired_more [] q k a b = (a, b, tt)
paired_more (p ∷ ps) q k a b = (k.0, k.1, paired_more ps q k.2 a b)

pairs_paired : (f n : ℕ) → Paired (pairs f n)
unfolding pairs
pairs_paired zero n = tt
pairs_paired (suc f) zero = tt
pairs_paired (suc f) (suc m) =
    let n = suc m in
    paired_more (pairs f (n / 100)) (byte_of (n / 10 % 10) (n % 10)) (pairs_paired f (n / 100)) (omega arith) (omega arith)

paired_small : (ps : List ℕ) (b : ℕ) → Paired ps → b / 16 ≤ 9 → digit_above9 (digits (ps ++ (b ∷ []))) ≡ false
unfolding digits digit_above9
paired_small [] b k h = rw (le-ltb 9 (b / 16) h)
paired_small (p ∷ []) b k h = rw (le-ltb 9 (p / 16) k.0, le-ltb 9 (p % 16) k.1, le-ltb 9 (b / 16) h)
paired_small (p ∷ q ∷ ps) b k h = rw (le-ltb 9 (p / 16) k.0, le-ltb 9 (p % 16) k.1) (paired_small (q ∷ ps) b k.2 h)

-- ---- the written form

sign_small : (z : ℤ) → sign_of z < 16
sign_small (pos n) = omega arith
sign_small (negsuc n) = omega arith

written_sign : (z : ℤ) → sign (packed_bytes z) ≡ sign_of z
unfolding packed_bytes
written_sign z =
    let s = sign_small z in
    sym (last_sign (digit_pairs (nat_abs z / 10)) (byte_of (nat_abs z % 10) (sign_of z))) ∙ omega arith

written_magnitude : (z : ℤ) → magnitude (packed_bytes z) ≡ nat_abs z
unfolding packed_bytes
written_magnitude z =
    let n = nat_abs z in
    let s = sign_small z in
    led_last 0 (digit_pairs (n / 10)) (byte_of (n % 10) (sign_of z)) ∙ rw (led_pairs (n / 10) (n / 10) (omega arith)) (omega arith)

-- "reading that again yields the same number"
pub reads_back : (z : ℤ) → packed_value (packed_bytes z) ≡ z
unfolding packed_value
reads_back z = rw (written_sign z, written_magnitude z) (go z)
  where
    go : (z : ℤ) → signed (is_minus (sign_of z)) (nat_abs z) ≡ z
    go (pos n) = refl
    go (negsuc n) = refl

written_length : (z : ℤ) → length (packed_bytes z) ≡ length (digit_pairs (nat_abs z / 10)) + 1
unfolding packed_bytes
written_length z = length-append (digit_pairs (nat_abs z / 10)) (byte_of (nat_abs z % 10) (sign_of z) ∷ [])

written_small : (z : ℤ) → digit_above9 (digits (packed_bytes z)) ≡ false
unfolding packed_bytes
written_small z =
    let n = nat_abs z in
    let b = byte_halves (n % 10) (sign_of z) (sign_small z) in
    paired_small (digit_pairs (n / 10)) (byte_of (n % 10) (sign_of z)) (pairs_paired (n / 10) (n / 10)) (rw b.0 (omega arith))

-- the form of a number in range is packed decimal
pub written_packed : (z : ℤ) → nat_abs z ≤ 10 ^ 38 - 1 → not_packed (packed_bytes z) ≡ false
written_packed z h =
    let n = nat_abs z in
    let l = written_length z in
    let q : n / 10 ≤ n = omega arith in
    let k = pairs_few 19 (n / 10) (n / 10) (lt_of_le_of_lt q (lt_of_le_of_lt h (lit< tt))) in
    packed_holds (record { some = omega arith; few = omega arith; small = written_small z; signs = rw (written_sign z) (go z) })
  where
    go : (z : ℤ) → (is_plus (sign_of z) || is_minus (sign_of z)) ≡ true
    go (pos n) = refl
    go (negsuc n) = refl

-- ---- none is shorter

-- as many digits make no more
digits_bound : (n b : ℕ) (bs : List ℕ) → digit_above9 (digits (b ∷ bs)) ≡ false → continued n (digits (b ∷ bs)) < (n + 1) * (100 ^ length bs * 10)
unfolding digits digit_above9 continued
digits_bound n b [] e = let h = ltb-false 9 (b / 16) (neither (ltb 9 (b / 16)) e).0 in omega arith
digits_bound n b (c ∷ bs) e =
    let s = neither (ltb 9 (b / 16)) e in
    let t = neither (ltb 9 (b % 16)) s.1 in
    let h = ltb-false 9 (b / 16) s.0 in
    let k = ltb-false 9 (b % 16) t.0 in
    let m = (n * 10 + b / 16) * 10 + b % 16 in
    let p = 100 ^ length bs * 10 in
    let i = digits_bound m c bs t.1 in
    let x : (m + 1) * p ≤ (n + 1) * 100 * p = mul-le-mul_right p (omega arith) in
    let y : (n + 1) * 100 * p ≡ (n + 1) * (100 * p) = mul_assoc (n + 1) 100 p in
    let z : 100 * p ≡ 100 ^ suc (length bs) * 10 = (let q = pow-suc 100 (length bs) in omega arith) in
    rw (← z, ← y) (omega arith)

-- "the shortest packed form": no shorter bytes read as the number
pub none_shorter : (z : ℤ) (bs : List ℕ) → not_packed bs ≡ false → packed_value bs ≡ z → length (packed_bytes z) ≤ length bs
none_shorter z bs p e = go bs (packed bs p) (sym (abs_packed bs) ∙ ap nat_abs e)
  where
    go : (bs : List ℕ) → Packed bs → magnitude bs ≡ nat_abs z → length (packed_bytes z) ≤ length bs
    go [] p e = absurd (let s = p.some in omega arith)
    go (b ∷ bs) p e =
        let h = digits_bound 0 b bs p.small in
        let k = pairs_few (length bs) (nat_abs z / 10) (nat_abs z / 10) (omega arith) in
        let l = written_length z in
        omega arith

-- ---- nor another of its length and with its sign

sign_behind : (b c : ℕ) (bs : List ℕ) → sign (b ∷ c ∷ bs) ≡ sign (c ∷ bs)
unfolding sign
sign_behind b c bs =
    let e : suc (suc (length bs)) - 1 ≡ suc (length bs) = omega arith in
    let f : suc (length bs) - 1 ≡ length bs = omega arith in
    rw (e, f)

same_bytes : (n m b c : ℕ) (bs cs : List ℕ) → digit_above9 (digits (b ∷ bs)) ≡ false → digit_above9 (digits (c ∷ cs)) ≡ false → length bs ≡ length cs
    → sign (b ∷ bs) ≡ sign (c ∷ cs) → continued n (digits (b ∷ bs)) ≡ continued m (digits (c ∷ cs)) → (n ≡ m) × (b ∷ bs ≡ c ∷ cs)
unfolding digits digit_above9 continued sign
same_bytes n m b c [] [] p q l s e =
    let h = ltb-false 9 (b / 16) (neither (ltb 9 (b / 16)) p).0 in
    let k = ltb-false 9 (c / 16) (neither (ltb 9 (c / 16)) q).0 in
    let x : b ≡ c = omega arith in
    (omega arith, rw x)
same_bytes n m b c [] (c' ∷ cs) p q l s e = absurd (omega arith)
same_bytes n m b c (b' ∷ bs) [] p q l s e = absurd (omega arith)
same_bytes n m b c (b' ∷ bs) (c' ∷ cs) p q l s e =
    let p₁ = neither (ltb 9 (b / 16)) p in
    let p₂ = neither (ltb 9 (b % 16)) p₁.1 in
    let q₁ = neither (ltb 9 (c / 16)) q in
    let q₂ = neither (ltb 9 (c % 16)) q₁.1 in
    let i = same_bytes ((n * 10 + b / 16) * 10 + b % 16) ((m * 10 + c / 16) * 10 + c % 16) b' c' bs cs p₂.1 q₂.1 (suc_inj l)
    (sym (sign_behind b b' bs) ∙ (s ∙ sign_behind c c' cs)) e in
    let h = ltb-false 9 (b / 16) p₁.0 in
    let h' = ltb-false 9 (b % 16) p₂.0 in
    let k = ltb-false 9 (c / 16) q₁.0 in
    let k' = ltb-false 9 (c % 16) q₂.0 in
    let o = i.0 in
    let x : b ≡ c = omega arith in
    (omega arith, rw (x, i.1))

-- the form is the only packed decimal of its length, with C, or D below zero, that reads as the number
pub only_form : (z : ℤ) (bs : List ℕ) → not_packed bs ≡ false → packed_value bs ≡ z → sign bs ≡ sign_of z → length bs ≡ length (packed_bytes z)
    → bs ≡ packed_bytes z
only_form z bs p e s l =
    go bs (packed_bytes z) (packed bs p) (written_small z) l (s ∙ sym (written_sign z)) (sym (abs_packed bs) ∙ (ap nat_abs e ∙ sym (written_magnitude z)))
  where
    go : (bs cs : List ℕ) → Packed bs → digit_above9 (digits cs) ≡ false → length bs ≡ length cs → sign bs ≡ sign cs → magnitude bs ≡ magnitude cs → bs ≡ cs
    go [] cs p q l s e = absurd (let a = p.some in omega arith)
    go (b ∷ bs) [] p q l s e = absurd (omega arith)
    go (b ∷ bs) (c ∷ cs) p q l s e = (same_bytes 0 0 b c bs cs p.small q (suc_inj l) s e).1

-- ---- examples

zero_form : packed_bytes (pos 0) ≡ 0x0C ∷ []
unfolding packed_bytes pairs
zero_form = refl

even_form : packed_bytes (negsuc 9) ≡ 0x01 ∷ 0x0D ∷ []
unfolding packed_bytes pairs
even_form = refl

minus_zero_stored : packed_variant (0x00 ∷ 0x0D ∷ []) 3 ≡ Decimal4 (record { integer = pos 0; scale = 3 })
unfolding smallest packed_value digits continued sign
minus_zero_stored = refl

-- 2 ^ 128 + 5
wide_refused : first (packed_rows
    (0x34 ∷ 0x02 ∷ 0x82 ∷ 0x36 ∷ 0x69 ∷ 0x20 ∷ 0x93 ∷ 0x84 ∷ 0x63 ∷ 0x46 ∷ 0x33 ∷ 0x74 ∷ 0x60 ∷ 0x74 ∷ 0x31 ∷ 0x76 ∷ 0x82 ∷ 0x11 ∷ 0x46 ∷ 0x1C ∷ []) 0) ≡ 7
unfolding first not_packed digit_above9 packed_value digits continued sign
wide_refused = refl

-- What the writer stores, where numbers 7 and 8 do not refuse it, is a scalar of the grammar.
use mathlib.Core.Path.{◌≡◌, refl, sym}
use mathlib.Core.Bool.{Bool, true, false, cond, not, ◌||◌, false≢true}
use mathlib.Core.List.{List, ◌∷◌}
use Prim.Native.Nat.{ℕ, suc, ◌+◌, ◌-◌, ◌^◌, ◌≤◌, ◌<◌}
use native.Mathlib.Omega.{arith}
use lib.Dec.{leb, ltb}
use lib.IntN.{ℤ, pos, negsuc, nat_abs}
use lib.ListN.{length}
use lib.Seq.{drop_at}
use borrow.Author.Tests.{leb-true, le-leb, ltb-true, ltb-false, lt-ltb, le-ltb}
use Rattle.encoding.specs.Packed.{le, number}
use Rattle.encoding.specs.Signed.{twos}
use Rattle.encoding.specs.Utf8.{utf8}
use Rattle.encoding.proofs.PackedLaws.{length_le, number_le}
use Rattle.value.specs.declared.decoder.VariantPrimitiveType.TheVariants as type
use Rattle.value.specs.declared.variant.Variant.{Variant}
use Rattle.value.specs.declared.variant.Variant.TheVariants.{Null, Int8, Int16, Int32, Int64, Date, TimestampMicros, TimestampNtzMicros, TimestampNanos, TimestampNtzNanos, Decimal4, Decimal8, Decimal16, Float, Double, BooleanTrue, BooleanFalse, Time}
use Rattle.value.specs.declared.variant.VariantBytes.{VariantBytes}
use Rattle.value.specs.declared.variant.VariantBytes.TheVariants.{Binary, String, ShortString, Text}
use Rattle.value.specs.Decimal.{beyond, beyond_day, integer16, out_of_range}
use Rattle.value.specs.Scalar.{Scalar, Stored, primitive, short, stored_variant, stored_bytes, stored_uuid, long, plain, ill_formed}
use Rattle.value.proofs.ScalarParse.{stored_whole, bytes_whole, uuid_whole}
use Rattle.measure.proofs.ValueLaws.{Known, stored_known, bytes_known, uuid_known}
use Rattle.grammar.specs.Scalars.{coded, signed_in, decimal_outside, outside}
use Rattle.grammar.specs.Grammar.{Plain}

-- ---- two's complement read back

pub signed_back : (w most : ℕ) (z : ℤ) → nat_abs z ≤ most → most + most < 256 ^ w → signed_in w (le w (twos w z)) ≡ z
unfolding signed_in twos
signed_back w most (pos n) h k =
    let e : number (le w n) ≡ n = number_le w n (omega arith) in
    rw (e, lt-ltb (n + n) (256 ^ w) (omega arith))
signed_back w most (negsuc n) h k =
    let m = 256 ^ w - suc n in
    let e : number (le w m) ≡ m = number_le w m (omega arith) in
    let f : 256 ^ w - suc m ≡ n = omega arith in
    rw (e, le-ltb (m + m) (256 ^ w) (omega arith), f)

-- ---- decimals and times

neither : (a b : Bool) → (a || b) ≡ false → (a ≡ false) × (b ≡ false)
neither false b h = (refl, h)
neither true b h = absurd (false≢true (sym h))

decimal_inside : (w most scale : ℕ) (z : ℤ) → ltb (most + most) (256 ^ w) ≡ true → beyond most scale z ≡ false → decimal_outside most w (scale ∷ le w (twos w z)) ≡ false
decimal_inside w most scale z k h =
    let p = neither (ltb 38 scale) (ltb most (nat_abs z)) h in
    rw (signed_back w most z (ltb-false most (nat_abs z) p.1) (ltb-true (most + most) (256 ^ w) k)) h

time_inside : (z : ℤ) → beyond_day z ≡ false → beyond_day (signed_in 8 (le 8 (twos 8 z))) ≡ false
time_inside z h = rw (signed_back 8 86399999999 z (within z h) (ltb-true (86399999999 + 86399999999) (256 ^ 8) refl)) h
  where
    day : (n : ℕ) (t : Bool) → leb n 86399999999 ≡ t → not t ≡ false → n ≤ 86399999999
    day n true e q = leb-true n 86399999999 e
    day n false e q = absurd (false≢true (sym q))

    within : (z : ℤ) → beyond_day z ≡ false → nat_abs z ≤ 86399999999
    within (pos n) h = day n (leb n 86399999999) refl (rw (le-leb 0 n (omega arith)) at h)
    within (negsuc n) h = absurd (false≢true (sym h))

pub variant_inside : (v : Variant) → out_of_range v ≡ false → outside (stored_variant v).stored_type (stored_variant v).payload ≡ false
variant_inside (Decimal4 d) h = decimal_inside 4 (10 ^ 9 - 1) d.scale d.integer refl h
variant_inside (Decimal8 d) h = decimal_inside 8 (10 ^ 18 - 1) d.scale d.integer refl h
variant_inside (Decimal16 d) h = decimal_inside 16 (10 ^ 38 - 1) d.scale (integer16 d) refl h
variant_inside (Time micros) h = time_inside micros h
variant_inside Null h = refl
variant_inside BooleanTrue h = refl
variant_inside BooleanFalse h = refl
variant_inside (Int8 z) h = refl
variant_inside (Int16 z) h = refl
variant_inside (Int32 z) h = refl
variant_inside (Int64 z) h = refl
variant_inside (Double bits) h = refl
variant_inside (Date days) h = refl
variant_inside (TimestampMicros z) h = refl
variant_inside (TimestampNtzMicros z) h = refl
variant_inside (Float bits) h = refl
variant_inside (TimestampNanos z) h = refl
variant_inside (TimestampNtzNanos z) h = refl

-- ---- texts

long_inside : (bytes : List ℕ) → not (utf8 bytes) ≡ false → outside (long type.String bytes).stored_type (long type.String bytes).payload ≡ false
long_inside bytes h = rw (drop_at (le 4 (length bytes)) bytes 4 (length_le 4 (length bytes))) h

plain_inside : (bytes : List ℕ) → not (utf8 bytes) ≡ false → outside (plain bytes).stored_type (plain bytes).payload ≡ false
plain_inside bytes h = go (leb (length bytes) 63) refl
  where
    stored : Bool → Scalar
    stored t = cond t (record { stored_type = short; payload = bytes }) (long type.String bytes)

    go : (t : Bool) → leb (length bytes) 63 ≡ t → outside (stored t).stored_type (stored t).payload ≡ false
    go true e = rw (h, le-ltb 63 (length bytes) (leb-true (length bytes) 63 e))
    go false e = long_inside bytes h

pub bytes_inside : (k : VariantBytes) (bytes : List ℕ) → ill_formed k bytes ≡ false → outside (stored_bytes k bytes).stored_type (stored_bytes k bytes).payload ≡ false
bytes_inside Binary bytes h = refl
bytes_inside String bytes h = long_inside bytes h
bytes_inside ShortString bytes h = plain_inside bytes (neither (not (utf8 bytes)) (ltb 63 (length bytes)) h).0
bytes_inside Text bytes h = plain_inside bytes h

-- ---- scalars of the grammar

pub code_known : (s : Stored) → Known s → coded s ≡ true
code_known (primitive c) h = le-leb c 20 h
code_known short h = refl

pub variant_plain : (v : Variant) → out_of_range v ≡ false → Plain (stored_variant v)
variant_plain v h = record { whole = stored_whole v; known = code_known (stored_variant v).stored_type (stored_known v); range = variant_inside v h }

pub bytes_plain : (k : VariantBytes) (bytes : List ℕ) → length bytes < 256 ^ 4 → ill_formed k bytes ≡ false → Plain (stored_bytes k bytes)
bytes_plain k bytes l h =
    record { whole = bytes_whole k bytes l; known = code_known (stored_bytes k bytes).stored_type (bytes_known k bytes); range = bytes_inside k bytes h }

pub uuid_plain : (id : List ℕ) → length id ≡ 16 → Plain (stored_uuid id)
uuid_plain id e = record { whole = uuid_whole id e; known = code_known (stored_uuid id).stored_type (uuid_known id); range = refl }

-- What is written is measured, whatever comes behind it: a scalar, a list, an object, and values end to end.
use mathlib.Core.Path.{◌≡◌, refl, sym, ◌∙◌, ap}
use mathlib.Core.Bool.{Bool, true, false, cond, ◌||◌}
use mathlib.Core.List.{List, [], ◌∷◌, ◌++◌, append_assoc}
use Prim.Native.Nat.{ℕ, ◌+◌, ◌-◌, ◌*◌, ◌/◌, ◌%◌, ◌^◌, ◌≤◌, ◌<◌}
use native.Mathlib.Nat.{mul-add, add-mul, zero-add}
use native.Mathlib.Omega.{arith}
use lib.Dec.{eqb, leb}
use lib.ListN.{length, take, drop, length-append}
use lib.Seq.{take_at, drop_at}
use borrow.Author.Tests.{eq-eqb, ne_eqb, le-leb, lt-ltb}
use Rattle.encoding.specs.Packed.{le, les}
use Rattle.encoding.proofs.PackedLaws.{length_le, length_les, number_le}
use Rattle.value.specs.declared.decoder.VariantPrimitiveType.TheVariants as type
use Rattle.value.specs.declared.variant.Variant.{Variant}
use Rattle.value.specs.declared.variant.Variant.TheVariants.{Null, Int8, Int16, Int32, Int64, Date, TimestampMicros, TimestampNtzMicros, TimestampNanos}
use Rattle.value.specs.declared.variant.Variant.TheVariants.{TimestampNtzNanos, Decimal4, Decimal8, Decimal16, Float, Double, BooleanTrue, BooleanFalse, Time}
use Rattle.value.specs.declared.variant.VariantBytes.{VariantBytes}
use Rattle.value.specs.declared.variant.VariantBytes.TheVariants.{Binary, String, ShortString, Text}
use Rattle.value.specs.Scalar.{Stored, primitive, short, Scalar, first_byte, scalar_bytes, stored_variant, stored_bytes, stored_uuid, long, plain, Whole}
use Rattle.value.proofs.ScalarParse.{scalar_length_lem}
use Rattle.container.specs.Layout.{count_size, list_byte, list_header_at, object_byte, object_header_at}
use Rattle.container.proofs.LayoutLaws.{Width, HoldsList, HoldsObject, length_list_at, length_object_at, list_kind, object_kind}
use Rattle.measure.specs.Measure.{container_length, measured, starts_in, value_length, whole_values}

-- ---- a header read

front_drop : (w v c b count : ℕ) (table rest : List ℕ) → length table ≡ (v + w) * count
    → drop (1 + c + (v + w) * count) (b ∷ (le c count ++ (table ++ rest))) ≡ rest
front_drop w v c b count table rest e =
    let k = length_le c count in
    let l = length-append (le c count) table in
    let p : b ∷ (le c count ++ (table ++ rest)) ≡ (b ∷ (le c count ++ table)) ++ rest = simp append_assoc in
    ap (drop (1 + c + (v + w) * count)) p ∙ drop_at (b ∷ (le c count ++ table)) rest (1 + c + (v + w) * count) (omega arith)

container_read : (w v c b count size : ℕ) (table rest : List ℕ) → length table ≡ (v + w) * count → count < 256 ^ c → size < 256 ^ w
    → container_length w v c (b ∷ (le c count ++ (table ++ (le w size ++ rest)))) ≡ 1 + c + (v + w) * count + w + size
unfolding container_length
container_read w v c b count size table rest e h k =
    let p : take c (le c count ++ (table ++ (le w size ++ rest))) ≡ le c count = take_at (le c count) _ c (length_le c count) in
    let q : take w (le w size ++ rest) ≡ le w size = take_at (le w size) rest w (length_le w size) in
    rw (p, number_le c count h, front_drop w v c b count table (le w size ++ rest) e, q, number_le w size k) refl

-- ---- the first byte's fields

list_bits : (w : ℕ) (big : Bool) → Width w → (list_byte w big / 4 % 4 + 1 ≡ w) × (eqb (list_byte w big / 16 % 2) 1 ≡ big)
list_bits w true h = (omega arith, eq-eqb (list_byte w true / 16 % 2) 1 (omega arith))
list_bits w false h = (omega arith, ne_eqb (list_byte w false / 16 % 2) 1 (omega arith))

-- an object's has three, too many for one `omega`: the lowest digit is split off first
quarter : (x y : ℕ) → x ≡ 4 * y + 2 → x / 4 ≡ y
quarter x y e = omega arith

low_digit : (y z r : ℕ) → r < 4 → y ≡ 4 * z + r → y % 4 ≡ r
low_digit y z r h e = omega arith

offset_digit : (x w z : ℕ) → Width w → x ≡ 4 * (4 * z + (w - 1)) + 2 → x / 4 % 4 + 1 ≡ w
offset_digit x w z h e =
    let q = quarter x (4 * z + (w - 1)) e in
    let r = low_digit (x / 4) z (w - 1) (omega arith) q in
    omega arith

object_bits : (w v : ℕ) (big : Bool) → Width w → Width v
    → (object_byte w v big / 4 % 4 + 1 ≡ w) × (object_byte w v big / 16 % 4 + 1 ≡ v) × (eqb (object_byte w v big / 64 % 2) 1 ≡ big)
object_bits w v true h k =
    let b = object_byte w v true in
    let p : b / 64 ≡ 1 = omega arith in
    let q : b / 16 ≡ v + 3 = omega arith in
    (offset_digit b w (v + 3) h (omega arith), omega arith, eq-eqb (b / 64 % 2) 1 (omega arith))
object_bits w v false h k =
    let b = object_byte w v false in
    let p : b / 64 ≡ 0 = omega arith in
    let q : b / 16 ≡ v - 1 = omega arith in
    (offset_digit b w (v - 1) h (omega arith), omega arith, ne_eqb (b / 64 % 2) 1 (omega arith))

-- ---- bytes that are one value, whatever comes behind them

pub record Value (bytes : List ℕ) : Type 0 where
  pub some : 0 < length bytes
  pub told : (rest : List ℕ) → value_length (bytes ++ rest) ≡ length bytes

pub value_measured : {bytes : List ℕ} → Value bytes → (rest : List ℕ) → measured (bytes ++ rest) ≡ length bytes
unfolding measured
value_measured {bytes} v rest =
    let l = length-append bytes rest in
    rw (v.told rest, le-leb (length bytes) (length (bytes ++ rest)) (omega arith)) refl

-- a header followed by as many bytes as it says
with_data : (header bytes : List ℕ) → 0 < length header → ((rest : List ℕ) → value_length (header ++ rest) ≡ length header + length bytes)
    → Value (header ++ bytes)
with_data header bytes h f =
    let l = length-append header bytes in
    record { some = omega arith; told = λ rest. rw append_assoc (f (bytes ++ rest) ∙ sym l) }

-- ---- a scalar

-- a type code that there is
abbrev pub Known : Stored → Type 0
Known (primitive c) = c ≤ 20
Known short = Unit {0}

pub record Plain (s : Scalar) : Type 0 where
  pub whole : Whole s
  pub known : Known s.stored_type

-- what is stored has one
pub stored_known : (v : Variant) → Known (stored_variant v).stored_type
stored_known Null = omega arith
stored_known BooleanTrue = omega arith
stored_known BooleanFalse = omega arith
stored_known (Int8 x) = omega arith
stored_known (Int16 x) = omega arith
stored_known (Int32 x) = omega arith
stored_known (Int64 x) = omega arith
stored_known (Double x) = omega arith
stored_known (Decimal4 x) = omega arith
stored_known (Decimal8 x) = omega arith
stored_known (Decimal16 x) = omega arith
stored_known (Date x) = omega arith
stored_known (TimestampMicros x) = omega arith
stored_known (TimestampNtzMicros x) = omega arith
stored_known (Float x) = omega arith
stored_known (Time x) = omega arith
stored_known (TimestampNanos x) = omega arith
stored_known (TimestampNtzNanos x) = omega arith

plain_known : (bytes : List ℕ) → Known (plain bytes).stored_type
plain_known bytes = go (leb (length bytes) 63)
  where
    go : (t : Bool) → Known (cond t (record { stored_type = short; payload = bytes }) (long type.String bytes)).stored_type
    go true = tt
    go false = omega arith

pub bytes_known : (k : VariantBytes) (bytes : List ℕ) → Known (stored_bytes k bytes).stored_type
bytes_known Binary bytes = omega arith
bytes_known String bytes = omega arith
bytes_known ShortString bytes = plain_known bytes
bytes_known Text bytes = plain_known bytes

pub uuid_known : (id : List ℕ) → Known (stored_uuid id).stored_type
uuid_known id = omega arith

scalar_kind : (s : Stored) (n : ℕ) → Known s
    → (eqb (first_byte s n % 4) 3 ≡ false) × (eqb (first_byte s n % 4) 2 ≡ false) × ((eqb (first_byte s n % 4) 1 || leb (first_byte s n / 4) 20) ≡ true)
scalar_kind (primitive c) n h = (
  ne_eqb (4 * c % 4) 3 (omega arith),
  ne_eqb (4 * c % 4) 2 (omega arith),
  (rw (ne_eqb ((4 * c) % 4) 1 (omega arith)) (le-leb ((4 * c) / 4) 20 (omega arith))),
)
scalar_kind short n h = (ne_eqb ((4 * n + 1) % 4) 3 (omega arith), ne_eqb ((4 * n + 1) % 4) 2 (omega arith), (rw (eq-eqb ((4 * n + 1) % 4) 1 (omega arith))))

pub scalar_told : (s : Scalar) (rest : List ℕ) → Whole s → Known s.stored_type → value_length (scalar_bytes s ++ rest) ≡ length (scalar_bytes s)
unfolding value_length scalar_bytes
scalar_told s rest h k =
    let t = scalar_kind s.stored_type (length s.payload) k in
    rw (t.0, t.1, t.2) (scalar_length_lem s rest h)

pub scalar_value : (s : Scalar) → Plain s → Value (scalar_bytes s)
unfolding scalar_bytes
scalar_value s h = record { some = omega arith; told = λ rest. scalar_told s rest h.whole h.known }

-- ---- a list, at any width that holds its size; its offsets are not looked at

pub list_told : (w : ℕ) (big : Bool) (os : List ℕ) (n : ℕ) (rest : List ℕ) → Width w → length os < 256 ^ count_size big → n < 256 ^ w
    → value_length (list_header_at w big os n ++ rest) ≡ length (list_header_at w big os n) + n
unfolding value_length list_header_at
list_told w big os n rest h c s =
    let b = list_byte w big in
    let t = list_bits w big h in
    let k = eq-eqb (b % 4) 3 (list_kind w big) in
    let l = length_list_at w big os n in
    let a : (le (count_size big) (length os) ++ (les w os ++ le w n)) ++ rest ≡ le (count_size big) (length os) ++ (les w os ++ (le w n ++ rest)) =
    simp append_assoc in
    let r = container_read w 0 (count_size big) b (length os) n (les w os) rest (rw zero-add (length_les w os)) c s in
    let m = mul-add w (length os) 1 in
    rw (k, t.0, t.1, a, r) (omega arith)

pub list_value : (w : ℕ) (big : Bool) (os bytes : List ℕ) → HoldsList w big os (length bytes) → Value (list_header_at w big os (length bytes) ++ bytes)
list_value w big os bytes h =
    let l = length_list_at w big os (length bytes) in
    with_data (list_header_at w big os (length bytes)) bytes (omega arith) (λ rest. list_told w big os (length bytes) rest h.width h.count h.size)

-- ---- an object, alike

pub object_told : (w v : ℕ) (big : Bool) (is os : List ℕ) (n : ℕ) (rest : List ℕ) → Width w → Width v → length is < 256 ^ count_size big → length os ≡ length is
    → n < 256 ^ w
    → value_length (object_header_at w v big is os n ++ rest) ≡ length (object_header_at w v big is os n) + n
unfolding value_length object_header_at
object_told w v big is os n rest h i c e s =
    let b = object_byte w v big in
    let t = object_bits w v big h i in
    let k = eq-eqb (b % 4) 2 (object_kind w v big) in
    let j = ne_eqb (b % 4) 3 (omega (arith, object_kind w v big)) in
    let l = length_object_at w v big is os n e in
    let a : (le (count_size big) (length is) ++ (les v is ++ (les w os ++ le w n))) ++ rest
    ≡ le (count_size big) (length is) ++ ((les v is ++ les w os) ++ (le w n ++ rest)) = simp append_assoc in
    let x = length-append (les v is) (les w os) in
    let y = length_les v is in
    let z = length_les w os in
    let u = add-mul v w (length is) in
    let wo : w * length os ≡ w * length is = ap (λ q. w * q) e in
    let r = container_read w v (count_size big) b (length is) n (les v is ++ les w os) rest (omega arith) c s in
    let m = mul-add w (length is) 1 in
    rw (j, k, t.0, t.1, t.2, a, r) (omega arith)

pub object_value : (w v : ℕ) (big : Bool) (is os bytes : List ℕ) → HoldsObject w v big is os (length bytes)
    → Value (object_header_at w v big is os (length bytes) ++ bytes)
object_value w v big is os bytes h =
    let l = length_object_at w v big is os (length bytes) h.pairs in
    with_data (object_header_at w v big is os (length bytes)) bytes (omega arith)
    (λ rest. object_told w v big is os (length bytes) rest h.width h.id_width h.count h.pairs h.size)

-- ---- values end to end

abbrev pub Values : List (List ℕ) → Type 0
Values [] = Unit {0}
Values (p ∷ ps) = Value p × Values ps

-- one behind the other
unfoldable pub end_to_end : List (List ℕ) → List ℕ
end_to_end [] = []
end_to_end (p ∷ ps) = p ++ end_to_end ps

-- where each starts, the first at `at`
unfoldable pub starts_of : ℕ → List (List ℕ) → List ℕ
starts_of at [] = []
starts_of at (p ∷ ps) = at ∷ starts_of (at + length p) ps

pub whole_parts : (ps : List (List ℕ)) → Values ps → whole_values (length ps) (end_to_end ps) ≡ true
unfolding whole_values end_to_end
whole_parts [] h = refl
whole_parts (p ∷ ps) h =
    let m = value_measured h.0 (end_to_end ps) in
    rw (m, lt-ltb 0 (length p) h.0.some, drop_at p (end_to_end ps) (length p) refl) (whole_parts ps h.1)

pub starts_parts : (at : ℕ) (ps : List (List ℕ)) → Values ps → starts_in (length ps) at (end_to_end ps) ≡ starts_of at ps
unfolding starts_in end_to_end starts_of
starts_parts at [] h = refl
starts_parts at (p ∷ ps) h =
    let m = value_measured h.0 (end_to_end ps) in
    rw (m, drop_at p (end_to_end ps) (length p) refl) (ap (λ z. at ∷ z) (starts_parts (at + length p) ps h.1))

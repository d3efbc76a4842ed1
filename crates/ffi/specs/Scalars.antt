-- A scalar as numbers: of fixed size the code of its type, a signed number z, an unsigned number low and a scale; bytes with the code of
-- their kind. Any numbers are a scalar: those of no type or kind, or outside its type, are one that number 7 refuses.
use Rattle.std.specs.Prelude.{cond, List, ℕ, eqb, ltb, ℤ, pos}
use Rattle.std.specs.Int.Signed.{mag}
use Rattle.value.specs.declared.variant.VariantBytes.{VariantBytes}
use Rattle.value.specs.declared.variant.VariantBytes.TheVariants as kinds
use Rattle.value.specs.declared.variant.Variant.{Variant}
use Rattle.value.specs.declared.variant.Variant.TheVariants.{Null, Int8, Int16, Int32, Int64, Date, TimestampMicros, TimestampNtzMicros, TimestampNanos, TimestampNtzNanos, Decimal4, Decimal8, Decimal16, Float, Double, BooleanTrue, BooleanFalse, Time}
use Rattle.semantics.specs.Record.{Scalars, fixed, bytes}

-- a time past the end of the day, which number 7 refuses
abbrev pub no_scalar : Variant
no_scalar = Time (pos 86400000000)

-- z where it lies from -most to most - 1
abbrev pub within : ℕ → ℤ → Variant → Variant
within most z x = cond (ltb (mag z) most) x no_scalar

-- by the code of the type (document 01, "Codes 0 to 20 are those of `VariantPrimitiveType`"): integers, dates, timestamps and
-- times are z; a float's bits are low; a decimal's integer is z, of decimal16 z * 2^64 + low, and it has the scale
unfoldable pub variant_of : ℕ → ℤ → ℕ → ℕ → Variant
variant_of code z low scale =
    cond (eqb code 0) Null
    (cond (eqb code 1) BooleanTrue
    (cond (eqb code 2) BooleanFalse
    (cond (eqb code 3) (within 128 z (Int8 z))
    (cond (eqb code 4) (within 32768 z (Int16 z))
    (cond (eqb code 5) (within 2147483648 z (Int32 z))
    (cond (eqb code 6) (Int64 z)
    (cond (eqb code 7) (Double low)
    (cond (eqb code 8) (within 2147483648 z (Decimal4 (record { integer = z; scale = scale })))
    (cond (eqb code 9) (Decimal8 (record { integer = z; scale = scale }))
    (cond (eqb code 10) (Decimal16 (record { high = z; low = low; scale = scale }))
    (cond (eqb code 11) (within 2147483648 z (Date z))
    (cond (eqb code 12) (TimestampMicros z)
    (cond (eqb code 13) (TimestampNtzMicros z)
    (cond (eqb code 14) (cond (ltb low 4294967296) (Float low) no_scalar)
    (cond (eqb code 17) (Time z)
    (cond (eqb code 18) (TimestampNanos z)
    (cond (eqb code 19) (TimestampNtzNanos z) no_scalar)))))))))))))))))

-- bytes by the code of their kind: 0 is binary, 1 String, 2 short text, 3 plain text; those of any other are no scalar
unfoldable pub kind_of : ℕ → VariantBytes
kind_of k = cond (eqb k 0) kinds.Binary (cond (eqb k 1) kinds.String (cond (eqb k 2) kinds.ShortString kinds.Text))

unfoldable pub bytes_by : ℕ → List ℕ → Scalars
bytes_by k bs = cond (ltb 3 k) (fixed no_scalar) (bytes (kind_of k) bs)

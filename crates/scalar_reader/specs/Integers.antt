-- document 02, A6, "that is int8 to int64": the integer that a scalar is, and that bytes are. A date is none.
use Rattle.std.specs.Prelude.{Bool, cond, ◌&&◌, List, ℕ, ◌%◌, eqb, ltb, ℤ, Option, Some, None, drop, get_or, length}
use Rattle.value.specs.declared.decoder.VariantPrimitiveType.TheVariants as type
use Rattle.value.specs.Decoder.{code}
use Rattle.value.specs.Scalar.{Stored, primitive, short, Scalar, type_of_byte}
use Rattle.measure.specs.Measure.{measured}
use Rattle.grammar.specs.Scalars.{signed_in}

-- of a stored type and payload
abbrev pub integer_stored : Stored → List ℕ → Option ℤ
integer_stored short payload = None
integer_stored (primitive c) payload =
    cond (eqb c (code type.Int8)) (Some (signed_in 1 payload))
    (cond (eqb c (code type.Int16)) (Some (signed_in 2 payload))
    (cond (eqb c (code type.Int32)) (Some (signed_in 4 payload))
    (cond (eqb c (code type.Int64)) (Some (signed_in 8 payload)) None)))

abbrev pub integer_of : Scalar → Option ℤ
integer_of s = integer_stored s.stored_type s.payload

-- the bytes are as long as a scalar says that begins so
abbrev pub is_whole : List ℕ → Bool
is_whole v = ltb (get_or v 0 0 % 4) 2 && (eqb (measured v) (length v) && ltb 0 (length v))

-- of any bytes
unfoldable pub integer_in : List ℕ → Option ℤ
integer_in v = cond (is_whole v) (integer_stored (type_of_byte (get_or v 0 0)) (drop 1 v)) None

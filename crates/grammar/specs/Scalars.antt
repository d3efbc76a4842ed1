-- document 02, A6, "Scalars obey 01's ranges": of a stored type and payload, what numbers 7 and 8 of document 01's table refuse.
use Rattle.std.specs.Prelude.{Bool, true, false, cond, not, ◌||◌, List, ℕ, suc, ◌+◌, ◌-◌, ◌^◌, eqb, leb, ltb, ℤ, pos, negsuc, drop, get_or, length}
use Rattle.encoding.specs.Packed.{number}
use Rattle.encoding.specs.Utf8.{utf8}
use Rattle.value.specs.declared.decoder.VariantPrimitiveType.TheVariants as type
use Rattle.value.specs.Decoder.{code}
use Rattle.value.specs.Decimal.{beyond, beyond_day}
use Rattle.value.specs.Scalar.{Stored, primitive, short}

-- "Codes 0 to 20": a code above is no value
abbrev pub coded : Stored → Bool
coded (primitive c) = leb c 20
coded short = true

-- the whole number that w bytes stand for, two's complement
unfoldable pub signed_in : ℕ → List ℕ → ℤ
signed_in w bytes = cond (ltb (number bytes + number bytes) (256 ^ w)) (pos (number bytes)) (negsuc (256 ^ w - suc (number bytes)))

-- "scale byte 0 to 38, then the integer", in w bytes: beyond either
abbrev pub decimal_outside : ℕ → ℕ → List ℕ → Bool
decimal_outside most w payload = beyond most (get_or payload 0 0) (signed_in w (drop 1 payload))

-- of a stored type and payload: a decimal or time outside its range, text that is not UTF-8, a short text over 63 bytes
abbrev pub outside : Stored → List ℕ → Bool
outside short payload = not (utf8 payload) || ltb 63 (length payload)
outside (primitive c) payload =
    cond (eqb c (code type.Decimal4)) (decimal_outside (10 ^ 9 - 1) 4 payload)
    (cond (eqb c (code type.Decimal8)) (decimal_outside (10 ^ 18 - 1) 8 payload)
    (cond (eqb c (code type.Decimal16)) (decimal_outside (10 ^ 38 - 1) 16 payload)
    (cond (eqb c (code type.Time)) (beyond_day (signed_in 8 payload))
    (cond (eqb c (code type.String)) (not (utf8 (drop 4 payload))) false))))

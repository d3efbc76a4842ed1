-- For the code: bytes of which the last stands apart, and the number that digits make, which stops growing at the largest of 128 bits.
use Rattle.std.specs.Prelude.{List, [], ◌∷◌, ◌++◌, ℕ, ◌+◌, ◌-◌, ◌*◌, ◌/◌, ◌%◌, ◌^◌, min}
use Rattle.packed_decimal.specs.declared.read.Form.{Form}

-- all of its bytes
abbrev pub bytes_of : Form → List ℕ
bytes_of f = f.pairs.now ++ (f.last ∷ [])

-- above every decimal
abbrev pub limit : ℕ
limit = 2 ^ 128 - 1

-- n and the two digits of a byte
abbrev pub with_pair : ℕ → ℕ → ℕ
with_pair n b = min (min (n * 10 + b / 16) limit * 10 + b % 16) limit

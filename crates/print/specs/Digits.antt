-- What is printed, as bytes of ASCII.
use Rattle.std.specs.Prelude.{ℕ, ◌+◌, ◌/◌, ◌%◌, List, [], ◌∷◌, ◌++◌, take, flat_map, if◌then◌else◌, nat_le}

-- the digit of a number below 16
abbrev pub hex_digit : ℕ → ℕ
hex_digit d = if nat_le d 9 then 48 + d else 87 + d

-- each byte's two digits
abbrev pub hex_digits : List ℕ → List ℕ
hex_digits bytes = flat_map (λ b. hex_digit (b / 16) ∷ hex_digit (b % 16) ∷ []) bytes

-- the first n bytes' digits, or those of the first 16 and two dots
abbrev pub front_digits : ℕ → List ℕ → List ℕ
front_digits n bytes = if nat_le n 16 then hex_digits (take n bytes) else hex_digits (take 16 bytes) ++ 46 ∷ 46 ∷ []

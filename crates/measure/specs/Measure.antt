-- document 02, A8, "A value is measured by its first byte, unused bits passed over, and stored lengths; a type code above 20 is no
-- value."
use Rattle.std.specs.Prelude.{Bool, Option, Some, None, cond, ◌&&◌, ◌||◌, List, [], ◌∷◌, ◌≡◌, ℕ, zero, suc, ◌+◌, ◌*◌, ◌/◌, ◌%◌, ◌<◌, ◌≤◌, eqb, leb, ltb, drop}
use Rattle.std.specs.Prelude.{get_or, length, take}
use Rattle.encoding.specs.Packed.{number}
use Rattle.value.specs.Scalar.{scalar_length}
use Rattle.container.specs.Layout.{count_size}

-- the number in w bytes at place p
abbrev pub number_at : List ℕ → ℕ → ℕ → ℕ
number_at bytes p w = number (take w (drop p bytes))

-- "stored lengths" of a header: behind the first byte a count in c bytes, for each counted v bytes of id (a list: none) and w of
-- offset, and the data size in w bytes; then the data. Other offsets, ids and the data itself are not looked at.
unfoldable pub container_length : ℕ → ℕ → ℕ → List ℕ → ℕ
container_length w v c bytes =
    let last = 1 + c + (v + w) * number_at bytes 1 c in
    last + w + number_at bytes last w

-- "by its first byte, unused bits passed over"; document 01, "3 + 4 × (offset width − 1) + 16 × large"
abbrev pub list_length : ℕ → List ℕ → ℕ
list_length b bytes = container_length (b / 4 % 4 + 1) 0 (count_size (eqb (b / 16 % 2) 1)) bytes

-- "2 + 4 × (offset width − 1) + 16 × (id width − 1) + 64 × large"
abbrev pub object_length : ℕ → List ℕ → ℕ
object_length b bytes = container_length (b / 4 % 4 + 1) (b / 16 % 4 + 1) (count_size (eqb (b / 64 % 2) 1)) bytes

-- "a type code above 20 is no value"; a short text has none
abbrev pub known_length : ℕ → List ℕ → ℕ
known_length b bytes = cond (eqb (b % 4) 1 || leb (b / 4) 20) (scalar_length bytes) 0

-- what the first bytes say, however few there are; 0 of no value
unfoldable pub value_length : List ℕ → ℕ
value_length bytes =
    let b = get_or bytes 0 0 in
    cond (eqb (b % 4) 3) (list_length b bytes) (cond (eqb (b % 4) 2) (object_length b bytes) (known_length b bytes))

-- x, where n bytes hold as many, else 0
abbrev pub within : ℕ → ℕ → ℕ
within n x = cond (leb x n) x 0

-- the length of the whole value that bytes begin with, or 0. A header cut short says more than there is: one test is enough.
unfoldable pub measured : List ℕ → ℕ
measured bytes = within (length bytes) (value_length bytes)

-- n whole values, end to end, are exactly these bytes; else "the data is not as many whole values as the list counts"
unfoldable pub whole_values : ℕ → List ℕ → Bool
whole_values zero bytes = eqb (length bytes) 0
whole_values (suc n) bytes = ltb 0 (measured bytes) && whole_values n (drop (measured bytes) bytes)

-- "its offsets can be had again by walking it": where each of n values starts, the first at `at`
unfoldable pub starts_in : ℕ → ℕ → List ℕ → List ℕ
starts_in zero at bytes = []
starts_in (suc n) at bytes = at ∷ starts_in n (at + measured bytes) (drop (measured bytes) bytes)

-- the bytes from `start` up to `used`
abbrev pub data_in : ℕ → ℕ → List ℕ → List ℕ
data_in start used value = drop start (take used value)

-- a length as the code hands it out: none for 0
abbrev pub some_length : ℕ → Option ℕ
some_length zero = None
some_length (suc n) = Some (suc n)

-- For the code: r is this length, or none where it is 0 or more than there is
abbrev pub Told : List ℕ → ℕ → Option ℕ → Type 0
Told bytes n None = within (length bytes) n ≡ 0
Told bytes n (Some r) = (r ≡ n) × (0 < n)

-- r is the number in w bytes at place p, of a few bytes
pub record Numbered (bytes : List ℕ) (p w r : ℕ) : Type 0 where
  pub value : r ≡ number_at bytes p w
  pub small : r < 4294967296

-- r is that number, or none where so many bytes are not there
abbrev pub Read : List ℕ → ℕ → ℕ → Option ℕ → Type 0
Read bytes p w None = length bytes < p + w
Read bytes p w (Some r) = (p + w ≤ length bytes) × Numbered bytes p w r

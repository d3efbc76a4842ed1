-- What the call that writes packed decimal answers and leaves behind.
use Rattle.std.specs.Prelude.{◌≡◌, cond, List, ℕ, eqb, ℤ, length}
use Rattle.encoding.specs.Rows.{first}
use Rattle.encoding.specs.Slices.{write}
use Rattle.packed_decimal.specs.PackedDecimal.{packed_bytes}
use Rattle.packed_decimal.specs.Calls.{way_back_rows}

-- document 02, A4, "A way back, from a 16-byte integer and a scale, gives the shortest packed form"; a refused call leaves the output and what
-- stood for its length
pub record WritesPackedWords (n : ℕ) (z : ℤ) (scale : ℕ) (out after : List ℕ) (writtenBefore written : ℕ) : Type 0 where
  pub number : n ≡ first (way_back_rows z scale (length out))
  pub output : after ≡ cond (eqb n 0) (write 0 (packed_bytes z) out) out
  pub length : written ≡ cond (eqb n 0) (length (packed_bytes z)) writtenBefore

-- What each call answers and leaves behind.
use Rattle.std.specs.Prelude.{◌≡◌, Bool, cond, not, List, [], ◌∷◌, ℕ, ◌-◌, ◌^◌, eqb, length, ℤ, Result, Ok, Err}
use Rattle.std.proofs.Math.Option.{Option, none, some}
use Rattle.encoding.specs.Rows.{Row, row, first}
use Rattle.encoding.specs.Slices.{fits, write}
use Rattle.value.specs.Decimal.{beyond}
use Rattle.value.specs.declared.variant.Variant.{Variant}
use Rattle.packed_decimal.specs.declared.read.PackedError.{PackedError}
use Rattle.packed_decimal.specs.declared.read.PackedError.TheVariants as read
use Rattle.packed_decimal.specs.declared.write.WriteError.{WriteError}
use Rattle.packed_decimal.specs.declared.write.WriteError.TheVariants as written
use Rattle.packed_decimal.specs.PackedDecimal.{not_packed, packed_value, packed_variant, packed_bytes}

-- number 7, "a magnitude or scale too large"
abbrev pub too_large : ℕ → ℤ → Bool
too_large = beyond (10 ^ 38 - 1)

-- ---- from packed decimal

-- "with 18 directly before 7"
abbrev pub packed_rows : List ℕ → ℕ → List Row
packed_rows bs scale = row 18 (not_packed bs) ∷ (row 7 (too_large scale (packed_value bs)) ∷ [])

-- an answer's number, 0 without a refusal, and its value: the scalar to store
pub record ReadAnswer : Type 0 where
  pub number : ℕ
  pub variant : Option Variant

abbrev pub read_answer : Result Variant PackedError → ReadAnswer
read_answer (Ok v) = record { number = 0; variant = some v }
read_answer (Err read.NotPacked) = record { number = 18; variant = none }
read_answer (Err read.OutOfRange) = record { number = 7; variant = none }

-- the first row's number, and the scalar where there is none
pub record ReadsPacked (bs : List ℕ) (scale : ℕ) (r : Result Variant PackedError) : Type 0 where
  pub number : (read_answer r).number ≡ first (packed_rows bs scale)
  pub variant : (read_answer r).variant ≡ cond (eqb (first (packed_rows bs scale)) 0) (some (packed_variant bs scale)) none

-- ---- the way back

-- "remains 7, also on the way back, where an output too short is 14"
abbrev pub way_back_rows : ℤ → ℕ → ℕ → List Row
way_back_rows z scale size = row 7 (too_large scale z) ∷ (row 14 (not (fits 0 (length (packed_bytes z)) size)) ∷ [])

-- an answer's number, and its value: how many bytes are yielded
pub record WrittenAnswer : Type 0 where
  pub number : ℕ
  pub size : ℕ

abbrev pub written_answer : Result ℕ WriteError → WrittenAnswer
written_answer (Ok n) = record { number = 0; size = n }
written_answer (Err written.OutOfRange) = record { number = 7; size = 0 }
written_answer (Err written.NoRoom) = record { number = 14; size = 0 }

-- "a call writes of its output only what it yields"
pub record WritesPacked (z : ℤ) (scale : ℕ) (out : List ℕ) (r : Result ℕ WriteError) (after : List ℕ) : Type 0 where
  pub number : (written_answer r).number ≡ first (way_back_rows z scale (length out))
  pub size : (written_answer r).size ≡ cond (eqb (first (way_back_rows z scale (length out))) 0) (length (packed_bytes z)) 0
  pub bytes : after ≡ cond (eqb (first (way_back_rows z scale (length out))) 0) (write 0 (packed_bytes z) out) out

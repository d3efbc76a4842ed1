-- What is stored for a scalar that is appended, or its own refusal.
use Rattle.std.specs.Prelude.{◌≡◌, List, ℕ, length, Result, Ok, Err}
use Rattle.encoding.specs.Rows.{first}
use Rattle.value.specs.declared.variant.Variant.{Variant}
use Rattle.value.specs.Scalar.{scalar_bytes, stored_variant}
use Rattle.semantics.specs.declared.refusal.Refusal.{Refusal}
use Rattle.semantics.specs.Refusal.{number_told}
use Rattle.semantics.specs.Record.{Scalars, scalar_of}
use Rattle.semantics.specs.Table.{scalar_rows}

-- a scalar whose bytes are those stored for a value, or its own refusal
pub record OwnBytes {A : Type 0} (stored : A → List ℕ) (s : Scalars) (r : Result A Refusal) : Type 0 where
  pub number : number_told r ≡ first (scalar_rows s)
  pub bytes : (x : A) → r ≡ Ok x → scalar_bytes (scalar_of s) ≡ stored x

-- a scalar with this number of its own, which is stored as x where that is 0
pub record StoredAs (s : Scalars) (x : Variant) (own : ℕ) : Type 0 where
  pub number : own ≡ first (scalar_rows s)
  pub scalar : own ≡ 0 → scalar_of s ≡ stored_variant x

-- the bytes that the value takes
abbrev pub size_by : {A : Type 0} → (A → List ℕ) → Result A Refusal → Result ℕ Refusal
size_by stored (Ok x) = Ok (length (stored x))
size_by stored (Err r) = Err r

-- Bytes by the code of their kind, and the scalar that number 7 refuses.
use Rattle.std.proofs.Common.{◌≡◌, ◌∙◌, Bool, true, false, cond, List, ℕ, Option, None, Some, Result, Err, ltb, refl, sym}
use Rattle.encoding.specs.Rows.{first}
use Rattle.value.specs.declared.variant.VariantBytes.{VariantBytes}
use Rattle.value.specs.Decimal.{out_of_range}
use Rattle.semantics.specs.declared.refusal.Refusal.{Refusal}
use Rattle.semantics.specs.declared.refusal.Refusal.TheVariants as refusal
use Rattle.value.specs.Scalar.{scalar_bytes, stored_variant}
use Rattle.value.specs.declared.variant.Variant.{Variant}
use Rattle.std.specs.Prelude.{MatchOption}
use Rattle.semantics.specs.Record.{bytes, fixed}
use Rattle.actions.specs.Append.{OwnBytes}
use Rattle.actions.proofs.AppendLaws.{own_refuses}
use Rattle.ffi.specs.Scalars.{bytes_by, kind_of, no_scalar}

-- what is no scalar is refused: by number 7, where no earlier row holds
pub no_scalar_refused : out_of_range no_scalar ≡ true
no_scalar_refused = refl

-- bytes of a kind that there is, and of one that there is not
module _ (code : ℕ) (bs : List ℕ) {o : Option VariantBytes} (e : o ≡ cond (ltb 3 code) None (Some (kind_of code))) where
  known_kind : {k : VariantBytes} → o ≡ Some k → bytes_by code bs ≡ bytes k bs
  unfolding bytes_by
  known_kind {k} s = go (ltb 3 code) (sym e ∙ s)
    where
      go : (t : Bool) → cond t None (Some (kind_of code)) ≡ Some k → cond t (fixed no_scalar) (bytes (kind_of code) bs) ≡ bytes k bs
      go true p = absurd (cc)
      go false p = cc

  unknown_kind : o ≡ None → bytes_by code bs ≡ fixed no_scalar
  unfolding bytes_by
  unknown_kind n = go (ltb 3 code) (sym e ∙ n)
    where
      go : (t : Bool) → cond t None (Some (kind_of code)) ≡ None → cond t (fixed no_scalar) (bytes (kind_of code) bs) ≡ fixed no_scalar
      go true p = refl
      go false p = absurd (cc)

  module _ {A : Type 0} (stored : A → List ℕ) where
    pub no_kind : o ≡ None → OwnBytes stored (bytes_by code bs) (Err refusal.OutOfRange)
    unfolding first
    no_kind n = rw (unknown_kind n) (own_refuses stored (fixed no_scalar) refusal.OutOfRange refl)

    pub some_kind : {k : VariantBytes} {r : Result A Refusal} → o ≡ Some k → OwnBytes stored (bytes k bs) r → OwnBytes stored (bytes_by code bs) r
    some_kind s w = rw (known_kind s) w

-- a scalar of fixed size, and numbers that are none
module _ {o : Option Variant} {v : Variant} where
  pub no_fixed : o ≡ None → MatchOption o (v ≡ no_scalar) (λ x. x ≡ v) → OwnBytes (λ x. scalar_bytes (stored_variant x)) (fixed v) (Err refusal.OutOfRange)
  unfolding first
  no_fixed n m = rw (rw n at m) (own_refuses (λ x. scalar_bytes (stored_variant x)) (fixed no_scalar) refusal.OutOfRange refl)

  pub some_fixed : {w : Variant} {r : Result Variant Refusal} → o ≡ Some w → MatchOption o (v ≡ no_scalar) (λ x. x ≡ v) → OwnBytes (λ x. scalar_bytes (stored_variant x)) (fixed w) r → OwnBytes (λ x. scalar_bytes (stored_variant x)) (fixed v) r
  some_fixed s m t = rw (rw s at m) at t

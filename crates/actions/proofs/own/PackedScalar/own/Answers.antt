use Rattle.std.proofs.Common.{◌∙◌, ap, sym}
use Rattle.std.proofs.lemmas.Result.{err_from_is_err_and}
use Rattle.value.specs.Scalar.{scalar_bytes, stored_variant}
use Rattle.semantics.specs.Record.{packed}
use Rattle.semantics.specs.Refusal.{packed_refusal}
use Rattle.semantics.proofs.RefusalLaws.{packed_number}
use Rattle.actions.proofs.AppendLaws.{own_refuses, own_stores, packed_read}
use Rattle.actions.proofs.own.PackedScalar.own.Goals as goal

pub returns-in_err-variant_of : goal.returns-in_err-variant_of
returns-in_err-variant_of c =
    let x = c.args.self in
    let e = c.in_err-variant_of.field-0.0 in
    let w = err_from_is_err_and c.from_residual.result c.from_residual.ensures.1 in
    rw (w.1, w.2) (own_refuses (λ v. scalar_bytes (stored_variant v)) (packed x.scale x.bytes.now) (packed_refusal e) (sym (packed_number e) ∙ c.in_err-variant_of.ensures.number))

pub returns : goal.returns
returns c =
    let x = c.args.self in
    own_stores (λ v. scalar_bytes (stored_variant v)) (packed x.scale x.bytes.now) _ c.in_ok-variant_of.ensures.number (ap (λ v. scalar_bytes (stored_variant v)) (sym (packed_read c.in_ok-variant_of.ensures)))

use Rattle.std.proofs.Common.{◌∙◌, List, ℕ, refl, sym}
use Rattle.value.specs.declared.variant.OfKind.{OfKind}
use Rattle.value.specs.Scalar.{scalar_bytes, stored_bytes}
use Rattle.semantics.specs.Record.{bytes}
use Rattle.semantics.specs.declared.refusal.Refusal.TheVariants.{IllFormed}
use Rattle.refusals.proofs.RowLaws.{own_row}
use Rattle.actions.proofs.AppendLaws.{own_refuses, own_stores}
use Rattle.actions.proofs.own.OfKindScalar.own.Goals as goal

-- the bytes of a kind, stored
abbrev stored : OfKind → List ℕ
stored x = scalar_bytes (stored_bytes x.kind x.bytes.now)

pub returns-then-ill_formed : goal.returns-then-ill_formed
returns-then-ill_formed c =
    let x = c.args.self in
    own_refuses stored (bytes x.kind x.bytes.now) IllFormed (own_row 8 refl (sym c.if-ill_formed.true ∙ c.ill_formed.ensures))

pub returns-else-ill_formed : goal.returns-else-ill_formed
returns-else-ill_formed c =
    let x = c.args.self in
    own_stores stored (bytes x.kind x.bytes.now) x (own_row 8 refl (sym c.if-ill_formed.false ∙ c.ill_formed.ensures)) refl

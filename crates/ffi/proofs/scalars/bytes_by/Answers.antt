use Rattle.std.proofs.Common.{rules, ◌≡◌, ◌∙◌, sym, List, ℕ, None, Some, Err}
use Rattle.semantics.specs.declared.refusal.Refusal.TheVariants.{OutOfRange}
use Rattle.value.specs.declared.variant.OfKind.{OfKind}
use Rattle.value.specs.Scalar.{scalar_bytes, stored_bytes}
use Rattle.ffi.proofs.ScalarLaws.{no_kind, some_kind}
use Rattle.ffi.proofs.scalars.bytes_by.Goals as goal

-- the bytes of a kind, stored
abbrev stored : OfKind → List ℕ
stored x = scalar_bytes (stored_bytes x.kind x.bytes.now)

pub returns-in_err-kind : goal.returns-in_err-kind
returns-in_err-kind c =
    let a = c.args in
    let n : c.kind_of.result ≡ None = search rules in
    let r : c.from_residual.result ≡ Err OutOfRange = search rules in
    rw r (no_kind a.kind a.bytes.now c.kind_of.ensures stored n)

pub returns : goal.returns
returns c =
    let a = c.args in
    let n : c.kind_of.result ≡ Some c.in_ok-kind.kind = search rules in
    some_kind a.kind a.bytes.now c.kind_of.ensures stored n c.own.ensures

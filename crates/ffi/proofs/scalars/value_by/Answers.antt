use mir.Syntax.{w64}
use mir.ValLaws.{to_z-of_z}
use Rattle.std.proofs.Common.{rules, ◌≡◌, ◌∙◌, sym, None, Some, Err}
use Rattle.semantics.specs.declared.refusal.Refusal.TheVariants.{OutOfRange}
use Rattle.ffi.proofs.ScalarLaws.{no_fixed, some_fixed}
use Rattle.ffi.proofs.scalars.value_by.Goals as goal

pub returns-in_err-ok_or : goal.returns-in_err-ok_or
returns-in_err-ok_or c =
    let n : c.scalar_of.result ≡ None = search rules in
    let r : c.from_residual.result ≡ Err OutOfRange = search rules in
    rw r (no_fixed n (rw (to_z-of_z w64 c.args.z c.ranges.z) at c.scalar_of.ensures))

pub returns : goal.returns
returns c =
    let n : c.scalar_of.result ≡ Some c.in_ok-ok_or.field-0 = search rules in
    some_fixed n (rw (to_z-of_z w64 c.args.z c.ranges.z) at c.scalar_of.ensures) c.own.ensures

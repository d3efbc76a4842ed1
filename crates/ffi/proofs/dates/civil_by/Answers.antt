use mir.Syntax.{w64}
use mir.ValLaws.{to_z-of_z}
use Rattle.std.proofs.Common.{rules, ◌≡◌, ◌∙◌, sym, None, Some, Err}
use Rattle.semantics.specs.declared.refusal.Refusal.TheVariants.{OutOfRange}
use Rattle.ffi.proofs.DateLaws.{no_civil, some_civil}
use Rattle.ffi.proofs.dates.civil_by.Goals as goal

pub returns-in_err-ok_or : goal.returns-in_err-ok_or
returns-in_err-ok_or c =
    let n : c.civil_of.result ≡ None = search rules in
    let r : c.from_residual.result ≡ Err OutOfRange = search rules in
    rw r (no_civil _ _ _ (rw n at c.civil_of.ensures))

pub returns : goal.returns
returns c =
    let a = c.args in
    let n : c.civil_of.result ≡ Some c.in_ok-ok_or.field-0 = search rules in
    let k = rw (to_z-of_z w64 a.time c.ranges.time) at (rw n at c.civil_of.ensures) in
    some_civil a.code a.date a.time k.0 k.1 (rw k.2 at c.own.ensures)

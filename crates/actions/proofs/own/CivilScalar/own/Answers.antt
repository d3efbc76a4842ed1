use Rattle.std.proofs.Common.{ap, sym}
use Rattle.std.proofs.lemmas.Result.{err_from_is_err_and}
use Rattle.calendar.specs.Answers.{civil_rows, civil_variant}
use Rattle.calendar.proofs.AnswerLaws.{told_done, told_refused_lem}
use Rattle.value.specs.Scalar.{scalar_bytes, stored_variant}
use Rattle.semantics.specs.Record.{civil}
use Rattle.semantics.specs.declared.refusal.Refusal.TheVariants.{OutOfCalendar}
use Rattle.actions.proofs.AppendLaws.{own_refuses, own_stores}
use Rattle.actions.proofs.own.CivilScalar.own.Goals as goal

pub returns-in_err-variant_of : goal.returns-in_err-variant_of
returns-in_err-variant_of c =
    let x = c.args.self in
    let w = err_from_is_err_and c.from_residual.result c.from_residual.ensures.1 in
    rw (w.1, w.2) (own_refuses (λ v. scalar_bytes (stored_variant v)) (civil x) OutOfCalendar (sym (told_refused_lem 17 (civil_rows x) (civil_variant x) c.in_err-variant_of.ensures)))

pub returns : goal.returns
returns c =
    let x = c.args.self in
    let t = told_done _ (civil_rows x) (civil_variant x) c.in_ok-variant_of.ensures in
    own_stores (λ v. scalar_bytes (stored_variant v)) (civil x) _ (sym t.0) (ap (λ v. scalar_bytes (stored_variant v)) (sym t.1))

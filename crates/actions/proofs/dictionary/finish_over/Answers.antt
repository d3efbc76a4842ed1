-- Rows 2, 4 and 15 first, and row 1 with them; else the dictionary's answer.
use mathlib.Core.Path.{refl, sym}
use Rattle.std.proofs.lemmas.Result.{err_from_is_err_and}
use Rattle.semantics.specs.Refusal.{finish_refusal}
use Rattle.semantics.specs.Step.{finished}
use Rattle.semantics.proofs.RefusalLaws.{finish_refused}
use Rattle.actions.proofs.FinishLaws.{ends_none, ends_written, finishable, finishes_early}
use Rattle.actions.proofs.dictionary.finish_over.Goals as goal

pub returns-in_err-may_finish : goal.returns-in_err-may_finish
returns-in_err-may_finish c =
    let x = err_from_is_err_and c.from_residual.result c.from_residual.ensures.1 in
    finishes_early (c.in_err-may_finish.ensures c.args.out.now) x.1 x.2

pub returns-in_err-written : goal.returns-in_err-written
returns-in_err-written c =
    let e = c.in_err-written.field-0.0 in
    let x = err_from_is_err_and c.from_residual-in_err-written.result c.from_residual-in_err-written.ensures.1 in
    rw (x.1, x.2) (ends_none (finishable (sym (c.in_ok-may_finish.ensures c.args.out.now))) (let n = c.names.ensures in rw (n.counts, n.text, n.ends) at c.in_err-written.ensures) (finish_refusal e) (finish_refused e))

pub returns : goal.returns
unfolding finished
returns c = ends_written (finishable (sym (c.in_ok-may_finish.ensures c.args.out.now))) (let n = c.names.ensures in rw (n.counts, n.text, n.ends) at c.in_ok-written.ensures) refl

use mathlib.Core.Path.{refl}
use Rattle.std.proofs.lemmas.Result.{err_from_is_err_and}
use Rattle.semantics.specs.Refusal.{close_refusal}
use Rattle.semantics.proofs.RefusalLaws.{close_number}
use Rattle.actions.proofs.CloseLaws.{closable, closes_early, leaves_closed, leaves_refused}
use Rattle.actions.proofs.header.close_over.Goals as goal

pub returns-in_err-most : goal.returns-in_err-most
returns-in_err-most c =
    let x = err_from_is_err_and c.from_residual.result c.from_residual.ensures.1 in
    closes_early c.in_err-most.ensures x.1 x.2

pub put_header-requires : goal.put_header-requires
put_header-requires c = (closable c.in_ok-most.ensures).most

pub overflow_sub-result : goal.overflow_sub-result
overflow_sub-result c = (closable c.in_ok-most.ensures).depth

pub returns-in_err-used : goal.returns-in_err-used
returns-in_err-used c =
    let e = c.in_err-used.field-0.0 in
    let x = err_from_is_err_and c.from_residual-in_err-used.result c.from_residual-in_err-used.ensures.1 in
    rw (x.1, x.2) (leaves_refused (close_refusal e) (closable c.in_ok-most.ensures) (c.in_err-used.ensures _) (close_number e))

pub returns : goal.returns
returns c = leaves_closed (closable c.in_ok-most.ensures) (c.in_ok-used.ensures _) refl

use Rattle.std.proofs.lemmas.Result.{err_from_is_err_and}
use Rattle.semantics.specs.Record.{storage_of}
use Rattle.builder.proofs.CallLaws.{does_finished, finish_refused}
use Rattle.builder.proofs.calls.finish.Goals as goal

pub returns-in_err-r : goal.returns-in_err-r
returns-in_err-r c =
    let a = c.args in
    let l = storage_of a.value.now a.text.now a.ends.now a.entries.now a.undo.now in
    let x = err_from_is_err_and c.from_residual.result c.from_residual.ensures.1 in
    finish_refused a.b a.marks.now l c.view_of-v.ensures a.out.now c.in_err-r.ensures x.1 x.2

pub returns : goal.returns
returns c =
    let a = c.args in
    let l = storage_of a.value.now a.text.now a.ends.now a.entries.now a.undo.now in
    does_finished a.b a.marks.now l c.view_of-v.ensures a.out.now c.in_ok-r.ensures

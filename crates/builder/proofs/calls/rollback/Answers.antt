use Rattle.std.proofs.lemmas.Result.{err_from_is_err_and}
use Rattle.semantics.specs.Record.{roll_back, storage_of}
use Rattle.builder.proofs.CallLaws.{does_moved, moved_refused}
use Rattle.builder.proofs.calls.rollback.Goals as goal

pub returns-in_err-r : goal.returns-in_err-r
returns-in_err-r c =
    let a = c.args in
    let l = storage_of a.value.now a.text.now a.ends.now a.entries.now a.undo.now in
    let x = err_from_is_err_and c.from_residual.result c.from_residual.ensures.1 in
    moved_refused a.b a.marks.now l c.view_of-v.ensures roll_back c.in_err-r.ensures x.1 x.2

pub returns : goal.returns
returns c =
    let a = c.args in
    let l = storage_of a.value.now a.text.now a.ends.now a.entries.now a.undo.now in
    does_moved a.b a.marks.now l c.view_of-v.ensures roll_back tt c.in_ok-r.ensures c.moved.ensures

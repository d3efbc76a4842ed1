use Rattle.std.proofs.lemmas.Result.{err_from_is_err_and}
use Rattle.semantics.specs.Record.{append, storage_of}
use Rattle.refusals.specs.Decide.{name_in}
use Rattle.builder.proofs.CallLaws.{does_moved, moved_refused}
use Rattle.builder.proofs.calls.append.Goals as goal

pub returns-in_err-r : goal.returns-in_err-r
returns-in_err-r g c =
    let a = c.args in
    let s = g.X.Scalar.scalar a.x in
    let l = storage_of a.value.now a.text.now a.ends.now a.entries.now a.undo.now in
    let x = err_from_is_err_and c.from_residual.result c.from_residual.ensures.1 in
    moved_refused a.b a.marks.now l c.view_of-v.ensures (append (name_in a.name) s) (c.in_err-r.ensures s c.own-own.ensures) x.1 x.2

pub returns : goal.returns
returns g c =
    let a = c.args in
    let s = g.X.Scalar.scalar a.x in
    let l = storage_of a.value.now a.text.now a.ends.now a.entries.now a.undo.now in
    does_moved a.b a.marks.now l c.view_of-v.ensures (append (name_in a.name) s) tt (c.in_ok-r.ensures s c.own-own.ensures) c.moved.ensures

use mathlib.Core.Path.{◌∙◌}
use Rattle.std.proofs.lemmas.Result.{err_from_is_err_and}
use native.Mathlib.Omega.{arith}
use Rattle.semantics.specs.Record.{return_to, storage_of}
use Rattle.builder.proofs.CallLaws.{does_refused, return_done, return_inside, return_storage}
use Rattle.builder.proofs.calls.return_to.Goals as goal

pub returns-in_err-r : goal.returns-in_err-r
returns-in_err-r c =
    let a = c.args in
    let l = storage_of a.value.now a.text.now a.ends.now a.entries.now a.undo.now in
    let x = err_from_is_err_and c.from_residual.result c.from_residual.ensures.1 in
    let kept = return_storage a.b a.marks.now l c.view_of-v.ensures c.saturating_sub-at.ensures c.mark_at-p.ensures c.in_err-r.ensures in
    does_refused a.b a.marks.now l c.view_of-v.ensures (return_to a.mark) c.in_err-r.ensures.number (λ z. kept ∙ rw z) x.1 x.2

pub with_container-requires : goal.with_container-requires
with_container-requires c =
    let a = c.args in
    let l = storage_of a.value.now a.text.now a.ends.now a.entries.now a.undo.now in
    omega (arith, c.saturating_sub-at.ensures, return_inside a.b a.marks.now l c.view_of-v.ensures c.in_ok-r.ensures)

pub returns : goal.returns
returns c =
    let a = c.args in
    let l = storage_of a.value.now a.text.now a.ends.now a.entries.now a.undo.now in
    return_done a.b a.marks.now l c.view_of-v.ensures c.saturating_sub-at.ensures c.mark_at-p.ensures c.in_ok-r.ensures
    c.with_elements-after.ensures (rw c.saturating_sub-at.ensures at c.with_container.ensures)

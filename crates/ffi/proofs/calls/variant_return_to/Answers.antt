use native.Mathlib.Omega.{arith}
use Rattle.semantics.specs.Record.{storage_of}
use Rattle.ffi.proofs.CallLaws.{return_refused, return_inside, return_done}
use Rattle.ffi.proofs.WordLaws.{puts_inner}
use Rattle.ffi.proofs.calls.variant_return_to.Goals as goal

pub returns-in-Err : goal.returns-in-Err
returns-in-Err c =
    let a = c.args in
    rw c.number.ensures (return_refused a.words.now a.marks.now (storage_of a.value.now a.text.now a.ends.now a.entries.now a.undo.now) a.mark c.view_of-v.ensures (rw c.saturating_sub-d.ensures at c.mark_at-p.ensures) c.in-Err.ensures)

pub put_container-requires : goal.put_container-requires
put_container-requires c =
    let a = c.args in
    let i = return_inside a.words.now a.marks.now (storage_of a.value.now a.text.now a.ends.now a.entries.now a.undo.now) a.mark c.view_of-v.ensures (rw c.saturating_sub-d.ensures at c.mark_at-p.ensures) c.in-Ok.ensures in
    rw c.saturating_sub-d.ensures (omega (arith, i))

pub returns : goal.returns
returns c =
    let a = c.args in
    return_done a.words.now a.marks.now (storage_of a.value.now a.text.now a.ends.now a.entries.now a.undo.now) a.mark c.view_of-v.ensures (rw c.saturating_sub-d.ensures at c.mark_at-p.ensures) c.in-Ok.ensures
    (puts_inner c.put_counts.ensures c.put_elements.ensures) (rw c.saturating_sub-d.ensures at c.put_container.ensures)

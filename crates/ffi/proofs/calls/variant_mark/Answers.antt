use native.Mathlib.Omega.{arith}
use Rattle.semantics.specs.Record.{set_mark, storage_of}
use Rattle.ffi.proofs.CallLaws.{stays_refused, mark_inside, mark_done}
use Rattle.ffi.proofs.calls.variant_mark.Goals as goal

pub returns-in-Err : goal.returns-in-Err
returns-in-Err c =
    let a = c.args in
    rw c.number.ensures (stays_refused a.words.now a.marks.now (storage_of a.value.now a.text.now a.ends.now a.entries.now a.undo.now) set_mark _ c.view_of-v.ensures c.in-Err.ensures.number)

pub overflow_sub-d : goal.overflow_sub-d
overflow_sub-d c = let a = c.args in (mark_inside a.words.now a.marks.now (storage_of a.value.now a.text.now a.ends.now a.entries.now a.undo.now) c.view_of-v.ensures c.in-Ok.ensures).0

pub put_container-requires : goal.put_container-requires
put_container-requires c = let a = c.args in omega (arith, mark_inside a.words.now a.marks.now (storage_of a.value.now a.text.now a.ends.now a.entries.now a.undo.now) c.view_of-v.ensures c.in-Ok.ensures)

pub returns : goal.returns
returns c = let a = c.args in mark_done a.words.now a.marks.now (storage_of a.value.now a.text.now a.ends.now a.entries.now a.undo.now) c.view_of-v.ensures c.in-Ok.ensures c.put_container.ensures c.put_mark.ensures

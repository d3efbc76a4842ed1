use Rattle.semantics.specs.Record.{storage_of}
use Rattle.ffi.proofs.CallLaws.{finish_refused, finish_done}
use Rattle.ffi.proofs.calls.variant_finish.Goals as goal

pub returns-in-Err : goal.returns-in-Err
returns-in-Err c =
    let a = c.args in
    rw c.number.ensures (finish_refused a.words.now a.marks.now (storage_of a.value.now a.text.now a.ends.now a.entries.now a.undo.now) a.out.now a.written.now c.view_of-v.ensures c.in-Err.ensures)

pub returns : goal.returns
returns c =
    let a = c.args in
    finish_done a.words.now a.marks.now (storage_of a.value.now a.text.now a.ends.now a.entries.now a.undo.now) a.out.now a.written.now c.view_of-v.ensures c.in-Ok.ensures c.put_counts.ensures

use Rattle.semantics.specs.Record.{roll_back, storage_of}
use Rattle.ffi.proofs.CallLaws.{does_moved}
use Rattle.ffi.proofs.calls.variant_rollback.Goals as goal

pub returns : goal.returns
returns c =
    let a = c.args in
    does_moved a.words.now a.marks.now (storage_of a.value.now a.text.now a.ends.now a.entries.now a.undo.now) roll_back c.rollback_over-r.result tt c.view_of-v.ensures c.rollback_over-r.ensures c.moved.ensures

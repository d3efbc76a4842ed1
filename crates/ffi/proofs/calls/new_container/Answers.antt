use native.Mathlib.Omega.{arith}
use Rattle.std.proofs.lemmas.Result.{err_from_is_err_and}
use Rattle.semantics.specs.Record.{storage_of}
use Rattle.refusals.specs.Decide.{name_in}
use Rattle.ffi.proofs.CallLaws.{opens_deep, opens_done, opens_stays}
use Rattle.ffi.proofs.calls.new_container.Goals as goal

pub returns-in_err-e : goal.returns-in_err-e
returns-in_err-e c =
    let a = c.args in
    let x = err_from_is_err_and c.from_residual.result c.from_residual.ensures.1 in
    rw (x.1, x.2) (opens_stays a.words.now a.marks.now (storage_of a.value.now a.text.now a.ends.now a.entries.now a.undo.now) (name_in a.name) a.object c.in_err-e.ensures)

pub put_container-requires : goal.put_container-requires
put_container-requires c =
    let a = c.args in
    rw c.counts-c.ensures (opens_deep a.words.now a.marks.now (storage_of a.value.now a.text.now a.ends.now a.entries.now a.undo.now) (name_in a.name) a.object c.in_ok-e.ensures)

pub overflow_add-c : goal.overflow_add-c
overflow_add-c c =
    let a = c.args in
    let h = opens_deep a.words.now a.marks.now (storage_of a.value.now a.text.now a.ends.now a.entries.now a.undo.now) (name_in a.name) a.object c.in_ok-e.ensures in
    record { fits = rw c.counts-c.ensures (omega (arith, h)) }

pub returns : goal.returns
returns c =
    let a = c.args in
    opens_done a.words.now a.marks.now (storage_of a.value.now a.text.now a.ends.now a.entries.now a.undo.now) (name_in a.name) a.object c.in_ok-e.ensures
    c.note-p.ensures (rw c.counts-c.ensures at c.child-k.ensures) (rw c.counts-c.ensures at c.put_container.ensures)
    (rw c.counts-c.ensures at c.put_elements.ensures)

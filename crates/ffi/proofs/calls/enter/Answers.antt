use Rattle.std.proofs.lemmas.Result.{err_from_is_err_and}
use Rattle.semantics.specs.Record.{storage_of}
use Rattle.semantics.specs.Refusal.{number_told}
use Rattle.refusals.specs.Decide.{into_of, name_in, opens_of, size_told}
use Rattle.ffi.proofs.CallLaws.{enters_done, enters_refused}
use Rattle.ffi.proofs.WordLaws.{puts_inner}
use Rattle.ffi.proofs.calls.enter.Goals as goal

pub returns-in_err-e : goal.returns-in_err-e
returns-in_err-e c =
    let a = c.args in
    let x = err_from_is_err_and c.from_residual.result c.from_residual.ensures.1 in
    enters_refused a.words.now a.marks.now (storage_of a.value.now a.text.now a.ends.now a.entries.now a.undo.now) (name_in a.name) (into_of a.call) (opens_of a.call) (number_told a.size) (size_told a.size) c.view_of-v.ensures c.in_err-e.ensures x.1 x.2

pub returns : goal.returns
returns c =
    let a = c.args in
    enters_done a.words.now a.marks.now (storage_of a.value.now a.text.now a.ends.now a.entries.now a.undo.now) (name_in a.name) (into_of a.call) (opens_of a.call) (number_told a.size) (size_told a.size) c.view_of-v.ensures c.in_ok-e.ensures
    (puts_inner c.put_counts.ensures (rw c.view_of-v.ensures at c.put_elements.ensures))

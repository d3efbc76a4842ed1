use Rattle.std.proofs.Common.{sym}
use mathlib.Core.Bool.{true≢false}
use Rattle.std.proofs.lemmas.Result.{err_from_is_err_and}
use Rattle.semantics.specs.Record.{storage_of}
use Rattle.refusals.specs.Decide.{name_in}
use Rattle.ffi.proofs.CallLaws.{own_appended, own_refused, own_whole}
use Rattle.ffi.proofs.calls.append.Goals as goal

pub returns-in_err-e : goal.returns-in_err-e
returns-in_err-e g c s t =
    let a = c.args in
    let x = err_from_is_err_and c.from_residual.result c.from_residual.ensures.1 in
    rw (x.1, x.2) (own_refused g.S.Stored.stored a.x c.size_of-size.ensures a.words.now a.marks.now (storage_of a.value.now a.text.now a.ends.now a.entries.now a.undo.now) (name_in a.name) t c.in_err-e.ensures)

pub returns-in_err-x : goal.returns-in_err-x
returns-in_err-x g c s t =
    let a = c.args in
    absurd (true≢false (sym (rw c.in_err-x.was at (own_whole g.S.Stored.stored a.x c.size_of-size.ensures a.words.now a.marks.now (storage_of a.value.now a.text.now a.ends.now a.entries.now a.undo.now) (name_in a.name) c.in_ok-e.ensures))))

pub returns : goal.returns
returns g c s t =
    let a = c.args in
    own_appended g.S.Stored.stored a.x c.size_of-size.ensures a.words.now a.marks.now (storage_of a.value.now a.text.now a.ends.now a.entries.now a.undo.now) (name_in a.name) {p = c.write.result} t c.in_ok-e.ensures
    c.note.ensures.1 c.note.ensures.2 c.in_ok-x.was (rw c.counts-c.ensures at c.write.ensures)

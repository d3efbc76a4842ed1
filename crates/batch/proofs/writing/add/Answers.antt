-- Each row by the tests that led there.
use mathlib.Core.Path.{◌≡◌}
use native.Mathlib.Omega.{arith}
use Rattle.std.proofs.Common.{rules, None, Some, Err}
use Rattle.batch.specs.declared.AddError.TheVariants.{NoRoom}
use Rattle.std.proofs.lemmas.Result.{err_from_is_err_and}
use Rattle.batch.specs.Layout.{record_of}
use Rattle.batch.proofs.WritingLaws.{length_record, put_part, adds_damaged, adds_none, adds_done, adds_many, adds_no_room}
use Rattle.batch.proofs.writing.add.Goals as goal

pub returns-then-file-used : goal.returns-then-file-used
returns-then-file-used c = adds_damaged _ _ _ c.if-file-used.true

pub returns-in_err-check_version : goal.returns-in_err-check_version
returns-in_err-check_version c =
    let w = err_from_is_err_and c.from_residual.result c.from_residual.ensures.1 in
    rw (w.1, w.2) (adds_none _ _ _ c.if-file-used.false c.in_err-check_version.ensures)

pub returns-in_err-count : goal.returns-in_err-count
returns-in_err-count c =
    let n : c.count_of.result ≡ None = search rules in
    let r : c.from_residual-in_err-count.result ≡ Err NoRoom = search rules in
    rw r (adds_many _ _ _ c.if-file-used.false c.in_ok-check_version.ensures (rw n at c.count_of.ensures))

pub returns-then-file-used-2 : goal.returns-then-file-used-2
returns-then-file-used-2 c =
    let n : c.count_of.result ≡ Some c.in_ok-count.count = search rules in
    let s = rw n at c.count_of.ensures in
    adds_no_room _ _ _ c.if-file-used.false c.in_ok-check_version.ensures (omega (arith, s)) (omega (arith, s))

pub returns : goal.returns
returns c =
    let a = c.args in
    let x = record_of a.dictionary.now a.value.now in
    let n : c.count_of.result ≡ Some c.in_ok-count.count = search rules in
    let s = rw n at c.count_of.ensures in
    let l = length_record x in
    adds_done _ _ _ c.if-file-used.false c.in_ok-check_version.ensures (omega (arith, s)) (omega (arith, s)) (omega (arith, s))
    (rw c.write_record.ensures (put_part a.file.now _ a.used _ (omega (arith, s, l))))

-- 21 is asked first; a place below 1 counts as 1.
use Rattle.std.proofs.lemmas.Result.{err_from_is_err_and}
use Rattle.batch.proofs.ReadingLaws.{step_refused, step_taken}
use Rattle.batch.proofs.reading.record_at.Goals as goal

pub returns-in_err-check_version : goal.returns-in_err-check_version
returns-in_err-check_version c =
    let w = err_from_is_err_and c.from_residual.result c.from_residual.ensures.1 in
    rw w.1 (step_refused _ c.args.place c.in_err-check_version.ensures)

pub returns : goal.returns
returns c = step_taken _ _ _ c.in_ok-check_version.ensures c.max.ensures c.record_from.ensures

use Rattle.std.proofs.Common.{sym}
use mathlib.Core.Bool.{true≢false}
use Rattle.std.proofs.lemmas.Result.{err_from_is_err_and}
use Rattle.actions.proofs.AppendLaws.{own_entered, own_stays, own_writes}
use Rattle.actions.proofs.append.append_over.Goals as goal

pub returns-in_err-e : goal.returns-in_err-e
returns-in_err-e g c s t =
    let x = err_from_is_err_and c.from_residual.result c.from_residual.ensures.1 in
    own_stays g.S.Stored.stored c.args.x c.size_of-size.ensures t c.in_err-e.ensures x.1 x.2

pub returns-in_err-x : goal.returns-in_err-x
returns-in_err-x g c s t = absurd (true≢false (sym (rw c.in_err-x.was at (own_entered g.S.Stored.stored c.args.x c.size_of-size.ensures c.in_ok-e.ensures))))

pub returns : goal.returns
returns g c s t =
    rw c.moved.ensures
    (own_writes g.S.Stored.stored c.args.x c.size_of-size.ensures {p = c.write.result} t c.in_ok-e.ensures c.note.ensures.1 c.note.ensures.2 c.in_ok-x.was c.write.ensures)

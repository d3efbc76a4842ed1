use Rattle.std.proofs.lemmas.Result.{err_from_is_err_and}
use Rattle.actions.proofs.OpenLaws.{registers, registers_refused}
use Rattle.actions.proofs.open.register.Goals as goal

pub returns-in_err-e : goal.returns-in_err-e
returns-in_err-e c =
    let x = err_from_is_err_and c.from_residual.result c.from_residual.ensures.1 in
    registers_refused c.args.name.now c.in_err-e.ensures x.1 x.2

pub returns : goal.returns
returns c = rw c.moved.ensures (registers c.args.name.now c.in_ok-e.ensures)

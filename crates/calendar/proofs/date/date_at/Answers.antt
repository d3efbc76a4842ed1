-- The year's guess and the months taken off arrive where counting arrives.
use Rattle.calendar.proofs.DateLaws.{days_left}
use Rattle.calendar.proofs.CodeLaws.{arrived_as}
use Rattle.calendar.proofs.date.date_at.Goals as goal

pub month_of-at-requires : goal.month_of-at-requires
month_of-at-requires c = rw c.years_to.ensures (days_left _ _ c.years_before-k.ensures)

pub returns : goal.returns
returns c =
    let m = c.month_of-at in
    arrived_as c.args.n c.years_before-k.result m.result.month m.result.day c.years_before-k.ensures
    (rw (← c.years_to.ensures) m.ensures)

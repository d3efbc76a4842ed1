-- The closed form is the sum.
use mathlib.Core.Path.{sym}
use Rattle.calendar.proofs.CountLaws.{closed, years_closed}
use Rattle.calendar.proofs.gregorian.years_to.Goals as goal

pub returns : goal.returns
unfolding closed
returns c = sym (years_closed c.args.k)

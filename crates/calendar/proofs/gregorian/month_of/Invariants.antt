use Rattle.calendar.specs.Gregorian.{leap}
use Rattle.calendar.proofs.LoopLaws.{Reached}
use Rattle.calendar.proofs.gregorian.month_of.Given as goal

abbrev pub invariant-loop-month : goal.invariant-loop-month
invariant-loop-month l = Reached (leap l.year) l.n l.month l.rest

use Rattle.calendar.specs.Gregorian.{leap}
use Rattle.calendar.proofs.LoopLaws.{Summed}
use Rattle.calendar.proofs.gregorian.months_before.Given as goal

abbrev pub invariant-loop-m : goal.invariant-loop-m
invariant-loop-m l = Summed (leap l.year) l.month l.sum l.m

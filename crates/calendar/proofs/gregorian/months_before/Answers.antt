-- The sum so far is that of the months before.
use borrow.Author.Rules.{rules}
use native.Mathlib.Omega.{arith}
use Rattle.calendar.specs.Gregorian.{leap}
use Rattle.calendar.proofs.CountLaws.{month_size}
use Rattle.calendar.proofs.LoopLaws.{summed_start, summed_again}
use Rattle.calendar.proofs.gregorian.months_before.Goals as goal

pub loop-m-init : goal.loop-m-init
loop-m-init c = summed_start _ _ (search rules)

pub overflow_add-sum : goal.overflow_add-sum
overflow_add-sum c =
    omega (arith, c.month_length-sum.ensures, month_size (leap c.args.year) c.loop-m.m, c.loop-m.invariant)

pub loop-m-preserved : goal.loop-m-preserved
loop-m-preserved c = rw c.month_length-sum.ensures (summed_again _ _ _ _ c.loop-m.invariant c.loop-m-test.true)

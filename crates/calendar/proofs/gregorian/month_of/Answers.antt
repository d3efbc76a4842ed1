-- Whole months are taken off while they are there.
use native.Mathlib.Omega.{arith}
use Rattle.calendar.proofs.LoopLaws.{reached_start, reached_again, reached_last}
use Rattle.calendar.proofs.gregorian.month_of.Goals as goal

pub loop-month-init : goal.loop-month-init
loop-month-init c = reached_start _ _

pub loop-month-preserved : goal.loop-month-preserved
loop-month-preserved c =
    rw c.month_length-length.ensures
    (reached_again _ _ _ _ c.requires c.loop-month.invariant
    (omega (arith, c.month_length-length.ensures, c.if-rest-length.false)))

pub returns : goal.returns
returns c = reached_last _ _ _ _ c.requires c.loop-month.invariant c.loop-month-test.false

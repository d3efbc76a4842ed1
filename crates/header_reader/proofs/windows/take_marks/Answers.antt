-- The offsets passed, from the last on, have taken their marks, and no others.
use native.Mathlib.Omega.{arith}
use Rattle.header_reader.proofs.WindowLaws.{taking_start, taking_bad, taking_again, taking_end}
use Rattle.header_reader.proofs.windows.take_marks.Goals as goal

pub loop-k-init : goal.loop-k-init
loop-k-init c = rw c.len-k.ensures.0 (taking_start _ _ _)

pub returns-then-not-take_mark : goal.returns-then-not-take_mark
returns-then-not-take_mark c =
    taking_bad _ c.loop-k.invariant (omega (arith, c.loop-k-test.true)) (omega (arith, c.loop-k.auto.k, c.len-k.ensures.0)) c.get.ensures.0 c.take_mark.ensures c.if-not-take_mark.true

pub loop-k-preserved : goal.loop-k-preserved
loop-k-preserved c =
    taking_again _ c.loop-k.invariant (omega (arith, c.loop-k-test.true)) (omega (arith, c.loop-k.auto.k, c.len-k.ensures.0)) c.get.ensures.0 c.take_mark.ensures c.if-not-take_mark.false
    c.take_mark.auto.cells

pub returns : goal.returns
returns c = taking_end c.loop-k.invariant (omega (arith, c.loop-k-test.false))

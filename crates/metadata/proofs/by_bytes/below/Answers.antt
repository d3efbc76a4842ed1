-- What is left of both names decides as the whole names do.
use native.Mathlib.Omega.{arith}
use Rattle.metadata.proofs.NameLaws.{belows_start, belows_again, belows_other, belows_end}
use Rattle.metadata.proofs.by_bytes.below.Goals as goal

pub loop-i-init : goal.loop-i-init
loop-i-init c = belows_start _ _

pub returns-then-x-y : goal.returns-then-x-y
returns-then-x-y c = belows_other c.loop-i.invariant (omega arith) (omega arith) c.if-x-y.true

pub loop-i-preserved : goal.loop-i-preserved
loop-i-preserved c = belows_again c.loop-i.invariant (omega arith) (omega arith) c.if-x-y.false

pub returns : goal.returns
returns c = belows_end c.loop-i.invariant (omega arith)

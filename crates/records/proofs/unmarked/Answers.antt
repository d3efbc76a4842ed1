-- The containers are seen from the innermost outwards.
use Rattle.std.proofs.Common.{refl, arith}
use Rattle.records.proofs.MarkLaws.{unmarked_again, unmarked_end}
use Rattle.records.proofs.unmarked.Goals as goal

pub loop-i-init : goal.loop-i-init
loop-i-init g c = record { rest = λ t ms h. h }

pub loop-i-preserved : goal.loop-i-preserved
loop-i-preserved g c = rw (c.container.ensures) (unmarked_again c.loop-i.invariant (omega arith))

pub returns : goal.returns
returns g c = unmarked_end c.loop-i.invariant (omega arith)

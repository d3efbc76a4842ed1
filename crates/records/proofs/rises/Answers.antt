-- The starting marks are compared from the innermost outwards.
use Rattle.std.proofs.Common.{refl, arith}
use Rattle.semantics.proofs.ViewLaws.{rises_again, rises_end}
use Rattle.records.proofs.rises.Goals as goal

pub loop-i-init : goal.loop-i-init
loop-i-init g c = record { same = refl; low = omega arith }

pub loop-i-preserved : goal.loop-i-preserved
loop-i-preserved g c = rises_again c.loop-i.invariant (omega arith) (rw (c.encloses-ok.ensures, c.container.ensures, c.elements.ensures, c.container-in-loop-i.ensures) refl)

pub returns : goal.returns
returns g c = rises_end c.loop-i.invariant (omega arith)

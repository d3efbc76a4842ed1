-- The containers are seen from the innermost outwards.
use Rattle.std.proofs.Common.{refl, arith}
use Rattle.semantics.proofs.ViewLaws.{marks_again, marks_end}
use Rattle.records.proofs.each_holds.Goals as goal

pub loop-i-init : goal.loop-i-init
loop-i-init g c = record { same = refl; low = c.requires }

pub loop-i-preserved : goal.loop-i-preserved
loop-i-preserved g c = marks_again c.loop-i.invariant (omega arith) c.fits_at-ok.ensures

pub returns : goal.returns
returns g c = marks_end c.loop-i.invariant (omega arith)

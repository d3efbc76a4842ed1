use Rattle.std.proofs.Common.{◌-◌}
use Rattle.semantics.specs.Record.{rising}
use Rattle.semantics.proofs.ViewLaws.{Rises}
use Rattle.records.proofs.rises.Given as goal

abbrev pub invariant-loop-i : goal.invariant-loop-i
invariant-loop-i g l =
    let b = g.R.Record.builder l.r in
    Rises (rising b.containers b.elements (l.d - 1)) b.containers b.elements l.ok (l.i - 1)

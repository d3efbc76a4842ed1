use Rattle.semantics.specs.Record.{marks_hold}
use Rattle.semantics.proofs.ViewLaws.{MarksLeft}
use Rattle.records.proofs.each_holds.Given as goal

abbrev pub invariant-loop-i : goal.invariant-loop-i
invariant-loop-i g l =
    let b = g.R.Record.builder l.r in
    MarksLeft (marks_hold b.containers b.elements l.marks b.counts l.d) b.containers b.elements l.marks b.counts l.ok l.i

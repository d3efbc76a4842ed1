use Rattle.records.proofs.MarkLaws.{Unmarked}
use Rattle.records.proofs.unmarked.Given as goal

abbrev pub invariant-loop-i : goal.invariant-loop-i
invariant-loop-i g l =
    let b = g.R.Record.builder l.r in
    Unmarked b.containers b.elements b.counts l.d l.none l.i

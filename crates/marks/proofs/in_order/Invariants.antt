use Rattle.semantics.specs.Record.{falling, mark_at_start, marks_of}
use Rattle.marks.proofs.TableLaws.{InOrder}
use Rattle.marks.proofs.in_order.Given as goal

abbrev pub invariant-loop-j : goal.invariant-loop-j
invariant-loop-j l =
    InOrder (falling l.k.object (mark_at_start l.k) (marks_of l.marks l.d l.k.marks) l.fn.present) l.k.object (mark_at_start l.k) l.marks l.d l.later l.j

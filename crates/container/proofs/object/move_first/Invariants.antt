use lib.ListN.{length}
use Rattle.container.specs.Sort.{moved_up}
use Rattle.container.proofs.ObjectLaws.{Moves}
use Rattle.container.proofs.object.move_first.Given as goal

abbrev pub invariant-loop-i : goal.invariant-loop-i
invariant-loop-i l = Moves (moved_up 0 l.k l.initial.entries) (record { id = l.id; offset = l.offset }) l.k (length l.initial.entries) l.entries l.i

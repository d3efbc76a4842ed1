use Prim.Native.Nat.{◌+◌, ◌-◌}
use lib.ListN.{length}
use Rattle.header_reader.proofs.WindowLaws.{Marking}
use Rattle.header_reader.proofs.windows.mark_starts.Given as goal

abbrev pub invariant-loop-at : goal.invariant-loop-at
invariant-loop-at l = Marking l.values l.lo (l.lo + length l.initial.cells) l.cells l.at

abbrev pub decreases-loop-at : goal.decreases-loop-at
decreases-loop-at l = l.hi - l.at

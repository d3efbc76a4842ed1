use Prim.Native.Nat.{◌+◌}
use Rattle.container.specs.Layout.{largest}
use Rattle.container.specs.Entries.{ids_of, misplaced, range_of, seek}
use Rattle.container.proofs.EntryWalk.{Walks}
use Rattle.container.proofs.entries.search_entries.Given as goal

abbrev pub invariant-loop-k : goal.invariant-loop-k
invariant-loop-k l =
    Walks (misplaced l.object l.names l.size (range_of l.entries l.from l.to)) (l.from + seek l.id (range_of l.entries l.from l.to))
    (largest (ids_of (range_of l.entries l.from l.to))) l.object l.names l.size l.id l.entries l.end l.misplaced l.first l.largest l.k

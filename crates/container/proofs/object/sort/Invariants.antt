use Prim.Native.Nat.{◌/◌}
use lib.ListN.{length}
use Rattle.metadata.specs.Names.{names_of}
use Rattle.container.specs.Sort.{sorted_in}
use Rattle.container.proofs.ObjectLaws.{Sorts}
use Rattle.container.proofs.object.sort.Given as goal

abbrev pub invariant-loop-j : goal.invariant-loop-j
invariant-loop-j l =
    Sorts (names_of l.names.counts l.names.text.now l.names.ends.now)
    (sorted_in (names_of l.names.counts l.names.text.now l.names.ends.now) 0 (length l.initial.entries / 2) l.initial.entries) 0 (length l.initial.entries / 2)
    (length l.initial.entries) l.entries l.j

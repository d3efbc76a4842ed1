use Prim.Native.Nat.{◌-◌, ◌/◌}
use lib.ListN.{length}
use Rattle.metadata.specs.Names.{names_of}
use Rattle.container.proofs.ObjectLaws.{Halves}
use Rattle.container.proofs.object.place_of.Given as goal

abbrev pub invariant-loop-low : goal.invariant-loop-low
invariant-loop-low l = Halves (names_of l.names.counts l.names.text.now l.names.ends.now) 0 (length l.entries / 2) l.entries l.low l.high

abbrev pub decreases-loop-low : goal.decreases-loop-low
decreases-loop-low l = l.high - l.low

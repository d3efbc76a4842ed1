use Prim.Native.Nat.{◌-◌}
use lib.ListN.{length}
use Rattle.encoding.specs.Packed.{les}
use Rattle.encoding.specs.Slices.{write}
use Rattle.measure.specs.Measure.{starts_in}
use Rattle.list.proofs.StartLaws.{Starts}
use Rattle.list.proofs.starts.write_starts.Given as goal

abbrev pub invariant-loop : goal.invariant-loop
invariant-loop l =
    Starts (write 0 (les l.width (starts_in l.n 0 l.values)) l.initial.row) l.width (length l.initial.row) (length l.values) l.row l.at l.rest (l.n - l.counter)

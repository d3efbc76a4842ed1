use Prim.Native.Nat.{◌+◌}
use lib.ListN.{length}
use Rattle.header_reader.specs.Windows.{marked}
use Rattle.header_reader.proofs.WindowLaws.{Taking}
use Rattle.header_reader.proofs.windows.take_marks.Given as goal

abbrev pub invariant-loop-k : goal.invariant-loop-k
invariant-loop-k l = Taking (marked l.lo l.initial.cells) l.lo (l.lo + length l.initial.cells) l.offsets l.cells l.k

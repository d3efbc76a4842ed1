use lib.ListN.{length}
use Rattle.encoding.specs.Packed.{le}
use Rattle.encoding.proofs.SliceLaws.{Packs}
use Rattle.encoding.proofs.packed.pack.Given as goal

abbrev pub invariant-loop-b : goal.invariant-loop-b
invariant-loop-b l = Packs (le (length l.fn.bytes) l.value) (length l.fn.bytes) l.b-items l.rest l.b-index

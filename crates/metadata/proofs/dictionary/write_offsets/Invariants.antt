use Prim.Native.Nat.{◌+◌, ◌*◌}
use lib.ListN.{length}
use Rattle.encoding.specs.Packed.{les}
use Rattle.encoding.specs.Slices.{write}
use Rattle.metadata.proofs.FinishLaws.{Offsets}
use Rattle.metadata.proofs.dictionary.write_offsets.Given as goal

abbrev pub invariant-loop-end : goal.invariant-loop-end
invariant-loop-end l =
    Offsets (write 0 (les l.width l.ends) l.initial.out) l.ends l.width (0 + l.width * length l.ends) (length l.initial.out) l.out l.at l.end-index

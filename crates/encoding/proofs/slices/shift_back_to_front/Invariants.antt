use lib.ListN.{length}
use Rattle.encoding.specs.Slices.{shift}
use Rattle.encoding.proofs.SliceLaws.{Moves}
use Rattle.encoding.proofs.slices.shift_back_to_front.Given as goal

abbrev pub invariant-loop-i : goal.invariant-loop-i
invariant-loop-i l = Moves (shift l.from l.to l.by l.initial.buf) l.from l.by (length l.initial.buf) l.buf l.i

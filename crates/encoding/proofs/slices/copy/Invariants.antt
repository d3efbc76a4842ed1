use lib.ListN.{length}
use Rattle.encoding.specs.Slices.{write}
use Rattle.encoding.proofs.SliceLaws.{Copies}
use Rattle.encoding.proofs.slices.copy.Given as goal

abbrev pub invariant-loop-i : goal.invariant-loop-i
invariant-loop-i l = Copies (write l.at l.src l.initial.buf) l.src l.at (length l.initial.buf) l.buf l.i

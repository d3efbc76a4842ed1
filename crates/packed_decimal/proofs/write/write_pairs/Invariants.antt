use lib.ListN.{length}
use Rattle.encoding.specs.Slices.{write}
use Rattle.packed_decimal.specs.PackedDecimal.{digit_pairs}
use Rattle.packed_decimal.proofs.WriteLaws.{Fills}
use Rattle.packed_decimal.proofs.write.write_pairs.Given as goal

abbrev pub invariant-loop-i : goal.invariant-loop-i
invariant-loop-i l = Fills (write 0 (digit_pairs l.initial.rest) l.initial.out) (length l.initial.out) l.out l.rest l.i

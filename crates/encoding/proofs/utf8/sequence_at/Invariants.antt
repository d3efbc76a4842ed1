use Prim.Native.Nat.{◌-◌}
use Rattle.encoding.specs.Utf8.{others}
use Rattle.encoding.proofs.Utf8Laws.{Seen}
use Rattle.encoding.proofs.utf8.sequence_at.Given as goal

abbrev pub invariant-loop-i : goal.invariant-loop-i
invariant-loop-i l = Seen l.text l.at l.i (others (l.n - l.i))

use Rattle.metadata.specs.Names.{below}
use Rattle.metadata.proofs.NameLaws.{Belows}
use Rattle.metadata.proofs.by_bytes.below.Given as goal

abbrev pub invariant-loop-i : goal.invariant-loop-i
invariant-loop-i l = Belows (below l.a l.b) l.a l.b l.i

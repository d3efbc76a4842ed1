use Rattle.metadata.proofs.NameLaws.{Seeks}
use Rattle.metadata.proofs.Names.place_of.Given as goal

abbrev pub invariant-loop-id : goal.invariant-loop-id
invariant-loop-id l = let s = l.self in Seeks s.counts s.text.now s.ends.now l.name l.found l.at l.id

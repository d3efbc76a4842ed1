use Prim.Native.Nat.{◌+◌}
use lib.ListN.{drop}
use Rattle.metadata.specs.Bytes.{numbers}
use Rattle.lexicon.specs.Dictionary.{good_names}
use Rattle.lexicon.proofs.NameLaws.{Walks}
use Rattle.lexicon.proofs.stored.Stored.names_good.Given as goal

abbrev pub invariant-loop-id : goal.invariant-loop-id
invariant-loop-id l =
    let s = l.self in
    Walks (good_names 0 (numbers s.width s.count (drop (1 + s.width + s.width) s.bytes.now)) l.text) s.bytes.now l.text s.width s.count l.at l.id

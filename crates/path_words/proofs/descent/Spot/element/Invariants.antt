use Prim.Native.Nat.{◌+◌, ◌-◌}
use lib.ListN.{length}
use Rattle.grammar.specs.Tests.{list_from}
use Rattle.path_words.specs.Descent.{element_over}
use Rattle.path_words.proofs.WalkLaws.{Elements}
use Rattle.path_words.proofs.descent.Spot.element.Given as goal

abbrev pub invariant-loop-start : goal.invariant-loop-start
invariant-loop-start l = Elements (element_over (length l.self.value.now) l.self.value.now l.self.place 0 (list_from l.self.value.now)) l.self.value.now l.self.place l.number l.start

abbrev pub decreases-loop-start : goal.decreases-loop-start
decreases-loop-start l = l.self.place + 1 - l.start

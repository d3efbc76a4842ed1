use Rattle.grammar.specs.Tests.{object_offsets, stored_ids}
use Rattle.path_words.specs.Descent.{field_over}
use Rattle.path_words.proofs.WalkLaws.{Fields}
use Rattle.path_words.proofs.descent.Spot.field.Given as goal

abbrev pub invariant-loop-k : goal.invariant-loop-k
invariant-loop-k l = Fields (field_over l.self.value.now l.self.place (stored_ids l.self.value.now) (object_offsets l.self.value.now)) l.self.value.now l.self.place l.k

use Rattle.reader.specs.Answers.{integer_field_of}
use Rattle.reader.proofs.FieldLaws.{Hunts}
use Rattle.reader.proofs.Pair.integer_field.Given as goal

abbrev pub invariant-loop-k : goal.invariant-loop-k
invariant-loop-k l = Hunts l.self.value.now (integer_field_of l.self.value.now) l.k

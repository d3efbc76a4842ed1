use Rattle.metadata.specs.Bytes.{dictionary_names}
use Rattle.reader.specs.Answers.{field_of}
use Rattle.reader.proofs.FieldLaws.{Seeks}
use Rattle.reader.proofs.Pair.field_named.Given as goal

abbrev pub invariant-loop-k : goal.invariant-loop-k
invariant-loop-k l = Seeks (dictionary_names l.self.dictionary.now) l.name l.self.value.now (field_of (dictionary_names l.self.dictionary.now) l.name l.self.value.now) l.k

use Rattle.metadata.specs.Names.{same}
use Rattle.grammar.specs.Tests.{starts_of}
use Rattle.header_reader.proofs.TableLaws.{Beside}
use Rattle.header_reader.proofs.lists.are_starts.Given as goal

abbrev pub invariant-loop-offset : goal.invariant-loop-offset
invariant-loop-offset l = Beside (same l.fn.offsets (starts_of l.values)) l.values l.at l.offset-iterator

use mathlib.Core.List.{map}
use Rattle.metadata.specs.Names.{ascending}
use Rattle.metadata.specs.Bytes.{dictionary_names}
use Rattle.container.specs.Sort.{name_at}
use Rattle.header_reader.proofs.TableLaws.{Names}
use Rattle.header_reader.proofs.objects.names_ascend.Given as goal

abbrev pub invariant-loop-next : goal.invariant-loop-next
invariant-loop-next l = Names (ascending (map (name_at (dictionary_names l.d)) l.fn.ids)) (dictionary_names l.d) l.id l.next-iterator

-- The validators, one cycle of calls: the remaining depth falls. A container, a value and a container's data are told apart by the lowest digit of the measure.
use Rattle.std.proofs.Common.{length, ◌+◌}
use Rattle.metadata.specs.Bytes.{dictionary_names}
use Rattle.grammar.specs.Tests.{each_value, is_value}
use Rattle.reader.proofs.ValueLaws.{Walks}
use Rattle.reader.proofs.validate.+list_ok_object_ok_value_ok_values_ok.Given as goal

abbrev pub decreases-list_ok : goal.decreases-list_ok
decreases-list_ok l = l.depth + l.depth + l.depth

abbrev pub decreases-object_ok : goal.decreases-object_ok
decreases-object_ok l = l.depth + l.depth + l.depth

abbrev pub decreases-value_ok : goal.decreases-value_ok
decreases-value_ok l = l.depth + l.depth + l.depth + 1

abbrev pub decreases-values_ok : goal.decreases-values_ok
decreases-values_ok l = l.depth + l.depth + l.depth + 2

abbrev pub invariant-values_ok-loop-n : goal.invariant-values_ok-loop-n
invariant-values_ok-loop-n l = Walks (is_value (dictionary_names l.d) l.depth) (each_value (is_value (dictionary_names l.d) l.depth) (length l.v) l.v) l.rest

abbrev pub decreases-values_ok-loop-n : goal.decreases-values_ok-loop-n
decreases-values_ok-loop-n l = length l.rest

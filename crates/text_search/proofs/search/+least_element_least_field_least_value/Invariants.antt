-- The search, one cycle of calls: the remaining depth falls. A value and the container that it is are told apart by the lowest digit of the measure.
use Rattle.std.proofs.Common.{◌-◌, ◌+◌, length}
use Rattle.text_search.specs.Search.{least_in}
use Rattle.text_search.proofs.WalkLaws.{Elements, FieldsLeft}
use Rattle.text_search.proofs.search.+least_element_least_field_least_value.Given as goal

abbrev pub decreases-least_element : goal.decreases-least_element
decreases-least_element l = l.depth + l.depth

abbrev pub decreases-least_field : goal.decreases-least_field
decreases-least_field l = l.depth + l.depth

abbrev pub decreases-least_value : goal.decreases-least_value
decreases-least_value l = l.depth + l.depth + 1

abbrev pub invariant-least_element-loop-n : goal.invariant-least_element-loop-n
invariant-least_element-loop-n l = Elements (least_in (l.depth - 1) l.wanted) (least_in l.depth l.wanted l.best l.v) l.v l.best l.n l.least

abbrev pub decreases-least_element-loop-n : goal.decreases-least_element-loop-n
decreases-least_element-loop-n l = length l.v - l.n

abbrev pub invariant-least_field-loop-k : goal.invariant-least_field-loop-k
invariant-least_field-loop-k l = FieldsLeft (least_in (l.depth - 1) l.wanted) (least_in l.depth l.wanted l.best l.v) l.v l.best l.k l.least

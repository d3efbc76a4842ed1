-- A child by the kind of the value; no bytes have none.
use mathlib.Core.Path.{sym, ◌∙◌}
use Rattle.header_reader.proofs.KindLaws.{first_list, first_object, first_scalar}
use Rattle.path_words.proofs.WalkLaws.{child_list, child_object, child_scalar}
use Rattle.path_words.proofs.descent.Spot.child.Goals as goal

pub returns-in-Scalar : goal.returns-in-Scalar
returns-in-Scalar c = let k = first_scalar c.args.self.value.now c.kind_of.ensures c.in-Scalar.is in child_scalar _ _ k.0 k.1

pub returns-in-List : goal.returns-in-List
returns-in-List c = c.element.ensures ∙ sym (child_list _ _ (first_list c.args.self.value.now c.kind_of.ensures c.in-List.is))

pub returns-in-Object : goal.returns-in-Object
returns-in-Object c = c.field.ensures ∙ sym (child_object _ _ (first_object c.args.self.value.now c.kind_of.ensures c.in-Object.is))

-- A value by its kind; a list's elements, and an object's fields, one after another.
use mathlib.Core.Path.{◌≡◌, sym, ◌∙◌}
use borrow.Author.Tests.{eqb-true, eqb-false}
use Rattle.std.proofs.Common.{rules}
use native.Mathlib.Omega.{arith}
use Rattle.header_reader.proofs.KindLaws.{first_list, first_object, first_scalar}
use Rattle.text_search.proofs.KindLaws.{least_text, least_other, least_deep, least_list, least_object}
use Rattle.text_search.proofs.WalkLaws.{elements_start, elements_again, elements_cut, elements_end}
use Rattle.text_search.proofs.WalkLaws.{fields_start, fields_skip, fields_again, fields_end}
use Rattle.text_search.proofs.search.+least_element_least_field_least_value.Goals as goal
use Rattle.text_search.proofs.search.+least_element_least_field_least_value.Goals.{least_field-then-n-least, least_field-else-n-least}

pub least_element-returns-then-depth-eq0 : goal.least_element-returns-then-depth-eq0
least_element-returns-then-depth-eq0 t c = least_deep _ _ _ _ (omega (arith, c.requires)) c.if-depth-eq0.true

pub least_element-loop-n-init : goal.least_element-loop-n-init
least_element-loop-n-init t c = elements_start (c.from-n.ensures.0 ∙ c.of_list.ensures.from) (least_list _ _ _ _ c.if-depth-eq0.false c.requires)

pub least_element-loop-n-preserved : goal.least_element-loop-n-preserved
least_element-loop-n-preserved t c =
    elements_again c.loop-n.invariant c.value_from-element.ensures c.loop-n-test.true
    (eqb-false _ _ (sym c.is_empty.ensures ∙ c.if-is_empty.false)) c.least_value.ensures

pub least_element-returns-after-loop-n : goal.least_element-returns-after-loop-n
least_element-returns-after-loop-n t c = elements_end c.loop-n.invariant c.loop-n-test.false

pub least_element-returns-then-is_empty : goal.least_element-returns-then-is_empty
least_element-returns-then-is_empty t c = elements_cut c.loop-n.invariant c.value_from-element.ensures (eqb-true _ _ (sym c.is_empty.ensures ∙ c.if-is_empty.true))

pub least_field-returns-then-depth-eq0 : goal.least_field-returns-then-depth-eq0
least_field-returns-then-depth-eq0 t c = least_deep _ _ _ _ (omega (arith, c.requires)) c.if-depth-eq0.true

pub least_field-loop-k-init : goal.least_field-loop-k-init
least_field-loop-k-init t c = fields_start (least_object _ _ _ _ c.if-depth-eq0.false c.requires)

pub least_field-loop-k-preserved : goal.least_field-loop-k-preserved
least_field-loop-k-preserved t c =
    let from = c.from-from.ensures.0 ∙ c.of_object-header.ensures.from in
    let many = c.count-k-end.ensures.0 ∙ c.of_object-header.ensures.count in
    let offset = rw c.of_object-header.ensures.offsets at c.offset.ensures.0 in
    elim c.if-n-least.branch [
      | least_field-then-n-least w ↦ fields_again c.loop-k.invariant (omega (arith, many)) from offset w.if-n-least.true w.value_from.ensures w.least_value.ensures w.least-is
      | least_field-else-n-least w ↦ fields_skip c.loop-k.invariant (omega (arith, many)) from offset w.if-n-least.false w.least-is
    ]

pub least_field-returns : goal.least_field-returns
least_field-returns t c = fields_end c.loop-k.invariant (rw (← (c.count-k-end.ensures.0 ∙ c.of_object-header.ensures.count)) c.loop-k-test.false)

pub least_value-returns-then-is_text : goal.least_value-returns-then-is_text
least_value-returns-then-is_text t c = least_text _ _ _ _ c.is_text.ensures c.if-is_text.true

pub least_value-returns-in-Scalar : goal.least_value-returns-in-Scalar
least_value-returns-in-Scalar t c =
    let k = first_scalar c.args.v.now c.kind_of.ensures c.in-Scalar.is in
    least_other _ _ _ _ c.is_text.ensures c.if-is_text.false k.0 k.1

pub least_value-least_element-requires : goal.least_value-least_element-requires
least_value-least_element-requires t c = (search rules, first_list c.args.v.now c.kind_of.ensures c.in-List.is)

pub least_value-least_field-requires : goal.least_value-least_field-requires
least_value-least_field-requires t c = (search rules, first_object c.args.v.now c.kind_of.ensures c.in-Object.is)

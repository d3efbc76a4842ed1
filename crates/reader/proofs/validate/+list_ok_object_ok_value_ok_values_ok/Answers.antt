-- A container by its header and then its data; the data one value after another, each kind of value by its own function.
use Rattle.std.proofs.Common.{rules}
use native.Mathlib.Omega.{arith}
use mathlib.Core.Path.{sym, ◌∙◌}
use Rattle.header_reader.proofs.HeadLaws.{list_head_within, object_head_within}
use Rattle.header_reader.proofs.KindLaws.{first_list, first_object, first_scalar}
use Rattle.reader.proofs.ValueLaws.{walks_room, walks_bad, walks_again, walks_end, value_scalar, too_deep, list_headless, list_headed, object_headless, object_headed}
use Rattle.reader.proofs.validate.+list_ok_object_ok_value_ok_values_ok.Goals as goal

pub list_ok-returns-then-depth-eq0 : goal.list_ok-returns-then-depth-eq0
list_ok-returns-then-depth-eq0 t c = too_deep _ _ _ (omega (arith, c.requires)) c.if-depth-eq0.true

pub list_ok-returns-in_default : goal.list_ok-returns-in_default
list_ok-returns-in_default t c = list_headless _ _ c.requires c.if-depth-eq0.false (sym c.in_default.is ∙ c.list_head.ensures)

pub list_ok-slice_bounds-values_ok-count : goal.list_ok-slice_bounds-values_ok-count
list_ok-slice_bounds-values_ok-count t c = list_head_within _ (sym c.in-Some.is ∙ c.list_head.ensures)

pub list_ok-slice_bounds-values_ok-start : goal.list_ok-slice_bounds-values_ok-start
list_ok-slice_bounds-values_ok-start t c = list_head_within _ (sym c.in-Some.is ∙ c.list_head.ensures)

pub list_ok-returns : goal.list_ok-returns
list_ok-returns t c = list_headed _ _ c.requires c.if-depth-eq0.false (sym c.in-Some.is ∙ c.list_head.ensures) c.values_ok.ensures

pub object_ok-returns-then-depth-eq0 : goal.object_ok-returns-then-depth-eq0
object_ok-returns-then-depth-eq0 t c = too_deep _ _ _ (omega (arith, c.requires)) c.if-depth-eq0.true

pub object_ok-returns-in_default : goal.object_ok-returns-in_default
object_ok-returns-in_default t c = object_headless _ _ c.requires c.if-depth-eq0.false (sym c.in_default.is ∙ c.object_head.ensures)

pub object_ok-slice_bounds-values_ok-count : goal.object_ok-slice_bounds-values_ok-count
object_ok-slice_bounds-values_ok-count t c = object_head_within _ _ (sym c.in-Some.is ∙ c.object_head.ensures)

pub object_ok-slice_bounds-values_ok-start : goal.object_ok-slice_bounds-values_ok-start
object_ok-slice_bounds-values_ok-start t c = object_head_within _ _ (sym c.in-Some.is ∙ c.object_head.ensures)

pub object_ok-returns : goal.object_ok-returns
object_ok-returns t c = object_headed _ _ c.requires c.if-depth-eq0.false (sym c.in-Some.is ∙ c.object_head.ensures) c.values_ok.ensures

pub value_ok-list_ok-requires : goal.value_ok-list_ok-requires
value_ok-list_ok-requires t c = (search rules, first_list c.args.v.now c.kind_of.ensures c.in-List.is)

pub value_ok-object_ok-requires : goal.value_ok-object_ok-requires
value_ok-object_ok-requires t c = (search rules, first_object c.args.v.now c.kind_of.ensures c.in-Object.is)

pub value_ok-returns-in-Scalar : goal.value_ok-returns-in-Scalar
value_ok-returns-in-Scalar t c =
    let k = first_scalar c.args.v.now c.kind_of.ensures c.in-Scalar.is in
    c.is_scalar.ensures ∙ sym (value_scalar _ _ _ k.0 k.1)

pub values_ok-split_at-requires : goal.values_ok-split_at-requires
values_ok-split_at-requires t c = walks_room c.loop-n.invariant (sym c.in-Some.is ∙ c.value_length.ensures)

pub values_ok-returns-then-not-value_ok : goal.values_ok-returns-then-not-value_ok
values_ok-returns-then-not-value_ok t c =
    walks_bad c.loop-n.invariant (sym c.in-Some.is ∙ c.value_length.ensures) (rw c.split_at.ensures.front at (sym c.value_ok.ensures ∙ c.if-not-value_ok.true))

pub values_ok-loop-n-preserved : goal.values_ok-loop-n-preserved
values_ok-loop-n-preserved t c =
    rw c.split_at.ensures.back
    (walks_again c.loop-n.invariant (sym c.in-Some.is ∙ c.value_length.ensures) (rw c.split_at.ensures.front at (sym c.value_ok.ensures ∙ c.if-not-value_ok.false)))

pub values_ok-returns : goal.values_ok-returns
values_ok-returns t c = walks_end c.loop-n.invariant (sym c.in_default.is ∙ c.value_length.ensures) c.is_empty.ensures

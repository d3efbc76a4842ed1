-- The offsets that are left, beside the values that are left, decide as all of them do.
use native.Mathlib.Omega.{arith}
use mathlib.Core.Path.{sym, ◌∙◌}
use Rattle.header_reader.proofs.TableLaws.{beside_start, beside_within, beside_other, beside_none, beside_again, beside_end}
use Rattle.header_reader.proofs.lists.are_starts.Goals as goal

pub loop-offset-init : goal.loop-offset-init
loop-offset-init c = rw c.into_iter-offset-iterator.ensures.into_iter_gives (beside_start _ _)

pub returns-then-offset-at : goal.returns-then-offset-at
returns-then-offset-at c = beside_other c.loop-offset.invariant c.in-Some.ensures.steps c.if-offset-at.true

pub returns-in_default : goal.returns-in_default
returns-in_default c = beside_none c.loop-offset.invariant c.in-Some.ensures.steps (sym c.in_default.is ∙ c.value_length.ensures)

pub overflow_add-at : goal.overflow_add-at
overflow_add-at c = omega (arith, beside_within c.loop-offset.invariant (sym c.in-Some-value_length.is ∙ c.value_length.ensures))

pub loop-offset-preserved : goal.loop-offset-preserved
loop-offset-preserved c = beside_again c.loop-offset.invariant c.in-Some.ensures.steps (sym c.in-Some-value_length.is ∙ c.value_length.ensures) c.if-offset-at.false

pub returns : goal.returns
returns c = beside_end c.loop-offset.invariant c.in-None.ensures.steps.0 c.value_length-2.ensures c.is_none.ensures

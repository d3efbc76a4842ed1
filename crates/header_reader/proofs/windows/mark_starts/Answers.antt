-- What is marked, with what the walk still meets, are the starts.
use native.Mathlib.Omega.{arith}
use mathlib.Core.Path.{refl, sym, ◌∙◌}
use Rattle.header_reader.proofs.WindowLaws.{marking_start, marking_within, marking_more, marking_again, marking_none, marking_end}
use Rattle.header_reader.proofs.windows.mark_starts.Goals as goal

pub loop-at-init : goal.loop-at-init
loop-at-init c = let p = c.requires in marking_start p.cells_in_bounds.1 refl p.by_index

pub returns-in_default : goal.returns-in_default
returns-in_default c = marking_none c.loop-at.invariant (sym c.in_default.is ∙ c.value_length.ensures) c.requires.cells_in_bounds.0

pub overflow_sub-cells : goal.overflow_sub-cells
overflow_sub-cells c = c.loop-at.invariant.low

pub bounds-cells-at : goal.bounds-cells-at
bounds-cells-at c = omega (arith, c.loop-at-test.true, c.loop-at.invariant.low, c.loop-at.invariant.size)

pub overflow_add-at : goal.overflow_add-at
overflow_add-at c =
    omega (arith, marking_within c.loop-at.invariant (sym c.in-Some.is ∙ c.value_length.ensures))

pub loop-at-smaller : goal.loop-at-smaller
loop-at-smaller c = omega (arith, c.loop-at-test.true, marking_more c.loop-at.invariant (sym c.in-Some.is ∙ c.value_length.ensures))

pub loop-at-preserved : goal.loop-at-preserved
loop-at-preserved c =
    marking_again c.loop-at.invariant (sym c.in-Some.is ∙ c.value_length.ensures) c.loop-at-test.true

pub returns : goal.returns
returns c = marking_end c.loop-at.invariant c.loop-at-test.false

pub overflow_add-hi : goal.overflow_add-hi
overflow_add-hi c = omega (arith, c.requires.cells_in_bounds.0)

pub slice_bounds-value_length-count : goal.slice_bounds-value_length-count
slice_bounds-value_length-count c = c.loop-at.invariant.high

pub slice_bounds-value_length-start : goal.slice_bounds-value_length-start
slice_bounds-value_length-start c = omega (arith, c.loop-at.invariant.high)

pub slice_bounds-value_length-end : goal.slice_bounds-value_length-end
slice_bounds-value_length-end c = omega (arith, c.loop-at.invariant.high)

pub shape_of-cells : goal.shape_of-cells
shape_of-cells c = omega (arith, c.loop-at.invariant.size)

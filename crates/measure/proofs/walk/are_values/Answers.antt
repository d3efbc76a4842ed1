-- What the values still to be met say of the bytes left is what all of them say of all.
use native.Mathlib.Omega.{arith}
use mathlib.Core.Path.{◌∙◌, sym}
use Rattle.measure.proofs.WalkLaws.{whole_again, whole_none, whole_fits, whole_end}
use Rattle.measure.proofs.walk.are_values.Goals as goal

pub returns-in_default : goal.returns-in_default
returns-in_default c = whole_none _ _ (omega arith) (sym c.in_default.is ∙ c.value_length.ensures) ∙ c.loop.invariant

pub slice_bounds-rest-count : goal.slice_bounds-rest-count
slice_bounds-rest-count c = whole_fits _ _ (sym c.in-Some.is ∙ c.value_length.ensures)

pub slice_bounds-rest-start : goal.slice_bounds-rest-start
slice_bounds-rest-start c = let f = whole_fits _ _ (sym c.in-Some.is ∙ c.value_length.ensures) in omega arith

pub loop-preserved : goal.loop-preserved
loop-preserved c = whole_again _ _ _ c.loop.rest.now (omega arith) (sym c.in-Some.is ∙ c.value_length.ensures) ∙ c.loop.invariant

pub returns : goal.returns
returns c = c.is_empty.ensures ∙ (whole_end _ _ (omega arith) ∙ c.loop.invariant)

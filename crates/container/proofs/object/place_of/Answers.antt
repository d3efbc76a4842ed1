-- The names up to `low` are below that of the first entry, those from `high` on are not; a name between them decides for one side.
use native.Mathlib.Omega.{arith}
use mathlib.Core.Path.{sym, ◌∙◌}
use Rattle.container.proofs.ObjectLaws.{halves_start, halves_low, halves_high, halves_end}
use Rattle.container.proofs.object.place_of.Goals as goal

pub loop-low-init : goal.loop-low-init
loop-low-init c = halves_start _ _ _ _ (omega arith)

pub loop-low-preserved-then-name_is_below : goal.loop-low-preserved-then-name_is_below
loop-low-preserved-then-name_is_below c =
    halves_low c.loop-low.invariant c.requires.behind _ (omega arith) (omega arith) (sym c.name_is_below.ensures ∙ c.if-name_is_below.true)

pub loop-low-preserved : goal.loop-low-preserved
loop-low-preserved c =
    halves_high c.loop-low.invariant c.requires.behind _ (omega arith) (omega arith) (sym c.name_is_below.ensures ∙ c.if-name_is_below.false)

pub returns : goal.returns
returns c = halves_end c.loop-low.invariant c.loop-low-test.false

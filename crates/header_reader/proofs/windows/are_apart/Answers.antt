-- Offsets below the size lie in the windows; another is no start.
use mathlib.Core.Path.{sym, ◌∙◌}
use Rattle.header_reader.proofs.WindowLaws.{starting_whole, starting_over}
use Rattle.header_reader.proofs.windows.are_apart.Goals as goal

pub returns-then-not-each_below : goal.returns-then-not-each_below
returns-then-not-each_below c = sym (starting_over _ _ (rw c.offsets.ensures at (sym c.each_below.ensures ∙ c.if-not-each_below.true)))

pub returns-then-values-le256 : goal.returns-then-values-le256
returns-then-values-le256 c =
    (rw c.offsets-offsets.ensures at c.by_windows.ensures) ∙ starting_whole _ _ (rw c.offsets.ensures at (sym c.each_below.ensures ∙ c.if-not-each_below.false))

pub returns-else-values-le256 : goal.returns-else-values-le256
returns-else-values-le256 c =
    (rw c.offsets-offsets.ensures at c.by_windows-else-values-le256.ensures) ∙ starting_whole _ _ (rw c.offsets.ensures at (sym c.each_below.ensures ∙ c.if-not-each_below.false))

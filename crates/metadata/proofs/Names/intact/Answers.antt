-- Sorted ends rise to the last of them, and others do not rise.
use mathlib.Core.Path.{sym, ◌∙◌}
use Rattle.metadata.specs.Names.{intact}
use Rattle.metadata.proofs.NameLaws.{sorted_rises, unsorted_falls}
use Rattle.metadata.proofs.Names.intact.Goals as goal

pub returns-then-exceeds : goal.returns-then-exceeds
unfolding intact
returns-then-exceeds c = rw (sym c.exceeds.ensures ∙ c.if-exceeds.true)

pub returns-then-is_sorted : goal.returns-then-is_sorted
unfolding intact
returns-then-is_sorted c =
    rw (sym c.exceeds.ensures ∙ c.if-exceeds.false)
    (sorted_rises _ _ c.is_sorted.ensures.cases c.if-is_sorted.true (c.copied.ensures ∙ c.last.ensures.value) c.unwrap_or.ensures)

pub returns-else-is_sorted : goal.returns-else-is_sorted
unfolding intact
returns-else-is_sorted c =
    rw (sym c.exceeds.ensures ∙ c.if-exceeds.false) (unsorted_falls _ _ c.is_sorted.ensures.cases c.if-is_sorted.false)

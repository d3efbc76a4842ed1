-- The stored count is the number of the names that the offsets cut.
use mathlib.Core.Path.{sym, ◌∙◌, ap}
use Rattle.measure.specs.Measure.{number_at}
use Rattle.lexicon.proofs.TestLaws.{length_by}
use Rattle.lexicon.proofs.names.name_count.Goals as goal

pub returns : goal.returns
returns c = let s = c.of.result in rw (← c.of.ensures) (s.count_read ∙ (ap (number_at s.bytes.now 1) s.width_read ∙ sym (length_by s.bytes.now)))

-- The remaining depth falls.
use Rattle.path_words.proofs.writing.+write_steps.Given as goal

abbrev pub decreases-write_steps : goal.decreases-write_steps
decreases-write_steps l = l.depth

-- The remaining depth falls.
use Rattle.path_words.proofs.sizes.+steps_size.Given as goal

abbrev pub decreases-steps_size : goal.decreases-steps_size
decreases-steps_size l = l.depth

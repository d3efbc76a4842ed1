-- The word, and what stood behind it.
use mathlib.Core.Path.{refl}
use Rattle.path_words.proofs.FrontLaws.{put_front}
use Rattle.path_words.proofs.writing.put.Goals as goal

pub returns : goal.returns
returns c = (refl, put_front c.args.word.now c.args.out.now c.copy_from_slice.ensures.after)

use mathlib.Core.Path.{refl}
use Rattle.semantics.specs.Record.{mark_at}
use Rattle.marks.proofs.read.Goals as goal

pub returns : goal.returns
unfolding mark_at
returns c = refl

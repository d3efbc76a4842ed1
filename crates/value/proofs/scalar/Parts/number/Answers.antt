-- The other two parts are empty.
use mathlib.Core.Path.{refl}
use Rattle.encoding.specs.Packed.{le}
use Rattle.value.proofs.scalar.Parts.number.Goals as goal

pub returns : goal.returns
unfolding le
returns c = refl

-- One byte, and the sixteen.
use Rattle.value.specs.Scalar.{scalar_bytes}
use Rattle.value.proofs.scalar.ArrayU816Stored.size.Goals as goal

pub returns : goal.returns
unfolding scalar_bytes
returns c = rw c.told-self

-- A UUID is stored without a length.
use Rattle.encoding.specs.Packed.{le}
use Rattle.value.specs.Scalar.{scalar_bytes}
use Rattle.value.proofs.scalar.ArrayU816Stored.write.Goals as goal

pub returns : goal.returns
unfolding le scalar_bytes
returns c = rw c.first_byte.ensures at c.write.ensures

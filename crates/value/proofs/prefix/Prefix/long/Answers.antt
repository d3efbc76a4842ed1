-- The type, and a length of four bytes.
use Rattle.value.specs.Scalar.{scalar_bytes}
use Rattle.value.proofs.prefix.Prefix.long.Goals as goal

pub returns : goal.returns
unfolding scalar_bytes
returns c = λ bytes. rw c.first_byte.ensures

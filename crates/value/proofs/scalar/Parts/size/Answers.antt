-- Each part takes the bytes that it says.
use Rattle.value.proofs.ScalarLaws.{parts_size}
use Rattle.value.proofs.scalar.Parts.size.Goals as goal

pub returns : goal.returns
returns c = parts_size c.args.self

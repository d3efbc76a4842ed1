-- As many bytes as are asked for and there are.
use Rattle.measure.proofs.NumberLaws.{number_there}
use Rattle.measure.proofs.length.read_packed.Goals as goal

pub returns : goal.returns
returns c = number_there _ _ _ _ _ _ c.min.ensures c.min-2.ensures c.number_of.ensures

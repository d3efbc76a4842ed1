-- The mask is the remainder by 16.
use lib.Bits.{and_mask}
use Rattle.packed_decimal.proofs.read.low_half.Goals as goal

pub returns : goal.returns
returns c = and_mask c.args.b 4

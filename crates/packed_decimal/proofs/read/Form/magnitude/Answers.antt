-- The pairs and the last byte's digit make it, up to the limit.
use mathlib.Core.Path.{◌∙◌}
use Rattle.packed_decimal.proofs.ReadLaws.{made_of}
use Rattle.packed_decimal.proofs.read.Form.magnitude.Goals as goal

pub returns : goal.returns
returns c = c.with_digit.ensures ∙ rw (c.pairs_magnitude.ensures, c.high_half.ensures) (made_of 0 c.args.self.pairs.now c.args.self.last)

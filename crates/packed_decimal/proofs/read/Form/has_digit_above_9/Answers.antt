-- The pairs are asked, then the last byte's digit.
use Rattle.packed_decimal.proofs.ReadLaws.{above_first, above_last}
use Rattle.packed_decimal.proofs.read.Form.has_digit_above_9.Goals as goal

pub returns-then-pairs_above_9 : goal.returns-then-pairs_above_9
returns-then-pairs_above_9 c = above_first _ _ c.pairs_above_9.ensures c.if-pairs_above_9.true

pub returns-else-pairs_above_9 : goal.returns-else-pairs_above_9
returns-else-pairs_above_9 c = rw c.high_half.ensures (above_last _ _ c.pairs_above_9.ensures c.if-pairs_above_9.false)

-- The count of the bytes first; then the digits and the sign tell.
use Rattle.packed_decimal.proofs.ReadLaws.{many_tell, digit_tells, sign_tells}
use Rattle.packed_decimal.proofs.read.Form.is_not_packed.Goals as goal

pub returns-then-self-ge20 : goal.returns-then-self-ge20
returns-then-self-ge20 c = many_tell _ _ c.if-self-ge20.true

pub returns-then-has_digit_above_9 : goal.returns-then-has_digit_above_9
returns-then-has_digit_above_9 c = digit_tells _ _ c.has_digit_above_9.ensures c.if-has_digit_above_9.true

pub returns-else-has_digit_above_9 : goal.returns-else-has_digit_above_9
returns-else-has_digit_above_9 c =
    sign_tells _ _ c.if-self-ge20.false c.has_digit_above_9.ensures c.if-has_digit_above_9.false c.has_sign.ensures

-- Each answer by the tests that led there.
use Rattle.batch.proofs.ReadingLaws.{left_is, step_tail, step_bad_count, step_bad_size, step_whole}
use Rattle.batch.proofs.reading.record_from.Goals as goal

pub returns-in_default : goal.returns-in_default
returns-in_default c = step_tail _ _ (left_is _ _ c.min.ensures) c.in_default.ensures

pub returns-in_default-number_and_rest : goal.returns-in_default-number_and_rest
returns-in_default-number_and_rest c = step_bad_count _ _ (left_is _ _ c.min.ensures) c.in-Some.ensures c.in_default-number_and_rest.ensures

pub returns-then-size-parts : goal.returns-then-size-parts
returns-then-size-parts c = step_whole _ _ (left_is _ _ c.min.ensures) c.in-Some.ensures c.in-Some-number_and_rest.ensures c.if-size-parts.true

pub returns-else-size-parts : goal.returns-else-size-parts
returns-else-size-parts c = step_bad_size _ _ (left_is _ _ c.min.ensures) c.in-Some.ensures c.in-Some-number_and_rest.ensures c.if-size-parts.false

-- Each arm by the crate's own answer.
use mathlib.Core.Path.{refl}
use Rattle.ffi.specs.BatchFile.{step_over}
use Rattle.ffi.proofs.BatchFileLaws.{tells}
use Rattle.ffi.proofs.batch_file.variant_batch_record_at.Goals as goal

pub returns-in-Ok-Whole : goal.returns-in-Ok-Whole
unfolding step_over
returns-in-Ok-Whole c = tells (rw c.in-Ok-Whole.field-0-is at c.in-Ok-Whole.ensures) refl refl

pub returns-in-Ok-Bad : goal.returns-in-Ok-Bad
unfolding step_over
returns-in-Ok-Bad c = tells (rw c.in-Ok-Bad.field-0-is at c.in-Ok-Bad.ensures) refl refl

pub returns-in-Ok-Tail : goal.returns-in-Ok-Tail
unfolding step_over
returns-in-Ok-Tail c = tells (rw c.in-Ok-Tail.field-0-is at c.in-Ok-Tail.ensures) refl refl

pub returns-in-Err : goal.returns-in-Err
unfolding step_over
returns-in-Err c = tells c.in-Err.ensures refl refl

-- Each arm by the crate's own answer.
use native.Mathlib.Omega.{arith}
use Rattle.reader_ffi.proofs.WordLaws.{tells_small, tells_none}
use Rattle.reader_ffi.proofs.variant_write_small_values.Goals as goal

pub returns-in-Ok : goal.returns-in-Ok
returns-in-Ok c = tells_small c.write_small_values.ensures c.in-Ok.is

pub returns-in-Err-BadLength : goal.returns-in-Err-BadLength
returns-in-Err-BadLength c = tells_none c.write_small_values.ensures (rw (c.in-Err-BadLength.is, c.in-Err-BadLength.field-0-is)) (λ z. absurd (omega arith))

pub returns-in-Err-NoRoom : goal.returns-in-Err-NoRoom
returns-in-Err-NoRoom c = tells_none c.write_small_values.ensures (rw (c.in-Err-NoRoom.is, c.in-Err-NoRoom.field-0-is)) (λ z. absurd (omega arith))

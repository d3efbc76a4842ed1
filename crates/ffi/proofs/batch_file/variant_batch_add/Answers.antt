-- Each arm by the crate's own answer.
use mathlib.Core.Path.{refl}
use native.Mathlib.Omega.{arith}
use Rattle.ffi.proofs.BatchFileLaws.{adds, adds_refused}
use Rattle.ffi.proofs.batch_file.variant_batch_add.Goals as goal

pub returns-in-Ok : goal.returns-in-Ok
returns-in-Ok c = adds (rw c.in-Ok.is at c.add.ensures)

pub returns-in-Err-Damaged : goal.returns-in-Err-Damaged
returns-in-Err-Damaged c = adds_refused (rw (c.in-Err-Damaged.is, c.in-Err-Damaged.field-0-is) at c.add.ensures) refl (λ h. omega arith)

pub returns-in-Err-NoBatch : goal.returns-in-Err-NoBatch
returns-in-Err-NoBatch c = adds_refused (rw (c.in-Err-NoBatch.is, c.in-Err-NoBatch.field-0-is) at c.add.ensures) refl (λ h. omega arith)

pub returns-in-Err-NoRoom : goal.returns-in-Err-NoRoom
returns-in-Err-NoRoom c = adds_refused (rw (c.in-Err-NoRoom.is, c.in-Err-NoRoom.field-0-is) at c.add.ensures) refl (λ h. omega arith)

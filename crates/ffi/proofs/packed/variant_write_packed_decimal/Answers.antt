-- Each arm by the crate's own answer.
use mathlib.Core.Path.{refl}
use native.Mathlib.Omega.{arith}
use mir.Syntax.{w64}
use mir.ValLaws.{to_z-of_z}
use Rattle.ffi.proofs.PackedLaws.{packs, packs_refused}
use Rattle.ffi.proofs.packed.variant_write_packed_decimal.Goals as goal

pub returns-in-Ok : goal.returns-in-Ok
returns-in-Ok c =
    packs c.args.written.now (rw (to_z-of_z w64 c.args.high c.ranges.high, c.in-Ok.is) at c.write_packed_decimal.ensures)

pub returns-in-Err-OutOfRange : goal.returns-in-Err-OutOfRange
returns-in-Err-OutOfRange c =
    let g = c.in-Err-OutOfRange in
    packs_refused c.args.written.now (rw (to_z-of_z w64 c.args.high c.ranges.high, g.is, g.field-0-is) at c.write_packed_decimal.ensures) refl (λ h. omega arith)

pub returns-in-Err-NoRoom : goal.returns-in-Err-NoRoom
returns-in-Err-NoRoom c =
    let g = c.in-Err-NoRoom in
    packs_refused c.args.written.now (rw (to_z-of_z w64 c.args.high c.ranges.high, g.is, g.field-0-is) at c.write_packed_decimal.ensures) refl (λ h. omega arith)

use native.Mathlib.Omega.{arith}
use mir.Syntax.{w32, w64}
use mir.ValLaws.{to_z-of_z}
use Rattle.ffi.specs.Dates.{date_of}
use Rattle.ffi.proofs.DateLaws.{tells_days, tells_no_days}
use Rattle.ffi.proofs.dates.variant_days_of.Goals as goal

pub returns-in-Ok : goal.returns-in-Ok
returns-in-Ok c =
    let a = c.args in
    rw (to_z-of_z w32 c.in-Ok.n (record { sfits = omega arith })) (tells_days (date_of a.year a.month a.day) a.days.now c.in-Ok.n (rw (to_z-of_z w64 a.year c.ranges.year, to_z-of_z w64 a.month c.ranges.month, to_z-of_z w64 a.day c.ranges.day) at c.in-Ok.ensures))

pub returns-in-Err : goal.returns-in-Err
returns-in-Err c =
    let a = c.args in
    tells_no_days (date_of a.year a.month a.day) a.days.now (rw (to_z-of_z w64 a.year c.ranges.year, to_z-of_z w64 a.month c.ranges.month, to_z-of_z w64 a.day c.ranges.day) at c.in-Err.ensures)

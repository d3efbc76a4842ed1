use native.Mathlib.Omega.{arith}
use mir.Syntax.{w64}
use mir.ValLaws.{to_z-of_z}
use Rattle.ffi.specs.Dates.{date_of}
use Rattle.ffi.proofs.DateLaws.{tells_date, tells_no_date}
use Rattle.ffi.proofs.dates.variant_date_of.Goals as goal

pub returns : goal.returns
returns c =
    let a = c.args in
    let d = c.in-Ok.date in
    rw (to_z-of_z w64 d.year (record { sfits = omega arith }), to_z-of_z w64 d.month (record { sfits = omega arith }), to_z-of_z w64 d.day (record { sfits = omega arith }))
    (tells_date a.days (date_of a.year.now a.month.now a.day.now) d (rw (to_z-of_z w64 a.days c.ranges.days) at c.in-Ok.ensures))

pub returns-in_default : goal.returns-in_default
returns-in_default c =
    let a = c.args in
    tells_no_date a.days (date_of a.year.now a.month.now a.day.now) (rw (to_z-of_z w64 a.days c.ranges.days) at c.in_default.ensures)

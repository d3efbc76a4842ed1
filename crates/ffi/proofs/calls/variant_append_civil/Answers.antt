use mir.Syntax.{w64}
use mir.ValLaws.{to_z-of_z}
use Rattle.ffi.specs.Dates.{civil_by, date_of}
use Rattle.ffi.proofs.calls.variant_append_civil.Goals as goal

pub returns : goal.returns
returns c =
    let a = c.args in
    rw (c.number_of.ensures, ← c.name_if-given.ensures)
    (c.append.ensures (civil_by a.code (date_of a.year a.month a.day) a.time)
    (rw (to_z-of_z w64 a.year c.ranges.year, to_z-of_z w64 a.month c.ranges.month, to_z-of_z w64 a.day c.ranges.day, to_z-of_z w64 a.time c.ranges.time) at c.civil_by-x.ensures))

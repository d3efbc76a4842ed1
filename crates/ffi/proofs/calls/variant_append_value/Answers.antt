use mir.Syntax.{w64}
use mir.ValLaws.{to_z-of_z}
use Rattle.semantics.specs.Record.{fixed}
use Rattle.ffi.specs.Scalars.{variant_of}
use Rattle.ffi.proofs.calls.variant_append_value.Goals as goal

pub returns : goal.returns
returns c =
    let a = c.args in
    rw (c.number_of.ensures, ← c.name_if-given.ensures) (c.append.ensures (fixed (variant_of a.code a.z a.low a.scale)) (rw (to_z-of_z w64 a.z c.ranges.z) at c.value_by-x.ensures))

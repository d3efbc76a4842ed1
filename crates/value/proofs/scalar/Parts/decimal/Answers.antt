-- The scale is a byte, so one byte holds it.
use native.Mathlib.Omega.{arith}
use mathlib.Core.Path.{◌≡◌}
use Prim.Native.Nat.{◌%◌}
use mir.Syntax.{w64}
use mir.ValLaws.{to_z-of_z}
use Rattle.encoding.specs.Packed.{le}
use Rattle.value.proofs.scalar.Parts.decimal.Goals as goal

pub returns : goal.returns
unfolding le
returns c =
    let e : c.args.scale % 256 ≡ c.args.scale = omega arith in
    rw (c.twos_complement.ensures, to_z-of_z w64 c.args.x c.ranges.x, e)

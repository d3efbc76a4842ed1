-- The scale is a byte, and the halves take eight bytes each.
use native.Mathlib.Omega.{arith}
use mathlib.Core.Path.{◌≡◌}
use Prim.Native.Nat.{◌%◌}
use Rattle.encoding.specs.Packed.{le}
use mir.Syntax.{w64}
use mir.ValLaws.{to_z-of_z}
use Rattle.value.proofs.scalar.Parts.decimal16.Goals as goal

pub returns : goal.returns
unfolding le
returns c =
    let d = c.args.d in
    let e : d.scale % 256 ≡ d.scale = omega arith in
    rw (c.twos_complement.ensures, to_z-of_z w64 d.high (record { sfits = omega arith }), e)

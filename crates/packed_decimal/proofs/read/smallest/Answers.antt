-- The magnitude tells which of the three.
use native.Mathlib.Omega.{arith}
use Prim.Native.Nat.{◌^◌}
use lib.Signed.{shr_z}
use mir.Syntax.{w32, w64, w128}
use mir.ValLaws.{to_z-of_z}
use lib.Dec.{lit<}
use native.Mathlib.Nat.{lt_trans}
use Rattle.std.proofs.lemmas.Int.{fits_signed_from_abs}
use Rattle.packed_decimal.proofs.StoredLaws.{high_fits, low_rest, smallest_16, smallest_8, smallest_4}
use Rattle.packed_decimal.proofs.read.smallest.Goals as goal

pub returns-then-n-gt999999999999999999 : goal.returns-then-n-gt999999999999999999
returns-then-n-gt999999999999999999 c =
    let z = c.args.integer in
    let f = to_z-of_z w128 z c.ranges.integer in
    let v = rw f at c.unsigned_abs-n.ensures.value in
    let h = high_fits z c.ranges.integer.sfits in
    let r = to_z-of_z w128 c.rem_euclid.result (record { sfits = c.rem_euclid.type_inv }) in
    rw (
      f,
      to_z-of_z w128 (shr_z z (2 ^ 64)) (record { sfits = lt_trans h (lit< tt) }),
      to_z-of_z w64 (shr_z z (2 ^ 64)) (record { sfits = h }),
      r,
      c.rem_euclid.ensures.value,
      f,
      low_rest z,
    )
    (smallest_16 c.args.scale z (omega (arith, v, c.if-n-gt999999999999999999.true)))

pub returns-then-n-gt999999999 : goal.returns-then-n-gt999999999
returns-then-n-gt999999999 c =
    let z = c.args.integer in
    let f = to_z-of_z w128 z c.ranges.integer in
    let v = rw f at c.unsigned_abs-n.ensures.value in
    let h = c.if-n-gt999999999.true in
    let k = c.if-n-gt999999999999999999.false in
    rw (f, to_z-of_z w64 z (fits_signed_from_abs w64 z (omega arith))) (smallest_8 c.args.scale z (omega arith) (omega arith))

pub returns : goal.returns
returns c =
    let z = c.args.integer in
    let f = to_z-of_z w128 z c.ranges.integer in
    let v = rw f at c.unsigned_abs-n.ensures.value in
    let h = c.if-n-gt999999999.false in
    rw (f, to_z-of_z w32 z (fits_signed_from_abs w32 z (omega arith))) (smallest_4 c.args.scale z (omega arith))

-- The rows 7 and 14 are asked of the number itself, and the form is its pairs and the last byte.
use native.Mathlib.Omega.{arith}
use Prim.Native.Nat.{◌/◌, ◌%◌}
use mir.Syntax.{w64, w128}
use mir.ValLaws.{to_z-of_z}
use Rattle.encoding.specs.Signed.{whole}
use Rattle.packed_decimal.proofs.WriteLaws.{Weighed, weigh, Formed, Roomy, weighed_form, few_pairs, pairs_put, place}
use Rattle.packed_decimal.proofs.WriteLaws.{too_large_back, no_room_back, written_back}
use Rattle.packed_decimal.proofs.write.write_packed_decimal.Goals as goal
use Rattle.packed_decimal.proofs.write.write_packed_decimal.Goals.{After-fits, Else-is_beyond, After-is_beyond}

weighed : (c : After-is_beyond) →
    let a = c.args in
    Weighed (whole a.high a.low) a.scale c.unsigned_abs-n.result c.is_beyond.result
weighed c = weigh c.args.low c.ranges.high c.integer-integer.ensures c.integer-integer.type_inv c.unsigned_abs-n.ensures.value c.is_beyond.ensures

formed : (c : Else-is_beyond) →
    let a = c.args in
    let n = c.unsigned_abs-n.result in
    Formed (whole a.high a.low) a.scale (n / 10) (n % 10)
formed c =
    weighed_form (weigh c.args.low c.ranges.high c.integer-integer.ensures c.integer-integer.type_inv c.unsigned_abs-n.ensures.value c.is_beyond.ensures)
    c.if-is_beyond.false (omega arith, omega arith)

roomy : (c : After-fits) →
    let a = c.args in
    let n = c.unsigned_abs-n.result in
    Roomy (whole a.high a.low) a.scale (n / 10) (n % 10) c.pair_count-count.result a.out.now c.fits.result
roomy c =
    record {
      formed = (
          weighed_form (weigh c.args.low c.ranges.high c.integer-integer.ensures c.integer-integer.type_inv c.unsigned_abs-n.ensures.value c.is_beyond.ensures)
          c.if-is_beyond.false (omega arith, omega arith)
          );
      count_is = c.pair_count-count.ensures;
      test = c.fits.ensures;
    }

pub returns : goal.returns
returns c =
    let f = to_z-of_z w128 c.integer-integer.result (record { sfits = c.integer-integer.type_inv }) in
    let g = to_z-of_z w64 c.args.high c.ranges.high in
    let r = roomy (goal.at.returns c).After-fits in
    written_back r c.if-not-fits.false (rw (f, c.integer-integer.ensures, g) at c.last_byte.ensures)
    (pairs_put _ _ _ _ c.write_pairs.ensures c.pair_count-count.ensures (place r c.if-not-fits.false))

pub returns-then-is_beyond : goal.returns-then-is_beyond
returns-then-is_beyond c = too_large_back (weighed (goal.at.returns-then-is_beyond c).After-is_beyond) _ c.if-is_beyond.true

pub overflow_add-size : goal.overflow_add-size
overflow_add-size c = record { fits = few_pairs _ (formed (goal.at.overflow_add-size c).Else-is_beyond) c.pair_count-count.ensures }

pub returns-then-not-fits : goal.returns-then-not-fits
returns-then-not-fits c = no_room_back (roomy (goal.at.returns-then-not-fits c).After-fits) c.if-not-fits.true

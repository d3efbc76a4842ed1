-- Each arm by its first byte, which tells the length.
use native.Mathlib.Omega.{arith}
use mathlib.Core.Path.{◌≡◌, ◌∙◌, ap}
use Prim.Native.Nat.{◌-◌, ◌^◌}
use lib.ListN.{length, get_or, length-drop}
use mir.Syntax.{w32, w64, w128}
use Rattle.value.specs.Decimal.{beyond, beyond_day}
use Rattle.value.specs.Scalar.{scalar_length}
use Rattle.measure.specs.Measure.{value_length}
use Rattle.scalar_reader.proofs.NumberLaws.{read_back, widened}
use Rattle.scalar_reader.proofs.RangeLaws.{stored_size, last_bytes, string_read, short_read}
use Rattle.scalar_reader.proofs.ranges.is_outside.Goals as goal

pub unwrap-requires : goal.unwrap-requires
unfolding value_length scalar_length
unwrap-requires c = c.last_chunk.ensures.variant.1 (omega (arith, stored_size 32 _ (rw c.in-32.is at c.requires.1)))

pub unwrap-requires-in-36 : goal.unwrap-requires-in-36
unfolding value_length scalar_length
unwrap-requires-in-36 c = c.last_chunk-in-36.ensures.variant.1 (omega (arith, stored_size 36 _ (rw c.in-36.is at c.requires.1)))

pub unwrap-requires-in-40 : goal.unwrap-requires-in-40
unfolding value_length scalar_length
unwrap-requires-in-40 c = c.last_chunk-in-40.ensures.variant.1 (omega (arith, stored_size 40 _ (rw c.in-40.is at c.requires.1)))

pub unwrap-requires-in-68 : goal.unwrap-requires-in-68
unfolding value_length scalar_length
unwrap-requires-in-68 c = c.last_chunk-in-68.ensures.variant.1 (omega (arith, stored_size 68 _ (rw c.in-68.is at c.requires.1)))

pub returns-in-32 : goal.returns-in-32
unfolding value_length scalar_length
returns-in-32 c =
    let p = c.args.payload.now in
    let l : length p ≡ 5 = omega (arith, stored_size 32 p (rw c.in-32.is at c.requires.1)) in
    let k = rw c.unwrap.ensures at c.last_chunk.ensures.cases in
    rw c.in-32.is (c.is_beyond.ensures ∙ ap (λ z. beyond (10 ^ 9 - 1) (get_or p 0 0) z) (widened w32 w128 (record { sfits = c.from.type_inv }) c.from.ensures (record { sfits = c.from_le_bytes-number.type_inv }) c.from_le_bytes-number.ensures (k.1.same ∙ last_bytes 4 p l) (simp length-drop (omega arith))))

pub returns-in-36 : goal.returns-in-36
unfolding value_length scalar_length
returns-in-36 c =
    let p = c.args.payload.now in
    let l : length p ≡ 9 = omega (arith, stored_size 36 p (rw c.in-36.is at c.requires.1)) in
    let k = rw c.unwrap-in-36.ensures at c.last_chunk-in-36.ensures.cases in
    rw c.in-36.is (c.is_beyond-in-36.ensures ∙ ap (λ z. beyond (10 ^ 18 - 1) (get_or p 0 0) z) (widened w64 w128 (record { sfits = c.from-in-36.type_inv }) c.from-in-36.ensures (record { sfits = c.from_le_bytes-number-in-36.type_inv }) c.from_le_bytes-number-in-36.ensures (k.1.same ∙ last_bytes 8 p l) (simp length-drop (omega arith))))

pub returns-in-40 : goal.returns-in-40
unfolding value_length scalar_length
returns-in-40 c =
    let p = c.args.payload.now in
    let l : length p ≡ 17 = omega (arith, stored_size 40 p (rw c.in-40.is at c.requires.1)) in
    let k = rw c.unwrap-in-40.ensures at c.last_chunk-in-40.ensures.cases in
    rw c.in-40.is (c.is_beyond-in-40.ensures ∙ ap (λ z. beyond (10 ^ 38 - 1) (get_or p 0 0) z) (read_back w128 (record { sfits = c.from_le_bytes-number-in-40.type_inv }) c.from_le_bytes-number-in-40.ensures (k.1.same ∙ last_bytes 16 p l) (simp length-drop (omega arith))))

pub returns-in-68 : goal.returns-in-68
unfolding value_length scalar_length
returns-in-68 c =
    let p = c.args.payload.now in
    let l : length p ≡ 8 = omega (arith, stored_size 68 p (rw c.in-68.is at c.requires.1)) in
    let d : length p - 8 ≡ 0 = omega arith in
    let k = rw (c.unwrap-in-68.ensures, d) at c.last_chunk-in-68.ensures.cases in
    rw c.in-68.is (c.time_out_of_range.ensures ∙ ap beyond_day (read_back w64 (record { sfits = c.from_le_bytes-micros.type_inv }) c.from_le_bytes-micros.ensures k.1.same l))

pub returns-then-first-eq1 : goal.returns-then-first-eq1
returns-then-first-eq1 c = short_read c.args.payload.now c.requires.1 c.ranges.first.fits c.if-first-eq1.true c.is_utf8-then-first-eq1.ensures

pub slice_bounds-is_utf8-count : goal.slice_bounds-is_utf8-count
unfolding value_length scalar_length
slice_bounds-is_utf8-count c = omega (arith, stored_size 64 _ (rw c.in-64.is at c.requires.1))

pub slice_bounds-is_utf8-start : goal.slice_bounds-is_utf8-start
unfolding value_length scalar_length
slice_bounds-is_utf8-start c = omega (arith, stored_size 64 _ (rw c.in-64.is at c.requires.1))

pub returns-in-64 : goal.returns-in-64
returns-in-64 c = rw c.in-64.is (string_read c.args.payload.now c.is_utf8.ensures)

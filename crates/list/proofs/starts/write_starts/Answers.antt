-- The starts still to be written, written where the loop stands, give the whole.
use native.Mathlib.Omega.{arith}
use mathlib.Core.Path.{◌≡◌}
use Prim.Native.Nat.{◌-◌, ◌+◌}
use native.Mathlib.Nat.{sub-zero}
use Rattle.measure.proofs.MeasureLaws.{length_or_zero, measured_within}
use Rattle.list.proofs.StartLaws.{starts_start, starts_room, starts_again, starts_end}
use Rattle.list.proofs.starts.write_starts.Goals as goal

pub loop-init : goal.loop-init
loop-init c = rw (sub-zero c.args.n) (starts_start _ _ _ 0 _ (omega (arith, c.requires)))

pub loop-preserved : goal.loop-preserved
loop-preserved c =
    let n = c.args.n in
    let k = c.loop.counter in
    let e : n - k - 1 ≡ n - (k + 1) = omega arith in
    let i = c.loop.invariant in
    let w = c.put_packed.ensures.room (omega (arith, starts_room i (omega arith), i.size)) in
    rw e at (starts_again c.unwrap_or.result i (omega arith) w
    (length_or_zero _ _ _ c.value_length.ensures c.unwrap_or.ensures))

pub returns : goal.returns
returns c = starts_end c.loop.invariant (omega arith)

pub slice_bounds-rest-count : goal.slice_bounds-rest-count
slice_bounds-rest-count c = omega (arith, length_or_zero _ _ _ c.value_length.ensures c.unwrap_or.ensures, measured_within c.loop.rest.now)

pub slice_bounds-rest-start : goal.slice_bounds-rest-start
slice_bounds-rest-start c = omega (arith, length_or_zero _ _ _ c.value_length.ensures c.unwrap_or.ensures, measured_within c.loop.rest.now)

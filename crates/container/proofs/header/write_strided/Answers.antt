-- The numbers still to be written, written where the loop stands, give the whole.
use native.Mathlib.Omega.{arith}
use mathlib.Core.Path.{◌≡◌}
use Prim.Native.Nat.{◌+◌, ◌-◌, ◌*◌, ◌/◌}
use native.Mathlib.Nat.{add-zero, sub-zero}
use lib.ListN.{length}
use Rattle.container.proofs.HeaderLaws.{strides_start, strides_room, strides_again, strides_end}
use Rattle.container.proofs.header.write_strided.Goals as goal

pub loop-k-init : goal.loop-k-init
loop-k-init c =
    let a = c.args in
    let n = length a.entries.now / 2 in
    rw (add-zero a.part, sub-zero n)
    (strides_start a.value.now a.entries.now a.width 0 a.part n (omega (arith, c.requires.room)) (omega (arith, c.requires.second)))

pub loop-k-preserved : goal.loop-k-preserved
loop-k-preserved c =
    let a = c.args in
    let i = c.loop-k.invariant in
    let k = c.loop-k.k in
    let n = length a.entries.now / 2 in
    let p : a.part + 2 * k + 2 ≡ a.part + 2 * (k + 1) = omega arith in
    let m : n - k - 1 ≡ n - (k + 1) = omega arith in
    let q : 2 * k + a.part ≡ a.part + 2 * k = omega arith in
    let w = c.put_packed.ensures.room (omega (arith, strides_room i (omega arith), i.size)) in
    rw (p, m) at (strides_again i (omega arith) (rw q at w))

pub returns : goal.returns
returns c = strides_end c.loop-k.invariant (omega arith)

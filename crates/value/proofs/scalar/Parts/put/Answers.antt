-- The first byte and the three parts, one behind the other.
use native.Mathlib.Omega.{arith}
use lib.ListN.{length-set}
use Rattle.value.proofs.ScalarLaws.{parts_written, parts_room}
use Rattle.value.proofs.scalar.Parts.put.Goals as goal

pub bounds-buf-at : goal.bounds-buf-at
bounds-buf-at c = omega (arith, parts_room c.args.at c.args.self _ c.requires)

pub returns : goal.returns
returns c =
    let s = c.args.self in
    let l = c.args.buf.now in
    let r = parts_room c.args.at s _ c.requires in
    let n = length-set l c.args.at c.first_byte.result in
    let m = c.put_packed.auto.buf in
    let k = c.put_packed-2.auto.buf in
    parts_written c.args.at s l c.requires c.first_byte.ensures (c.put_packed.ensures.room (omega arith)) (c.put_packed-2.ensures.room (omega arith))
    (c.put_packed-3.ensures.room (omega arith))

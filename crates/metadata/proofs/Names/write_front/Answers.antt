-- The first byte, and two numbers behind it.
use native.Mathlib.Omega.{arith}
use Prim.Native.Nat.{ℕ}
use lib.ListN.{length-set}
use Rattle.encoding.specs.Packed.{le}
use Rattle.encoding.proofs.PackedLaws.{length_le}
use Rattle.encoding.proofs.SliceLaws.{put_first}
use Rattle.metadata.proofs.FinishLaws.{mark_bit}
use Rattle.metadata.proofs.Names.write_front.Goals as goal

pub returns : goal.returns
returns c =
    let a = c.args in
    let w = a.width in
    let n = a.self.counts.names in
    let p = length_le w n in
    let q = length_le w 0 in
    let r = c.requires in
    rw (← c.ascend.ensures, ← mark_bit c.ascend.result _ c.from.ensures)
    (put_first 0 _ _ a.out.now (le w n) (le w 0)
    (c.put_packed.ensures.room (omega (arith, length-set {A = ℕ}))) (c.put_packed-2.ensures.room (omega (arith, length-set {A = ℕ})))
    (omega arith) (omega arith))

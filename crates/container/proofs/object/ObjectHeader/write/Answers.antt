-- The first byte, the count, the ids, the offsets and the data size, one behind the other, are the header.
use mathlib.Core.Path.{◌≡◌, refl, ◌∙◌, ap}
use Prim.Native.Nat.{◌+◌, ◌*◌, ◌/◌, ◌≤◌}
use native.Mathlib.Omega.{arith}
use lib.ListN.{length, length-set}
use Rattle.encoding.specs.Packed.{les}
use Rattle.encoding.proofs.SliceLaws.{length_write}
use Rattle.container.specs.Entries.{strided}
use Rattle.container.proofs.HeaderLaws.{length_row, one_more_lem, row_part}
use Rattle.container.proofs.ObjectLaws.{object_written}
use Rattle.container.proofs.object.ObjectHeader.write.Goals as goal

pub returns : goal.returns
returns c =
    let a = c.args in
    let s = a.self in
    let n = s.count in
    let l = a.value.now in
    let es = a.entries.now in
    let count = c.count_size-count.result in
    let m = c.put_packed.new.buf in
    let e : length es / 2 ≡ n = omega (arith, c.requires.all) in
    let k : 1 + count + s.id_size * n + s.offset_size * n + s.offset_size ≤ length l =
    omega (arith, c.requires.room, c.count_size-count.ensures, one_more_lem s.offset_size n) in
    let z : length m ≡ length l = c.put_packed.auto.buf ∙ length-set l 0 c.first_byte.result in
    let front = c.put_packed.ensures.room (omega arith) in
    let last = c.put_packed-2.ensures.room (omega arith) in
    let ids = row_part s.id_size (1 + count) n 0 m es e c.write_strided.ensures (omega arith) in
    let y = ap length ids ∙ (length_write (1 + count) (les s.id_size (strided es 0 n)) m (omega (arith, length_row s.id_size es 0 n)) ∙ z) in
    let offsets = row_part s.offset_size (1 + count + s.id_size * n) n 1 _ es e c.write_strided-2.ensures (omega arith) in
    object_written _ _ count _ n s.size _ _ l es c.count_size-count.ensures c.first_byte.ensures front ids offsets last refl refl k

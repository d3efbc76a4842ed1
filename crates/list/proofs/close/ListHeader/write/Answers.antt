-- The first byte, the count, the starts and the data size, one behind the other, are the header.
use mathlib.Core.List.{◌++◌}
use mathlib.Core.Path.{◌∙◌, ap}
use native.Mathlib.Omega.{arith}
use lib.ListN.{length-set}
use Rattle.list.proofs.CloseLaws.{header_length, header_written, starts_part}
use Rattle.list.proofs.close.ListHeader.write.Goals as goal

pub returns : goal.returns
returns c =
    let a = c.args.self in
    let k = c.count_size-count.ensures in
    let e = header_length a.width _ a.count k in
    let s = c.split_at_mut-front in
    let m = c.put_packed.auto.buf ∙ length-set s.result.0.now 0 c.first_byte.result in
    let p = starts_part a.width _ a.count c.put_packed.new.buf s.result.1.now (omega (arith, m, s.ensures.front_len)) c.write_starts.ensures in
    rw (← e, ← s.ensures.back)
    (ap (λ l. l ++ s.result.1.now)
    (header_written a.width _ _ a.count a.size _ _ k c.first_byte.ensures s.ensures.front_len (c.put_packed.ensures.room (omega arith)) p
    (c.put_packed-2.ensures.room (omega arith))))

-- The ends still to be written, written where the loop stands, give the whole row.
use native.Mathlib.Omega.{arith}
use Rattle.metadata.proofs.FinishLaws.{offsets_start, row_room, offsets_again, offsets_end}
use Rattle.metadata.proofs.dictionary.write_offsets.Goals as goal

pub loop-end-init : goal.loop-end-init
loop-end-init c = offsets_start _ _ _ _ (omega (arith, c.requires))

pub loop-end-preserved : goal.loop-end-preserved
loop-end-preserved c =
    let i = c.loop-end.invariant in
    let t = c.loop-end-test.true in
    offsets_again i t (c.put_packed.ensures.room (omega (arith, row_room i t, i.room, i.size)))

pub returns : goal.returns
returns c = (offsets_end c.loop-end.invariant c.loop-end-test.false).1

-- The records that are left, undone in what stands now, give the target.
use native.Mathlib.Omega.{arith}
use native.Mathlib.Nat.{sub-zero}
use Prim.Native.Nat.{◌/◌}
use lib.ListN.{length}
use Rattle.container.proofs.UndoLaws.{undoing_start, undoing_again, undoing_end}
use Rattle.container.proofs.undo.undo_records.Goals as goal

pub loop-h-init : goal.loop-h-init
loop-h-init c = undoing_start _ _ _ _ _ _ (omega arith) (omega arith) (omega arith)

pub loop-h-preserved : goal.loop-h-preserved
loop-h-preserved c =
    let i = c.loop-h.invariant in
    let z = sub-zero (length c.args.entries.now / 2) in
    undoing_again i (omega arith) (rw z (rw i.size_is at c.undo_one.ensures))

pub returns : goal.returns
returns c = undoing_end c.loop-h.invariant (omega arith)

use Prim.Native.Nat.{◌/◌}
use lib.ListN.{length}
use Rattle.container.specs.Undo.{undone_from}
use Rattle.container.proofs.UndoLaws.{Undoing}
use Rattle.container.proofs.undo.undo_records.Given as goal

abbrev pub invariant-loop-h : goal.invariant-loop-h
invariant-loop-h l =
    let n = length l.initial.entries / 2 in
    Undoing l.entries 0 n l.undo 0 l.h (undone_from l.initial.entries 0 n l.undo 0 (length l.undo / 2)) (length l.initial.entries)

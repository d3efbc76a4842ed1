-- Where the range is in order and there is room for it and for the records, all of them are undone.
use native.Mathlib.Omega.{arith}
use Rattle.container.proofs.UndoLaws.{undo_empty, undo_fallen, undo_over, undo_unheld, undo_done}
use Rattle.container.proofs.PartLaws.{undone_part}
use Rattle.container.proofs.undo.undo_entries.Goals as goal
use Rattle.container.proofs.undo.undo_entries.Goals.{then-records-via-else-records+then-undo-records, then-records-via-then-records}
use Rattle.container.proofs.undo.undo_entries.Goals.{then-fields-via-else-fields+then-entries-fields, then-fields-via-then-fields}

pub returns-then-fields : goal.returns-then-fields
returns-then-fields c =
    elim c.then-fields.branch [
      | then-fields-via-then-fields w ↦ undo_fallen _ _ _ _ _ _ w.if-fields.true
      | then-fields-via-else-fields+then-entries-fields w ↦ undo_over _ _ _ _ _ _ w.if-fields.false w.if-entries-fields.true
    ]

pub returns-then-records : goal.returns-then-records
returns-then-records c =
    elim c.then-records.branch [
      | then-records-via-then-records w ↦ undo_empty _ _ _ _ _ _ c.if-fields.false c.if-entries-fields.false w.if-records.true
      | then-records-via-else-records+then-undo-records w ↦ undo_unheld _ _ _ _ _ _ c.if-fields.false c.if-entries-fields.false w.if-undo-records.true
    ]

pub returns : goal.returns
returns c =
    let a = c.args in
    undo_done a.entries.now a.fields.start a.fields.end a.undo.now a.records.start a.records.end (omega arith) (omega arith) (omega arith)
    (undone_part a.entries.now a.undo.now a.fields.start a.fields.end a.records.start a.records.end (omega arith) (omega arith) (omega arith) (omega arith)
    c.undo_records.ensures)

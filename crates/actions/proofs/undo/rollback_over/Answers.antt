use mathlib.Core.Path.{refl}
use Rattle.actions.proofs.UndoLaws.{leaves_undone, rollback_open}
use Rattle.actions.proofs.undo.rollback_over.Goals as goal

pub overflow_sub-result : goal.overflow_sub-result
overflow_sub-result c = rollback_open _ _ c.in_ok-place.ensures.number refl

pub returns : goal.returns
returns c = leaves_undone c.in_ok-place.ensures c.entries_left.ensures c.records_left.ensures c.put_back.ensures c.from_parts.ensures c.siblings_left.ensures

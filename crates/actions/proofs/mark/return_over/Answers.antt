use mathlib.Core.List.{[]}
use Rattle.actions.proofs.MarkLaws.{return_done}
use Rattle.actions.proofs.mark.return_over.Goals as goal

pub returns : goal.returns
returns c = return_done c.in_ok-may_return.ensures (c.undo_to.ensures [] [] []) c.counts_at.ensures (rw c.with_unique-u.ensures at c.with_marks.ensures)

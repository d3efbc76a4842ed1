use Rattle.actions.proofs.mark.undo_to.Goals as goal

pub returns-then-v : goal.returns-then-v
returns-then-v c value text ends =
    rw c.if-v.true c.undo_entries.ensures

pub returns-else-v : goal.returns-else-v
returns-else-v c value text ends = rw c.if-v.false

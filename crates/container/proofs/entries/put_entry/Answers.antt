-- Both numbers are written where there is room for the entry, and nothing elsewhere.
use Rattle.container.proofs.EntryWalk.{notes_done, notes_none}
use Rattle.container.proofs.entries.put_entry.Goals as goal

pub returns-then-k-entries : goal.returns-then-k-entries
returns-then-k-entries c = notes_done _ _ _ c.if-k-entries.true

pub returns-else-k-entries : goal.returns-else-k-entries
returns-else-k-entries c = notes_none _ _ _ _ c.if-k-entries.false

-- The entry's second number is read and written where there is room for the entry; elsewhere it is 0 and stays so.
use Rattle.container.proofs.EntryWalk.{offset_out}
use Rattle.container.proofs.entries.replace_offset.Goals as goal

pub returns-then-entries-k : goal.returns-then-entries-k
returns-then-entries-k c = offset_out _ _ _ c.if-entries-k.true

use Rattle.builder.specs.Calls.{fresh_of}
use Rattle.builder.proofs.made.fresh.Goals as goal

pub returns : goal.returns
unfolding fresh_of
returns c = rw (c.no_container.ensures, c.fresh_counts.ensures)

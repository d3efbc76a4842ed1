use Rattle.semantics.proofs.fresh_counts.Goals as goal

pub returns : goal.returns
returns c = rw c.new.ensures

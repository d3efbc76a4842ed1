-- As many as the header counts.
use mathlib.Core.Path.{◌∙◌, sym, ap}
use native.Mathlib.Omega.{arith}
use lib.ListN.{length}
use Rattle.children.proofs.child_count.Goals as goal

pub returns-in-Some : goal.returns-in-Some
returns-in-Some c = let n = c.count.ensures in (n.0 ∙ c.in-Some.ensures.count, n.1)

pub returns-in-None : goal.returns-in-None
returns-in-None c = (sym (ap length c.in-None.ensures), omega arith)

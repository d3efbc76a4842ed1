-- What the entries passed gave, with those still to be read, is what all of them give.
use native.Mathlib.Omega.{arith}
use Rattle.container.proofs.EntryWalk.{walks_start, walks_again, walks_end}
use Rattle.container.proofs.entries.search_entries.Goals as goal

pub loop-k-init : goal.loop-k-init
loop-k-init c = walks_start _ _ _ _ _ _ _ _ (rw (← c.min.ensures) c.max-end.ensures)

pub loop-k-preserved : goal.loop-k-preserved
loop-k-preserved c = walks_again _ _ c.loop-k.invariant (omega arith) (rw c.then_some.ensures at c.or-first.ensures) c.max-largest.ensures

pub returns : goal.returns
returns c = walks_end _ _ c.loop-k.invariant c.loop-k-test.false (let e = c.loop-k.auto.k-end in omega arith) c.unwrap_or.ensures

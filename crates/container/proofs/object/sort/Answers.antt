-- The entries from j on are in order; one more put among them leaves the sort of all as it is.
use native.Mathlib.Omega.{arith}
use mathlib.Core.Path.{◌≡◌, refl}
use Prim.Native.Nat.{◌+◌, ◌-◌, ◌/◌}
use lib.ListN.{length}
use Rattle.container.proofs.ObjectLaws.{sorts_start, sorts_again, sorts_end}
use Rattle.container.proofs.PartLaws.{inserted_part, tail_held, tail_length}
use Rattle.container.proofs.object.sort.Goals as goal

pub loop-j-init : goal.loop-j-init
loop-j-init c = sorts_start _ _ _ _ (omega arith) (omega arith)

pub insert-requires-clause-some : goal.insert-requires-clause-some
insert-requires-clause-some c = let i = c.loop-j.invariant.high in omega (arith, tail_length (c.loop-j.j - 1) c.loop-j.entries, c.loop-j.invariant.size)

pub insert-requires-clause-behind : goal.insert-requires-clause-behind
insert-requires-clause-behind c =
    let j = c.loop-j.j in
    let i = c.loop-j.invariant in
    let e : j - 1 + 1 ≡ j = omega arith in
    tail_held _ (j - 1) (length c.args.entries.now / 2) c.loop-j.entries (omega (arith, i.high)) (rw i.size refl) (rw e i.held)

pub loop-j-preserved : goal.loop-j-preserved
loop-j-preserved c =
    let i = c.loop-j.invariant in
    sorts_again c.loop-j.invariant (omega arith)
    (inserted_part _ _ (length c.args.entries.now / 2) _ _ _ (omega (arith, i.high)) (omega (arith, i.high, i.size)) (omega (arith, i.high, i.size))
    (omega (arith, tail_length (c.loop-j.j - 1) c.loop-j.entries, i.high, i.size)) c.insert.ensures)

pub returns : goal.returns
returns c = sorts_end c.loop-j.invariant (omega arith)

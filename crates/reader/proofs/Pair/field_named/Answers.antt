-- The fields that are left decide as all of them do.
use native.Mathlib.Omega.{arith}
use Prim.Native.Nat.{◌<◌}
use Rattle.grammar.specs.Tests.{object_count}
use Rattle.reader.proofs.FieldLaws.{seeks_start, seeks_found, seeks_again, seeks_none}
use Rattle.reader.proofs.Pair.field_named.Goals as goal
use Rattle.reader.proofs.Pair.field_named.Goals.{In-loop-k}

-- field k is there
there : (c : In-loop-k) → c.loop-k.k < object_count c.args.self.value.now
there c = omega (arith, c.count-k-end.ensures.0, c.in_ok-header.ensures.count)

pub part_at-requires : goal.part_at-requires
part_at-requires c =
    let i = c.in_ok-header.ensures in
    rw (i.from, i.offsets) (i.inside _ (there (goal.at.part_at-requires c).In-loop-k))

pub returns-then-same_name : goal.returns-then-same_name
returns-then-same_name c =
    seeks_found c.loop-k.invariant (there (goal.at.returns-then-same_name c).In-loop-k) (rw c.in_ok-header.ensures.ids at c.id.ensures.0) c.same_name.ensures c.if-same_name.true (rw (c.in_ok-header.ensures.from, c.in_ok-header.ensures.offsets) at c.part_at.ensures)

pub loop-k-preserved : goal.loop-k-preserved
loop-k-preserved c =
    seeks_again c.loop-k.invariant (there (goal.at.loop-k-preserved c).In-loop-k) (rw c.in_ok-header.ensures.ids at c.id.ensures.0) c.same_name.ensures c.if-same_name.false

pub returns : goal.returns
returns c = seeks_none c.loop-k.invariant (omega (arith, c.count-k-end.ensures.0, c.in_ok-header.ensures.count))

pub loop-k-init : goal.loop-k-init
loop-k-init c = seeks_start _ _ _ c.in_ok-header.ensures.object

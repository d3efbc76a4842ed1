-- The fields that are left decide as all of them do.
use native.Mathlib.Omega.{arith}
use Prim.Native.Nat.{◌<◌}
use mir.Syntax.{w64}
use mir.ValLaws.{to_z-of_z}
use Rattle.grammar.specs.Tests.{object_count}
use Rattle.reader.proofs.FieldLaws.{hunts_start, hunts_found, hunts_again, hunts_none}
use Rattle.reader.proofs.Pair.integer_field.Goals as goal
use Rattle.reader.proofs.Pair.integer_field.Goals.{In-loop-k}

-- field k is there
there : (c : In-loop-k) → c.loop-k.k < object_count c.args.self.value.now
there c = omega (arith, c.count-k-end.ensures.0, c.in_ok-header.ensures.count)

pub part_at-place-requires : goal.part_at-place-requires
part_at-place-requires c =
    let i = c.in_ok-header.ensures in
    rw (i.from, i.offsets) (i.inside _ (there (goal.at.part_at-place-requires c).In-loop-k))

pub loop-k-preserved : goal.loop-k-preserved
loop-k-preserved c =
    hunts_again c.loop-k.invariant (there (goal.at.loop-k-preserved c).In-loop-k) (rw c.in_ok-header.ensures.ids at c.id-id.ensures.0) (rw (c.in_ok-header.ensures.from, c.in_ok-header.ensures.offsets) at c.part_at-place.ensures) c.field.ensures c.integer_of.ensures c.in_default.is

pub returns-in-loop-k : goal.returns-in-loop-k
returns-in-loop-k c =
    rw (to_z-of_z w64 c.in-Some.number (record { sfits = omega arith }))
    (hunts_found c.loop-k.invariant (there (goal.at.returns-in-loop-k c).In-loop-k) (rw c.in_ok-header.ensures.ids at c.id-id.ensures.0) (rw (c.in_ok-header.ensures.from, c.in_ok-header.ensures.offsets) at c.part_at-place.ensures) c.field.ensures c.integer_of.ensures c.in-Some.is)

pub returns : goal.returns
returns c = hunts_none c.loop-k.invariant (omega (arith, c.count-k-end.ensures.0, c.in_ok-header.ensures.count))

pub loop-k-init : goal.loop-k-init
loop-k-init c = hunts_start _ c.in_ok-header.ensures.object

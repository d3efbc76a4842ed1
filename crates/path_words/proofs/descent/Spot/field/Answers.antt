-- The fields that are left decide as all of them do.
use native.Mathlib.Omega.{arith}
use mathlib.Core.Path.{◌≡◌, ap, ◌∙◌}
use Prim.Native.Nat.{◌+◌, ◌≤◌, ◌<◌, max}
use lib.ListN.{length, get_or}
use Rattle.grammar.specs.Tests.{object_count, object_from, object_offsets}
use Rattle.path_words.proofs.WalkLaws.{fields_start, fields_none, fields_before, fields_found, fields_behind, value_end_lem}
use Rattle.path_words.proofs.descent.Spot.field.Goals as goal
use Rattle.path_words.proofs.descent.Spot.field.Goals.{else-start-self-via-then-start-self+else-self-start, else-start-self-via-else-start-self, After-offset, After-value_from, In-loop-k}

-- field k is there
there : (c : In-loop-k) → c.loop-k.k < object_count c.args.self.value.now
there c = omega (arith, c.count-k-end.ensures.0, c.of_object-header.ensures.count)

-- where its value starts
start : (c : After-offset) → let v = c.args.self.value.now in
    c.from-from.result + c.offset.result ≡ object_from v + get_or (object_offsets v) c.loop-k.k 0
start c = rw (c.from-from.ensures.0, c.offset.ensures.0, c.of_object-header.ensures.from, c.of_object-header.ensures.offsets)

-- and where it ends
end : (c : After-value_from)
    → let n = c.from-from.result + c.offset.result in
    n + length c.value_from.result.now ≤ max n (length c.args.self.value.now)
end c = value_end_lem _ _ (ap length c.value_from.ensures)

pub returns-then-self-start : goal.returns-then-self-start
returns-then-self-start c =
    fields_found c.loop-k.invariant (there (goal.at.returns-then-self-start c).In-loop-k) (start (goal.at.returns-then-self-start c).After-offset) (ap length c.value_from.ensures) (rw c.of_object-header.ensures.ids at c.id.ensures.0)
    c.if-start-self.true c.if-self-start.true

pub loop-k-preserved : goal.loop-k-preserved
loop-k-preserved c =
    elim c.else-start-self.branch [
      | else-start-self-via-then-start-self+else-self-start x ↦ fields_behind c.loop-k.invariant (there (goal.at.loop-k-preserved c).In-loop-k) (start (goal.at.loop-k-preserved c).After-offset) (ap length x.value_from.ensures) x.if-self-start.false
      | else-start-self-via-else-start-self x ↦ fields_before c.loop-k.invariant (there (goal.at.loop-k-preserved c).In-loop-k) (start (goal.at.loop-k-preserved c).After-offset) x.if-start-self.false
    ]

pub returns : goal.returns
returns c = fields_none c.loop-k.invariant (rw (← (c.count-k-end.ensures.0 ∙ c.of_object-header.ensures.count)) c.loop-k-test.false)

pub loop-k-init : goal.loop-k-init
loop-k-init c = fields_start _ _

pub overflow_add-start : goal.overflow_add-start
overflow_add-start c = omega (arith, c.offset.ensures.1, c.from-from.ensures.1)

pub overflow_add-start-then-start-self : goal.overflow_add-start-then-start-self
overflow_add-start-then-start-self c = omega (arith, end (goal.at.overflow_add-start-then-start-self c).After-value_from)

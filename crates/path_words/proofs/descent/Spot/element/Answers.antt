-- The elements that are left decide as all of them do.
use native.Mathlib.Omega.{arith}
use mathlib.Core.Path.{ap, ◌∙◌}
use Prim.Native.Nat.{◌+◌, ◌≤◌}
use lib.ListN.{length}
use Rattle.path_words.proofs.WalkLaws.{elements_start, elements_past, elements_none, elements_room, elements_found, elements_again}
use Rattle.path_words.proofs.descent.Spot.element.Goals as goal
use Rattle.path_words.proofs.descent.Spot.element.Goals.{Else-n-eq0}

-- the value ends within the bytes
room : (c : Else-n-eq0)
    →
    c.loop-start.start + length c.value_from-n.result.now ≤ length c.args.self.value.now
room c = elements_room c.loop-start.invariant (ap length c.value_from-n.ensures) c.if-n-eq0.false

pub loop-start-init : goal.loop-start-init
loop-start-init c = rw (c.from-start.ensures.0 ∙ c.of_list.ensures.from) (elements_start _ _ _)

pub returns-then-self-start : goal.returns-then-self-start
returns-then-self-start c =
    elements_found c.loop-start.invariant (ap length c.value_from-n.ensures) c.if-n-eq0.false c.loop-start-test.true c.if-self-start.true

pub loop-start-preserved : goal.loop-start-preserved
loop-start-preserved c =
    elements_again c.loop-start.invariant (ap length c.value_from-n.ensures) c.if-n-eq0.false c.if-self-start.false

pub returns-after-loop-start : goal.returns-after-loop-start
returns-after-loop-start c = elements_past c.loop-start.invariant c.loop-start-test.false

pub returns-then-n-eq0 : goal.returns-then-n-eq0
returns-then-n-eq0 c =
    elements_none c.loop-start.invariant (ap length c.value_from-n.ensures) c.loop-start-test.true c.if-n-eq0.true

pub overflow_add-start : goal.overflow_add-start
overflow_add-start c = omega (arith, room (goal.at.overflow_add-start c).Else-n-eq0)

pub overflow_add-number : goal.overflow_add-number
overflow_add-number c = omega (arith, room (goal.at.overflow_add-number c).Else-n-eq0, c.loop-start.invariant.count)

pub overflow_add-start-in-loop-start : goal.overflow_add-start-in-loop-start
overflow_add-start-in-loop-start c = omega (arith, room (goal.at.overflow_add-start-in-loop-start c).Else-n-eq0)

pub loop-start-smaller : goal.loop-start-smaller
loop-start-smaller c = let z = c.if-n-eq0.false in omega arith

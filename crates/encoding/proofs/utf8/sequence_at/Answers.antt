-- `sequence_at` finds the length of the sequence that begins at `at`: byte after byte is in the range that the lead byte wants, or none begins there.
use mathlib.Core.Path.{subst}
use native.Mathlib.Numerals.{add-one}
use native.Mathlib.Omega.{arith}
use Rattle.encoding.specs.Utf8.{Begins}
use Rattle.encoding.proofs.Utf8Laws.{too_short, at_most_one, first_right, one_more_lem, next_wrong, next_right, whole}
use Rattle.encoding.proofs.utf8.sequence_at.Goals as goal

pub returns-then-text-at : goal.returns-then-text-at
returns-then-text-at c = too_short (omega arith) c.lead_of-n.ensures c.if-text-at.true

pub returns-then-n-eq0 : goal.returns-then-n-eq0
returns-then-n-eq0 c = subst (λ n. Begins c.args.text.now c.args.at n) c.if-n-eq0.true (at_most_one (omega arith) c.lead_of-n.ensures (omega arith))

pub returns-then-n-eq1 : goal.returns-then-n-eq1
returns-then-n-eq1 c = (omega arith, at_most_one (omega arith) c.lead_of-n.ensures (omega arith))

pub returns-then-not-between : goal.returns-then-not-between
returns-then-not-between c = next_wrong (first_right (omega arith) c.lead_of-n.ensures (omega arith) (omega arith)) c.between.ensures c.if-not-between.true-raw

pub loop-i-init : goal.loop-i-init
loop-i-init c = next_right (first_right (omega arith) c.lead_of-n.ensures (omega arith) (omega arith)) c.between.ensures c.if-not-between.false-raw

pub returns-then-not-between-2 : goal.returns-then-not-between-2
returns-then-not-between-2 c = next_wrong (one_more_lem (omega arith) c.loop-i.invariant) c.between-in-loop-i.ensures c.if-not-between-2.true-raw

pub loop-i-preserved : goal.loop-i-preserved
loop-i-preserved c = rw add-one (next_right (one_more_lem (omega arith) c.loop-i.invariant) c.between-in-loop-i.ensures c.if-not-between-2.false-raw)

pub returns : goal.returns
returns c = (omega arith, whole c.loop-i.invariant (omega arith) (omega arith))

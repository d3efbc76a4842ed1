use mathlib.Core.Path.{refl}
use native.Mathlib.Omega.{arith}
use Rattle.marks.proofs.TableLaws.{order_again, order_fails, order_end}
use Rattle.marks.proofs.in_order.Goals as goal

pub loop-j-init : goal.loop-j-init
loop-j-init c = record { same = refl }

pub returns-then-not-not_above : goal.returns-then-not-not_above
returns-then-not-not_above c =
    order_fails c.loop-j.invariant (omega arith) c.mark_at-m.ensures c.not_above.ensures c.if-not-not_above.true

pub loop-j-preserved : goal.loop-j-preserved
loop-j-preserved c = order_again c.loop-j.invariant (omega arith) c.mark_at-m.ensures c.not_above.ensures c.if-not-not_above.false

pub returns : goal.returns
returns c = rw (c.not_above-2.ensures, c.start_of.ensures) (order_end c.loop-j.invariant (omega arith))

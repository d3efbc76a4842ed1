-- A day of the span, counted from 0001-01-01.
use mathlib.Core.Path.{◌≡◌, sym, ◌∙◌, ap}
use mathlib.Core.Bool.{true, not}
use lib.IntN.{pos, negsuc, nat_abs}
use mir.Syntax.{w64}
use mir.ValLaws.{to_z-of_z}
use Rattle.calendar.specs.Gregorian.{in_span, date_of_day}
use Rattle.calendar.proofs.NumberLaws.{before}
use Rattle.calendar.proofs.AnswerLaws.{answer_done, answer_refused}
use Rattle.calendar.proofs.RangeLaws.{holds}
use Rattle.calendar.proofs.CodeLaws.{shifted}
use Rattle.calendar.proofs.date.date_of.Goals as goal
use Rattle.calendar.proofs.date.date_of.Goals.{Then-contains}

inside : (c : Then-contains) → in_span c.args.days ≡ true
inside c =
    let n = c.new.ensures in
    let v = rw (to_z-of_z w64 c.args.days c.ranges.days) at c.contains.ensures.value in
    sym (holds _ (negsuc 719161) c.args.days (pos 2932896) v n.start n.end n.exhausted) ∙ c.if-contains.true

pub returns-then-contains : goal.returns-then-contains
unfolding date_of_day
returns-then-contains c =
    let x = c.args.days in
    let i = inside (goal.at.returns-then-contains c).Then-contains in
    let b = before x i in
    rw (c.date_at.ensures, shifted x c.ranges.days b, sym (ap nat_abs b.is)) (sym (answer_done (date_of_day x) (ap not i)))

pub returns-else-contains : goal.returns-else-contains
returns-else-contains c =
    let x = c.args.days in
    let n = c.new.ensures in
    let v = rw (to_z-of_z w64 x c.ranges.days) at c.contains.ensures.value in
    let h = holds _ (negsuc 719161) x (pos 2932896) v n.start n.end n.exhausted in
    sym (answer_refused (date_of_day x) (ap not (sym h ∙ c.if-contains.false)))

-- Each number is tested by itself, as in the definition.
use mathlib.Core.Path.{◌≡◌, refl, sym, ◌∙◌, ap}
use Prim.Native.Nat.{◌≤◌}
use native.Mathlib.Omega.{arith}
use lib.IntN.{pos, nat_abs}
use mir.Syntax.{w64}
use mir.Val.{to_z}
use mir.ValLaws.{to_z-of_z, to_z_pos}
use Rattle.calendar.specs.Gregorian.{in_calendar, leap, month_length}
use Rattle.calendar.proofs.RangeLaws.{holds}
use Rattle.calendar.proofs.CountLaws.{month_size}
use Rattle.calendar.proofs.date.Date.in_calendar.Goals as goal
use Rattle.calendar.proofs.date.Date.in_calendar.Goals.{After-month_length-last, else-contains-via-else-contains, else-contains-via-then-contains+else-contains-2}
use Rattle.calendar.proofs.date.Date.in_calendar.Goals.{else-contains-via-then-contains+then-contains-2+else-contains-3}

few : (c : After-month_length-last) → c.month_length-last.result ≤ 31
few c = omega (arith, c.month_length-last.ensures, (month_size (leap c.unsigned_abs.result) c.unsigned_abs-2.result).1)

last : (c : After-month_length-last) → to_z w64 c.month_length-last.result ≡ pos (month_length (leap (nat_abs c.args.self.year)) (nat_abs c.args.self.month))
last c =
    let d = c.args.self in
    to_z_pos w64 c.month_length-last.result (omega (arith, few c))
    ∙ ap pos (rw (
      c.month_length-last.ensures,
      c.unsigned_abs-2.ensures.value,
      c.unsigned_abs.ensures.value,
      to_z-of_z w64 d.year (record { sfits = omega arith }),
      to_z-of_z w64 d.month (record { sfits = omega arith }),
    ) refl)

pub overflow_cast-last : goal.overflow_cast-last
overflow_cast-last c = record { sfits = omega (arith, few (goal.at.overflow_cast-last c).After-month_length-last) }

pub invariant_of-result : goal.invariant_of-result
unfolding in_calendar
invariant_of-result c =
    let d = c.args.self in
    let y = holds _ (pos 1) d.year (pos 9999) c.contains.ensures.value c.new.ensures.start c.new.ensures.end c.new.ensures.exhausted in
    let n = c.new-then-contains.ensures in
    let m = holds _ (pos 1) d.month (pos 12) c.contains-then-contains.ensures.value n.start n.end n.exhausted in
    let o = c.new-then-contains-2.ensures in
    let e = o.end ∙ last (goal.at.invariant_of-result c).After-month_length-last in
    let z = holds _ (pos 1) d.day _ c.contains-then-contains-2.ensures.value o.start e o.exhausted in
    record { known = (rw (sym y ∙ c.if-contains.true, sym m ∙ c.if-contains-2.true, sym z ∙ c.if-contains-3.true) refl) }

pub returns-else-contains : goal.returns-else-contains
unfolding in_calendar
returns-else-contains c =
    let d = c.args.self in
    let y = holds _ (pos 1) d.year (pos 9999) c.contains.ensures.value c.new.ensures.start c.new.ensures.end c.new.ensures.exhausted in
    (elim c.else-contains.branch [
      | else-contains-via-then-contains+then-contains-2+else-contains-3 w ↦
          let n = w.new-then-contains.ensures in
          let m = holds _ (pos 1) d.month (pos 12) w.contains-then-contains.ensures.value n.start n.end n.exhausted in
          let o = w.new-then-contains-2.ensures in
          let e = o.end ∙ last (goal.at.returns-else-contains c).After-month_length-last in
          let z = holds _ (pos 1) d.day _ w.contains-then-contains-2.ensures.value o.start e o.exhausted in
          rw (sym y ∙ w.if-contains.true, sym m ∙ w.if-contains-2.true, sym z ∙ w.if-contains-3.false) refl
      | else-contains-via-then-contains+else-contains-2 w ↦
          let n = w.new-then-contains.ensures in
          let m = holds _ (pos 1) d.month (pos 12) w.contains-then-contains.ensures.value n.start n.end n.exhausted in
          rw (sym y ∙ w.if-contains.true, sym m ∙ w.if-contains-2.false) refl
      | else-contains-via-else-contains w ↦ rw (sym y ∙ w.if-contains.false) refl
    ])

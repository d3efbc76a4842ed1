-- The numbers of a date of the calendar are natural, and the sums are those of the definition.
use mathlib.Core.Path.{◌≡◌}
use native.Mathlib.Omega.{arith}
use lib.IntN.{nat_abs}
use mir.Syntax.{w64}
use mir.ValLaws.{to_z-of_z}
use Rattle.calendar.specs.Gregorian.{days_before}
use Rattle.calendar.proofs.DateLaws.{bounds}
use Rattle.calendar.proofs.CalendarLaws.{days_few}
use Rattle.calendar.proofs.date.CalendarDate.days_before.Goals as goal
use Rattle.calendar.proofs.date.CalendarDate.days_before.Goals.{After-unsigned_abs-day}

year : (c : After-unsigned_abs-day) → c.unsigned_abs-year.result ≡ nat_abs c.args.self.date.year
year c = rw (to_z-of_z w64 c.args.self.date.year (record { sfits = omega arith })) at c.unsigned_abs-year.ensures.value

month : (c : After-unsigned_abs-day) → c.unsigned_abs-month.result ≡ nat_abs c.args.self.date.month
month c = rw (to_z-of_z w64 c.args.self.date.month (record { sfits = omega arith })) at c.unsigned_abs-month.ensures.value

day : (c : After-unsigned_abs-day) → c.unsigned_abs-day.result ≡ nat_abs c.args.self.date.day
day c = rw (to_z-of_z w64 c.args.self.date.day (record { sfits = omega arith })) at c.unsigned_abs-day.ensures.value

pub overflow_sub-year : goal.overflow_sub-year
overflow_sub-year c =
    let y = year (goal.at.overflow_sub-year c).After-unsigned_abs-day in
    omega (arith, y, (bounds c.args.self.date c.args.self.known).0.y1)

pub overflow_sub-result : goal.overflow_sub-result
overflow_sub-result c =
    let d = day (goal.at.overflow_sub-result c).After-unsigned_abs-day in
    omega (arith, d, (bounds c.args.self.date c.args.self.known).0.d1)

pub years_to-requires : goal.years_to-requires
years_to-requires c =
    let y = year (goal.at.years_to-requires c).After-unsigned_abs-day in
    omega (arith, y, (bounds c.args.self.date c.args.self.known).1)

pub months_before-requires : goal.months_before-requires
months_before-requires c =
    let m = month (goal.at.months_before-requires c).After-unsigned_abs-day in
    let v = (bounds c.args.self.date c.args.self.known).0 in
    (omega (arith, m, v.m1), omega (arith, m, v.m12))

pub returns : goal.returns
unfolding days_before
returns c =
    let f = (goal.at.returns c).After-unsigned_abs-day in
    rw (c.years_to.ensures, c.months_before.ensures, year f, month f, day f)

pub overflow_add-result : goal.overflow_add-result
overflow_add-result c = omega (arith, returns c, days_few c.args.self.date c.args.self.known)

pub overflow_add-result-2 : goal.overflow_add-result-2
overflow_add-result-2 c = omega (arith, returns c, days_few c.args.self.date c.args.self.known)

-- What the loops over months keep, each with its start, its turn and its end; and the guess of the year.
use mathlib.Core.Path.{◌≡◌, sym, ap}
use mathlib.Core.Bool.{Bool}
use Prim.Native.Nat.{ℕ, ◌+◌, ◌-◌, ◌*◌, ◌/◌, ◌≤◌, ◌<◌}
use native.Mathlib.Omega.{arith}
use native.Mathlib.Numerals.{add-one}
use Rattle.calendar.specs.Gregorian.{year_length, month_length, years, months, YearOf, MonthOf}
use Rattle.calendar.proofs.CountLaws.{about, span, years_grow, months_last, months_none, month_size, twelve}

back : (m : ℕ) → m + 1 - 1 ≡ m
back m = omega arith

-- ---- months summed up

pub record Summed (l : Bool) (month sum m : ℕ) : Type 0 where
  pub from_one : 0 < m
  pub upto : m ≤ month
  pub small : sum ≤ 31 * m
  pub is : sum ≡ months l (m - 1)

pub summed_start : (l : Bool) (month : ℕ) → 0 < month → Summed l month 0 1
summed_start l month h = record { from_one = omega arith; upto = omega arith; small = omega arith; is = sym (months_none l) }

pub summed_again : (l : Bool) (month sum m : ℕ) → Summed l month sum m → m < month → Summed l month (sum + month_length l m) (m + 1)
summed_again l month sum m i h =
    let p : months l (m + 1 - 1) ≡ months l m = ap (months l) (back m) in
    record {
      from_one = omega arith;
      upto = omega arith;
      small = omega (arith, month_size l m, i.small);
      is = omega (arith, months_last l m i.from_one, i.is);
    }

pub summed_end : (l : Bool) (month sum m : ℕ) → Summed l month sum m → month ≤ m → sum ≡ months l (month - 1)
summed_end l month sum m i h =
    let e : m ≡ month = omega (arith, i.upto) in
    rw (← e) i.is

-- ---- months taken off

pub record Reached (l : Bool) (n month rest : ℕ) : Type 0 where
  pub from_one : 0 < month
  pub to_twelve : month < 13
  pub sum : months l (month - 1) + rest ≡ n

pub reached_start : (l : Bool) (n : ℕ) → Reached l n 1 n
reached_start l n = record { from_one = omega arith; to_twelve = omega arith; sum = omega (arith, months_none l) }

pub reached_again : (l : Bool) (n month rest : ℕ) → n < year_length l → Reached l n month rest → month_length l month ≤ rest
    → Reached l n (month + 1) (rest - month_length l month)
reached_again l n month rest h r le =
    let p : months l (month + 1 - 1) ≡ months l month = ap (months l) (back month) in
    let s : months l month ≡ months l (month - 1) + month_length l month = months_last l month r.from_one in
    let no : month ≡ 12 → ⊥ = λ q. omega (arith, ap (months l) q, twelve l, r.sum) in
    record { from_one = omega arith; to_twelve = omega (arith, r.to_twelve); sum = omega (arith, r.sum) }

pub reached_end : (l : Bool) (n month rest : ℕ) → Reached l n month rest → rest < month_length l month → MonthOf l n month rest
reached_end l n month rest r h = record { from_one = r.from_one; to_twelve = r.to_twelve; in_month = h; sum = r.sum }

-- the last month holds what eleven leave
pub reached_last : (l : Bool) (n month rest : ℕ) → n < year_length l → Reached l n month rest → 12 ≤ month → MonthOf l n 12 rest
reached_last l n month rest h r u =
    let e : month ≡ 12 = omega (arith, r.to_twelve) in
    let q : Reached l n 12 rest = rw e at r in
    reached_end l n 12 rest q (omega (arith, q.sum, twelve l, months_last l 12 (omega arith)))

-- ---- the guess is right, or one too low

begins : (n : ℕ) → years (n * 400 / 146097) ≤ n
begins n = omega (arith, (about (n * 400 / 146097)).0)

ends : (n : ℕ) → n < years (n * 400 / 146097 + 1 + 1)
ends n = omega (arith, (about (n * 400 / 146097 + 1 + 1)).1)

in_order_lem : (n k : ℕ) → n < 3652059 → years k ≤ n → k < 9999
in_order_lem n k h le =
    let no : 9999 ≤ k → ⊥ = λ q. omega (arith, span, years_grow 9999 k q) in
    omega arith

pub guess_right : (n : ℕ) → n < 3652059 → n < years (n * 400 / 146097 + 1) → YearOf n (n * 400 / 146097)
guess_right n h l = record { below = in_order_lem n _ h (begins n); from = begins n; to = rw add-one at l }

pub guess_low : (n : ℕ) → n < 3652059 → years (n * 400 / 146097 + 1) ≤ n → YearOf n (n * 400 / 146097 + 1)
guess_low n h l = record { below = in_order_lem n _ h l; from = l; to = rw add-one at (ends n) }

-- Marks and data are tested, then the room; only then the data is moved, and the header goes over the room made for it.
use mathlib.Core.Path.{◌≡◌, ◌∙◌}
use native.Mathlib.Omega.{arith}
use Prim.Native.Nat.{◌+◌, ◌≤◌}
use lib.ListN.{length}
use Rattle.encoding.specs.Slices.{counted}
use Rattle.encoding.proofs.SliceLaws.{fits_counted}
use Rattle.container.proofs.HeaderLaws.{closes_damaged, closes_none, closes_done}
use Rattle.list.specs.Close.{list_front}
use Rattle.list.proofs.CloseLaws.{Inside, inside, front_size, fronts_list}
use Rattle.list.proofs.close.close_list.Goals as goal
use Rattle.list.proofs.close.close_list.Goals.{After-len-header, Else-is_damaged, Then-fits}

tested : (c : Else-is_damaged) → let a = c.args in Inside a.f.start a.f.used a.f.count (length a.value.now)
tested c = let a = c.args in inside a.f.start a.f.used a.f.count a.value.now c.is_damaged.ensures c.if-is_damaged.false

size : (c : After-len-header) → let a = c.args in c.len-header.result ≡ length (list_front a.f.start a.f.used a.f.count a.f.floor a.value.now)
size c =
    let a = c.args in
    let h = c.header-front.ensures in
    (rw (h.count, h.width) at c.len-header.ensures) ∙ front_size a.f.start a.f.used a.f.count a.f.floor a.value.now

room : (c : Then-fits) → let a = c.args in a.f.used + c.len-header.result ≤ counted (length a.value.now)
room c = fits_counted _ _ _ c.fits.ensures c.if-fits.true

pub returns-then-is_damaged : goal.returns-then-is_damaged
returns-then-is_damaged c = closes_damaged _ _ _ _ c.is_damaged.ensures c.if-is_damaged.true

pub len-header-requires : goal.len-header-requires
len-header-requires c = omega (arith, tested (goal.at.len-header-requires c).Else-is_damaged, c.header-front.ensures.count)

pub write-requires-clause-few : goal.write-requires-clause-few
write-requires-clause-few c = omega (arith, tested (goal.at.write-requires-clause-few c).Else-is_damaged, c.header-front.ensures.count)

pub overflow_add-result : goal.overflow_add-result
overflow_add-result c = omega (arith, room (goal.at.overflow_add-result c).Then-fits)

pub returns-then-fits : goal.returns-then-fits
returns-then-fits c =
    let f = c.fits.ensures in
    let h = c.header-front.ensures in
    let o = (tested (goal.at.returns-then-fits c).Else-is_damaged).order in
    let k = room (goal.at.returns-then-fits c).Then-fits in
    closes_done _ _ _ _ _ c.is_damaged.ensures c.if-is_damaged.false (size (goal.at.returns-then-fits c).After-len-header) f c.if-fits.true
    (fronts_list _ _ _ _ _ _ _ _ o (rw (h.count, h.width) at c.len-header.ensures) f c.if-fits.true
    (c.shift_within.ensures.room o (omega arith)) (rw (h.count, h.width, h.size) at c.write.ensures))

pub returns-else-fits : goal.returns-else-fits
returns-else-fits c =
    closes_none _ _ _ _ _ c.is_damaged.ensures c.if-is_damaged.false (size (goal.at.returns-else-fits c).After-len-header) c.fits.ensures c.if-fits.false

pub header-front-requires : goal.header-front-requires
header-front-requires c = (tested (goal.at.header-front-requires c).Else-is_damaged).order

-- Marks and counts are tested, then the room; the entries are sorted, and the header goes over the room made for it.
use mathlib.Core.Path.{◌≡◌, refl}
use native.Mathlib.Omega.{arith}
use Prim.Native.Nat.{◌+◌, ◌-◌, ◌*◌, ◌≤◌}
use lib.ListN.{length, drop, length-take, length-drop}
use Rattle.encoding.specs.Slices.{counted}
use Rattle.encoding.proofs.SliceLaws.{fits_counted}
use Rattle.metadata.specs.Names.{names_of}
use Rattle.container.specs.Close.{object_front}
use Rattle.container.proofs.HeaderLaws.{Inside, inside, fronts, closes_damaged, closes_none, closes_done}
use Rattle.container.proofs.ObjectLaws.{object_size, object_front_lem, freed_sorted}
use Rattle.container.proofs.PartLaws.{sorted_part, sorted_read}
use Rattle.container.proofs.object.close_object.Goals as goal
use Rattle.container.proofs.object.close_object.Goals.{After-len-header, Else-is_outside, Then-fits}

tested : (c : Else-is_outside) → let a = c.args in Inside a.f (length a.value.now) (length a.entries.now)
tested c = inside _ _ _ c.is_outside.ensures c.if-is_outside.false

size : (c : After-len-header)
    → let a = c.args in
    c.len-header.result ≡ length (object_front a.f a.most (names_of a.names.counts a.names.text.now a.names.ends.now) a.entries.now)
size c =
    let a = c.args in
    let h = c.header-front.ensures in
    object_size a.f.floor (names_of a.names.counts a.names.text.now a.names.ends.now) a.f.from a.f.to _ _ _
    (rw (h.count, h.ids, h.offsets) at c.len-header.ensures)

room : (c : Then-fits) → let a = c.args in a.f.used + c.len-header.result ≤ counted (length a.value.now)
room c = fits_counted _ _ _ c.fits.ensures c.if-fits.true

pub returns-then-is_outside : goal.returns-then-is_outside
returns-then-is_outside c = record { header = closes_damaged _ _ _ _ c.is_outside.ensures c.if-is_outside.true; entries_left = refl }

pub header-front-requires : goal.header-front-requires
header-front-requires c = let i = tested (goal.at.header-front-requires c).Else-is_outside in record { order = i.order; range = i.range }

pub len-header-requires : goal.len-header-requires
len-header-requires c = omega (arith, tested (goal.at.len-header-requires c).Else-is_outside, c.header-front.ensures.count)

pub write-requires : goal.write-requires
write-requires c =
    let f = c.args.f in
    let i = tested (goal.at.write-requires c).Else-is_outside in
    let r = room (goal.at.write-requires c).Then-fits in
    let h = c.header-front.ensures in
    let b = c.shift_within.new.buf in
    let s = 2 * f.to - 2 * f.from in
    let rest = drop (2 * f.from) c.args.entries.now in
    record {
      all = omega (arith, i.range, i.held, h.count, c.sort.auto.entries, length-take s rest, length-drop (2 * f.from) c.args.entries.now);
      room = omega (arith, i.order, r, c.len-header.ensures, c.shift_within.auto.buf, length-take (length b - f.start) (drop f.start b), length-drop f.start b);
    }

pub overflow_add-result : goal.overflow_add-result
overflow_add-result c = omega (arith, room (goal.at.overflow_add-result c).Then-fits)

pub returns-then-fits : goal.returns-then-fits
returns-then-fits c =
    let a = c.args in
    let f = a.f in
    let ns = names_of a.names.counts a.names.text.now a.names.ends.now in
    let b = c.shift_within.new.buf in
    let i = tested (goal.at.returns-then-fits c).Else-is_outside in
    let r = room (goal.at.returns-then-fits c).Then-fits in
    let k = size (goal.at.returns-then-fits c).After-len-header in
    let t = c.fits.ensures in
    let h = c.header-front.ensures in
    let held : 2 * f.to ≤ length a.entries.now = omega (arith, i.held) in
    let sorted = sorted_part ns f.from f.to a.entries.now i.range held c.sort.ensures in
    let read = sorted_read ns f.from f.to a.entries.now i.range held c.sort.ensures in
    let front = object_front_lem f.floor ns f.from f.to a.most (f.used - f.start) a.entries.now f.start b c.sort.new.entries h.offsets h.ids read
    (rw (h.count, h.size) at c.write.ensures) (omega (arith, i.order, r, k, c.shift_within.auto.buf)) in
    record {
      header =
          closes_done _ _ _ _ _ c.is_outside.ensures c.if-is_outside.false k t c.if-fits.true
          (fronts _ _ _ _ _ i.order k t c.if-fits.true (c.shift_within.ensures.room i.order (omega arith)) front);
      entries_left = freed_sorted _ _ _ sorted;
    }

pub returns-else-fits : goal.returns-else-fits
returns-else-fits c =
    record {
      header =
          closes_none _ _ _ _ _ c.is_outside.ensures c.if-is_outside.false (size (goal.at.returns-else-fits c).After-len-header) c.fits.ensures c.if-fits.false;
      entries_left = refl;
    }

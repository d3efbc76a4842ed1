-- The tests one by one; where the first passes, the header lies within the bytes.
use native.Mathlib.Omega.{arith}
use mathlib.Core.Path.{◌≡◌, ◌∙◌}
use Prim.Native.Nat.{◌≤◌}
use lib.ListN.{length}
use Rattle.metadata.specs.Bytes.{dictionary_names}
use Rattle.grammar.specs.Tests.{object_from, object_offsets, stored_ids}
use Rattle.header_reader.proofs.HeadLaws.{object_other, object_fits, object_ids, object_told}
use Rattle.header_reader.proofs.objects.object_head.Goals as goal
use Rattle.header_reader.proofs.objects.object_head.Goals.{After-from-from}

begins : (c : After-from-from) → c.from-from.result ≡ object_from c.args.v.now
begins c = c.from-from.ensures.0 ∙ c.of_object-header.ensures.from

room : (c : After-from-from) → c.from-from.result ≤ length c.args.v.now
room c = rw (begins c) (object_fits (dictionary_names c.args.d.now) _ c.is_whole.ensures c.if-not-is_whole.false)

told : (c : After-from-from) → c.of_object-header.result.offsets ≡ object_offsets c.args.v.now
told c = c.of_object-header.ensures.offsets

named : (c : After-from-from) → c.of_object-header.result.ids ≡ stored_ids c.args.v.now
named c = c.of_object-header.ensures.ids

pub returns-then-not-is_whole : goal.returns-then-not-is_whole
returns-then-not-is_whole c = object_other _ _ c.is_whole.ensures c.if-not-is_whole.true

pub slice_bounds-are_apart-count : goal.slice_bounds-are_apart-count
slice_bounds-are_apart-count c = room (goal.at.slice_bounds-are_apart-count c).After-from-from

pub slice_bounds-are_apart-start : goal.slice_bounds-are_apart-start
slice_bounds-are_apart-start c = omega (arith, room (goal.at.slice_bounds-are_apart-start c).After-from-from)

pub returns-then-not-ids_good : goal.returns-then-not-ids_good
returns-then-not-ids_good c =
    let p = (goal.at.returns-then-not-ids_good c).After-from-from in
    object_ids _ _ c.is_whole.ensures c.if-not-is_whole.false (named p) c.ids_good.ensures c.if-not-ids_good.true

pub returns : goal.returns
returns c =
    let p = (goal.at.returns c).After-from-from in
    object_told _ _ c.is_whole.ensures c.if-not-is_whole.false (named p) c.ids_good.ensures (told p) (begins p) c.are_apart.ensures c.if-not-ids_good.false c.then_some.ensures

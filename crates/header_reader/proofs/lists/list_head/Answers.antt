-- The tests one by one; where the first passes, the header lies within the bytes.
use native.Mathlib.Omega.{arith}
use mathlib.Core.Path.{◌≡◌, ◌∙◌}
use Prim.Native.Nat.{◌≤◌}
use lib.ListN.{length}
use Rattle.grammar.specs.Tests.{list_from, list_offsets}
use Rattle.header_reader.proofs.HeadLaws.{list_other, list_fits, list_told}
use Rattle.header_reader.proofs.lists.list_head.Goals as goal
use Rattle.header_reader.proofs.lists.list_head.Goals.{After-offsets}

begins : (c : After-offsets) → c.from-from.result ≡ list_from c.args.v.now
begins c = c.from-from.ensures.0 ∙ c.of_list-header.ensures.from

told : (c : After-offsets) → c.offsets.result ≡ list_offsets c.args.v.now
told c = c.offsets.ensures ∙ c.of_list-header.ensures.offsets

room : (c : After-offsets) → c.from-from.result ≤ length c.args.v.now
room c = rw (begins c) (list_fits _ c.is_whole.ensures c.if-not-is_whole.false)

pub returns-then-not-is_whole : goal.returns-then-not-is_whole
returns-then-not-is_whole c = list_other _ c.is_whole.ensures c.if-not-is_whole.true

pub slice_bounds-are_starts-count : goal.slice_bounds-are_starts-count
slice_bounds-are_starts-count c = room c

pub slice_bounds-are_starts-start : goal.slice_bounds-are_starts-start
slice_bounds-are_starts-start c = omega (arith, room c)

pub returns : goal.returns
returns c =
    let p = (goal.at.returns c).After-offsets in
    list_told _ c.is_whole.ensures c.if-not-is_whole.false (told p) (begins p) c.are_starts.ensures c.then_some.ensures

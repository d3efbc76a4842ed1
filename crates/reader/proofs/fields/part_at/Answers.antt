-- A value ends within the bytes.
use native.Mathlib.Omega.{arith}
use mathlib.Core.Path.{◌≡◌}
use Prim.Native.Nat.{◌+◌}
use lib.ListN.{get_or}
use Rattle.measure.proofs.MeasureLaws.{length_or_zero}
use Rattle.reader.proofs.FieldLaws.{end_room, part_placed}
use Rattle.reader.proofs.fields.part_at.Goals as goal
use Rattle.reader.proofs.fields.part_at.Goals.{After-offset}

start : (c : After-offset) → c.from.result + c.offset.result ≡ c.args.header.now.from + get_or c.args.header.now.offsets c.args.k 0
start c = rw (c.from.ensures.0, c.offset.ensures.0)

pub overflow_add-end : goal.overflow_add-end
overflow_add-end c =
    let s = start (goal.at.overflow_add-end c).After-offset in
    omega (arith, end_room c.args.v.now (c.from.result + c.offset.result) (omega (arith, c.requires, s)) (length_or_zero _ _ _ c.value_length.ensures c.unwrap_or.ensures))

pub returns : goal.returns
returns c = part_placed c.args.v.now (start (goal.at.returns c).After-offset) (length_or_zero _ _ _ c.value_length.ensures c.unwrap_or.ensures)

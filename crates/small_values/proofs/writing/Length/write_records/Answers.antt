-- The records still to be written, written where the loop stands, give all of them.
use mathlib.Core.Path.{◌≡◌}
use native.Mathlib.Omega.{arith}
use Prim.Native.Nat.{◌-◌, ◌^◌, ◌<◌}
use lib.ListN.{take, drop}
use Rattle.small_values.proofs.DigitLaws.{digits}
use Rattle.small_values.proofs.WritingLaws.{left_start, left_room, left_again, left_end, string_is, string_short}
use Rattle.small_values.proofs.writing.Length.write_records.Goals as goal
use Rattle.small_values.proofs.writing.Length.write_records.Goals.{After-to_be_bytes-bytes, In-loop-n}

-- there is a string n
there : (c : In-loop-n) → c.loop-n.n < 256 ^ c.args.self.bytes
there c = omega (arith, c.string_count-n-end.ensures)

-- and it is made
made : (c : After-to_be_bytes-bytes) → let k = c.args.self.bytes in take (4 - (4 - k)) (drop (4 - k) c.to_be_bytes-bytes.result) ≡ digits k c.loop-n.n
made c = let p = c.args.self.short in rw c.to_be_bytes-bytes.ensures (string_is c.args.self.bytes c.loop-n.n p.0 p.1)

pub loop-n-init : goal.loop-n-init
loop-n-init c = let p = c.requires in left_start _ _ p.out_value p.length_in_bounds

pub add_value-used-requires : goal.add_value-used-requires
add_value-used-requires c =
    let s = c.loop-n.invariant in
    let m = made (goal.at.add_value-used-requires c).After-to_be_bytes-bytes in
    record { le_used = (s.begun, s.version, string_short _ _ m c.args.self.short.1); string_in_bounds = left_room s (there (goal.at.add_value-used-requires c).In-loop-n) m }

pub loop-n-preserved : goal.loop-n-preserved
loop-n-preserved c =
    left_again c.loop-n.invariant (there (goal.at.loop-n-preserved c).In-loop-n) (made (goal.at.loop-n-preserved c).After-to_be_bytes-bytes) c.add_value-used.ensures

pub shape_of-out : goal.shape_of-out
shape_of-out c = c.loop-n.invariant.size

pub returns : goal.returns
returns c = left_end c.loop-n.invariant (omega (arith, c.string_count-n-end.ensures))

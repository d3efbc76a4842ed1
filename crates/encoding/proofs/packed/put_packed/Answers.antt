-- The part that is written is as long as the number is to be.
use native.Mathlib.Omega.{arith}
use Rattle.encoding.proofs.PackedLaws.{length_le}
use Rattle.encoding.proofs.SliceLaws.{part_size, put_write}
use Rattle.encoding.proofs.packed.put_packed.Goals as goal

pub returns-else-size-eq1-clause-room : goal.returns-else-size-eq1-clause-room
returns-else-size-eq1-clause-room c r =
    let a = c.args in
    put_write _ _ _ _ _ (rw (part_size a.at a.size _ r) at c.pack.ensures) (omega (arith, length_le a.size a.value))

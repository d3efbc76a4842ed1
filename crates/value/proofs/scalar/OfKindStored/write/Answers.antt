-- The prefix and the bytes are the scalar.
use mathlib.Core.Path.{refl}
use Rattle.value.proofs.scalar.OfKindStored.write.Goals as goal

pub returns : goal.returns
returns c =
    let a = c.args in
    rw (← c.of-p.ensures a.self.now.bytes.now refl) c.write.ensures

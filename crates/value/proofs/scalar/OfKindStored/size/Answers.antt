-- A prefix and the bytes.
use mathlib.Core.Path.{◌∙◌, ap, refl}
use lib.ListN.{length}
use Rattle.value.proofs.ScalarLaws.{prefixed_size}
use Rattle.value.proofs.scalar.OfKindStored.size.Goals as goal

pub returns : goal.returns
returns c =
    let a = c.args in
    prefixed_size c.of.result a.self.now.bytes.now ∙ ap length (c.of.ensures a.self.now.bytes.now refl)

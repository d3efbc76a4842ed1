-- The parts are the scalar.
use mathlib.Core.Path.{◌∙◌, ap}
use lib.ListN.{length}
use Rattle.value.specs.Scalar.{scalar_bytes}
use Rattle.value.proofs.scalar.VariantStored.size.Goals as goal

pub returns : goal.returns
returns c = c.size.ensures ∙ ap (λ s. length (scalar_bytes s)) c.of.ensures

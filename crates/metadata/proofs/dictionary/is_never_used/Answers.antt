-- The library's `==` is `same`.
use mathlib.Core.Path.{◌∙◌}
use Rattle.metadata.proofs.NameLaws.{eq_same}
use Rattle.metadata.proofs.dictionary.is_never_used.Goals as goal

pub returns : goal.returns
returns c = c.eq.ensures ∙ (rw c.as_slice.ensures (eq_same _ _))

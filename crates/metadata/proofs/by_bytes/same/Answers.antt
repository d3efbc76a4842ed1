-- The last bytes tell, or the library's `==` does.
use mathlib.Core.Path.{◌∙◌}
use Rattle.metadata.proofs.NameLaws.{eq_same, last_apart}
use Rattle.metadata.proofs.by_bytes.same.Goals as goal

pub returns-then-eq : goal.returns-then-eq
returns-then-eq c = c.eq-then-eq.ensures ∙ eq_same _ _

pub returns-else-eq : goal.returns-else-eq
returns-else-eq c = last_apart c.args.a.now c.args.b.now _ _ c.last.ensures.value c.last-2.ensures.value c.eq.ensures c.if-eq.false

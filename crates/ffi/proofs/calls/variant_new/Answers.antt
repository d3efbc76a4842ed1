-- The one row, and then the counts.
use mathlib.Core.Path.{refl, sym, ◌∙◌}
use Rattle.semantics.proofs.RefusalLaws.{number_some}
use Rattle.ffi.proofs.calls.variant_new.Goals as goal

pub returns-in-Err : goal.returns-in-Err
returns-in-Err c =
    record {
      number = c.number.ensures ∙ c.in-Err.ensures;
      made = λ e. absurd (number_some c.in-Err.r (sym c.number.ensures ∙ e));
      kept = λ e. refl;
    }

pub returns : goal.returns
returns c =
    record {
      number = c.in_default.ensures;
      made = λ e. rw c.fresh_counts-c.ensures at c.put_counts.ensures;
      kept = λ e. absurd (e refl);
    }

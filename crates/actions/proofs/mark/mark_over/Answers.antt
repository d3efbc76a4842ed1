use native.Mathlib.Omega.{arith}
use mathlib.Core.Path.{refl}
use Rattle.actions.proofs.MarkLaws.{marks_few}
use Rattle.actions.proofs.mark.mark_over.Goals as goal

pub overflow_add-k : goal.overflow_add-k
overflow_add-k c = let h = marks_few _ _ c.in_ok-may_mark.ensures refl in record { fits = omega arith }

-- One byte, where there is room for it.
use native.Mathlib.Omega.{arith}
use mathlib.Core.Path.{sym, ◌∙◌}
use borrow.Author.Tests.{eqb-true, eqb-false}
use Rattle.batch.proofs.WritingLaws.{starts_none, starts_done}
use Rattle.batch.proofs.writing.start.Goals as goal

pub returns-then-is_empty : goal.returns-then-is_empty
returns-then-is_empty c = starts_none _ (eqb-true _ _ (sym c.is_empty.ensures ∙ c.if-is_empty.true))

pub bounds-file-0 : goal.bounds-file-0
bounds-file-0 c = omega (arith, eqb-false _ _ (sym c.is_empty.ensures ∙ c.if-is_empty.false))

pub returns : goal.returns
returns c = starts_done _ (omega (arith, eqb-false _ _ (sym c.is_empty.ensures ∙ c.if-is_empty.false)))

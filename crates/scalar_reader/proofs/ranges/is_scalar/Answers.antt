-- Each test that fails refutes the definition, and all that pass leave the range.
use native.Mathlib.Omega.{arith}
use mathlib.Core.Path.{sym, ◌∙◌, ap}
use lib.ListN.{length}
use borrow.Author.Tests.{eqb-true, eqb-false, ltb-true}
use Rattle.grammar.proofs.LengthLaws.{length_same}
use Rattle.scalar_reader.proofs.RangeLaws.{scalar_empty, scalar_container, scalar_cut, scalar_whole}
use Rattle.scalar_reader.proofs.ranges.is_scalar.Goals as goal
use Rattle.scalar_reader.proofs.ranges.is_scalar.Goals.{then-first-lt2, else-first-lt2}

pub returns-in_default : goal.returns-in_default
returns-in_default c = scalar_empty _ c.in_default.ensures.cases

pub returns-then-eq : goal.returns-then-eq
returns-then-eq c =
    elim c.if-first-lt2.branch [
      | then-first-lt2 w ↦ rw c.in-Some.ensures.cases.0 (scalar_whole c.in-Some.first.now c.in-Some.payload.now w.if-first-lt2.true (rw c.in-Some.ensures.cases.0 at (eqb-true _ _ (sym (length_same _ _ (omega (arith, ap length c.in-Some.ensures.cases.0)) w.value_length.ensures w.eq.ensures) ∙ (sym w.value-is ∙ c.if-eq.true)))) c.is_outside.ensures)
      | else-first-lt2 w ↦ absurd (omega (arith, w.if-first-lt2.false, ltb-true _ _ (sym w.value-is ∙ c.if-eq.true)))
    ]

pub returns-else-eq : goal.returns-else-eq
returns-else-eq c =
    elim c.if-first-lt2.branch [
      | then-first-lt2 w ↦ c.if-eq.false ∙ scalar_cut _ (eqb-false _ _ (sym (length_same _ _ (omega (arith, ap length c.in-Some.ensures.cases.0)) w.value_length.ensures w.eq.ensures) ∙ (sym w.value-is ∙ c.if-eq.false)))
      | else-first-lt2 w ↦ c.if-eq.false ∙ scalar_container _ (rw c.in-Some.ensures.cases.0 w.if-first-lt2.false)
    ]

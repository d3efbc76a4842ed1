-- By the table, and by the number stored behind the first byte of Binary and String.
use native.Mathlib.Omega.{arith}
use mathlib.Core.Path.{◌∙◌}
use borrow.Author.Tests.{le-leb, ne_eqb}
use Rattle.measure.proofs.MeasureLaws.{sized_told, sized_cut, stores, stores_four}
use Rattle.measure.proofs.length.typed_length.Goals as goal

pub returns-in_err-number_at : goal.returns-in_err-number_at
returns-in_err-number_at c = rw c.from_residual.ensures (sized_cut c.args.code c.args.v.now c.requires c.if-code-eq16.either c.in_err-number_at.ensures)

pub returns-in_ok-number_at : goal.returns-in_ok-number_at
returns-in_ok-number_at c =
    let f = c.from-n.ensures ∙ stores_four c.args.code c.if-code-eq16.either in
    sized_told c.args.code c.args.v.now c.requires (rw (stores c.args.code _ c.if-code-eq16.either, ← c.in_ok-number_at.ensures.1.value) (omega arith))
    (omega arith)

pub returns-else-code-eq16 : goal.returns-else-code-eq16
returns-else-code-eq16 c =
    let a = c.args.code in
    let n = c.if-code-eq16.false in
    sized_told a c.args.v.now c.requires (rw (le-leb a 20 (omega arith), ne_eqb a 15 n.0, ne_eqb a 16 n.1) (omega arith)) (omega arith)

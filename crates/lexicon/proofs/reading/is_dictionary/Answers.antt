-- Each test that fails refutes the definition, and all that pass give it.
use mathlib.Core.Path.{sym, ◌∙◌}
use native.Mathlib.Omega.{arith}
use lib.ListN.{length}
use borrow.Author.Tests.{eqb-true, eqb-false}
use Rattle.lexicon.proofs.ByteLaws.{bytes_below}
use Rattle.lexicon.proofs.TestLaws.{Front, refused_front, accepted_unmarked, decided_marked, bits_fail, room_short, zero_other, names_bad, front_passed}
use Rattle.lexicon.proofs.NameLaws.{width_kept, count_kept, offset_kept}
use Rattle.lexicon.proofs.reading.is_dictionary.Goals as goal
use Rattle.lexicon.proofs.reading.is_dictionary.Goals.{After-marked, then-is_empty-via-then-is_empty, then-is_empty-via-else-is_empty+then-d-gt4294967295}
use Rattle.lexicon.proofs.reading.is_dictionary.Goals.{then-is_empty-via-else-is_empty+else-d-gt4294967295+then-not-version_one, then-d-text-via-then-d-text}
use Rattle.lexicon.proofs.reading.is_dictionary.Goals.{then-d-text-via-else-d-text+then-offset-ne0}
use Rattle.lexicon.proofs.reading.is_dictionary.Goals.{then-d-text-via-else-d-text+else-offset-ne0+then-not-names_good}

-- all but the order
passed : (c : After-marked) → Front c.args.d.now
passed c =
    let s = c.of-stored.result in
    let e = c.of-stored.ensures in
    let d = c.args.d.now in
    front_passed {d = d} (width_kept s e) (count_kept s e) (eqb-false (length d) 0 (sym c.is_empty.ensures ∙ c.if-is_empty.false))
    c.if-d-gt4294967295.false c.version_one.ensures c.if-not-version_one.false
    (rw c.text.ensures at c.if-d-text.false) (offset_kept s e c.offset.ensures.value) c.if-offset-ne0.false (rw e at c.names_good.ensures)
    c.if-not-names_good.false

pub returns-then-is_empty : goal.returns-then-is_empty
returns-then-is_empty c = refused_front _ (λ f. elim c.then-is_empty.branch [
  | then-is_empty-via-then-is_empty w ↦ omega (arith, f.some, eqb-true (length c.args.d.now) 0 (sym c.is_empty.ensures ∙ w.if-is_empty.true))
  | then-is_empty-via-else-is_empty+then-d-gt4294967295 w ↦ omega (arith, f.few)
  | then-is_empty-via-else-is_empty+else-d-gt4294967295+then-not-version_one w ↦ bits_fail _ (sym w.version_one.ensures ∙ w.if-not-version_one.true) f.version f.unused
])

pub returns-then-d-text : goal.returns-then-d-text
returns-then-d-text c =
    let s = c.of-stored.result in
    let e = c.of-stored.ensures in
    let width = width_kept s e in
    let count = count_kept s e in
    refused_front _ (λ f. elim c.then-d-text.branch [
      | then-d-text-via-then-d-text w ↦ room_short width count (rw c.text.ensures at w.if-d-text.true) f
      | then-d-text-via-else-d-text+then-offset-ne0 w ↦ zero_other width count (offset_kept s e w.offset.ensures.value) w.if-offset-ne0.true f
      | then-d-text-via-else-d-text+else-offset-ne0+then-not-names_good w ↦ names_bad width count (rw e at w.names_good.ensures) w.if-not-names_good.true f
    ])

pub returns-then-not-marked : goal.returns-then-not-marked
returns-then-not-marked c =
    let m = c.if-not-marked.true in
    rw m (accepted_unmarked (bytes_below c.args.d.now (λ i. (c.type_inv.d i).fits))
    (passed (goal.at.returns-then-not-marked c).After-marked) (sym c.marked.ensures ∙ m))

pub returns-else-not-marked : goal.returns-else-not-marked
returns-else-not-marked c =
    decided_marked c.ascend.result (bytes_below c.args.d.now (λ i. (c.type_inv.d i).fits)) (passed (goal.at.returns-else-not-marked c).After-marked)
    (sym c.marked.ensures ∙ c.if-not-marked.false) (rw c.of-stored.ensures at c.ascend.ensures)

-- By `enter_over`, whose rows are the same where it is asked.
use mathlib.Core.Path.{sym, ◌∙◌}
use Rattle.semantics.specs.Record.{storage_of}
use Rattle.refusals.specs.Decide.{name_in}
use Rattle.actions.proofs.FlagLaws.{Unrefused, rows_same, said_enters, said_room, unrefused_field, unrefused_test}
use Rattle.actions.proofs.flags.enter_by_number.Goals.{then-is_refused+in_ok-enter_number, else-is_refused}
use Rattle.actions.proofs.flags.enter_by_number.Goals as goal

pub said-requires : goal.said-requires
said-requires c t =
    let a = c.args in
    let l = storage_of a.value.now a.text.now a.ends.now a.entries.now a.undo.now in
    let k = c.call_of-call.ensures in
    let o = c.opens_alone-alone.ensures in
    let u : Unrefused a.v a.into a.opens a.own =
    elim c.if-is_refused.branch [
      | then-is_refused+in_ok-enter_number w ↦ unrefused_field a.v l (name_in a.name) a.into a.opens a.own a.size w.in_ok-enter_number.ensures
      | else-is_refused w ↦ unrefused_test a.v a.into a.opens a.own (rw o at (sym c.is_refused.ensures ∙ w.if-is_refused.false))
    ] in
    said_room a.v a.into a.opens a.own c.enter_over-answer.result u (rw (k.0, k.1) at c.enter_over-answer.ensures) (sym o ∙ t)

pub returns : goal.returns
returns c =
    let a = c.args in
    let l = storage_of a.value.now a.text.now a.ends.now a.entries.now a.undo.now in
    let k = c.call_of-call.ensures in
    let o = c.opens_alone-alone.ensures in
    let u : Unrefused a.v a.into a.opens a.own =
    elim c.if-is_refused.branch [
      | then-is_refused+in_ok-enter_number w ↦ unrefused_field a.v l (name_in a.name) a.into a.opens a.own a.size w.in_ok-enter_number.ensures
      | else-is_refused w ↦ unrefused_test a.v a.into a.opens a.own (rw o at (sym c.is_refused.ensures ∙ w.if-is_refused.false))
    ] in
    rw (c.said.ensures, o)
    (said_enters c.enter_over-answer.result (rows_same a.v l (name_in a.name) a.into a.opens a.own a.size u) (rw (k.0, k.1) at c.enter_over-answer.ensures))

-- What every call asks, then rows 2, 4 and 15, and the name ends where one of these holds.
use mathlib.Core.Path.{sym, ◌∙◌, ap}
use borrow.Author.Tests.{ne_eqb}
use Rattle.semantics.specs.Refusal.{number_told}
use Rattle.semantics.proofs.RefusalLaws.{number_some}
use Rattle.refusals.specs.Decide.{storage_in}
use Rattle.refusals.proofs.ViewLaws.{broken_finish}
use Rattle.refusals.proofs.NumberLaws.{finish_rows}
use Rattle.refusals.proofs.Seen.may_finish.Goals as goal

pub returns-then-broken : goal.returns-then-broken
returns-then-broken c out = sym (broken_finish _ _ out (sym c.broken.ensures ∙ c.if-broken.true))

pub returns-in_default : goal.returns-in_default
returns-in_default c out =
    let s = c.args.self.now in
    rw (← c.in_default.ensures) at (finish_rows s.view.now (storage_in s) out (sym c.broken.ensures ∙ c.if-broken.false))

pub returns-then-names_intact : goal.returns-then-names_intact
returns-then-names_intact c out =
    let s = c.args.self.now in
    let e = sym (ap number_told c.in-Err.is) ∙ c.late_row.ensures in
    rw (← e, ne_eqb _ 0 (number_some c.in-Err.late), sym c.names_intact.ensures ∙ c.if-names_intact.true) at (finish_rows s.view.now (storage_in s) out (sym c.broken.ensures ∙ c.if-broken.false))

pub returns-else-names_intact : goal.returns-else-names_intact
returns-else-names_intact c out =
    let s = c.args.self.now in
    let e = sym (ap number_told c.in-Err.is) ∙ c.late_row.ensures in
    rw (← e, ne_eqb _ 0 (number_some c.in-Err.late), sym c.names_intact.ensures ∙ c.if-names_intact.false) at (finish_rows s.view.now (storage_in s) out (sym c.broken.ensures ∙ c.if-broken.false))

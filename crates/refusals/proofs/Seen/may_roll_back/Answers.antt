-- Number 1 where every call has it; else the parent decides on it, then rows 2 and 3, and gives the place.
use mathlib.Core.Path.{refl, sym, ◌∙◌, ap}
use mathlib.Core.Bool.{not}
use Rattle.std.proofs.lemmas.Result.{err_from_is_err_and}
use Rattle.semantics.specs.Record.{roll_back}
use Rattle.semantics.proofs.RefusalLaws.{then_by}
use Rattle.refusals.specs.Decide.{storage_in}
use Rattle.refusals.proofs.ViewLaws.{broken_number, inner_within}
use Rattle.refusals.proofs.NumberLaws.{backs_none, by_rows, rollback_rows, rollback_refused, sound_parent}
use Rattle.refusals.proofs.Seen.may_roll_back.Goals as goal

pub returns-then-broken : goal.returns-then-broken
returns-then-broken c = backs_none _ (sym (broken_number _ _ roll_back (sym c.broken.ensures ∙ c.if-broken.true)))

pub parent_entry-requires : goal.parent_entry-requires
parent_entry-requires c = inner_within _ (storage_in c.args.self.now) (sym c.broken.ensures ∙ c.if-broken.false)

pub returns-in_err-place : goal.returns-in_err-place
returns-in_err-place c =
    let x = err_from_is_err_and c.from_residual.result c.from_residual.ensures.1 in
    rollback_refused _ _ (sym c.broken.ensures ∙ c.if-broken.false) c.in_err-place.ensures x.1 x.2

pub returns-then-self : goal.returns-then-self
returns-then-self c =
    let s = c.args.self.now in
    let p = c.in_ok-place.ensures in
    let d = sound_parent _ p.number in
    let e = by_rows 1 2 3 d c.if-self.true refl ∙ rollback_rows s.view.now (storage_in s) (sym c.broken.ensures ∙ c.if-broken.false) in
    backs_none _ e

pub returns-then-not-is_open : goal.returns-then-not-is_open
returns-then-not-is_open c =
    let s = c.args.self.now in
    let p = c.in_ok-place.ensures in
    let d = sound_parent _ p.number in
    let e = by_rows 1 2 3 d c.if-self.false (ap not (sym c.is_open.ensures ∙ c.if-not-is_open.true)) ∙ rollback_rows s.view.now (storage_in s) (sym c.broken.ensures ∙ c.if-broken.false) in
    backs_none _ e

pub returns : goal.returns
returns c =
    let s = c.args.self.now in
    let p = c.in_ok-place.ensures in
    let d = sound_parent _ p.number in
    let e = by_rows 1 2 3 d c.if-self.false (ap not (sym c.is_open.ensures ∙ c.if-not-is_open.false)) ∙ rollback_rows s.view.now (storage_in s) (sym c.broken.ensures ∙ c.if-broken.false) in
    record { number = e; place = then_by _ _ e (λ z. p.place refl) }

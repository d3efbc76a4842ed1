-- Number 1 where every call has it; else the name ends, the pass over the innermost entries and, where row 2 holds, the walk of a list's data
-- decide on it, then rows 2 and 3.
use mathlib.Core.Path.{refl, sym, ◌∙◌, ap}
use mathlib.Core.Bool.{not}
use Rattle.std.specs.Prelude.{Ok}
use Rattle.semantics.proofs.RefusalLaws.{then_by}
use Rattle.refusals.specs.Decide.{storage_in}
use Rattle.refusals.proofs.ViewLaws.{broken_close}
use Rattle.refusals.proofs.NumberLaws.{by_rows, close_rows, close_largest, closes_none}
use Rattle.refusals.proofs.Seen.may_close.Goals as goal

pub returns-then-broken : goal.returns-then-broken
returns-then-broken c = closes_none _ (sym (broken_close _ _ (sym c.broken.ensures ∙ c.if-broken.true)))

pub returns-then-misread : goal.returns-then-misread
returns-then-misread c =
    let s = c.args.self.now in
    let b = sym c.broken.ensures ∙ c.if-broken.false in
    let e = by_rows 1 2 3 (sym c.misread.ensures ∙ c.if-misread.true) refl refl ∙ close_rows s.view.now (storage_in s) _ b c.search-s.ensures in
    closes_none _ e

pub returns-then-self : goal.returns-then-self
returns-then-self c =
    let s = c.args.self.now in
    let b = sym c.broken.ensures ∙ c.if-broken.false in
    let e = by_rows 1 2 3 (sym c.misread.ensures ∙ c.if-misread.false) c.if-self.true refl ∙ close_rows s.view.now (storage_in s) _ b c.search-s.ensures in
    closes_none _ e

pub returns-then-not-is_open : goal.returns-then-not-is_open
returns-then-not-is_open c =
    let s = c.args.self.now in
    let b = sym c.broken.ensures ∙ c.if-broken.false in
    let e = by_rows 1 2 3 (sym c.misread.ensures ∙ c.if-misread.false) c.if-self.false (ap not (sym c.is_open.ensures ∙ c.if-not-is_open.true)) ∙ close_rows s.view.now (storage_in s) _ b c.search-s.ensures in
    closes_none _ e

pub returns : goal.returns
returns c =
    let s = c.args.self.now in
    let b = sym c.broken.ensures ∙ c.if-broken.false in
    let e = by_rows 1 2 3 (sym c.misread.ensures ∙ c.if-misread.false) c.if-self.false (ap not (sym c.is_open.ensures ∙ c.if-not-is_open.false)) ∙ close_rows s.view.now (storage_in s) _ b c.search-s.ensures in
    record { number = e; largest_id = then_by _ _ e (λ z. ap Ok (close_largest s.view.now (storage_in s) _ b c.search-s.ensures)) }

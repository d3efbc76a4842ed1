-- Number 1 where every call has it; else the pass over the innermost entries decides on it, then rows 2 and 22.
use mathlib.Core.Path.{refl, sym, ◌∙◌}
use Rattle.semantics.specs.Record.{return_to}
use Rattle.refusals.specs.Decide.{storage_in}
use Rattle.refusals.proofs.ViewLaws.{broken_number}
use Rattle.refusals.proofs.NumberLaws.{by_rows, return_rows}
use Rattle.refusals.proofs.Seen.may_return.Goals as goal

pub returns-then-broken : goal.returns-then-broken
returns-then-broken c = sym (broken_number _ _ (return_to _) (sym c.broken.ensures ∙ c.if-broken.true))

pub returns-then-misplaced : goal.returns-then-misplaced
returns-then-misplaced c =
    by_rows 1 2 22 (sym c.misplaced.ensures ∙ c.if-misplaced.true) refl refl
    ∙ return_rows _ (storage_in c.args.self.now) c.args.j _ (sym c.broken.ensures ∙ c.if-broken.false) c.search-s.ensures

pub returns-then-self : goal.returns-then-self
returns-then-self c =
    by_rows 1 2 22 (sym c.misplaced.ensures ∙ c.if-misplaced.false) c.if-self.true refl
    ∙ return_rows _ (storage_in c.args.self.now) c.args.j _ (sym c.broken.ensures ∙ c.if-broken.false) c.search-s.ensures

pub returns-then-not_set : goal.returns-then-not_set
returns-then-not_set c =
    by_rows 1 2 22 (sym c.misplaced.ensures ∙ c.if-misplaced.false) c.if-self.false (sym c.not_set.ensures ∙ c.if-not_set.true)
    ∙ return_rows _ (storage_in c.args.self.now) c.args.j _ (sym c.broken.ensures ∙ c.if-broken.false) c.search-s.ensures

pub returns : goal.returns
returns c =
    by_rows 1 2 22 (sym c.misplaced.ensures ∙ c.if-misplaced.false) c.if-self.false (sym c.not_set.ensures ∙ c.if-not_set.false)
    ∙ return_rows _ (storage_in c.args.self.now) c.args.j _ (sym c.broken.ensures ∙ c.if-broken.false) c.search-s.ensures

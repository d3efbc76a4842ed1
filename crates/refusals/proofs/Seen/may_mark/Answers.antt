-- The three rows, number 1 by what every call asks.
use mathlib.Core.Path.{refl, sym, ◌∙◌}
use Rattle.refusals.specs.Decide.{storage_in}
use Rattle.refusals.proofs.NumberLaws.{by_rows, mark_rows}
use Rattle.refusals.proofs.Seen.may_mark.Goals as goal

pub returns-then-broken : goal.returns-then-broken
returns-then-broken c = by_rows 1 2 22 (sym c.broken.ensures ∙ c.if-broken.true) refl refl ∙ mark_rows _ (storage_in c.args.self.now)

pub returns-then-self : goal.returns-then-self
returns-then-self c = by_rows 1 2 22 (sym c.broken.ensures ∙ c.if-broken.false) c.if-self.true refl ∙ mark_rows _ (storage_in c.args.self.now)

pub returns-then-no_mark_free : goal.returns-then-no_mark_free
returns-then-no_mark_free c = by_rows 1 2 22 (sym c.broken.ensures ∙ c.if-broken.false) c.if-self.false (sym c.no_mark_free.ensures ∙ c.if-no_mark_free.true) ∙ mark_rows _ (storage_in c.args.self.now)

pub returns : goal.returns
returns c = by_rows 1 2 22 (sym c.broken.ensures ∙ c.if-broken.false) c.if-self.false (sym c.no_mark_free.ensures ∙ c.if-no_mark_free.false) ∙ mark_rows _ (storage_in c.args.self.now)

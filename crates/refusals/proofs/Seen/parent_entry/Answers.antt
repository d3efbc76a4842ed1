-- By the child's mark: a new one's parent has an entry, a replaced one's has an entry of its id and the former offset's data.
use mathlib.Core.Path.{sym, ◌∙◌}
use Rattle.refusals.specs.Decide.{storage_in}
use Rattle.refusals.proofs.NumberLaws.{parent_none, parent_new, parent_replaced}
use Rattle.refusals.proofs.Seen.parent_entry.Goals as goal

pub returns-then-self-le1 : goal.returns-then-self-le1
returns-then-self-le1 c = parent_none _ _ c.if-self-le1.true

pub returns-then-childless : goal.returns-then-childless
returns-then-childless c =
    parent_new _ (storage_in c.args.self.now) c.if-self-le1.false c.requires _ c.in-None.is c.search_parent-s.ensures (sym c.childless.ensures ∙ c.if-childless.true)

pub returns-else-childless : goal.returns-else-childless
returns-else-childless c =
    parent_new _ (storage_in c.args.self.now) c.if-self-le1.false c.requires _ c.in-None.is c.search_parent-s.ensures (sym c.childless.ensures ∙ c.if-childless.false)

pub returns-then-unlike : goal.returns-then-unlike
returns-then-unlike c =
    parent_replaced _ (storage_in c.args.self.now) c.if-self-le1.false c.requires _ _ c.in-Some.is c.search_parent-s-in-Some.ensures (sym c.unlike.ensures ∙ c.if-unlike.true)

pub returns-else-unlike : goal.returns-else-unlike
returns-else-unlike c =
    parent_replaced _ (storage_in c.args.self.now) c.if-self-le1.false c.requires _ _ c.in-Some.is c.search_parent-s-in-Some.ensures (sym c.unlike.ensures ∙ c.if-unlike.false)

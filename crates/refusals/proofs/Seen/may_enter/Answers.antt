-- Number 1 where every call has it; else the rows over what is known of the name.
use mathlib.Core.Path.{sym, ◌∙◌}
use Rattle.refusals.specs.Decide.{opens_of, storage_in}
use Rattle.refusals.proofs.RowLaws.{enter_decides, decides_broken}
use Rattle.refusals.proofs.Seen.may_enter.Goals as goal

pub returns-then-broken : goal.returns-then-broken
returns-then-broken c = decides_broken _ _ (sym c.broken.ensures ∙ c.if-broken.true)

pub field_of-known-requires : goal.field_of-known-requires
field_of-known-requires c = sym c.broken.ensures ∙ c.if-broken.false

pub returns : goal.returns
returns c =
    enter_decides _ (storage_in c.args.self.now) c.args.name (opens_of c.args.call) c.args.size (sym c.broken.ensures ∙ c.if-broken.false) c.field_of-known.ensures
    (rw c.is_some.ensures at c.rows.ensures)

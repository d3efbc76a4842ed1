-- Without a name nothing is known; with one, its look-up and the pass over the innermost entries give its field.
use Rattle.refusals.proofs.NameLaws.{sees_none, sees_name}
use Rattle.refusals.proofs.Seen.field_of.Goals as goal

pub returns-in_default : goal.returns-in_default
returns-in_default c = rw c.in_default.is (sees_none _ _ _)

pub returns : goal.returns
returns c =
    rw (c.field_by.ensures, c.in-Some.is)
    (sees_name _ _ _ _ _ _ c.requires c.look_up-known.ensures (rw c.id_known.ensures at c.search-s.ensures))

-- The entry is where the look-up found it, or there is none.
use Prim.Native.Nat.{◌/◌}
use lib.ListN.{length}
use Rattle.container.proofs.UndoLaws.{once_found, once_passed}
use Rattle.container.proofs.undo.undo_one.Goals as goal

pub returns-in-Some : goal.returns-in-Some
returns-in-Some c =
    once_found c.args.entries.now (length c.args.entries.now / 2) c.args.u _ (rw c.in-Some.is at c.place_of.ensures)

pub returns-in_default : goal.returns-in_default
returns-in_default c =
    once_passed c.args.entries.now (length c.args.entries.now / 2) c.args.u (rw c.in_default.is at c.place_of.ensures)

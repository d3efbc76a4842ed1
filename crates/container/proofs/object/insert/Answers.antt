-- The entry moved to the place where it goes.
use native.Mathlib.Omega.{arith}
use Rattle.container.proofs.ObjectLaws.{insert_done}
use Rattle.container.proofs.object.insert.Goals as goal

pub move_first-requires : goal.move_first-requires
move_first-requires c = let g = c.place_of-k.ensures in let h = g.high in omega arith

pub returns : goal.returns
returns c = insert_done c.place_of-k.ensures c.move_first.ensures

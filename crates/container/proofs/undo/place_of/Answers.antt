-- The library's `find` over the places is the search of the definition.
use mathlib.Core.Path.{refl}
use Prim.Native.Nat.{◌/◌}
use native.Mathlib.Nat.{sub-zero}
use lib.ListN.{length}
use Rattle.std.proofs.Common.{rules, tests}
use Rattle.std.proofs.lemmas.Iterator.{YieldsList-from_range}
use Rattle.std.proofs.lemmas.Iterator.Search.{find_from_yields_List}
use Rattle.container.proofs.UndoLaws.{found_first, is_of}
use Rattle.container.proofs.undo.place_of.Goals as goal

pub returns : goal.returns
returns c =
    let l = c.args.entries.now in
    let n = length l / 2 in
    found_first c.args.id l n c.find.result
    (find_from_yields_List (is_of c.args.id l) _ _ _ c.find.ensures.ran (YieldsList-from_range 0 n n refl (sub-zero n)) (λ x b q k. search (rules, tests)))

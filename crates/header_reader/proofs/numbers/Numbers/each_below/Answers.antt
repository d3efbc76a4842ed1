-- The library's `all` over the numbers asks each.
use mathlib.Core.Path.{refl, ◌∙◌}
use lib.Dec.{ltb}
use Rattle.std.proofs.Common.{rules, tests}
use Rattle.std.proofs.lemmas.Iterator.Consumers.{YieldsList-from_first}
use Rattle.std.proofs.lemmas.Iterator.Search.{all_from_yields_List}
use Rattle.header_reader.proofs.TableLaws.{all_below}
use Rattle.header_reader.proofs.numbers.Numbers.each_below.Goals as goal

pub returns : goal.returns
returns c =
    let a = all_from_yields_List (λ n. ltb n c.args.b) _ _ c.all.result c.all.ensures.ran (YieldsList-from_first (λ n. n) (λ ns. ns) _ refl) (λ x b q k. search (rules, tests)) in
    a ∙ all_below c.args.b c.args.self

-- The library's `all` over the ids asks each pair of names.
use mathlib.Core.Path.{refl, sym, ◌∙◌, ap}
use Prim.Native.Nat.{◌-◌}
use Rattle.std.specs.List.{list_all, range_with_len}
use Rattle.std.proofs.Common.{rules, tests}
use Rattle.std.proofs.lemmas.Iterator.{YieldsList-from_range}
use Rattle.std.proofs.lemmas.Iterator.Search.{all_from_yields_List}
use Rattle.measure.specs.Measure.{number_at}
use Rattle.metadata.specs.Bytes.{dictionary_names}
use Rattle.metadata.proofs.FinishLaws.{rises}
use Rattle.lexicon.proofs.TestLaws.{length_by}
use Rattle.lexicon.proofs.NameLaws.{rise_any}
use Rattle.lexicon.proofs.stored.Stored.ascend.Goals as goal

pub returns : goal.returns
returns c =
    let s = c.args.self in
    let ns = dictionary_names s.bytes.now in
    let l = s.count_read ∙ (ap (number_at s.bytes.now 1) s.width_read ∙ sym (length_by s.bytes.now)) in
    let a = all_from_yields_List (rises ns) _ _ c.all.result c.all.ensures.ran (YieldsList-from_range 1 s.count (s.count - 1) refl refl)
    (λ x b q k. search (rules, tests)) in
    a ∙ (ap (λ n. list_all (rises ns) (range_with_len 1 (n - 1))) l ∙ rise_any ns)

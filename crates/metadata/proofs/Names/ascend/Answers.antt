-- The library's `all` over the ids asks each pair of names.
use native.Mathlib.Omega.{arith}
use mathlib.Core.Path.{refl, sym, ◌∙◌, ap}
use Prim.Native.Nat.{◌-◌, ◌<◌}
use lib.ListN.{length}
use borrow.Author.Tests.{eq-eqb}
use Rattle.std.specs.List.{list_all, range_with_len}
use Rattle.std.proofs.Common.{rules, tests}
use Rattle.std.proofs.lemmas.Iterator.{YieldsList-from_range}
use Rattle.std.proofs.lemmas.Iterator.Search.{all_from_yields_List}
use Rattle.metadata.specs.Names.{names_of}
use Rattle.metadata.proofs.BytesLaws.{length_names}
use Rattle.metadata.proofs.FinishLaws.{rises, rise_all, sorted_none, sorted_some}
use Rattle.metadata.proofs.Names.ascend.Goals as goal

pub returns-then-self-ne0 : goal.returns-then-self-ne0
returns-then-self-ne0 c =
    let s = c.args.self in
    let ns = names_of s.counts s.text.now s.ends.now in
    let l = length_names s.counts s.text.now s.ends.now c.requires in
    let h : 0 < length ns = omega arith in
    let a = all_from_yields_List (rises ns) _ _ c.all.result c.all.ensures.ran (YieldsList-from_range 1 s.counts.names (s.counts.names - 1) refl refl)
    (λ x b q k. search (rules, tests)) in
    a ∙ (ap (λ n. list_all (rises ns) (range_with_len 1 (n - 1))) (sym l) ∙ (rise_all ns h ∙ sym (sorted_some ns h)))

pub returns-else-self-ne0 : goal.returns-else-self-ne0
returns-else-self-ne0 c =
    let s = c.args.self in
    let ns = names_of s.counts s.text.now s.ends.now in
    let l = length_names s.counts s.text.now s.ends.now c.requires in
    rw (eq-eqb s.counts.names 0 c.if-self-ne0.false) (sorted_none ns (l ∙ c.if-self-ne0.false))

-- A live tree that was written is read as it was.
use mathlib.Core.Path.{◌≡◌, refl, ◌∙◌, ap}
use mathlib.Core.Logic.{inl, inr}
use mathlib.Core.Bool.{true, false}
use mathlib.Core.List.{List, [], ◌∷◌}
use mathlib.Core.Option.{none, some}
use Prim.Native.Nat.{ℕ, ◌+◌, ◌-◌, ◌<◌}
use native.Mathlib.Omega.{arith}
use lib.ListN.{length}
use borrow.Author.Tests.{eq-eqb, ne_eqb}
use Rattle.metadata.specs.Names.{Name, below, place}
use Rattle.metadata.proofs.DictionaryLaws.{place_here, below_asym}
use Rattle.container.specs.declared.Entry.{Entry}
use Rattle.container.specs.Sort.{name_at}
use Rattle.container.proofs.SortLaws.{Mem, Ordered, name_of, sort_stays}
use Rattle.semantics.specs.Tree.{Tree, with_field, fields_from, encode, parts_of}
use Rattle.semantics.proofs.TreeLaws.{Held, HeldItems, fields_after, encode_some}
use Rattle.grammar.specs.Grammar.{Shapes}
use Rattle.grammar.specs.Grammar as grammar
use Rattle.accept.specs.Shape.{shape_of, shapes_of}
use Rattle.accept.proofs.TreeReads.{tree_laid}
use Rattle.live.specs.Live.{Live, leaf, nest, Lives, end, child, live_fields, live_of, live_elements, live_at}
use Rattle.canonical.specs.Canonical.{tree_of, items_of}
use Rattle.canonical.proofs.GoodLaws.{Over, Good, GoodAll}

-- look-ups that agree on the offsets asked for find the same fields
fields_same : (f g : ℕ → Live) (names : List Name) (es : List Entry) → ((e : Entry) → Mem e es → f e.offset ≡ g e.offset)
    → live_fields f names es ≡ live_fields g names es
unfolding live_fields
fields_same f g names [] h = refl
fields_same f g names (e ∷ es) h =
    let p = h e (inl refl) in
    let q = fields_same f g names es (λ x m. h x (inr m)) in
    λ i. child (some (name_at names e.id)) (p i) (q i)

module _ (floor : ℕ) (names : List Name) where
  -- the entries of an object's fields, as they stand
  unfoldable pub fields : ℕ → Lives → List Entry
  fields at ls = fields_from names at (parts_of floor names (items_of ls))

  -- those behind a name are above it
  pub over_entries : (n : Name) (at : ℕ) (ls : Lives) → Over n ls → HeldItems names (items_of ls) → (e : Entry) → Mem e (fields at ls)
      → below n (name_of names e) ≡ true
  unfolding fields tree_of parts_of fields_from with_field
  over_entries n at end o h e m = absurd m
  over_entries n at (child none l ls) o h e m = over_entries n (at + length (encode floor names (tree_of l))) ls o.1 h.2 e m
  over_entries n at (child (some k) l ls) o h e (inl q) =
      let p : name_of names e ≡ k = ap (name_of names) q ∙ place_here k names h.0 in
      rw p o.0
  over_entries n at (child (some k) l ls) o h e (inr m) = over_entries n (at + length (encode floor names (tree_of l))) ls o.1 h.2 e m

  -- so that they are in order
  pub entries_ordered : (d at : ℕ) (ls : Lives) → GoodAll d true ls → HeldItems names (items_of ls) → Ordered names (fields at ls)
  unfolding fields tree_of parts_of fields_from with_field
  entries_ordered d at end g h = tt
  entries_ordered d at (child none l ls) g h = absurd g.0
  entries_ordered d at (child (some k) l ls) g h =
      ((λ f m. below_asym _ _ (rw (place_here k names h.0) (over_entries k (at + length (encode floor names (tree_of l))) ls g.0 h.2 f m))), entries_ordered d (at + length (encode floor names (tree_of l))) ls g.2 h.2)

  found : (at : ℕ) (t : Tree) (ts : Shapes) → live_at names at at (grammar.more (shape_of floor names t) ts) ≡ live_of names (shape_of floor names t)
  unfolding live_of
  found at t ts = rw (eq-eqb at at refl)

  passed : (at o : ℕ) (t : Tree) (ts : Shapes) → at < o
      → live_at names o at (grammar.more (shape_of floor names t) ts) ≡ live_at names o (at + length (encode floor names t)) ts
  unfolding live_of
  passed at o t ts h = rw (ne_eqb o at (omega arith), tree_laid floor names t)

  mutual
    unfolding live_of tree_of shape_of live_fields fields parts_of fields_from with_field

    pub live_again : (d : ℕ) (l : Live) → Good d l → Held names (tree_of l) → live_of names (shape_of floor names (tree_of l)) ≡ l
    live_again d (leaf l) g h = ap leaf g.1
    live_again d (nest false ls) g h = ap (nest false) (elements_again (d - 1) ls g.1 h)
    live_again d (nest true ls) g h =
        let s = sort_stays names (fields 0 ls) (entries_ordered (d - 1) 0 ls g.1 h) in
        ap (nest true) (ap (live_fields (λ o. live_at names o 0 (shapes_of floor names (items_of ls))) names) s ∙ fields_again (d - 1) 0 ls g.1 h)

    elements_again : (d : ℕ) (ls : Lives) → GoodAll d false ls → HeldItems names (items_of ls) → live_elements names (shapes_of floor names (items_of ls)) ≡ ls
    elements_again d end g h = refl
    elements_again d (child none l ls) g h =
        let p = live_again d l g.1 h.1 in
        let q = elements_again d ls g.2 h.2 in
        λ i. child none (p i) (q i)
    elements_again d (child (some n) l ls) g h = absurd g.0

    fields_again : (d at : ℕ) (ls : Lives) → GoodAll d true ls → HeldItems names (items_of ls)
        → live_fields (λ o. live_at names o at (shapes_of floor names (items_of ls))) names (fields at ls) ≡ ls
    fields_again d at end g h = refl
    fields_again d at (child none l ls) g h = absurd g.0
    fields_again d at (child (some n) l ls) g h =
        let t = tree_of l in
        let next = at + length (encode floor names t) in
        let rest = shapes_of floor names (items_of ls) in
        let late : (e : Entry) → Mem e (fields next ls) → at < e.offset =
        λ e m. omega (arith, encode_some floor names t, fields_after names next (parts_of floor names (items_of ls)) e m) in
        let p : name_at names (place n names) ≡ n = place_here n names h.0 in
        let q = found at t rest ∙ live_again d l g.1 h.1 in
        let r = fields_same (λ o. live_at names o at (grammar.more (shape_of floor names t) rest)) (λ o. live_at names o next rest) names (fields next ls)
        (λ e m. passed at e.offset t rest (late e m)) ∙ fields_again d next ls g.2 h.2 in
        λ i. child (some (p i)) (q i) (r i)

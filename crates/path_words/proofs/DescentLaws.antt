-- The path found in bytes is that of the text which starts at the place.
use mathlib.Core.Path.{◌≡◌, refl, sym, ◌∙◌}
use mathlib.Core.Bool.{cond}
use mathlib.Core.List.{List, [], ◌∷◌}
use mathlib.Core.Option.{Option, none, some}
use Prim.Native.Nat.{ℕ, zero, suc, ◌+◌, ◌-◌}
use native.Mathlib.Omega.{arith}
use lib.Dec.{ltb}
use lib.ListN.{length}
use borrow.Author.Tests.{lt-ltb, le-ltb}
use Rattle.value.specs.Scalar.{Scalar}
use Rattle.metadata.specs.Names.{Name}
use Rattle.container.specs.Sort.{name_at}
use Rattle.container.proofs.SortLaws.{Mem}
use Rattle.grammar.specs.Grammar.{Shape, layout, Fits, most_containers, ReadsValue}
use Rattle.grammar.specs.Grammar as grammar
use Rattle.grammar.proofs.FieldLaws.{scalar_first}
use Rattle.live.specs.Words.{field, element, words}
use Rattle.live.specs.Live.{leaf_of}
use Rattle.live.specs.Texts.{Found, field_step, list_data, object_data, texts_of, first_of, saying, words_for}
use Rattle.live.specs.Ways.{least_of}
use Rattle.live.proofs.ListLaws.{some_inj}
use Rattle.live.proofs.ChildLaws.{ValueAt, inner_fits, child_text}
use Rattle.live.proofs.TextLaws.{leaf_text, first_found}
use Rattle.live.proofs.PlaceLaws.{places_within}
use Rattle.live.proofs.LeastLaws.{least_found, least_missing}
use Rattle.path_words.specs.declared.Step.TheVariants.{Element, Field}
use Rattle.path_words.specs.Descent.{child_at, child_over, path_in}
use Rattle.path_words.proofs.WalkLaws.{child_scalar}
use Rattle.path_words.proofs.ChildLaws.{list_values, list_child, object_values, object_child}

-- ---- one step

scalar_path : (names : List Name) (d p : ℕ) (s : Scalar) → path_in d names p (layout (grammar.scalar s)) ≡ []
unfolding path_in
scalar_path names zero p s = refl
scalar_path names (suc d) p s =
    let low = scalar_first s in
    rw (← child_scalar (layout (grammar.scalar s)) p (λ e. absurd (omega arith)) (λ e. absurd (omega arith))) refl

element_path : (names : List Name) (d : ℕ) (v : List ℕ) (n q k : ℕ) (t : Shape) → child_over v (n + q) ≡ child_at (Element k) n → ValueAt v t n
    → path_in (suc d) names (n + q) v ≡ element k ∷ path_in d names q (layout t)
unfolding path_in
element_path names d v n q k t e s = let z : n + q - n ≡ q = omega arith in rw (e, z, s.part) refl

field_path : (names : List Name) (d : ℕ) (v : List ℕ) (n q i : ℕ) (t : Shape) → child_over v (n + q) ≡ child_at (Field i) n → ValueAt v t n
    → path_in (suc d) names (n + q) v ≡ field (name_at names i) ∷ path_in d names q (layout t)
unfolding path_in
field_path names d v n q i t e s = let z : n + q - n ≡ q = omega arith in rw (e, z, s.part) refl

-- ---- all the way to a live text

pub path_read : (names : List Name) (d : ℕ) (t : Shape) → Fits names d t → (f : Found) → Mem f (texts_of names t)
    → path_in d names f.place (layout t) ≡ f.path
unfolding texts_of
path_read names zero (grammar.scalar s) h f m = scalar_path names zero f.place s ∙ sym (leaf_text (leaf_of s) f m).path
path_read names (suc d) (grammar.scalar s) h f m = scalar_path names (suc d) f.place s ∙ sym (leaf_text (leaf_of s) f m).path
path_read names zero (grammar.list w big ts) h f m = absurd (omega (arith, h.0))
path_read names zero (grammar.object w u big es ts) h f m = absurd (omega (arith, h.0))
path_read names (suc d) (grammar.list w big ts) h f m =
    let c = child_text names (λ k n. some (element k)) (list_data w big ts) 0 0 ts f m in
    let g = c.inner in
    let i = inner_fits names d c.number c.offset c.value ts h.2 c.stands in
    let e = list_child names d w big ts h c.number c.offset c.value g.place c.stands (places_within names d c.value i g c.listed) in
    let s = list_values names d w big ts h c.number c.offset c.value c.stands in
    let q : element c.number ≡ c.way = some_inj (element c.number) c.way c.stepped in
    rw c.told
    (element_path names d (layout (grammar.list w big ts)) (list_data w big ts + c.offset) g.place c.number c.value e s
    ∙ (λ j. q j ∷ path_read names d c.value i g c.listed j))
path_read names (suc d) (grammar.object w u big es ts) h f m =
    let c = child_text names (λ k n. field_step names es n) (object_data w u big es ts) 0 0 ts f m in
    let g = c.inner in
    let v = layout (grammar.object w u big es ts) in
    let i = inner_fits names d c.number c.offset c.value ts h.3 c.stands in
    let e = object_child names d w u big es ts h c.number c.offset c.value c.way g.place c.stands c.stepped
    (places_within names d c.value i g c.listed) in
    let s = object_values names d w u big es ts h c.number c.offset c.value c.stands in
    rw c.told
    (field_path names d v (object_data w u big es ts + c.offset) g.place e.0 c.value e.1 s
    ∙ (λ j. e.2 j ∷ path_read names d c.value i g c.listed j))

-- ---- the words of the first live text equal to a wanted one

pub words_read : (names : List Name) (v wanted : List ℕ) (t : Shape) → ReadsValue names v t
    → let p = least_of most_containers wanted 0 (length (layout t)) t in
    words_for names t wanted ≡ cond (ltb p (length v)) (some (words (path_in most_containers names p v))) none
unfolding words_for
words_read names v wanted t r = rw r.laid (go (first_of wanted (texts_of names t)) refl)
  where
    least : ℕ
    least = least_of most_containers wanted 0 (length (layout t)) t

    go : (x : Option Found) → first_of wanted (texts_of names t) ≡ x
        → saying x ≡ cond (ltb least (length (layout t))) (some (words (path_in most_containers names least (layout t)))) none
    go none e = rw (least_missing names most_containers wanted t r.fits e, le-ltb (length (layout t)) (length (layout t)) (omega arith))
    go (some f) e =
        let m = (first_found wanted (texts_of names t) f e).0 in
        rw (
          least_found names most_containers wanted t r.fits f e,
          lt-ltb f.place (length (layout t)) (places_within names most_containers t r.fits f m),
          path_read names most_containers t r.fits f m,
        )

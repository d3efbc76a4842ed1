-- The path found from the top, by the values whose bytes a text's place is within, is the text's own.
use mathlib.Core.Path.{◌≡◌, refl, sym, ◌∙◌, ap}
use mathlib.Core.Logic.{inl, inr}
use mathlib.Core.Bool.{Bool, true, false, cond, and-false}
use mathlib.Core.List.{List, [], ◌∷◌}
use mathlib.Core.Option.{some}
use Prim.Native.Nat.{ℕ, zero, suc, ◌+◌, ◌-◌, ◌≤◌, ◌<◌}
use native.Mathlib.Omega.{arith}
use lib.Dec.{eqb, leb, ltb}
use lib.ListN.{length}
use borrow.Author.Tests.{eqb-true, eqb-false, ltb-true, ltb-false, le-leb, lt-leb, lt-ltb, le-ltb}
use Rattle.metadata.specs.Names.{Name}
use Rattle.container.specs.declared.Entry.{Entry}
use Rattle.container.specs.Entries.{offsets_of}
use Rattle.container.specs.Sort.{name_at}
use Rattle.container.proofs.SortLaws.{Mem}
use Rattle.grammar.specs.Grammar.{Shape, Shapes, layout, layouts, starts_from, among, starting, Fits, FitsAll}
use Rattle.grammar.specs.Grammar as grammar
use Rattle.grammar.specs.Fields.{shape_at}
use Rattle.live.specs.Words.{Step, field, element, Path}
use Rattle.live.specs.Live.{leaf_of}
use Rattle.live.specs.Texts.{Found, field_step, list_data, object_data, texts_of}
use Rattle.live.specs.Ways.{covers, element_to, field_to, path_to}
use Rattle.live.proofs.ListLaws.{some_inj, none_some}
use Rattle.live.proofs.ChildLaws.{Stands, stands_low, stands_apart, stands_shape, among_stands, inner_fits, child_text, Start, start_parts}
use Rattle.live.proofs.TextLaws.{leaf_text}
use Rattle.live.proofs.PlaceLaws.{places_within}

covers_yes : (n p : ℕ) (t : Shape) → n ≤ p → p < n + length (layout t) → covers n p t ≡ true
covers_yes n p t h k = rw (le-leb n p h, lt-ltb p (n + length (layout t)) k)

covers_before : (n p : ℕ) (t : Shape) → p < n → covers n p t ≡ false
covers_before n p t h = rw (lt-leb n p h)

covers_behind : (n p : ℕ) (t : Shape) → n + length (layout t) ≤ p → covers n p t ≡ false
covers_behind n p t h = rw (le-ltb p (n + length (layout t)) h) (and-false (leb n p))

-- ---- within a list, and within an object

pub element_to_lem : (deeper : ℕ → Shape → Path) (k n : ℕ) (t : Shape) (i at : ℕ) (ts : Shapes) (q : ℕ) → Stands k n t i at ts → q < length (layout t)
    → element_to deeper (n + q) i at ts ≡ element k ∷ deeper q t
unfolding element_to
element_to_lem deeper k n t i at grammar.none q s l = absurd s
element_to_lem deeper k n t i at (grammar.more u ts) q (inl e) l =
    let a = e.1 in
    let z : at + q - at ≡ q = omega arith in
    rw (e.0, e.1, e.2) (rw (covers_yes at (at + q) u (omega arith) (omega (arith, rw e.2 at l)), z) refl)
element_to_lem deeper k n t i at (grammar.more u ts) q (inr s) l =
    let low = stands_low k n t (suc i) (at + length (layout u)) ts s in
    rw (covers_behind at (n + q) u (omega arith)) (element_to_lem deeper k n t (suc i) (at + length (layout u)) ts q s l)

module _ (names : List Name) (d k n : ℕ) (t : Shape) (ts : Shapes) (f : FitsAll names d ts) (s : Stands k n t 0 0 ts) where
  -- another value does not cover a place within t
  other_covers : (m q : ℕ) → among m (starts_from 0 (layouts ts)) ≡ true → (m ≡ n → ⊥) → q < length (layout t) → covers m (n + q) (shape_at m 0 ts) ≡ false
  other_covers m q a e l = rw (stands_shape names d c.0 m c.1 0 0 ts f c.2) (go (ltb m n) refl)
    where
      c : (k : ℕ) × (t : Shape) × Stands k m t 0 0 ts
      c = among_stands m 0 0 ts a

      go : (b : Bool) → ltb m n ≡ b → covers m (n + q) c.1 ≡ false
      go true p = covers_behind m (n + q) c.1 (omega (arith, stands_apart c.0 m c.1 k n t 0 0 ts c.2 s (ltb-true m n p)))
      go false p =
          let b = ltb-false m n p in
          let z : n < m = omega arith in
          covers_before m (n + q) c.1 (omega (arith, stands_apart k n t c.0 m c.1 0 0 ts s c.2 z))

  pub field_to_lem : (deeper : ℕ → Shape → Path) (es : List Entry) (w : Step) (q : ℕ) → starting (starts_from 0 (layouts ts)) (offsets_of es) ≡ true → field_step names es n ≡ some w
      → q < length (layout t) → field_to deeper names (n + q) ts es ≡ w ∷ deeper q t
  unfolding field_to field_step
  field_to_lem deeper [] w q h e l = absurd (none_some w e)
  field_to_lem deeper (x ∷ es) w q h e l = go (eqb x.offset n) refl e (start_parts (starts_from 0 (layouts ts)) x.offset (offsets_of es) h) (field_to_lem deeper es w q)
    where
      own : Name
      own = name_at names x.id

      here : Shape
      here = shape_at x.offset 0 ts

      go : (b : Bool) → eqb x.offset n ≡ b → cond b (some (field own)) (field_step names es n) ≡ some w → Start (starts_from 0 (layouts ts)) x.offset (offsets_of es)
          → (starting (starts_from 0 (layouts ts)) (offsets_of es) ≡ true → field_step names es n ≡ some w → q < length (layout t) → field_to deeper names (n + q) ts es ≡ w ∷ deeper q t)
          → cond (covers x.offset (n + q) here) (field own ∷ deeper (n + q - x.offset) here) (field_to deeper names (n + q) ts es) ≡ w ∷ deeper q t
      go true p e r rest =
          let a = eqb-true x.offset n p in
          let g : here ≡ t = ap (λ m. shape_at m 0 ts) a ∙ stands_shape names d k n t 0 0 ts f s in
          let z : n + q - x.offset ≡ q = omega arith in
          let c = some_inj (field own) w e in
          rw (g, z, covers_yes x.offset (n + q) t (omega arith) (omega arith), c) refl
      go false p e r rest = rw (other_covers x.offset q r.one (eqb-false x.offset n p) l) (rest r.others e l)

-- ---- all the way

pub path_to_lem : (names : List Name) (d : ℕ) (t : Shape) → Fits names d t → (f : Found) → Mem f (texts_of names t) → path_to d names f.place t ≡ f.path
unfolding texts_of path_to
path_to_lem names zero (grammar.scalar s) h f m = sym (leaf_text (leaf_of s) f m).path
path_to_lem names (suc d) (grammar.scalar s) h f m = sym (leaf_text (leaf_of s) f m).path
path_to_lem names zero (grammar.list w big ts) h f m = absurd (omega (arith, h.0))
path_to_lem names zero (grammar.object w v big es ts) h f m = absurd (omega (arith, h.0))
path_to_lem names (suc d) (grammar.list w big ts) h f m =
    let c = child_text names (λ k n. some (element k)) (list_data w big ts) 0 0 ts f m in
    let g = c.inner in
    let i = inner_fits names d c.number c.offset c.value ts h.2 c.stands in
    let z : list_data w big ts + c.offset + g.place - list_data w big ts ≡ c.offset + g.place = omega arith in
    let q : element c.number ≡ c.way = some_inj (element c.number) c.way c.stepped in
    let e = element_to_lem (path_to d names) c.number c.offset c.value 0 0 ts g.place c.stands (places_within names d c.value i g c.listed) in
    rw c.told (rw z (e ∙ (λ j. q j ∷ path_to_lem names d c.value i g c.listed j)))
path_to_lem names (suc d) (grammar.object w v big es ts) h f m =
    let c = child_text names (λ k n. field_step names es n) (object_data w v big es ts) 0 0 ts f m in
    let g = c.inner in
    let i = inner_fits names d c.number c.offset c.value ts h.3 c.stands in
    let z : object_data w v big es ts + c.offset + g.place - object_data w v big es ts ≡ c.offset + g.place = omega arith in
    let e = field_to_lem names (suc d - 1) c.number c.offset c.value ts h.3 c.stands (path_to d names) es c.way g.place h.2.offsets c.stepped
    (places_within names d c.value i g c.listed) in
    rw c.told (rw z (e ∙ ap (λ p. c.way ∷ p) (path_to_lem names d c.value i g c.listed)))

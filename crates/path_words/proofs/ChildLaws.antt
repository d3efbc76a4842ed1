-- The child that a place is within, of a value that fits: the one whose bytes lie there.
use mathlib.Core.Path.{◌≡◌, refl, ◌∙◌, ap}
use mathlib.Core.Logic.{inl, inr}
use mathlib.Core.Bool.{Bool, true, false, cond}
use mathlib.Core.List.{List, [], ◌∷◌}
use mathlib.Core.Option.{some}
use Prim.Native.Nat.{ℕ, zero, suc, ◌+◌, ◌-◌, ◌≤◌, ◌<◌}
use native.Mathlib.Omega.{arith}
use lib.Dec.{eqb, ltb}
use lib.ListN.{length}
use borrow.Author.Tests.{eqb-true, eqb-false, ltb-true, ltb-false, lt-ltb}
use Rattle.metadata.specs.Names.{Name}
use Rattle.metadata.specs.Bytes.{joined}
use Rattle.container.specs.declared.Entry.{Entry}
use Rattle.container.specs.Entries.{ids_of, offsets_of}
use Rattle.container.specs.Layout.{list_header_at, object_header_at}
use Rattle.container.specs.Sort.{name_at}
use Rattle.grammar.specs.Grammar.{Shape, Shapes, layout, layouts, starts_from, among, starting, Fits, FitsAll}
use Rattle.grammar.specs.Grammar as grammar
use Rattle.grammar.specs.Tests.{list_from, object_from}
use Rattle.grammar.proofs.CutLaws.{shape_some}
use Rattle.live.specs.Words.{Step, field}
use Rattle.live.specs.Texts.{field_step, list_data, object_data}
use Rattle.live.proofs.ListLaws.{some_inj, none_some}
use Rattle.live.proofs.ChildLaws.{ValueAt, value_there, value_part, Stands, stands_low, stands_apart, among_stands}
use Rattle.live.proofs.ChildLaws.{inner_fits, list_laid, object_laid, Start, start_parts}
use Rattle.path_words.specs.declared.Step.TheVariants.{Element, Field}
use Rattle.path_words.specs.Descent.{within, child_at, element_over, field_over, child_over}
use Rattle.path_words.proofs.WalkLaws.{within_yes, within_before, within_behind, child_list, child_object}

-- ---- a value where it starts, and a place

module _ {v : List ℕ} {t : Shape} {n : ℕ} (s : ValueAt v t n) where
  there_yes : (p : ℕ) → n ≤ p → p < n + length (layout t) → within v p n ≡ true
  there_yes p h k = within_yes v p n h (omega (arith, s.size))

  there_behind : (p : ℕ) → n + length (layout t) ≤ p → within v p n ≡ false
  there_behind p h = within_behind v p n (omega (arith, s.size))

-- ---- within a list

-- values that the data of v, from place `from` on, are
abbrev Values : List ℕ → ℕ → ℕ → ℕ → Shapes → Type 0
Values v from i at ts = (k n : ℕ) (t : Shape) → Stands k n t i at ts → ValueAt v t (from + n)

elements_read : (names : List Name) (d : ℕ) (v : List ℕ) (from fuel k n : ℕ) (t : Shape) (i at : ℕ) (ts : Shapes) (q : ℕ)
    → FitsAll names d ts → Values v from i at ts → length v ≤ fuel + (from + at) → Stands k n t i at ts → q < length (layout t)
    → element_over fuel v (from + n + q) i (from + at) ≡ child_at (Element k) (from + n)
unfolding element_over
elements_read names d v from fuel k n t i at grammar.none q f h e s l = absurd s
elements_read names d v from zero k n t i at (grammar.more u ts) q f h e s l =
    let one = shape_some names d u f.0 in
    absurd (omega (arith, (h i at u (inl (refl, refl, refl))).room))
elements_read names d v from (suc fuel) k n t i at (grammar.more u ts) q f h e (inl x) l =
    let a = x.1 in
    let here = h i at u (inl (refl, refl, refl)) in
    rw (x.0, x.1) (rw (there_yes here (from + at + q) (omega arith) (omega (arith, rw x.2 at l))) refl)
elements_read names d v from (suc fuel) k n t i at (grammar.more u ts) q f h e (inr s) l =
    let low = stands_low k n t (suc i) (at + length (layout u)) ts s in
    let here = h i at u (inl (refl, refl, refl)) in
    let one = shape_some names d u f.0 in
    let z : from + at + length (layout u) ≡ from + (at + length (layout u)) = omega arith in
    let deep = elements_read names d v from fuel k n t (suc i) (at + length (layout u)) ts q f.1 (λ k n t s. h k n t (inr s)) (omega arith) s l in
    rw (there_behind here (from + n + q) (omega arith), here.size, lt-ltb 0 (length (layout u)) one, z) deep

-- ---- within an object

module _ (names : List Name) (v : List ℕ) (k n : ℕ) (t : Shape) (ts : Shapes) (s : Stands k n t 0 0 ts) (h : Values v (object_from v) 0 0 ts) where
  -- a place within t is not within another value
  other_within : (m q : ℕ) → among m (starts_from 0 (layouts ts)) ≡ true → (m ≡ n → ⊥) → q < length (layout t)
      → within v (object_from v + n + q) (object_from v + m) ≡ false
  other_within m q a e l = go (ltb m n) refl
    where
      c : (k : ℕ) × (t : Shape) × Stands k m t 0 0 ts
      c = among_stands m 0 0 ts a

      go : (b : Bool) → ltb m n ≡ b → within v (object_from v + n + q) (object_from v + m) ≡ false
      go true p =
          let x = stands_apart c.0 m c.1 k n t 0 0 ts c.2 s (ltb-true m n p) in
          there_behind (h c.0 m c.1 c.2) (object_from v + n + q) (omega arith)
      go false p =
          let b = ltb-false m n p in
          let z : n < m = omega arith in
          let x = stands_apart k n t c.0 m c.1 0 0 ts s c.2 z in
          within_before v (object_from v + n + q) (object_from v + m) (omega arith)

  fields_read : (es : List Entry) (w : Step) (q : ℕ) → starting (starts_from 0 (layouts ts)) (offsets_of es) ≡ true
      → field_step names es n ≡ some w → q < length (layout t)
      → (i : ℕ) × (field_over v (object_from v + n + q) (ids_of es) (offsets_of es) ≡ child_at (Field i) (object_from v + n)) × (field (name_at names i) ≡ w)
  unfolding field_over field_step
  fields_read [] w q g e l = absurd (none_some w e)
  fields_read (x ∷ es) w q g e l = go (eqb x.offset n) refl e (start_parts (starts_from 0 (layouts ts)) x.offset (offsets_of es) g) (fields_read es w q)
    where
      place : ℕ
      place = object_from v + n + q

      start : ℕ
      start = object_from v + x.offset

      go : (b : Bool) → eqb x.offset n ≡ b → cond b (some (field (name_at names x.id))) (field_step names es n) ≡ some w
          → Start (starts_from 0 (layouts ts)) x.offset (offsets_of es)
          → (starting (starts_from 0 (layouts ts)) (offsets_of es) ≡ true → field_step names es n ≡ some w → q < length (layout t)
          → (i : ℕ) × (field_over v place (ids_of es) (offsets_of es) ≡ child_at (Field i) (object_from v + n)) × (field (name_at names i) ≡ w))
          → (i : ℕ) × (cond (within v place start) (child_at (Field x.id) start) (field_over v place (ids_of es) (offsets_of es))
          ≡ child_at (Field i) (object_from v + n)) × (field (name_at names i) ≡ w)
      go true p e r rest =
          let a = eqb-true x.offset n p in
          (x.id, rw (a, there_yes (h k n t s) place (omega arith) (omega arith)) refl, some_inj (field (name_at names x.id)) w e)
      go false p e r rest = rw (other_within x.offset q r.one (eqb-false x.offset n p) l) (rest r.others e l)

-- ---- the child of a value that fits

module _ (names : List Name) (d w : ℕ) (big : Bool) (ts : Shapes) (f : Fits names (suc d) (grammar.list w big ts)) where
  abbrev list_bytes : List ℕ
  list_bytes = layout (grammar.list w big ts)

  pub list_values : Values list_bytes (list_data w big ts) 0 0 ts
  unfolding layout
  list_values k n t s =
      let head = list_header_at w big (starts_from 0 (layouts ts)) (length (joined (layouts ts))) in
      value_there names d list_bytes t (list_data w big ts + n) (inner_fits names d k n t ts f.2 s) (value_part head k n t ts s)

  pub list_child : (k n : ℕ) (t : Shape) (q : ℕ) → Stands k n t 0 0 ts → q < length (layout t)
      → child_over list_bytes (list_data w big ts + n + q) ≡ child_at (Element k) (list_data w big ts + n)
  list_child k n t q s l =
      let laid = list_laid names (suc d) w big ts f in
      let z : list_from list_bytes ≡ list_data w big ts + 0 = omega (arith, laid.from) in
      let x : suc d - 1 ≡ d = omega arith in
      let p = list_data w big ts + n + q in
      child_list list_bytes p laid.kind
      ∙ (ap (element_over (length list_bytes) list_bytes p 0) z
      ∙ elements_read names d list_bytes (list_data w big ts) (length list_bytes) k n t 0 0 ts q (rw x at f.2) list_values (omega arith) s l)

module _ (names : List Name) (d w u : ℕ) (big : Bool) (es : List Entry) (ts : Shapes) (f : Fits names (suc d) (grammar.object w u big es ts)) where
  abbrev object_bytes : List ℕ
  object_bytes = layout (grammar.object w u big es ts)

  pub object_values : Values object_bytes (object_data w u big es ts) 0 0 ts
  unfolding layout
  object_values k n t s =
      let head = object_header_at w u big (ids_of es) (offsets_of es) (length (joined (layouts ts))) in
      value_there names d object_bytes t (object_data w u big es ts + n) (inner_fits names d k n t ts f.3 s) (value_part head k n t ts s)

  pub object_child : (k n : ℕ) (t : Shape) (step : Step) (q : ℕ) → Stands k n t 0 0 ts → field_step names es n ≡ some step → q < length (layout t)
      → (i : ℕ) × (child_over object_bytes (object_data w u big es ts + n + q) ≡ child_at (Field i) (object_data w u big es ts + n)) × (field (name_at names i) ≡ step)
  object_child k n t step q s e l =
      let laid = object_laid names (suc d) w u big es ts f in
      let h : Values object_bytes (object_from object_bytes) 0 0 ts = rw laid.from object_values in
      let r = fields_read names object_bytes k n t ts s h es step q f.2.offsets e l in
      let c : child_over object_bytes (object_from object_bytes + n + q) ≡ child_at (Field r.0) (object_from object_bytes + n) =
      rw (child_object object_bytes (object_from object_bytes + n + q) laid.kind, laid.ids, laid.offsets) r.1 in
      (r.0, rw laid.from at c, r.2)

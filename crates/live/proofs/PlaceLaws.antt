-- Where the listed texts lie: at its place each is a whole scalar of the value's bytes, and the places rise strictly.
use mathlib.Core.Path.{◌≡◌, refl, sym, ◌∙◌, ap}
use mathlib.Core.Logic.{inl, inr}
use mathlib.Core.Bool.{Bool, true, false, cond, true≢false}
use mathlib.Core.List.{List, [], ◌∷◌, ◌++◌}
use mathlib.Core.Option.{Option, none, some}
use Prim.Native.Nat.{ℕ, zero, suc, ◌+◌, ◌-◌, ◌≤◌, ◌<◌}
use native.Mathlib.Omega.{arith}
use lib.ListN.{length, take, drop}
use Rattle.value.specs.Scalar.{Scalar, scalar_bytes}
use Rattle.metadata.specs.Names.{Name, same}
use Rattle.metadata.specs.Bytes.{joined}
use Rattle.metadata.proofs.DictionaryLaws.{same_equal, equal_same}
use Rattle.container.specs.Entries.{ids_of, offsets_of}
use Rattle.container.specs.Layout.{list_header_at, object_header_at}
use Rattle.container.proofs.SortLaws.{Mem, Pairwise}
use Rattle.measure.specs.Measure.{measured}
use Rattle.grammar.specs.Grammar.{Shape, Shapes, layout, layouts, starts_from, Plain, Fits, FitsAll}
use Rattle.grammar.specs.Grammar as grammar
use Rattle.live.specs.Words.{Step, element}
use Rattle.live.specs.Live.{Leaf, text, other, leaf_of}
use Rattle.live.specs.Texts.{Found, under, leaf_texts, field_step, labelled, list_data, object_data, texts_of, child_texts, first_of}
use Rattle.live.proofs.ListLaws.{some_inj, mem_map, pairwise_append, pairwise_map}
use Rattle.live.proofs.ChildLaws.{Part, part_all, part_in, value_there, value_part, stands_low, inner_fits, child_text}
use Rattle.live.proofs.TextLaws.{leaf_text}

-- ---- what stands at a text's place

-- the text f of the value's bytes v: a scalar that starts at f's place and whose text is f's
record Lies (v : List ℕ) (f : Found) : Type 0 where
  scalar : Scalar
  plain : Plain scalar
  leaf : leaf_of scalar ≡ text f.bytes
  part : Part v (scalar_bytes scalar) f.place

lies_under : (v u : List ℕ) (s : Step) (at : ℕ) (g f : Found) → f ≡ under s at g → Part v u at → Lies u g → Lies v f
lies_under v u s at g f e p r =
    rw e (record { scalar = r.scalar; plain = r.plain; leaf = r.leaf; part = part_in p r.part })

scalar_lies : (s : Scalar) → Plain s → (f : Found) → Mem f (leaf_texts (leaf_of s)) → Lies (scalar_bytes s) f
scalar_lies s h f m =
    let r = leaf_text (leaf_of s) f m in
    record { scalar = s; plain = h; leaf = r.content; part = rw r.place (part_all (scalar_bytes s)) }

texts_lie : (names : List Name) (d : ℕ) (t : Shape) → Fits names d t → (f : Found) → Mem f (texts_of names t) → Lies (layout t) f
unfolding texts_of layout
texts_lie names zero (grammar.scalar s) h f m = scalar_lies s h f m
texts_lie names zero (grammar.list w big ts) h f m = absurd (omega (arith, h.0))
texts_lie names zero (grammar.object w v big es ts) h f m = absurd (omega (arith, h.0))
texts_lie names (suc d) (grammar.scalar s) h f m = scalar_lies s h f m
texts_lie names (suc d) (grammar.list w big ts) h f m =
    let c = child_text names (λ k n. some (element k)) (list_data w big ts) 0 0 ts f m in
    let head = list_header_at w big (starts_from 0 (layouts ts)) (length (joined (layouts ts))) in
    let i = inner_fits names d c.number c.offset c.value ts h.2 c.stands in
    lies_under (head ++ joined (layouts ts)) (layout c.value) c.way (list_data w big ts + c.offset) c.inner f c.told
    (value_part head c.number c.offset c.value ts c.stands) (texts_lie names d c.value i c.inner c.listed)
texts_lie names (suc d) (grammar.object w v big es ts) h f m =
    let c = child_text names (λ k n. field_step names es n) (object_data w v big es ts) 0 0 ts f m in
    let head = object_header_at w v big (ids_of es) (offsets_of es) (length (joined (layouts ts))) in
    let i = inner_fits names d c.number c.offset c.value ts h.3 c.stands in
    lies_under (head ++ joined (layouts ts)) (layout c.value) c.way (object_data w v big es ts + c.offset) c.inner f c.told
    (value_part head c.number c.offset c.value ts c.stands) (texts_lie names d c.value i c.inner c.listed)

-- at f's place of these bytes a whole scalar starts, and its text is f's
pub record TextAt (v : List ℕ) (f : Found) : Type 0 where
  pub scalar : Scalar
  pub plain : Plain scalar
  pub leaf : leaf_of scalar ≡ text f.bytes
  pub size : measured (drop f.place v) ≡ length (scalar_bytes scalar)
  pub part : take (measured (drop f.place v)) (drop f.place v) ≡ scalar_bytes scalar
  pub room : f.place + length (scalar_bytes scalar) ≤ length v

pub places_text : (names : List Name) (d : ℕ) (t : Shape) → Fits names d t → (f : Found) → Mem f (texts_of names t) → TextAt (layout t) f
unfolding layout
places_text names d t h f m =
    let r = texts_lie names d t h f m in
    let x = value_there names d (layout t) (grammar.scalar r.scalar) f.place r.plain r.part in
    record { scalar = r.scalar; plain = r.plain; leaf = r.leaf; size = x.size; part = x.part; room = x.room }

pub places_within : (names : List Name) (d : ℕ) (t : Shape) → Fits names d t → (f : Found) → Mem f (texts_of names t) → f.place < length (layout t)
unfolding scalar_bytes
places_within names d t h f m = omega (arith, (places_text names d t h f m).room)

-- ---- the places rise

-- f lies before g
abbrev pub Before : Found → Found → Type 0
Before f g = f.place < g.place

labelled_rise : (l : Option Step) (at : ℕ) (fs : List Found) → Pairwise Before fs → Pairwise Before (labelled l at fs)
labelled_rise none at fs r = tt
labelled_rise (some s) at fs r = pairwise_map (under s at) Before Before (λ x y h. omega arith) fs r

labelled_high : (l : Option Step) (at high : ℕ) (fs : List Found) → ((g : Found) → Mem g fs → g.place < high) → (f : Found) → Mem f (labelled l at fs) → f.place < at + high
labelled_high none at high fs h f m = absurd m
labelled_high (some s) at high fs h f m =
    let r = mem_map (under s at) f fs m in
    let k = h r.0 r.1 in
    rw r.2 (omega arith)

child_low : (names : List Name) (steps : ℕ → ℕ → Option Step) (from i at : ℕ) (ts : Shapes) (f : Found) → Mem f (child_texts names steps from i at ts) → from + at ≤ f.place
child_low names steps from i at ts f m =
    let c = child_text names steps from i at ts f m in
    let low = stands_low c.number c.offset c.value i at ts c.stands in
    rw c.told (omega arith)

leaf_rise : (l : Leaf) → Pairwise Before (leaf_texts l)
leaf_rise (text b) = ((λ g m. absurd m), tt)
leaf_rise (other s) = tt

mutual
  unfolding texts_of

  -- "in order of data": each lies before all later ones
  pub places_rise : (names : List Name) (d : ℕ) (t : Shape) → Fits names d t → Pairwise Before (texts_of names t)
  places_rise names d (grammar.scalar s) h = leaf_rise (leaf_of s)
  places_rise names d (grammar.list w big ts) h = children_rise names (d - 1) (λ k n. some (element k)) (list_data w big ts) 0 0 ts h.2
  places_rise names d (grammar.object w v big es ts) h = children_rise names (d - 1) (λ k n. field_step names es n) (object_data w v big es ts) 0 0 ts h.3

  children_rise : (names : List Name) (d : ℕ) (steps : ℕ → ℕ → Option Step) (from i at : ℕ) (ts : Shapes) → FitsAll names d ts → Pairwise Before (child_texts names steps from i at ts)
  children_rise names d steps from i at grammar.none h = tt
  children_rise names d steps from i at (grammar.more t ts) h =
      pairwise_append Before (labelled (steps i at) (from + at) (texts_of names t)) (child_texts names steps from (suc i) (at + length (layout t)) ts)
      (labelled_rise (steps i at) (from + at) (texts_of names t) (places_rise names d t h.0))
      (children_rise names d steps from (suc i) (at + length (layout t)) ts h.1)
      (λ f g m k. omega (
        arith,
        labelled_high (steps i at) (from + at) (length (layout t)) (texts_of names t) (λ x j. places_within names d t h.0 x j) f m,
        child_low names steps from (suc i) (at + length (layout t)) ts g k,
      ))

-- ---- the first in the list is the one that lies first

least_place : (wanted : List ℕ) (fs : List Found) → Pairwise Before fs → (f : Found) → first_of wanted fs ≡ some f → (g : Found) → Mem g fs → g.bytes ≡ wanted → f.place ≤ g.place
unfolding first_of
least_place wanted [] r f e g m b = absurd m
least_place wanted (x ∷ fs) r f e g m b = go (same x.bytes wanted) refl e m (least_place wanted fs r.1 f)
  where
    go : (t : Bool) → same x.bytes wanted ≡ t → cond t (some x) (first_of wanted fs) ≡ some f → Mem g (x ∷ fs)
        → (first_of wanted fs ≡ some f → (g : Found) → Mem g fs → g.bytes ≡ wanted → f.place ≤ g.place) → f.place ≤ g.place
    go true q e (inl k) h = let z : f.place ≡ g.place = ap (λ (y : Found). y.place) (sym (some_inj x f e) ∙ sym k) in omega arith
    go true q e (inr k) h =
        let z : f.place ≡ x.place = ap (λ (y : Found). y.place) (sym (some_inj x f e)) in
        omega (arith, r.0 g k)
    go false q e (inl k) h = absurd (true≢false (sym (equal_same (ap (λ (y : Found). y.bytes) (sym k) ∙ b)) ∙ q))
    go false q e (inr k) h = h e g k b

least_first : (wanted : List ℕ) (fs : List Found) → Pairwise Before fs → (f : Found) → Mem f fs → f.bytes ≡ wanted → ((g : Found) → Mem g fs → g.bytes ≡ wanted → f.place ≤ g.place)
    → first_of wanted fs ≡ some f
unfolding first_of
least_first wanted [] r f m b l = absurd m
least_first wanted (x ∷ fs) r f m b l = go (same x.bytes wanted) refl m (λ k. least_first wanted fs r.1 f k b (λ g j c. l g (inr j) c))
  where
    go : (t : Bool) → same x.bytes wanted ≡ t → Mem f (x ∷ fs) → (Mem f fs → first_of wanted fs ≡ some f) → cond t (some x) (first_of wanted fs) ≡ some f
    go true q (inl k) h = ap some (sym k)
    go true q (inr k) h = absurd (omega (arith, r.0 f k, l x (inl refl) (same_equal x.bytes wanted q)))
    go false q (inl k) h = absurd (true≢false (sym (equal_same (ap (λ (y : Found). y.bytes) (sym k) ∙ b)) ∙ q))
    go false q (inr k) h = h k

module _ (names : List Name) (d : ℕ) (t : Shape) (wanted : List ℕ) (h : Fits names d t) where
  pub first_least : (f : Found) → first_of wanted (texts_of names t) ≡ some f → (g : Found) → Mem g (texts_of names t) → g.bytes ≡ wanted → f.place ≤ g.place
  first_least f e g m b = least_place wanted (texts_of names t) (places_rise names d t h) f e g m b

  pub first_is : (f : Found) → Mem f (texts_of names t) → f.bytes ≡ wanted → ((g : Found) → Mem g (texts_of names t) → g.bytes ≡ wanted → f.place ≤ g.place)
      → first_of wanted (texts_of names t) ≡ some f
  first_is f m b l = least_first wanted (texts_of names t) (places_rise names d t h) f m b l

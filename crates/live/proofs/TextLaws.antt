-- The live texts: each listed one is where its path leads in the live tree, and each of the tree is listed.
use mathlib.Core.Path.{◌≡◌, refl, sym, ◌∙◌, ap}
use mathlib.Core.Logic.{inl, inr}
use mathlib.Core.Bool.{Bool, true, false, cond, true≢false}
use mathlib.Core.List.{List, [], ◌∷◌, map}
use mathlib.Core.Option.{Option, none, some}
use Prim.Native.Nat.{ℕ, zero, suc, ◌+◌, ◌-◌}
use native.Mathlib.Omega.{arith}
use Rattle.value.specs.Scalar.{Scalar}
use Rattle.metadata.specs.Names.{Name, same}
use Rattle.metadata.proofs.DictionaryLaws.{same_equal, same_differs}
use Rattle.container.specs.declared.Entry.{Entry}
use Rattle.container.specs.Entries.{ids_of}
use Rattle.container.specs.Sort.{name_at}
use Rattle.container.proofs.SortLaws.{Mem}
use Rattle.grammar.specs.Grammar.{Shape, Shapes, layouts, starts_from, Fits}
use Rattle.grammar.specs.Grammar as grammar
use Rattle.live.specs.Words.{Step, field, element, Path}
use Rattle.live.specs.Live.{Leaf, text, other, leaf_of, Live, leaf, nest, Lives, live_fields, live_of, live_elements, live_at}
use Rattle.live.specs.Texts.{Found, under, leaf_texts, field_step, list_data, object_data, texts_of, first_of, child_by, leads}
use Rattle.live.proofs.ListLaws.{some_inj, none_some, ascending_rises}
use Rattle.live.proofs.ChildLaws.{Stands, inner_fits, child_text, text_child, among_stands, element_stands, stands_element, stands_live, step_field, field_step_lem}

-- ---- where a path leads, by its first step

leads_step : (s : Step) (p : Path) (l m : Live) → child_by s l ≡ some m → leads (s ∷ p) l ≡ leads p m
unfolding leads
leads_step s p l m e = go (child_by s l) e
  where
    go : (x : Option Live) → x ≡ some m → elim x [ none ↦ none | some k ↦ leads p k ] ≡ leads p m
    go none q = absurd (none_some m q)
    go (some k) q = ap (leads p) (some_inj k m q)

leads_split : (s : Step) (p : Path) (l r : Live) → leads (s ∷ p) l ≡ some r → (m : Live) × (child_by s l ≡ some m) × (leads p m ≡ some r)
unfolding leads
leads_split s p l r e = go (child_by s l) refl e
  where
    go : (x : Option Live) → child_by s l ≡ x → elim x [ none ↦ none | some k ↦ leads p k ] ≡ some r → (m : Live) × (child_by s l ≡ some m) × (leads p m ≡ some r)
    go none q e = absurd (none_some r e)
    go (some k) q e = (k, q, e)

-- f's path leads to its text
abbrev pub Leads : Live → Found → Type 0
Leads l f = leads f.path l ≡ some (leaf (text f.bytes))

under_leads : (s : Step) (at : ℕ) (l m : Live) (g f : Found) → child_by s l ≡ some m → f ≡ under s at g → Leads m g → Leads l f
under_leads s at l m g f e q h = rw q (leads_step s g.path l m e ∙ h)

-- ---- leaves

pub record LeafText (l : Leaf) (f : Found) : Type 0 where
  pub content : l ≡ text f.bytes
  pub place : f.place ≡ 0
  pub path : f.path ≡ []

pub leaf_text : (l : Leaf) (f : Found) → Mem f (leaf_texts l) → LeafText l f
leaf_text (text b) f (inl q) =
    record { content = sym (ap (λ (x : Found). text x.bytes) q); place = ap (λ (x : Found). x.place) q; path = ap (λ (x : Found). x.path) q }
leaf_text (text b) f (inr m) = absurd m
leaf_text (other s) f m = absurd m

leaf_leads : (l : Leaf) (f : Found) → Mem f (leaf_texts l) → Leads (leaf l) f
unfolding leads
leaf_leads l f m = let r = leaf_text l f m in rw (r.path, r.content)

-- ---- the step to a container's live value

module _ (names : List Name) (d k n : ℕ) (t : Shape) (ts : Shapes) where
  pub list_step : (w : ℕ) (big : Bool) → Stands k n t 0 0 ts → child_by (element k) (live_of names (grammar.list w big ts)) ≡ some (live_of names t)
  unfolding child_by live_of
  list_step w big s =
      let z : k - 0 ≡ k = omega arith in
      rw z at (stands_element names k n t 0 0 ts s)

  pub object_step : (w v : ℕ) (big : Bool) (es : List Entry) (s : Step) → Fits names d (grammar.object w v big es ts) → Stands k n t 0 0 ts → field_step names es n ≡ some s
      → child_by s (live_of names (grammar.object w v big es ts)) ≡ some (live_of names t)
  unfolding child_by live_of
  object_step w v big es s h r e =
      let q = step_field (λ o. live_at names o 0 ts) names es n s (ascending_rises (map (name_at names) (ids_of es)) h.2.order) e in
      rw q.1 (q.3 ∙ ap some (stands_live names (d - 1) k n t 0 0 ts h.3 r))

-- ---- each listed text is live

pub texts_lead : (names : List Name) (d : ℕ) (t : Shape) → Fits names d t → (f : Found) → Mem f (texts_of names t) → Leads (live_of names t) f
unfolding texts_of live_of
texts_lead names zero (grammar.scalar s) h f m = leaf_leads (leaf_of s) f m
texts_lead names zero (grammar.list w big ts) h f m = absurd (omega (arith, h.0))
texts_lead names zero (grammar.object w v big es ts) h f m = absurd (omega (arith, h.0))
texts_lead names (suc d) (grammar.scalar s) h f m = leaf_leads (leaf_of s) f m
texts_lead names (suc d) (grammar.list w big ts) h f m =
    let c = child_text names (λ k n. some (element k)) (list_data w big ts) 0 0 ts f m in
    let q : element c.number ≡ c.way = some_inj (element c.number) c.way c.stepped in
    let i = inner_fits names d c.number c.offset c.value ts h.2 c.stands in
    let e = list_step names d c.number c.offset c.value ts w big c.stands in
    under_leads c.way (list_data w big ts + c.offset) (live_of names (grammar.list w big ts)) (live_of names c.value) c.inner f
    (rw q at e) c.told (texts_lead names d c.value i c.inner c.listed)
texts_lead names (suc d) (grammar.object w v big es ts) h f m =
    let c = child_text names (λ k n. field_step names es n) (object_data w v big es ts) 0 0 ts f m in
    let i = inner_fits names d c.number c.offset c.value ts h.3 c.stands in
    let e = object_step names (suc d) c.number c.offset c.value ts w v big es c.way h c.stands c.stepped in
    under_leads c.way (object_data w v big es ts + c.offset) (live_of names (grammar.object w v big es ts)) (live_of names c.value) c.inner f
    e c.told (texts_lead names d c.value i c.inner c.listed)

-- ---- each live text is listed

pub record Listed (names : List Name) (t : Shape) (p : Path) (b : List ℕ) : Type 0 where
  pub found : Found
  pub listed : Mem found (texts_of names t)
  pub path : found.path ≡ p
  pub bytes : found.bytes ≡ b

is_leaf : Live → Bool
is_leaf (leaf l) = true
is_leaf (nest object ls) = false

leaf_in : Live → Leaf
leaf_in (leaf l) = l
leaf_in (nest object ls) = text []

nest_ends : (object : Bool) (ls : Lives) (b : List ℕ) → leads [] (nest object ls) ≡ some (leaf (text b)) → ⊥
unfolding leads is_leaf
nest_ends object ls b e = true≢false (sym (ap is_leaf (some_inj (nest object ls) (leaf (text b)) e)))

text_listed : (l : Leaf) (b : List ℕ) → l ≡ text b → Mem (record { path = []; place = 0; bytes = b }) (leaf_texts l)
text_listed l b e = rw e (inl refl)

scalar_listed : (names : List Name) (s : Scalar) (p : Path) (b : List ℕ) → leads p (live_of names (grammar.scalar s)) ≡ some (leaf (text b)) → Listed names (grammar.scalar s) p b
unfolding leads leaf_in child_by live_of texts_of
scalar_listed names s [] b e =
    let q = ap leaf_in (some_inj (leaf (leaf_of s)) (leaf (text b)) e) in
    record { found = record { path = []; place = 0; bytes = b }; listed = text_listed (leaf_of s) b q; path = refl; bytes = refl }
scalar_listed names s (w ∷ p) b e = absurd (none_some (leaf (text b)) e)

pub texts_all : (names : List Name) (d : ℕ) (t : Shape) → Fits names d t → (p : Path) (b : List ℕ) → leads p (live_of names t) ≡ some (leaf (text b)) → Listed names t p b
unfolding texts_of live_of child_by
texts_all names zero (grammar.scalar s) h p b e = scalar_listed names s p b e
texts_all names zero (grammar.list w big ts) h p b e = absurd (omega (arith, h.0))
texts_all names zero (grammar.object w v big es ts) h p b e = absurd (omega (arith, h.0))
texts_all names (suc d) (grammar.scalar s) h p b e = scalar_listed names s p b e
texts_all names (suc d) (grammar.list w big ts) h [] b e = absurd (nest_ends false (live_elements names ts) b e)
texts_all names (suc d) (grammar.list w big ts) h (field k ∷ p) b e =
    let r = leads_split (field k) p (nest false (live_elements names ts)) (leaf (text b)) e in
    absurd (none_some r.0 r.1)
texts_all names (suc d) (grammar.list w big ts) h (element k ∷ p) b e =
    let r = leads_split (element k) p (nest false (live_elements names ts)) (leaf (text b)) e in
    let c = element_stands names k 0 0 ts r.0 r.1 in
    let z : 0 + k ≡ k = omega arith in
    let s : Stands k c.0 c.1 0 0 ts = rw z at c.2 in
    let i = texts_all names d c.1 (inner_fits names d k c.0 c.1 ts h.2 s) p b (sym (ap (leads p) c.3) ∙ r.2) in
    record {
      found = under (element k) (list_data w big ts + c.0) i.found;
      listed = text_child names (λ j n. some (element j)) (list_data w big ts) k c.0 c.1 (element k) i.found 0 0 ts s refl i.listed;
      path = ap (λ q. element k ∷ q) i.path;
      bytes = i.bytes;
    }
texts_all names (suc d) (grammar.object w v big es ts) h [] b e = absurd (nest_ends true (live_fields (λ o. live_at names o 0 ts) names es) b e)
texts_all names (suc d) (grammar.object w v big es ts) h (element k ∷ p) b e =
    let r = leads_split (element k) p (nest true (live_fields (λ o. live_at names o 0 ts) names es)) (leaf (text b)) e in
    absurd (none_some r.0 r.1)
texts_all names (suc d) (grammar.object w v big es ts) h (field m ∷ p) b e =
    let all : ℕ → Live = λ o. live_at names o 0 ts in
    let r = leads_split (field m) p (nest true (live_fields all names es)) (leaf (text b)) e in
    let x = field_step_lem all names (starts_from 0 (layouts ts)) es m r.0 h.2.offsets r.1 in
    let c = among_stands x.0 0 0 ts x.1 in
    let l = stands_live names (suc d - 1) c.0 x.0 c.1 0 0 ts h.3 c.2 in
    let i = texts_all names d c.1 (inner_fits names d c.0 x.0 c.1 ts h.3 c.2) p b (ap (leads p) (sym l ∙ x.3) ∙ r.2) in
    record {
      found = under (field m) (object_data w v big es ts + x.0) i.found;
      listed = text_child names (λ j n. field_step names es n) (object_data w v big es ts) c.0 x.0 c.1 (field m) i.found 0 0 ts c.2 x.2 i.listed;
      path = ap (λ q. field m ∷ q) i.path;
      bytes = i.bytes;
    }

-- ---- the first that equals what is wanted

pub first_found : (wanted : List ℕ) (fs : List Found) (f : Found) → first_of wanted fs ≡ some f → Mem f fs × (f.bytes ≡ wanted)
unfolding first_of
first_found wanted [] f e = absurd (none_some f e)
first_found wanted (g ∷ fs) f e = go (same g.bytes wanted) refl e (first_found wanted fs f)
  where
    go : (b : Bool) → same g.bytes wanted ≡ b → cond b (some g) (first_of wanted fs) ≡ some f → (first_of wanted fs ≡ some f → Mem f fs × (f.bytes ≡ wanted))
        → Mem f (g ∷ fs) × (f.bytes ≡ wanted)
    go true q e h =
        let z = some_inj g f e in
        (inl (sym z), ap (λ (x : Found). x.bytes) (sym z) ∙ same_equal g.bytes wanted q)
    go false q e h = let r = h e in (inr r.0, r.1)

pub first_missed : (wanted : List ℕ) (fs : List Found) (f : Found) → first_of wanted fs ≡ none → Mem f fs → f.bytes ≡ wanted → ⊥
unfolding first_of
first_missed wanted [] f e m b = m
first_missed wanted (g ∷ fs) f e m b = go (same g.bytes wanted) refl e m (first_missed wanted fs f)
  where
    go : (t : Bool) → same g.bytes wanted ≡ t → cond t (some g) (first_of wanted fs) ≡ none → Mem f (g ∷ fs) → (first_of wanted fs ≡ none → Mem f fs → f.bytes ≡ wanted → ⊥) → ⊥
    go true q e m h = none_some g (sym e)
    go false q e (inl k) h = same_differs g.bytes wanted q (ap (λ (x : Found). x.bytes) (sym k) ∙ b)
    go false q e (inr k) h = h e k b

module _ (names : List Name) (d : ℕ) (t : Shape) (wanted : List ℕ) (h : Fits names d t) where
  -- what is found is a live text that equals what is wanted
  pub first_leads : (f : Found) → first_of wanted (texts_of names t) ≡ some f → leads f.path (live_of names t) ≡ some (leaf (text wanted))
  first_leads f e =
      let r = first_found wanted (texts_of names t) f e in
      rw r.1 at (texts_lead names d t h f r.0)

  -- none is exactly for what no live text equals
  pub first_none : first_of wanted (texts_of names t) ≡ none → (p : Path) → leads p (live_of names t) ≡ some (leaf (text wanted)) → ⊥
  first_none e p l =
      let r = texts_all names d t h p wanted l in
      first_missed wanted (texts_of names t) r.found e r.listed r.bytes

  pub none_first : ((p : Path) → leads p (live_of names t) ≡ some (leaf (text wanted)) → ⊥) → first_of wanted (texts_of names t) ≡ none
  none_first n = go (first_of wanted (texts_of names t)) refl
    where
      go : (x : Option Found) → first_of wanted (texts_of names t) ≡ x → x ≡ none
      go none e = refl
      go (some f) e = absurd (n f.path (first_leads f e))

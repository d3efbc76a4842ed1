-- The least place, taken over the entries, is that of the first text in order of data.
use mathlib.Core.Path.{◌≡◌, refl, sym, ◌∙◌, ap}
use mathlib.Core.Logic.{◌⊎◌, inl, inr}
use mathlib.Core.Bool.{Bool, true, false, cond, true≢false}
use mathlib.Core.List.{List, [], ◌∷◌, ◌++◌, map}
use mathlib.Core.Option.{Option, none, some}
use Prim.Native.Nat.{ℕ, zero, suc, ◌+◌, ◌-◌, ◌≤◌, min}
use native.Mathlib.Omega.{arith}
use lib.Dec.{eqb, ltb}
use lib.ListN.{length}
use borrow.Author.Tests.{eqb-true, eqb-false, ltb-true, ltb-false, lt-ltb, le-ltb}
use Rattle.metadata.specs.Names.{Name, same}
use Rattle.metadata.proofs.DictionaryLaws.{same_equal, equal_same}
use Rattle.container.specs.declared.Entry.{Entry}
use Rattle.container.specs.Entries.{offsets_of}
use Rattle.container.specs.Sort.{name_at}
use Rattle.container.proofs.SortLaws.{Mem}
use Rattle.grammar.specs.Grammar.{Shape, Shapes, layout, layouts, starts_from, among, starting, Fits, FitsAll}
use Rattle.grammar.specs.Grammar as grammar
use Rattle.grammar.specs.Fields.{shape_at}
use Rattle.live.specs.Words.{Step, field, element, words}
use Rattle.live.specs.Live.{Leaf, text, other, leaf_of}
use Rattle.live.specs.Texts.{Found, under, leaf_texts, field_step, list_data, object_data, texts_of, child_texts, first_of, saying, words_for}
use Rattle.live.specs.Ways.{is_wanted, least_element, least_field, least_of, path_to}
use Rattle.live.proofs.ListLaws.{none_some, mem_append, left, right, mem_map, mapped}
use Rattle.live.proofs.ChildLaws.{stands_shape, stands_fits, among_stands, child_text, text_child, Start, start_parts}
use Rattle.live.proofs.TextLaws.{first_found, first_missed}
use Rattle.live.proofs.PlaceLaws.{places_within, first_least}
use Rattle.live.proofs.WayLaws.{path_to_lem}

-- ---- the least of a number and those that P holds of

record Least (P : ℕ → Type 0) (best r : ℕ) : Type 0 where
  most : r ≤ best
  each : (p : ℕ) → P p → r ≤ p
  held : (r ≡ best) ⊎ P r

least_none : (P : ℕ → Type 0) (best : ℕ) → ((p : ℕ) → P p → ⊥) → Least P best best
least_none P best h = record { most = omega arith; each = λ p x. absurd (h p x); held = inl refl }

least_both : (P Q : ℕ → Type 0) (best r s : ℕ) → Least P best r → Least Q r s → Least (λ p. P p ⊎ Q p) best s
least_both P Q best r s x y = record { most = omega (arith, x.most, y.most); each = each; held = go y.held }
  where
    each : (p : ℕ) → P p ⊎ Q p → s ≤ p
    each p (inl a) = omega (arith, x.each p a, y.most)
    each p (inr b) = y.each p b

    first : (s ≡ r) → (r ≡ best) ⊎ P r → (s ≡ best) ⊎ (P s ⊎ Q s)
    first e (inl a) = inl (e ∙ a)
    first e (inr a) = inr (inl (rw e a))

    go : (s ≡ r) ⊎ Q s → (s ≡ best) ⊎ (P s ⊎ Q s)
    go (inl e) = first e x.held
    go (inr b) = inr (inr b)

least_same : (P Q : ℕ → Type 0) (best r : ℕ) → ((p : ℕ) → P p → Q p) → ((p : ℕ) → Q p → P p) → Least P best r → Least Q best r
least_same P Q best r f g x = record { most = x.most; each = λ p q. x.each p (g p q); held = elim x.held [ inl e ↦ inl e | inr a ↦ inr (f r a) ] }

-- ---- places of wanted texts

-- p is the place of one that is wanted, where the value starts at `at`
pub record Wanted (wanted : List ℕ) (at : ℕ) (fs : List Found) (p : ℕ) : Type 0 where
  pub found : Found
  pub listed : Mem found fs
  pub bytes : found.bytes ≡ wanted
  pub place : p ≡ at + found.place

module _ (wanted : List ℕ) where
  wanted_append : (at : ℕ) (a b : List Found) (p : ℕ) → Wanted wanted at (a ++ b) p → Wanted wanted at a p ⊎ Wanted wanted at b p
  wanted_append at a b p x = elim (mem_append x.found a b x.listed) [
    | inl m ↦ inl (record { found = x.found; listed = m; bytes = x.bytes; place = x.place })
    | inr m ↦ inr (record { found = x.found; listed = m; bytes = x.bytes; place = x.place })
  ]

  append_wanted : (at : ℕ) (a b : List Found) (p : ℕ) → Wanted wanted at a p ⊎ Wanted wanted at b p → Wanted wanted at (a ++ b) p
  append_wanted at a b p (inl x) = record { found = x.found; listed = left x.found a b x.listed; bytes = x.bytes; place = x.place }
  append_wanted at a b p (inr x) = record { found = x.found; listed = right x.found a b x.listed; bytes = x.bytes; place = x.place }

  wanted_under : (at from : ℕ) (s : Step) (fs : List Found) (p : ℕ) → Wanted wanted at (map (under s from) fs) p → Wanted wanted (at + from) fs p
  wanted_under at from s fs p x =
      let r = mem_map (under s from) x.found fs x.listed in
      let a = x.place in
      let b : x.found.place ≡ from + r.0.place = ap (λ (f : Found). f.place) r.2 in
      record { found = r.0; listed = r.1; bytes = ap (λ (f : Found). f.bytes) (sym r.2) ∙ x.bytes; place = omega arith }

  under_wanted : (at from : ℕ) (s : Step) (fs : List Found) (p : ℕ) → Wanted wanted (at + from) fs p → Wanted wanted at (map (under s from) fs) p
  under_wanted at from s fs p x =
      let a = x.place in
      record { found = under s from x.found; listed = mapped (under s from) x.found fs x.listed; bytes = x.bytes; place = omega arith }

  -- ---- of a leaf

  min_one : (a b : ℕ) → (min a b ≡ b) ⊎ (min a b ≡ a)
  min_one a b = go (ltb a b) refl
    where
      go : (t : Bool) → ltb a b ≡ t → (min a b ≡ b) ⊎ (min a b ≡ a)
      go true e = let l = ltb-true a b e in inr (omega arith)
      go false e = let l = ltb-false a b e in inl (omega arith)

  least_leaf_lem : (at best : ℕ) (l : Leaf) → Least (Wanted wanted at (leaf_texts l)) best (cond (is_wanted wanted l) (min at best) best)
  least_leaf_lem at best (other s) = least_none (Wanted wanted at []) best (λ p x. x.listed)
  least_leaf_lem at best (text b) = go (same b wanted) refl
    where
      own : Found
      own = record { path = []; place = 0; bytes = b }

      place : (p : ℕ) → Wanted wanted at (own ∷ []) p → (p ≡ at) × (b ≡ wanted)
      place p x = elim x.listed [
        | inl q ↦ (omega (arith, x.place, ap (λ (f : Found). f.place) q), ap (λ (f : Found). f.bytes) (sym q) ∙ x.bytes)
        | inr m ↦ absurd m
      ]

      which : b ≡ wanted → (r : ℕ) → (r ≡ best) ⊎ (r ≡ at) → (r ≡ best) ⊎ Wanted wanted at (own ∷ []) r
      which e r (inl a) = inl a
      which e r (inr a) = inr (record { found = own; listed = inl refl; bytes = e; place = omega arith })

      go : (t : Bool) → same b wanted ≡ t → Least (Wanted wanted at (own ∷ [])) best (cond t (min at best) best)
      go true q = record { most = omega arith; each = λ p x. omega (arith, (place p x).0); held = which (same_equal b wanted q) (min at best) (min_one at best) }
      go false q = least_none (Wanted wanted at (own ∷ [])) best (λ p x. true≢false (sym (equal_same (place p x).1) ∙ q))

-- ---- of a list's elements, and of an object's entries

module _ (names : List Name) (d : ℕ) (wanted : List ℕ) (deeper : ℕ → ℕ → Shape → ℕ)
    (h : (at best : ℕ) (t : Shape) → Fits names d t → Least (Wanted wanted at (texts_of names t)) best (deeper at best t)) where
  least_elements : (base from i at best : ℕ) (ts : Shapes) → FitsAll names d ts
      → Least (Wanted wanted base (child_texts names (λ k n. some (element k)) from i at ts)) best (least_element deeper (base + (from + at)) best ts)
  unfolding least_element texts_of
  least_elements base from i at best grammar.none f = least_none (Wanted wanted base []) best (λ p x. x.listed)
  least_elements base from i at best (grammar.more t ts) f = go (least_elements base from (suc i) (at + length (layout t)) (deeper here best t) ts f.1)
    where
      here : ℕ
      here = base + (from + at)

      fs : List Found
      fs = map (under (element i) (from + at)) (texts_of names t)

      gs : List Found
      gs = child_texts names (λ k n. some (element k)) from (suc i) (at + length (layout t)) ts

      go : Least (Wanted wanted base gs) (deeper here best t) (least_element deeper (base + (from + (at + length (layout t)))) (deeper here best t) ts)
          → Least (Wanted wanted base (fs ++ gs)) best (least_element deeper (here + length (layout t)) (deeper here best t) ts)
      go r =
          let z : here + length (layout t) ≡ base + (from + (at + length (layout t))) = omega arith in
          let one : (p : ℕ) → Wanted wanted here (texts_of names t) p ⊎ Wanted wanted base gs p → Wanted wanted base (fs ++ gs) p = λ p x. append_wanted wanted base fs gs p
          (elim x [ inl a ↦ inl (under_wanted wanted base (from + at) (element i) (texts_of names t) p a) | inr b ↦ inr b ]) in
          let two : (p : ℕ) → Wanted wanted base (fs ++ gs) p → Wanted wanted here (texts_of names t) p ⊎ Wanted wanted base gs p = λ p x. elim (wanted_append wanted base fs gs p x) [
            | inl a ↦ inl (wanted_under wanted base (from + at) (element i) (texts_of names t) p a)
            | inr b ↦ inr b
          ] in
          rw z (least_same (λ p. Wanted wanted here (texts_of names t) p ⊎ Wanted wanted base gs p) (Wanted wanted base (fs ++ gs)) best
          (least_element deeper (base + (from + (at + length (layout t)))) (deeper here best t) ts) one two
          (least_both (Wanted wanted here (texts_of names t)) (Wanted wanted base gs) best (deeper here best t)
          (least_element deeper (base + (from + (at + length (layout t)))) (deeper here best t) ts) (h here best t f.0) r))

  -- p is the place of a wanted text in the value of one of these entries
  abbrev Entered : ℕ → Shapes → List Entry → ℕ → Type 0
  Entered from ts es p = (e : Entry) × Mem e es × Wanted wanted (from + e.offset) (texts_of names (shape_at e.offset 0 ts)) p

  least_entries : (from best : ℕ) (ts : Shapes) (es : List Entry) → FitsAll names d ts → starting (starts_from 0 (layouts ts)) (offsets_of es) ≡ true
      → Least (Entered from ts es) best (least_field deeper from best ts es)
  unfolding least_field
  least_entries from best ts [] f s = least_none (Entered from ts []) best (λ p x. x.1)
  least_entries from best ts (e ∷ es) f s =
      go (start_parts (starts_from 0 (layouts ts)) e.offset (offsets_of es) s) (least_entries from (deeper (from + e.offset) best (shape_at e.offset 0 ts)) ts es f)
    where
      here : ℕ
      here = from + e.offset

      value : Shape
      value = shape_at e.offset 0 ts

      apart : (p : ℕ) (y : Entry) → Mem y (e ∷ es) → Wanted wanted (from + y.offset) (texts_of names (shape_at y.offset 0 ts)) p
          → Wanted wanted here (texts_of names value) p ⊎ Entered from ts es p
      apart p y (inl q) a = inl (rw q at a)
      apart p y (inr m) a = inr (y, m, a)

      go : Start (starts_from 0 (layouts ts)) e.offset (offsets_of es)
          → (starting (starts_from 0 (layouts ts)) (offsets_of es) ≡ true → Least (Entered from ts es) (deeper here best value) (least_field deeper from (deeper here best value) ts es))
          → Least (Entered from ts (e ∷ es)) best (least_field deeper from (deeper here best value) ts es)
      go x others =
          let c = among_stands e.offset 0 0 ts x.one in
          let i : Fits names d value = rw (stands_shape names d c.0 e.offset c.1 0 0 ts f c.2) (stands_fits names d c.0 e.offset c.1 0 0 ts f c.2) in
          let one : (p : ℕ) → Wanted wanted here (texts_of names value) p ⊎ Entered from ts es p → Entered from ts (e ∷ es) p =
          λ p y. elim y [ inl a ↦ (e, inl refl, a) | inr b ↦ (b.0, inr b.1, b.2) ] in
          least_same (λ p. Wanted wanted here (texts_of names value) p ⊎ Entered from ts es p) (Entered from ts (e ∷ es)) best
          (least_field deeper from (deeper here best value) ts es) one (λ p y. apart p y.0 y.1 y.2)
          (least_both (Wanted wanted here (texts_of names value)) (Entered from ts es) best (deeper here best value)
          (least_field deeper from (deeper here best value) ts es) (h here best value i) (others x.others))

-- ---- an object's entries and the steps to its values

step_some : (names : List Name) (es : List Entry) (e : Entry) → Mem e es → (s : Step) × (field_step names es e.offset ≡ some s)
unfolding field_step
step_some names [] e m = absurd m
step_some names (x ∷ es) e m = go (eqb x.offset e.offset) refl m (step_some names es e)
  where
    own : Step
    own = field (name_at names x.id)

    go : (b : Bool) → eqb x.offset e.offset ≡ b → Mem e (x ∷ es) → (Mem e es → (s : Step) × (field_step names es e.offset ≡ some s))
        → (s : Step) × (cond b (some own) (field_step names es e.offset) ≡ some s)
    go true p m f = (own, refl)
    go false p (inl q) f = absurd (eqb-false x.offset e.offset p (ap (λ (y : Entry). y.offset) (sym q)))
    go false p (inr m) f = f m

step_entry : (names : List Name) (es : List Entry) (n : ℕ) (s : Step) → field_step names es n ≡ some s → (e : Entry) × Mem e es × (e.offset ≡ n)
unfolding field_step
step_entry names [] n s h = absurd (none_some s h)
step_entry names (x ∷ es) n s h = go (eqb x.offset n) refl h (step_entry names es n s)
  where
    go : (b : Bool) → eqb x.offset n ≡ b → cond b (some (field (name_at names x.id))) (field_step names es n) ≡ some s
        → (field_step names es n ≡ some s → (e : Entry) × Mem e es × (e.offset ≡ n)) → (e : Entry) × Mem e (x ∷ es) × (e.offset ≡ n)
    go true p h f = (x, inl refl, eqb-true x.offset n p)
    go false p h f = let r = f h in (r.0, inr r.1, r.2)

entry_starts : (starts : List ℕ) (es : List Entry) (e : Entry) → starting starts (offsets_of es) ≡ true → Mem e es → among e.offset starts ≡ true
entry_starts starts [] e h m = absurd m
entry_starts starts (x ∷ es) e h (inl q) = rw q (start_parts starts x.offset (offsets_of es) h).one
entry_starts starts (x ∷ es) e h (inr m) = entry_starts starts es e (start_parts starts x.offset (offsets_of es) h).others m

abbrev field_texts : List Name → List Entry → ℕ → Shapes → List Found
field_texts names es from ts = child_texts names (λ k n. field_step names es n) from 0 0 ts

module _ (names : List Name) (d : ℕ) (wanted : List ℕ) (base from : ℕ) (es : List Entry) (ts : Shapes) (f : FitsAll names d ts)
    (h : starting (starts_from 0 (layouts ts)) (offsets_of es) ≡ true) where
  wanted_entered : (p : ℕ) → Wanted wanted base (field_texts names es from ts) p → (e : Entry) × Mem e es × Wanted wanted (base + from + e.offset) (texts_of names (shape_at e.offset 0 ts)) p
  wanted_entered p x =
      let c = child_text names (λ k n. field_step names es n) from 0 0 ts x.found x.listed in
      let r = step_entry names es c.offset c.way c.stepped in
      let a = x.place in
      let o = r.2 in
      let b : x.found.place ≡ from + c.offset + c.inner.place = ap (λ (y : Found). y.place) c.told in
      let v : shape_at r.0.offset 0 ts ≡ c.value = ap (λ n. shape_at n 0 ts) o ∙ stands_shape names d c.number c.offset c.value 0 0 ts f c.stands in
      (r.0, r.1, record { found = c.inner; listed = rw v c.listed; bytes = ap (λ (y : Found). y.bytes) (sym c.told) ∙ x.bytes; place = omega arith })

  entered_wanted : (p : ℕ) (e : Entry) → Mem e es → Wanted wanted (base + from + e.offset) (texts_of names (shape_at e.offset 0 ts)) p → Wanted wanted base (field_texts names es from ts) p
  entered_wanted p e m x =
      let s = step_some names es e m in
      let c = among_stands e.offset 0 0 ts (entry_starts (starts_from 0 (layouts ts)) es e h m) in
      let v : shape_at e.offset 0 ts ≡ c.1 = stands_shape names d c.0 e.offset c.1 0 0 ts f c.2 in
      let a = x.place in
      record {
        found = under s.0 (from + e.offset) x.found;
        listed = text_child names (λ k n. field_step names es n) from c.0 e.offset c.1 s.0 x.found 0 0 ts c.2 s.1 (rw v at x.listed);
        bytes = x.bytes;
        place = omega arith;
      }

-- ---- of a value

least_of_lem : (names : List Name) (d : ℕ) (wanted : List ℕ) (at best : ℕ) (t : Shape) → Fits names d t → Least (Wanted wanted at (texts_of names t)) best (least_of d wanted at best t)
unfolding texts_of least_of
least_of_lem names zero wanted at best (grammar.scalar s) h = least_leaf_lem wanted at best (leaf_of s)
least_of_lem names zero wanted at best (grammar.list w big ts) h = absurd (omega (arith, h.0))
least_of_lem names zero wanted at best (grammar.object w v big es ts) h = absurd (omega (arith, h.0))
least_of_lem names (suc d) wanted at best (grammar.scalar s) h = least_leaf_lem wanted at best (leaf_of s)
least_of_lem names (suc d) wanted at best (grammar.list w big ts) h =
    let z : suc d - 1 ≡ d = omega arith in
    let y : at + (list_data w big ts + 0) ≡ at + list_data w big ts = omega arith in
    rw y at (least_elements names d wanted (least_of d wanted) (λ a b t f. least_of_lem names d wanted a b t f) at (list_data w big ts) 0 0 best ts (rw z at h.2))
least_of_lem names (suc d) wanted at best (grammar.object w v big es ts) h =
    let z : suc d - 1 ≡ d = omega arith in
    let f : FitsAll names d ts = rw z at h.3 in
    let from = object_data w v big es ts in
    let s = h.2.offsets in
    least_same (λ p. (e : Entry) × Mem e es × Wanted wanted (at + from + e.offset) (texts_of names (shape_at e.offset 0 ts)) p)
    (Wanted wanted at (field_texts names es from ts)) best (least_field (least_of d wanted) (at + from) best ts es)
    (λ p x. entered_wanted names d wanted at from es ts f s p x.0 x.1 x.2)
    (λ p x. wanted_entered names d wanted at from es ts f s p x)
    (least_entries names d wanted (least_of d wanted) (λ a b t g. least_of_lem names d wanted a b t g) (at + from) best ts es f s)

-- what starts behind the least so far need not be gone into
pub least_skip : (names : List Name) (d : ℕ) (wanted : List ℕ) (at best : ℕ) (t : Shape) → Fits names d t → best ≤ at → least_of d wanted at best t ≡ best
least_skip names d wanted at best t h l =
    let x = least_of_lem names d wanted at best t h in
    elim x.held [ inl e ↦ e | inr y ↦ omega (arith, x.most, y.place) ]

module _ (names : List Name) (d : ℕ) (wanted : List ℕ) (t : Shape) (h : Fits names d t) where
  -- the least place in a value, or its length where no live text is wanted
  abbrev pub least_in : ℕ
  least_in = least_of d wanted 0 (length (layout t)) t

  pub least_found : (f : Found) → first_of wanted (texts_of names t) ≡ some f → least_in ≡ f.place
  least_found f e =
      let x = least_of_lem names d wanted 0 (length (layout t)) t h in
      let r = first_found wanted (texts_of names t) f e in
      let w = places_within names d t h f r.0 in
      let low = x.each f.place (record { found = f; listed = r.0; bytes = r.1; place = omega arith }) in
      elim x.held [ inl k ↦ absurd (omega arith) | inr y ↦ omega (arith, y.place, first_least names d t wanted h f e y.found y.listed y.bytes) ]

  pub least_missing : first_of wanted (texts_of names t) ≡ none → least_in ≡ length (layout t)
  least_missing e =
      let x = least_of_lem names d wanted 0 (length (layout t)) t h in
      elim x.held [ inl k ↦ k | inr y ↦ absurd (first_missed wanted (texts_of names t) y.found e y.listed y.bytes) ]

  -- the words by the least place and the path to it
  pub words_by : words_for names t wanted ≡ cond (ltb least_in (length (layout t))) (some (words (path_to d names least_in t))) none
  unfolding words_for
  words_by = go (first_of wanted (texts_of names t)) refl
    where
      go : (x : Option Found) → first_of wanted (texts_of names t) ≡ x → saying x ≡ cond (ltb least_in (length (layout t))) (some (words (path_to d names least_in t))) none
      go none e = rw (least_missing e, le-ltb (length (layout t)) (length (layout t)) (omega arith))
      go (some f) e =
          let m = (first_found wanted (texts_of names t) f e).0 in
          rw (least_found f e, lt-ltb f.place (length (layout t)) (places_within names d t h f m), path_to_lem names d t h f m)

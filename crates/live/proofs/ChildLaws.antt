-- A container's values by their numbers and offsets, its texts by its values, and its live children by both.
use mathlib.Core.Path.{◌≡◌, refl, sym, ◌∙◌, ap, subst}
use mathlib.Core.Logic.{◌⊎◌, inl, inr}
use mathlib.Core.Bool.{Bool, true, false, cond, not, ◌||◌, or-true, true≢false, false≢true}
use mathlib.Core.List.{List, [], ◌∷◌, ◌++◌, map, append_assoc, append-nil}
use mathlib.Core.Option.{Option, none, some}
use Prim.Native.Nat.{ℕ, zero, suc, ◌+◌, ◌-◌, ◌%◌, ◌≤◌, ◌<◌}
use native.Mathlib.Omega.{arith}
use lib.Dec.{eqb}
use lib.ListN.{length, take, drop, get_or, length-append, length-map}
use lib.Seq.{take_at, drop_at}
use borrow.Author.Tests.{eqb-true, eq-eqb, ne_eqb, not-true}
use Rattle.metadata.specs.Names.{Name, same}
use Rattle.metadata.specs.Bytes.{joined}
use Rattle.metadata.proofs.DictionaryLaws.{same_equal, equal_same, differs_same, below_self}
use Rattle.container.specs.declared.Entry.{Entry}
use Rattle.container.specs.Entries.{ids_of, offsets_of}
use Rattle.container.specs.Sort.{name_at}
use Rattle.container.proofs.SortLaws.{Mem}
use Rattle.measure.specs.Measure.{measured}
use Rattle.lexicon.proofs.DictionaryLaws.{both}
use Rattle.grammar.specs.Grammar.{Shape, Shapes, layout, layouts, starts_from, among, starting, Fits, FitsAll}
use Rattle.grammar.specs.Grammar as grammar
use Rattle.grammar.specs.Tests.{list_from, list_count, list_offsets, object_from, object_count, stored_ids, object_offsets}
use Rattle.grammar.specs.Fields.{shape_at}
use Rattle.grammar.proofs.ShapeLaws.{held_list, held_object}
use Rattle.grammar.proofs.HeadLaws.{list_parts, object_parts}
use Rattle.grammar.proofs.CutLaws.{shape_some, shape_measured}
use Rattle.live.specs.Words.{Step, field}
use Rattle.live.specs.Live.{Live, live_fields, live_of, live_elements, live_at}
use Rattle.live.specs.Texts.{Found, under, field_step, labelled, list_data, object_data, texts_of, child_texts, element_at, field_at}
use Rattle.live.proofs.ListLaws.{some_inj, none_some, mem_append, left, right, mem_map, mapped, Rises}

-- ---- parts of bytes

-- these bytes are among those, from place n on
pub record Part (whole bytes : List ℕ) (n : ℕ) : Type 0 where
  pub before : List ℕ
  pub behind : List ℕ
  pub split : whole ≡ before ++ (bytes ++ behind)
  pub size : length before ≡ n

pub part_all : (v : List ℕ) → Part v v 0
part_all v = record { before = []; behind = []; split = sym (append-nil v); size = refl }

pub part_in : {v p q : List ℕ} {n m : ℕ} → Part v p n → Part p q m → Part v q (n + m)
part_in {v} {p} {q} x y =
    let l = length-append x.before y.before in
    let a = x.size in
    let b = y.size in
    let inner : p ++ x.behind ≡ y.before ++ (q ++ (y.behind ++ x.behind)) =
    ap (λ z. z ++ x.behind) y.split ∙ (append_assoc y.before (q ++ y.behind) x.behind ∙ ap (λ z. y.before ++ z) (append_assoc q y.behind x.behind)) in
    record {
      before = x.before ++ y.before;
      behind = y.behind ++ x.behind;
      split = x.split ∙ (ap (λ z. x.before ++ z) inner ∙ sym (append_assoc x.before y.before (q ++ (y.behind ++ x.behind))));
      size = omega arith;
    }

pub part_end : (h v : List ℕ) → Part (h ++ v) v (length h)
part_end h v = record { before = h; behind = []; split = ap (λ z. h ++ z) (sym (append-nil v)); size = refl }

-- a value that fits, where it starts among bytes
pub record ValueAt (v : List ℕ) (t : Shape) (n : ℕ) : Type 0 where
  pub size : measured (drop n v) ≡ length (layout t)
  pub part : take (measured (drop n v)) (drop n v) ≡ layout t
  pub room : n + length (layout t) ≤ length v

pub value_there : (names : List Name) (d : ℕ) (v : List ℕ) (t : Shape) (n : ℕ) → Fits names d t → Part v (layout t) n → ValueAt v t n
value_there names d v t n h p =
    let a = p.size in
    let e : drop n v ≡ layout t ++ p.behind = ap (drop n) p.split ∙ drop_at p.before (layout t ++ p.behind) n a in
    let s : measured (drop n v) ≡ length (layout t) = ap measured e ∙ shape_measured names d t p.behind h in
    let l = ap length p.split ∙ length-append p.before (layout t ++ p.behind) in
    let k = length-append (layout t) p.behind in
    record { size = s; part = rw (s, e) (take_at (layout t) p.behind (length (layout t)) refl); room = omega arith }

-- ---- t is value number k of these and starts at offset n, where the first has number i and starts at `at`

abbrev pub Stands : ℕ → ℕ → Shape → ℕ → ℕ → Shapes → Type 0
Stands k n t i at grammar.none = ⊥
Stands k n t i at (grammar.more u ts) = ((k ≡ i) × (n ≡ at) × (t ≡ u)) ⊎ Stands k n t (suc i) (at + length (layout u)) ts

pub stands_low : (k n : ℕ) (t : Shape) (i at : ℕ) (ts : Shapes) → Stands k n t i at ts → at ≤ n
stands_low k n t i at grammar.none s = absurd s
stands_low k n t i at (grammar.more u ts) (inl e) = omega (arith, e.1)
stands_low k n t i at (grammar.more u ts) (inr s) = omega (arith, stands_low k n t (suc i) (at + length (layout u)) ts s)

number_low : (k n : ℕ) (t : Shape) (i at : ℕ) (ts : Shapes) → Stands k n t i at ts → i ≤ k
number_low k n t i at grammar.none s = absurd s
number_low k n t i at (grammar.more u ts) (inl e) = omega (arith, e.0)
number_low k n t i at (grammar.more u ts) (inr s) = omega (arith, number_low k n t (suc i) (at + length (layout u)) ts s)

pub stands_fits : (names : List Name) (d k n : ℕ) (t : Shape) (i at : ℕ) (ts : Shapes) → FitsAll names d ts → Stands k n t i at ts → Fits names d t
stands_fits names d k n t i at grammar.none f s = absurd s
stands_fits names d k n t i at (grammar.more u ts) f (inl e) = rw e.2 f.0
stands_fits names d k n t i at (grammar.more u ts) f (inr s) = stands_fits names d k n t (suc i) (at + length (layout u)) ts f.1 s

-- of a container's values, one container less
pub inner_fits : (names : List Name) (d k n : ℕ) (t : Shape) (ts : Shapes) → FitsAll names (suc d - 1) ts → Stands k n t 0 0 ts → Fits names d t
inner_fits names d k n t ts f s =
    let z : suc d - 1 ≡ d = omega arith in
    stands_fits names d k n t 0 0 ts (rw z at f) s

-- of two, the first ends where the second starts, or before
pub stands_apart : (k n : ℕ) (t : Shape) (l m : ℕ) (u : Shape) (i at : ℕ) (ts : Shapes) → Stands k n t i at ts → Stands l m u i at ts → n < m → n + length (layout t) ≤ m
stands_apart k n t l m u i at grammar.none s r h = absurd s
stands_apart k n t l m u i at (grammar.more v ts) (inl e) (inl f) h = absurd (omega (arith, e.1, f.1))
stands_apart k n t l m u i at (grammar.more v ts) (inl e) (inr r) h = rw e.2 (omega (arith, e.1, stands_low l m u (suc i) (at + length (layout v)) ts r))
stands_apart k n t l m u i at (grammar.more v ts) (inr s) (inl f) h = absurd (omega (arith, f.1, stands_low k n t (suc i) (at + length (layout v)) ts s))
stands_apart k n t l m u i at (grammar.more v ts) (inr s) (inr r) h = stands_apart k n t l m u (suc i) (at + length (layout v)) ts s r h

pub stands_part : (k n : ℕ) (t : Shape) (i at : ℕ) (ts : Shapes) → Stands k n t i at ts → Part (joined (layouts ts)) (layout t) (n - at)
unfolding layout joined
stands_part k n t i at grammar.none s = absurd s
stands_part k n t i at (grammar.more u ts) (inl e) =
    let p = e.1 in
    let z : n - at ≡ 0 = omega arith in
    rw (e.2, z) (record { before = []; behind = joined (layouts ts); split = refl; size = refl })
stands_part k n t i at (grammar.more u ts) (inr s) =
    let low = stands_low k n t (suc i) (at + length (layout u)) ts s in
    let z : n - at ≡ length (layout u) + (n - (at + length (layout u))) = omega arith in
    rw z (part_in (part_end (layout u) (joined (layouts ts))) (stands_part k n t (suc i) (at + length (layout u)) ts s))

-- behind a header
pub value_part : (h : List ℕ) (k n : ℕ) (t : Shape) (ts : Shapes) → Stands k n t 0 0 ts → Part (h ++ joined (layouts ts)) (layout t) (length h + n)
value_part h k n t ts s =
    let z : n - 0 ≡ n = omega arith in
    part_in (part_end h (joined (layouts ts))) (rw z at (stands_part k n t 0 0 ts s))

pub stands_shape : (names : List Name) (d k n : ℕ) (t : Shape) (i at : ℕ) (ts : Shapes) → FitsAll names d ts → Stands k n t i at ts → shape_at n at ts ≡ t
unfolding shape_at
stands_shape names d k n t i at grammar.none f s = absurd s
stands_shape names d k n t i at (grammar.more u ts) f (inl e) = rw (eq-eqb n at e.1) (sym e.2)
stands_shape names d k n t i at (grammar.more u ts) f (inr s) =
    let low = stands_low k n t (suc i) (at + length (layout u)) ts s in
    let some = shape_some names d u f.0 in
    rw (ne_eqb n at (omega arith)) (stands_shape names d k n t (suc i) (at + length (layout u)) ts f.1 s)

pub among_stands : (n i at : ℕ) (ts : Shapes) → among n (starts_from at (layouts ts)) ≡ true → (k : ℕ) × (t : Shape) × Stands k n t i at ts
unfolding among starts_from layout
among_stands n i at grammar.none h = absurd (false≢true h)
among_stands n i at (grammar.more u ts) h = go (eqb n at) refl h (among_stands n (suc i) (at + length (layout u)) ts)
  where
    next : ℕ
    next = at + length (layout u)

    go : (b : Bool) → eqb n at ≡ b → (b || among n (starts_from next (layouts ts))) ≡ true
        → (among n (starts_from next (layouts ts)) ≡ true → (k : ℕ) × (t : Shape) × Stands k n t (suc i) next ts) → (k : ℕ) × (t : Shape) × Stands k n t i at (grammar.more u ts)
    go true e h f = (i, u, inl (refl, eqb-true n at e, refl))
    go false e h f = let r = f h in (r.0, r.1, inr r.2)

-- by its number in the offset table
pub stands_start : (k n : ℕ) (t : Shape) (i at : ℕ) (ts : Shapes) → Stands k n t i at ts → get_or (starts_from at (layouts ts)) (k - i) 0 ≡ n
unfolding starts_from layout
stands_start k n t i at grammar.none s = absurd s
stands_start k n t i at (grammar.more u ts) (inl e) =
    let p = e.0 in
    let z : k - i ≡ 0 = omega arith in
    rw z (sym e.1)
stands_start k n t i at (grammar.more u ts) (inr s) =
    let low = number_low k n t (suc i) (at + length (layout u)) ts s in
    let z : k - i ≡ suc (k - suc i) = omega arith in
    rw z (stands_start k n t (suc i) (at + length (layout u)) ts s)

pub start_stands : (k i at : ℕ) (ts : Shapes) → k < length (starts_from at (layouts ts)) → (t : Shape) × Stands (i + k) (get_or (starts_from at (layouts ts)) k 0) t i at ts
unfolding starts_from layout
start_stands k i at grammar.none l = absurd (omega arith)
start_stands zero i at (grammar.more u ts) l = (u, inl (omega arith, refl, refl))
start_stands (suc k) i at (grammar.more u ts) l =
    let r = start_stands k (suc i) (at + length (layout u)) ts (omega arith) in
    let z : i + suc k ≡ suc i + k = omega arith in
    (r.0, inr (subst (λ x. Stands x (get_or (starts_from (at + length (layout u)) (layouts ts)) k 0) r.0 (suc i) (at + length (layout u)) ts) (sym z) r.1))

-- ---- where the data begins, by the header

pub record ListLaid (v : List ℕ) (w : ℕ) (big : Bool) (ts : Shapes) : Type 0 where
  pub kind : get_or v 0 0 % 4 ≡ 3
  pub from : list_from v ≡ list_data w big ts
  pub count : list_count v ≡ length (starts_from 0 (layouts ts))
  pub offsets : list_offsets v ≡ starts_from 0 (layouts ts)
  pub rest : drop (list_from v) v ≡ joined (layouts ts)

pub list_laid : (names : List Name) (d w : ℕ) (big : Bool) (ts : Shapes) → Fits names d (grammar.list w big ts) → ListLaid (layout (grammar.list w big ts)) w big ts
unfolding layout
list_laid names d w big ts h =
    let p = list_parts w big (starts_from 0 (layouts ts)) (joined (layouts ts)) (held_list h.1) in
    record { kind = p.kind; from = p.from; count = p.count; offsets = p.offsets; rest = p.rest }

pub record ObjectLaid (v : List ℕ) (w u : ℕ) (big : Bool) (es : List Entry) (ts : Shapes) : Type 0 where
  pub kind : get_or v 0 0 % 4 ≡ 2
  pub from : object_from v ≡ object_data w u big es ts
  pub count : object_count v ≡ length es
  pub ids : stored_ids v ≡ ids_of es
  pub offsets : object_offsets v ≡ offsets_of es
  pub rest : drop (object_from v) v ≡ joined (layouts ts)

pub object_laid : (names : List Name) (d w u : ℕ) (big : Bool) (es : List Entry) (ts : Shapes) → Fits names d (grammar.object w u big es ts)
    → ObjectLaid (layout (grammar.object w u big es ts)) w u big es ts
unfolding layout
object_laid names d w u big es ts h =
    let p = object_parts w u big (ids_of es) (offsets_of es) (joined (layouts ts)) (held_object es h.1) in
    record { kind = p.kind; from = p.from; count = p.count ∙ length-map es _; ids = p.ids; offsets = p.offsets; rest = p.rest }

-- ---- texts by values

pub record ChildText (names : List Name) (steps : ℕ → ℕ → Option Step) (from i at : ℕ) (ts : Shapes) (f : Found) : Type 0 where
  pub number : ℕ
  pub offset : ℕ
  pub value : Shape
  pub way : Step
  pub inner : Found
  pub stands : Stands number offset value i at ts
  pub stepped : steps number offset ≡ some way
  pub listed : Mem inner (texts_of names value)
  pub told : f ≡ under way (from + offset) inner

labelled_text : (l : Option Step) (at : ℕ) (fs : List Found) (x : Found) → Mem x (labelled l at fs) → (s : Step) × (g : Found) × (l ≡ some s) × Mem g fs × (x ≡ under s at g)
labelled_text none at fs x m = absurd m
labelled_text (some s) at fs x m = let r = mem_map (under s at) x fs m in (s, r.0, refl, r.1, r.2)

labelled_has : (l : Option Step) (s : Step) (at : ℕ) (fs : List Found) (g : Found) → l ≡ some s → Mem g fs → Mem (under s at g) (labelled l at fs)
labelled_has l s at fs g e m = rw e (mapped (under s at) g fs m)

module _ (names : List Name) (steps : ℕ → ℕ → Option Step) (from : ℕ) where
  pub child_text : (i at : ℕ) (ts : Shapes) (f : Found) → Mem f (child_texts names steps from i at ts) → ChildText names steps from i at ts f
  unfolding texts_of
  child_text i at grammar.none f m = absurd m
  child_text i at (grammar.more t ts) f m =
      go (mem_append f (labelled (steps i at) (from + at) (texts_of names t)) (child_texts names steps from (suc i) (at + length (layout t)) ts) m)
      (child_text (suc i) (at + length (layout t)) ts f)
    where
      next : ℕ
      next = at + length (layout t)

      go : Mem f (labelled (steps i at) (from + at) (texts_of names t)) ⊎ Mem f (child_texts names steps from (suc i) next ts)
          → (Mem f (child_texts names steps from (suc i) next ts) → ChildText names steps from (suc i) next ts f) → ChildText names steps from i at (grammar.more t ts) f
      go (inl k) others =
          let r = labelled_text (steps i at) (from + at) (texts_of names t) f k in
          record { number = i; offset = at; value = t; way = r.0; inner = r.1; stands = inl (refl, refl, refl); stepped = r.2; listed = r.3; told = r.4 }
      go (inr k) others =
          let r = others k in
          record {
            number = r.number;
            offset = r.offset;
            value = r.value;
            way = r.way;
            inner = r.inner;
            stands = inr r.stands;
            stepped = r.stepped;
            listed = r.listed;
            told = r.told;
          }

  pub text_child : (k n : ℕ) (t : Shape) (s : Step) (g : Found) (i at : ℕ) (ts : Shapes) → Stands k n t i at ts → steps k n ≡ some s → Mem g (texts_of names t)
      → Mem (under s (from + n) g) (child_texts names steps from i at ts)
  unfolding texts_of
  text_child k n t s g i at grammar.none r p m = absurd r
  text_child k n t s g i at (grammar.more u ts) (inl e) p m =
      rw e.1 (left (under s (from + at) g) (labelled (steps i at) (from + at) (texts_of names u)) (child_texts names steps from (suc i) (at + length (layout u)) ts)
      (labelled_has (steps i at) s (from + at) (texts_of names u) g (rw (e.0, e.1) at p) (rw e.2 at m)))
  text_child k n t s g i at (grammar.more u ts) (inr r) p m =
      right (under s (from + n) g) (labelled (steps i at) (from + at) (texts_of names u)) (child_texts names steps from (suc i) (at + length (layout u)) ts)
      (text_child k n t s g (suc i) (at + length (layout u)) ts r p m)

-- ---- live children of a list

pub element_stands : (names : List Name) (j i at : ℕ) (ts : Shapes) (l : Live) → element_at j (live_elements names ts) ≡ some l
    → (n : ℕ) × (t : Shape) × Stands (i + j) n t i at ts × (l ≡ live_of names t)
unfolding element_at live_of
element_stands names j i at grammar.none l e = absurd (none_some l e)
element_stands names zero i at (grammar.more t ts) l e = (at, t, inl (omega arith, refl, refl), sym (some_inj (live_of names t) l e))
element_stands names (suc j) i at (grammar.more t ts) l e =
    let r = element_stands names j (suc i) (at + length (layout t)) ts l e in
    let z : i + suc j ≡ suc i + j = omega arith in
    (r.0, r.1, inr (subst (λ x. Stands x r.0 r.1 (suc i) (at + length (layout t)) ts) (sym z) r.2), r.3)

pub stands_element : (names : List Name) (k n : ℕ) (t : Shape) (i at : ℕ) (ts : Shapes) → Stands k n t i at ts → element_at (k - i) (live_elements names ts) ≡ some (live_of names t)
unfolding element_at live_of
stands_element names k n t i at grammar.none s = absurd s
stands_element names k n t i at (grammar.more u ts) (inl e) =
    let p = e.0 in
    let z : k - i ≡ 0 = omega arith in
    rw z (ap (λ x. some (live_of names x)) (sym e.2))
stands_element names k n t i at (grammar.more u ts) (inr s) =
    let low = number_low k n t (suc i) (at + length (layout u)) ts s in
    let z : k - i ≡ suc (k - suc i) = omega arith in
    rw z (stands_element names k n t (suc i) (at + length (layout u)) ts s)

-- ---- live children of an object

pub live_shape : (names : List Name) (n at : ℕ) (ts : Shapes) → live_at names n at ts ≡ live_of names (shape_at n at ts)
unfolding live_of shape_at
live_shape names n at grammar.none = refl
live_shape names n at (grammar.more t ts) = go (eqb n at) (live_shape names n (at + length (layout t)) ts)
  where
    next : ℕ
    next = at + length (layout t)

    go : (b : Bool) → live_at names n next ts ≡ live_of names (shape_at n next ts)
        → cond b (live_of names t) (live_at names n next ts) ≡ live_of names (cond b t (shape_at n next ts))
    go true e = refl
    go false e = e

pub stands_live : (names : List Name) (d k n : ℕ) (t : Shape) (i at : ℕ) (ts : Shapes) → FitsAll names d ts → Stands k n t i at ts → live_at names n at ts ≡ live_of names t
stands_live names d k n t i at ts f s = live_shape names n at ts ∙ ap (live_of names) (stands_shape names d k n t i at ts f s)

-- a step to what starts at an offset is to a field of an ascending object that is live there
pub step_field : (all : ℕ → Live) (names : List Name) (es : List Entry) (n : ℕ) (s : Step) → Rises (map (name_at names) (ids_of es)) → field_step names es n ≡ some s
    → (m : Name) × (s ≡ field m) × Mem m (map (name_at names) (ids_of es)) × (field_at m (live_fields all names es) ≡ some (all n))
unfolding field_step field_at live_fields
step_field all names [] n s r e = absurd (none_some s e)
step_field all names (x ∷ es) n s r e = go (eqb x.offset n) refl e (step_field all names es n s r.1)
  where
    own : Name
    own = name_at names x.id

    later : List Name
    later = map (name_at names) (ids_of es)

    go : (t : Bool) → eqb x.offset n ≡ t → cond t (some (field own)) (field_step names es n) ≡ some s
        → (field_step names es n ≡ some s → (m : Name) × (s ≡ field m) × Mem m later × (field_at m (live_fields all names es) ≡ some (all n)))
        → (m : Name) × (s ≡ field m) × Mem m (own ∷ later) × (cond (same own m) (some (all x.offset)) (field_at m (live_fields all names es)) ≡ some (all n))
    go true p e f = (own, sym (some_inj (field own) s e), inl refl, rw (equal_same {a = own} refl) (ap (λ k. some (all k)) (eqb-true x.offset n p)))
    go false p e f =
        let q = f e in
        let b = r.0 q.0 q.2 in
        (q.0, q.1, inr q.2, rw (differs_same own q.0 (λ z. true≢false (sym (rw z at b) ∙ below_self q.0))) q.3)

step_among : (names : List Name) (es : List Entry) (n : ℕ) (s : Step) → field_step names es n ≡ some s → among n (offsets_of es) ≡ true
unfolding field_step among
step_among names [] n s e = absurd (none_some s e)
step_among names (x ∷ es) n s e = go (eqb x.offset n) refl e (step_among names es n s)
  where
    go : (t : Bool) → eqb x.offset n ≡ t → cond t (some (field (name_at names x.id))) (field_step names es n) ≡ some s
        → (field_step names es n ≡ some s → among n (offsets_of es) ≡ true) → (eqb n x.offset || among n (offsets_of es)) ≡ true
    go true p e f = rw (eq-eqb n x.offset (sym (eqb-true x.offset n p)))
    go false p e f = rw (f e) (or-true (eqb n x.offset))

pub record Start (starts : List ℕ) (n : ℕ) (ns : List ℕ) : Type 0 where
  pub one : among n starts ≡ true
  pub once : among n ns ≡ false
  pub others : starting starts ns ≡ true

pub start_parts : (starts : List ℕ) (n : ℕ) (ns : List ℕ) → starting starts (n ∷ ns) ≡ true → Start starts n ns
unfolding starting
start_parts starts n ns h =
    let p = both {a = among n starts} h in
    let q = both {a = not (among n ns)} p.1 in
    record { one = p.0; once = not-true (among n ns) q.0; others = q.1 }

pub field_step_lem : (all : ℕ → Live) (names : List Name) (starts : List ℕ) (es : List Entry) (m : Name) (l : Live) → starting starts (offsets_of es) ≡ true
    → field_at m (live_fields all names es) ≡ some l → (n : ℕ) × (among n starts ≡ true) × (field_step names es n ≡ some (field m)) × (all n ≡ l)
unfolding field_at live_fields field_step
field_step_lem all names starts [] m l h e = absurd (none_some l e)
field_step_lem all names starts (x ∷ es) m l h e = go (same own m) refl e (start_parts starts x.offset (offsets_of es) h) (field_step_lem all names starts es m l)
  where
    own : Name
    own = name_at names x.id

    go : (t : Bool) → same own m ≡ t → cond t (some (all x.offset)) (field_at m (live_fields all names es)) ≡ some l → Start starts x.offset (offsets_of es)
        → (starting starts (offsets_of es) ≡ true → field_at m (live_fields all names es) ≡ some l
        → (n : ℕ) × (among n starts ≡ true) × (field_step names es n ≡ some (field m)) × (all n ≡ l))
        → (n : ℕ) × (among n starts ≡ true) × (cond (eqb x.offset n) (some (field own)) (field_step names es n) ≡ some (field m)) × (all n ≡ l)
    go true q e s f =
        (x.offset, s.one, rw (eq-eqb x.offset x.offset refl) (ap (λ z. some (field z)) (same_equal own m q)), some_inj (all x.offset) l e)
    go false q e s f =
        let r = f s.others e in
        let apart : x.offset ≡ r.0 → ⊥ = λ k. true≢false (sym (step_among names es r.0 (field m) r.2) ∙ (rw k at s.once)) in
        (r.0, r.1, rw (ne_eqb x.offset r.0 apart) r.2, r.3)

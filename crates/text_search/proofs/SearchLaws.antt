-- Over a reading, the least place found in its bytes is `least_of`.
use mathlib.Core.Path.{◌≡◌, refl, sym, ◌∙◌, ap}
use mathlib.Core.Bool.{Bool, true, false, cond}
use mathlib.Core.List.{List, [], ◌∷◌}
use Prim.Native.Nat.{ℕ, zero, suc, ◌+◌, ◌-◌, ◌≤◌, min}
use native.Mathlib.Omega.{arith}
use lib.Dec.{ltb}
use lib.ListN.{length, drop}
use lib.Seq.{take_at, drop_at, drop-drop}
use borrow.Author.Tests.{ltb-true, ltb-false}
use Rattle.metadata.specs.Names.{Name}
use Rattle.metadata.specs.Bytes.{joined}
use Rattle.container.specs.declared.Entry.{Entry}
use Rattle.container.specs.Layout.{object_header_at}
use Rattle.container.specs.Entries.{ids_of, offsets_of}
use Rattle.measure.specs.Measure.{measured}
use Rattle.measure.proofs.MeasureLaws.{measured_within}
use Rattle.grammar.specs.Grammar.{Shape, Shapes, layout, layouts, starts_from, starting, Fits, FitsAll, ReadsValue, most_containers}
use Rattle.grammar.specs.Grammar as grammar
use Rattle.grammar.specs.Tests.{list_from, object_from}
use Rattle.grammar.specs.Fields.{shape_at}
use Rattle.grammar.proofs.CutLaws.{shape_some, shape_measured}
use Rattle.header_reader.specs.Heads.{value_from}
use Rattle.live.specs.Live.{leaf_of}
use Rattle.live.specs.Ways.{is_wanted, least_element, least_field, least_of}
use Rattle.live.proofs.ChildLaws.{value_there, value_part, Stands, stands_fits, stands_shape, among_stands, Start, start_parts, list_laid, object_laid}
use Rattle.live.proofs.LeastLaws.{least_skip}
use Rattle.text_search.specs.Search.{less_at, elements_in, fields_in, least_in}
use Rattle.text_search.proofs.KindLaws.{least_leaf_lem, least_list, least_object}
use Rattle.text_search.proofs.WalkLaws.{none_more, elements_stop, elements_next}

-- ---- a scalar

leaf_is : (t : Bool) (at best : ℕ) → at ≤ best → at + cond t 0 (best - at) ≡ cond t (min at best) best
leaf_is true at best h = omega arith
leaf_is false at best h = omega arith

-- each of an object's values is what stands in its bytes from the value's offset on
abbrev Placed : List ℕ → Shapes → Type 0
Placed v ts = (k n : ℕ) (t : Shape) → Stands k n t 0 0 ts → value_from (object_from v + n) v ≡ layout t

-- ---- values of a container, where one container less is known; places in the bytes v are counted from `base`

module _ (names : List Name) (d : ℕ) (deeper : ℕ → List ℕ → ℕ) (least : ℕ → ℕ → Shape → ℕ)
    (is : (t : Shape) (at best : ℕ) → Fits names d t → at ≤ best → at + deeper (best - at) (layout t) ≡ least at best t)
    (skip : (t : Shape) (at best : ℕ) → Fits names d t → best ≤ at → least at best t ≡ best) (v : List ℕ) (base : ℕ) where
  less_is : (t : Shape) (n best : ℕ) → Fits names d t → value_from n v ≡ layout t → base ≤ best
      → base + less_at deeper v n (best - base) ≡ least (base + n) best t
  less_is t n best f a h = go (ltb n (best - base)) refl
    where
      go : (u : Bool) → ltb n (best - base) ≡ u
          → base + cond u (n + deeper (best - base - n) (value_from n v)) (best - base) ≡ least (base + n) best t
      go true e =
          let l = ltb-true n (best - base) e in
          let z : best - base - n ≡ best - (base + n) = omega arith in
          rw (a, z) (omega (arith, is t (base + n) best f (omega arith)))
      go false e = let l = ltb-false n (best - base) e in omega (arith, skip t (base + n) best f (omega arith))

  -- what starts behind the least so far changes nothing
  elements_skip : (at best : ℕ) (ts : Shapes) → FitsAll names d ts → best ≤ at → least_element least at best ts ≡ best
  unfolding least_element
  elements_skip at best grammar.none f h = refl
  elements_skip at best (grammar.more t ts) f h = rw (skip t at best f.0 h) (elements_skip (at + length (layout t)) best ts f.1 (omega arith))

  elements_is : (fuel n best : ℕ) (ts : Shapes) → FitsAll names d ts → drop n v ≡ joined (layouts ts) → length v - n ≤ fuel → base ≤ best
      → base + elements_in deeper fuel v n (best - base) ≡ least_element least (base + n) best ts
  unfolding least_element layout joined
  elements_is fuel n best grammar.none f e l h =
      let none : measured (drop n v) ≡ 0 = rw e (omega (arith, measured_within [])) in
      omega (arith, elements_stop deeper v fuel n (best - base) (none_more deeper v n (best - base) none))
  elements_is fuel n best (grammar.more t ts) f e l h =
      go (ltb n (best - base)) refl (elements_is fuel (n + length (layout t)) (least (base + n) best t) ts f.1)
    where
      all : List ℕ
      all = joined (layouts ts)

      size : measured (drop n v) ≡ length (layout t)
      size = ap measured e ∙ shape_measured names d t all f.0

      value : value_from n v ≡ layout t
      value = rw (size, e) (take_at (layout t) all (length (layout t)) refl)

      rest : drop (n + length (layout t)) v ≡ all
      rest = sym (drop-drop (length (layout t)) n v) ∙ (ap (drop (length (layout t))) e ∙ drop_at (layout t) all (length (layout t)) refl)

      best' : ℕ
      best' = least (base + n) best t

      go : (u : Bool) → ltb n (best - base) ≡ u
          → (drop (n + length (layout t)) v ≡ all → length v - (n + length (layout t)) ≤ fuel → base ≤ best'
          → base + elements_in deeper fuel v (n + length (layout t)) (best' - base) ≡ least_element least (base + (n + length (layout t))) best' ts)
          → base + elements_in deeper fuel v n (best - base) ≡ least_element least (base + n + length (layout t)) best' ts
      go true q others =
          let k = ltb-true n (best - base) q in
          let x = rw q at (less_is t n best f.0 value h) in
          let y : n + deeper (best - base - n) (value_from n v) ≡ best' - base = omega arith in
          let z : base + n + length (layout t) ≡ base + (n + length (layout t)) = omega arith in
          let some = shape_some names d t f.0 in
          rw (elements_next deeper v fuel n (best - base) l k (omega (arith, size)), y, size, z) (others rest (omega arith) (omega arith))
      go false q others =
          let k = ltb-false n (best - base) q in
          let x = skip t (base + n) best f.0 (omega arith) in
          let y = elements_skip (base + n + length (layout t)) best ts f.1 (omega arith) in
          let stop = elements_stop deeper v fuel n (best - base) (rw q) in
          rw (x, y, stop) (omega arith)

  fields_is : (best : ℕ) (ts : Shapes) (es : List Entry) → FitsAll names d ts → starting (starts_from 0 (layouts ts)) (offsets_of es) ≡ true → Placed v ts
      → base ≤ best → base + fields_in deeper v (best - base) (offsets_of es) ≡ least_field least (base + object_from v) best ts es
  unfolding least_field fields_in
  fields_is best ts [] f s g h = omega arith
  fields_is best ts (e ∷ es) f s g h = go (start_parts (starts_from 0 (layouts ts)) e.offset (offsets_of es) s)
      (fields_is (least (base + object_from v + e.offset) best (shape_at e.offset 0 ts)) ts es f)
    where
      here : ℕ
      here = object_from v + e.offset

      best' : ℕ
      best' = least (base + object_from v + e.offset) best (shape_at e.offset 0 ts)

      go : Start (starts_from 0 (layouts ts)) e.offset (offsets_of es)
          → (starting (starts_from 0 (layouts ts)) (offsets_of es) ≡ true → Placed v ts → base ≤ best'
          → base + fields_in deeper v (best' - base) (offsets_of es) ≡ least_field least (base + object_from v) best' ts es)
          → base + fields_in deeper v (less_at deeper v here (best - base)) (offsets_of es) ≡ least_field least (base + object_from v) best' ts es
      go x others =
          let c = among_stands e.offset 0 0 ts x.one in
          let shape = stands_shape names d c.0 e.offset c.1 0 0 ts f c.2 in
          let z : base + object_from v + e.offset ≡ base + here = omega arith in
          let a : base + less_at deeper v here (best - base) ≡ best' =
          rw (shape, z) (less_is c.1 here best (stands_fits names d c.0 e.offset c.1 0 0 ts f c.2) (g c.0 e.offset c.1 c.2) h) in
          let b : less_at deeper v here (best - base) ≡ best' - base = omega arith in
          rw b (others x.others g (omega arith))

-- ---- a value

pub least_is : (names : List Name) (d : ℕ) (wanted : List ℕ) (t : Shape) (at best : ℕ) → Fits names d t → at ≤ best
    → at + least_in d wanted (best - at) (layout t) ≡ least_of d wanted at best t
unfolding least_of layout
least_is names zero wanted (grammar.scalar s) at best h l = rw (least_leaf_lem wanted zero (best - at) s) (leaf_is (is_wanted wanted (leaf_of s)) at best l)
least_is names (suc d) wanted (grammar.scalar s) at best h l = rw (least_leaf_lem wanted (suc d) (best - at) s) (leaf_is (is_wanted wanted (leaf_of s)) at best l)
least_is names zero wanted (grammar.list w big ts) at best h l = absurd (omega (arith, h.0))
least_is names zero wanted (grammar.object w u big es ts) at best h l = absurd (omega (arith, h.0))
least_is names (suc d) wanted (grammar.list w big ts) at best h l =
    let v = layout (grammar.list w big ts) in
    let a = list_laid names (suc d) w big ts h in
    let z : suc d - 1 ≡ d = omega arith in
    rw (least_list wanted v (suc d) (best - at) (λ e. absurd (omega arith)) a.kind, z, ← a.from)
    (elements_is names d (least_in d wanted) (least_of d wanted) (least_is names d wanted) (λ x n b. least_skip names d wanted n b x) v at
    (length v) (list_from v) best ts (rw z at h.2) a.rest (omega arith) l)
least_is names (suc d) wanted (grammar.object w u big es ts) at best h l =
    let v = layout (grammar.object w u big es ts) in
    let a = object_laid names (suc d) w u big es ts h in
    let z : suc d - 1 ≡ d = omega arith in
    let f : FitsAll names d ts = rw z at h.3 in
    let header = object_header_at w u big (ids_of es) (offsets_of es) (length (joined (layouts ts))) in
    let g : Placed v ts =
    λ k n x s. rw a.from (value_there names d v x (length header + n) (stands_fits names d k n x 0 0 ts f s) (value_part header k n x ts s)).part in
    rw (least_object wanted v (suc d) (best - at) (λ e. absurd (omega arith)) a.kind, z, a.offsets, ← a.from)
    (fields_is names d (least_in d wanted) (least_of d wanted) (least_is names d wanted) (λ x n b. least_skip names d wanted n b x) v at
    best ts es f h.2.offsets g l)

-- of a whole value that reads as t
pub least_read : (names : List Name) (v wanted : List ℕ) (t : Shape) → ReadsValue names v t
    → least_in most_containers wanted (length v) v ≡ least_of most_containers wanted 0 (length (layout t)) t
least_read names v wanted t r =
    let z : length (layout t) - 0 ≡ length (layout t) = omega arith in
    rw r.laid (omega (arith, rw z at (least_is names most_containers wanted t 0 (length (layout t)) r.fits (omega arith))))

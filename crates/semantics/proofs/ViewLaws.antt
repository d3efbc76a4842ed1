-- What a call sees of the record: the innermost container, its parent, their elements, the chain of marks.
use mathlib.Core.Path.{◌≡◌, refl, sym, ◌∙◌}
use mathlib.Core.Bool.{Bool, true, false, ◌&&◌, ◌||◌, true≢false}
use mathlib.Core.List.{List, [], ◌∷◌}
use Prim.Native.Nat.{ℕ, zero, suc, ◌-◌, ◌≤◌, ◌<◌}
use native.Mathlib.Omega.{arith}
use lib.Dec.{eqb, leb}
use lib.ListN.{length, get_or-eq_default}
use borrow.Author.Tests.{lt-ltb, le-ltb, le-leb, lt-leb, leb-true, leb-false, ne_eqb}
use Rattle.semantics.specs.declared.Container.{Container}
use Rattle.semantics.specs.declared.Counts.{Counts}
use Rattle.semantics.specs.declared.Mark.{Mark}
use Rattle.semantics.specs.Record.{no_container, container_at, innermost, parent_of, elements_at, inner_elements, parent_elements, encloses, rising, chained, slot_of, mark_at, marks_of, mark_at_start, mark_now, not_above, falling, marks_fit, marks_hold}

-- both tests of an `&&` that holds do
pub both : (t u : Bool) → (t && u) ≡ true → (t ≡ true) × (u ≡ true)
both true u e = (refl, e)
both false u e = absurd (true≢false (sym e))

and_assoc : (a b c : Bool) → ((a && b) && c) ≡ (a && (b && c))
and_assoc true b c = refl
and_assoc false b c = refl

and_true : (a : Bool) → (a && true) ≡ a
and_true true = refl
and_true false = refl

-- ---- the innermost of d, and its parent

pub inner_none : (ks : List Container) (d : ℕ) → d ≡ 0 → no_container ≡ innermost ks d
inner_none ks d e = rw (le-ltb 0 d (omega arith))

pub inner_at : (ks : List Container) (d : ℕ) → 0 < d → container_at ks (d - 1) ≡ innermost ks d
inner_at ks d h = rw (lt-ltb 0 d h)

pub inner_far : (ks : List Container) (d : ℕ) → length ks ≡ 64 → 64 < d → no_container ≡ innermost ks d
inner_far ks d e h = sym (get_or-eq_default ks no_container {n = d - 1} (omega arith)) ∙ inner_at ks d (omega arith)

pub parent_none : (ks : List Container) (d : ℕ) → d < 2 → no_container ≡ parent_of ks d
parent_none ks d h = rw (le-ltb 1 d (omega arith))

pub parent_at : (ks : List Container) (d : ℕ) → 2 ≤ d → container_at ks (d - 2) ≡ parent_of ks d
parent_at ks d h = rw (lt-ltb 1 d (omega arith))

pub parent_far : (ks : List Container) (d : ℕ) → length ks ≡ 64 → 65 < d → no_container ≡ parent_of ks d
parent_far ks d e h = sym (get_or-eq_default ks no_container {n = d - 2} (omega arith)) ∙ parent_at ks d (omega arith)

-- ---- their elements

pub elements_none : (ns : List ℕ) (d : ℕ) → d ≡ 0 → 0 ≡ inner_elements ns d
elements_none ns d e = rw (le-ltb 0 d (omega arith))

pub elements_at_lem : (ns : List ℕ) (d : ℕ) → 0 < d → elements_at ns (d - 1) ≡ inner_elements ns d
elements_at_lem ns d h = rw (lt-ltb 0 d h)

pub elements_far : (ns : List ℕ) (d : ℕ) → length ns ≡ 64 → 64 < d → 0 ≡ inner_elements ns d
elements_far ns d e h = sym (get_or-eq_default ns 0 {n = d - 1} (omega arith)) ∙ elements_at_lem ns d (omega arith)

pub siblings_none : (ns : List ℕ) (d : ℕ) → d < 2 → 0 ≡ parent_elements ns d
siblings_none ns d h = rw (le-ltb 1 d (omega arith))

pub siblings_at : (ns : List ℕ) (d : ℕ) → 2 ≤ d → elements_at ns (d - 2) ≡ parent_elements ns d
siblings_at ns d h = rw (lt-ltb 1 d (omega arith))

pub siblings_far : (ns : List ℕ) (d : ℕ) → length ns ≡ 64 → 65 < d → 0 ≡ parent_elements ns d
siblings_far ns d e h = sym (get_or-eq_default ns 0 {n = d - 2} (omega arith)) ∙ siblings_at ns d (omega arith)

-- ---- the chain: what was found so far, and what the rest gives, is the answer

pub record Rises (t : Bool) (ks : List Container) (ns : List ℕ) (ok : Bool) (i : ℕ) : Type 0 where
  pub same : (ok && rising ks ns i) ≡ t
  pub low : i < 64

pub rises_again : {t : Bool} {ks : List Container} {ns : List ℕ} {ok : Bool} {i : ℕ} {below : Bool} → Rises t ks ns ok i → 0 < i
    → below ≡ encloses (container_at ks (i - 1)) (elements_at ns (i - 1)) (container_at ks i) → Rises t ks ns (ok && below) (i - 1)
unfolding rising
rises_again {t} {ks} {ns} {ok} {i} {below} r h e = go i r h e
  where
    go : (i : ℕ) → Rises t ks ns ok i → 0 < i → below ≡ encloses (container_at ks (i - 1)) (elements_at ns (i - 1)) (container_at ks i) → Rises t ks ns (ok && below) (i - 1)
    go zero r h e = absurd (omega arith)
    go (suc i) r h e =
        let l = r.low in
        let p : suc i - 1 ≡ i = omega arith in
        rw p (record { same = rw (rw p at e) (and_assoc ok (encloses (container_at ks i) (elements_at ns i) (container_at ks (suc i))) (rising ks ns i)) ∙ r.same; low = omega arith })

pub rises_end : {t : Bool} {ks : List Container} {ns : List ℕ} {ok : Bool} {i : ℕ} → Rises t ks ns ok i → i ≡ 0 → ok ≡ t
unfolding rising
rises_end {t} {ks} {ns} {ok} r e = sym (and_true ok) ∙ (rw e at r.same)

pub chain_far : (ks : List Container) (ns : List ℕ) (d : ℕ) → 64 < d → false ≡ chained ks ns d
unfolding chained
chain_far ks ns d h = rw (lt-leb d 64 h)

pub chain_none : (ks : List Container) (ns : List ℕ) (d : ℕ) → d ≡ 0 → true ≡ chained ks ns d
unfolding chained rising
chain_none ks ns d e = rw e

pub chain_some : (ks : List Container) (ns : List ℕ) (d : ℕ) → d ≤ 64 → rising ks ns (d - 1) ≡ chained ks ns d
unfolding chained
chain_some ks ns d h = rw (le-leb d 64 h)

-- ---- the marks that are set in each: likewise

pub record MarksLeft (t : Bool) (ks : List Container) (ns ms : List ℕ) (c : Counts) (ok : Bool) (i : ℕ) : Type 0 where
  pub same : (ok && marks_hold ks ns ms c i) ≡ t
  pub low : i ≤ 64

pub marks_again : {t : Bool} {ks : List Container} {ns ms : List ℕ} {c : Counts} {ok : Bool} {i : ℕ} {fit : Bool} → MarksLeft t ks ns ms c ok i → 0 < i
    → fit ≡ marks_fit ms (i - 1) (container_at ks (i - 1)) (mark_now c (elements_at ns (i - 1)) (container_at ks (i - 1)).unique)
    → MarksLeft t ks ns ms c (ok && fit) (i - 1)
unfolding marks_hold
marks_again {t} {ks} {ns} {ms} {c} {ok} {i} {fit} r h e = go i r h e
  where
    go : (i : ℕ) → MarksLeft t ks ns ms c ok i → 0 < i
        → fit ≡ marks_fit ms (i - 1) (container_at ks (i - 1)) (mark_now c (elements_at ns (i - 1)) (container_at ks (i - 1)).unique)
        → MarksLeft t ks ns ms c (ok && fit) (i - 1)
    go zero r h e = absurd (omega arith)
    go (suc i) r h e =
        let l = r.low in
        let p : suc i - 1 ≡ i = omega arith in
        rw p
        (record { same = and_assoc ok fit (marks_hold ks ns ms c i) ∙ (rw (← (rw p at e)) at r.same); low = omega arith })

pub marks_end : {t : Bool} {ks : List Container} {ns ms : List ℕ} {c : Counts} {ok : Bool} {i : ℕ} → MarksLeft t ks ns ms c ok i → i ≡ 0 → ok ≡ t
unfolding marks_hold
marks_end {t} {ks} {ns} {ms} {c} {ok} r e = sym (and_true ok) ∙ (rw e at r.same)

-- ---- the entries of a mark that is set lie between its container's start and the present

abbrev Between : Mark → Mark → Mark → Type 0
Between start p now = (start.entries ≤ p.entries) × (p.entries ≤ now.entries)

not_above_entries : (object : Bool) (p q : Mark) → not_above object p q ≡ true → p.entries ≤ q.entries
not_above_entries object p q e = leb-true p.entries q.entries (fourth (leb p.value q.value) (leb p.names q.names) (leb p.text q.text) _ _ e)
  where
    fourth : (a b c d r : Bool) → (a && (b && (c && (d && r)))) ≡ true → d ≡ true
    fourth a b c d r e = (both d r (both c _ (both b _ (both a _ e).1).1).1).0

falling_entries : (object : Bool) (start : Mark) (ps : List Mark) (now : Mark) → falling object start ps now ≡ true → start.entries ≤ now.entries
unfolding falling
falling_entries object start [] now e = not_above_entries object start now e
falling_entries object start (p ∷ ps) now e =
    let b = both (not_above object p now) _ e in
    omega (arith, not_above_entries object p now b.0, falling_entries object start ps p b.1)

falling_at : (object : Bool) (start : Mark) (ms : List ℕ) (d n j : ℕ) (now : Mark) → falling object start (marks_of ms d n) now ≡ true → 0 < j → j ≤ n
    → Between start (mark_at ms (slot_of d j)) now
unfolding falling marks_of
falling_at object start ms d zero j now e l h = absurd (omega arith)
falling_at object start ms d (suc n) j now e l h =
    let latest = mark_at ms (slot_of d (suc n)) in
    let b = both (not_above object latest now) (falling object start (marks_of ms d n) latest) e in
    go latest b (leb j n) refl (falling_at object start ms d n j latest b.1 l) refl
  where
    go : (latest : Mark) → (not_above object latest now ≡ true) × (falling object start (marks_of ms d n) latest ≡ true) → (t : Bool) → leb j n ≡ t
        → (j ≤ n → Between start (mark_at ms (slot_of d j)) latest) → latest ≡ mark_at ms (slot_of d (suc n)) → Between start (mark_at ms (slot_of d j)) now
    go latest b true q f s =
        let i = f (leb-true j n q) in
        (i.0, omega (arith, i.1, not_above_entries object latest now b.0))
    go latest b false q f s =
        let r : j ≡ suc n = omega (arith, leb-false j n q) in
        rw (r, ← s) (falling_entries object start (marks_of ms d n) latest b.1, not_above_entries object latest now b.0)

-- of any of the first d containers
pub mark_between : (ks : List Container) (ns ms : List ℕ) (c : Counts) (d j : ℕ) → marks_hold ks ns ms c (suc d) ≡ true → 0 < j → j ≤ (container_at ks d).marks
    → Between (mark_at_start (container_at ks d)) (mark_at ms (slot_of d j)) (mark_now c 0 false)
unfolding marks_hold
mark_between ks ns ms c d j e l h =
    let k = container_at ks d in
    let now = mark_now c (elements_at ns d) k.unique in
    let f = (both (marks_fit ms d k now) _ e).0 in
    falling_at k.object (mark_at_start k) ms d k.marks j now (both (leb k.marks 16) _ (or_false (eqb k.marks 0) _ f (ne_eqb k.marks 0 (λ q. omega arith)))).1 l h
  where
    or_false : (t u : Bool) → (t || u) ≡ true → t ≡ false → u ≡ true
    or_false true u e f = absurd (true≢false f)
    or_false false u e f = e

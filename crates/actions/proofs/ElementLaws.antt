-- The elements that a call gives back, put where they belong: those of the record after the call.
use mathlib.Core.Path.{◌≡◌, refl, sym, ◌∙◌, ap}
use mathlib.Core.Bool.{Bool, true, false, cond, not}
use mathlib.Core.List.{List, [], ◌∷◌}
use Prim.Native.Nat.{ℕ, zero, suc, ◌+◌, ◌-◌, ◌≤◌, ◌<◌}
use native.Mathlib.Omega.{arith}
use lib.Dec.{leb, ltb}
use lib.ListN.{get_or, length, set}
use borrow.Author.Tests.{ltb-true, ltb-false, lt-ltb, le-ltb, leb-true, leb-false, le-leb, lt-leb}
use Rattle.std.specs.Prelude.{Option as Optional, Some, None}
use Rattle.container.specs.declared.Entry.{Entry}
use Rattle.semantics.specs.declared.Builder.{Builder}
use Rattle.semantics.specs.declared.View.{View}
use Rattle.semantics.specs.Record.{Storage, Call, register, append, open_in, close, roll_back, uniqueness, set_mark, return_to, finish, no_mark, view_of, inner_elements, parent_elements, in_list, is_open}
use Rattle.semantics.specs.Step.{appended, carried_out, closed, elements_after, elements_back, elements_with, registered, rolled_back}
use Rattle.actions.specs.declared.Moved.{Moved}
use Rattle.actions.specs.Actions.{elements_left, elements_put, moved_to, one_more, siblings_back}

-- what stands there, put there again
set_again : (ns : List ℕ) (i : ℕ) → set ns i (get_or ns i 0) ≡ ns
set_again [] i = refl
set_again (n ∷ ns) zero = refl
set_again (n ∷ ns) (suc i) = ap (λ t. n ∷ t) (set_again ns i)

pub put_same : (ns : List ℕ) (d : ℕ) → elements_put ns d (inner_elements ns d) ≡ ns
put_same ns d = go (ltb 0 d) refl
  where
    go : (t : Bool) → ltb 0 d ≡ t → elements_put ns d (inner_elements ns d) ≡ ns
    go true e = rw e (set_again ns (d - 1))
    go false e = rw e

-- a value entered
pub put_more : (b : Builder) (ms : List ℕ) → elements_put b.elements b.counts.depth (one_more (in_list (view_of b ms)) (view_of b ms).elements) ≡ elements_with (view_of b ms) b.elements
put_more b ms = go (is_open (view_of b ms)) (not (view_of b ms).inner.object) refl refl
  where
    go : (t o : Bool) → is_open (view_of b ms) ≡ t → not (view_of b ms).inner.object ≡ o
        → elements_put b.elements b.counts.depth (one_more (in_list (view_of b ms)) (view_of b ms).elements) ≡ elements_with (view_of b ms) b.elements
    go true true e p = rw (p, e)
    go true false e p = rw (p, e) (set_again b.elements (b.counts.depth - 1))
    go false o e p = rw e

-- and a container opened in it, which has none
pub elements_opened : (b : Builder) (ms : List ℕ)
    → elements_put (elements_put b.elements b.counts.depth (one_more (in_list (view_of b ms)) (view_of b ms).elements)) (b.counts.depth + 1) 0 ≡ set (elements_with (view_of b ms) b.elements) b.counts.depth 0
elements_opened b ms =
    let d = b.counts.depth in
    let p : d + 1 - 1 ≡ d = omega arith in
    rw (lt-ltb 0 (d + 1) (omega arith), p, put_more b ms)

-- the parent's stand where it is innermost
siblings_inner : (ns : List ℕ) (d : ℕ) → parent_elements ns d ≡ inner_elements ns (d - 1)
siblings_inner ns d = go (ltb 1 d) refl
  where
    go : (t : Bool) → ltb 1 d ≡ t → parent_elements ns d ≡ inner_elements ns (d - 1)
    go true e = let p : d - 1 - 1 ≡ d - 2 = omega arith in rw (e, lt-ltb 0 (d - 1) (omega (arith, ltb-true)), p)
    go false e = rw (e, le-ltb 0 (d - 1) (omega (arith, ltb-false)))

-- put there again they change nothing
put_siblings : (ns : List ℕ) (d n : ℕ) → n ≡ parent_elements ns d → elements_put ns (d - 1) n ≡ ns
put_siblings ns d n e = rw (e, siblings_inner ns d) (put_same ns (d - 1))

-- a child rolled back
put_back : (v : View) (ns : List ℕ) (p : Optional Entry) → v.siblings ≡ parent_elements ns v.counts.depth
    → elements_put ns (v.counts.depth - 1) (siblings_back v.parent.object v.siblings p) ≡ cond (ltb 1 v.counts.depth) (elements_back v p ns) ns
put_back v ns None s = go (ltb 1 v.counts.depth) v.parent.object refl refl
  where
    d : ℕ
    d = v.counts.depth

    go : (t o : Bool) → ltb 1 d ≡ t → v.parent.object ≡ o
        → elements_put ns (d - 1) (siblings_back v.parent.object v.siblings None) ≡ cond (ltb 1 d) (elements_back v None ns) ns
    go true false e o = let p : d - 1 - 1 ≡ d - 2 = omega arith in rw (e, o, lt-ltb 0 (d - 1) (omega (arith, ltb-true)), p)
    go true true e o = rw (e, o) (put_siblings ns d v.siblings s)
    go false o e q = rw (e, le-ltb 0 (d - 1) (omega (arith, ltb-false)))
put_back v ns (Some former) s = go (ltb 1 v.counts.depth) (put_siblings ns v.counts.depth v.siblings s)
  where
    go : (t : Bool) → elements_put ns (v.counts.depth - 1) v.siblings ≡ ns → elements_put ns (v.counts.depth - 1) v.siblings ≡ cond t ns ns
    go true h = h
    go false h = h

-- calls that leave the container open, close it or roll it back
abbrev pub Stays : Call → Type 0
Stays (register n) = Unit {0}
Stays (append nm x) = Unit {0}
Stays (open_in nm object) = ⊥
Stays close = Unit {0}
Stays roll_back = Unit {0}
Stays (uniqueness u) = ⊥
Stays set_mark = ⊥
Stays (return_to j) = ⊥
Stays (finish out) = ⊥

left_done : (b : Builder) (ms : List ℕ) (l : Storage) (c : Call) → Stays c
    → elements_put b.elements (carried_out (view_of b ms) l no_mark c).counts.depth (elements_left (view_of b ms) no_mark c) ≡ elements_after (view_of b ms) no_mark c b.elements
unfolding registered appended closed rolled_back
left_done b ms l (register n) h = put_same b.elements b.counts.depth
left_done b ms l (append nm x) h = put_more b ms
left_done b ms l (open_in nm object) h = absurd h
left_done b ms l close h = put_siblings b.elements b.counts.depth (view_of b ms).siblings refl
left_done b ms l roll_back h = put_back (view_of b ms) b.elements (view_of b ms).inner.parent refl
left_done b ms l (uniqueness u) h = absurd h
left_done b ms l set_mark h = absurd h
left_done b ms l (return_to j) h = absurd h
left_done b ms l (finish out) h = absurd h

-- THE ELEMENTS that such a call leaves in the record, where it is carried out
pub elements_left_lem : (b : Builder) (ms : List ℕ) (l : Storage) (c : Call) {m : Moved} → Stays c → m ≡ moved_to (view_of b ms) l c
    → elements_put b.elements m.counts.depth m.elements ≡ elements_after (view_of b ms) no_mark c b.elements
elements_left_lem b ms l c h q = rw q (left_done b ms l c h)

-- ---- a list with a child open in it counts at most one above its data bytes: without the sum, which a machine's numbers might not hold
pub one_above : (n x : ℕ) → leb (n - x) 1 ≡ leb n (x + 1)
one_above n x = go (leb (n - x) 1) refl
  where
    go : (t : Bool) → leb (n - x) 1 ≡ t → t ≡ leb n (x + 1)
    go true e = sym (le-leb n (x + 1) (omega (arith, leb-true)))
    go false e = sym (lt-leb n (x + 1) (omega (arith, leb-false)))

-- the innermost of no container, or of more than there are
pub put_none : (ns : List ℕ) (d n : ℕ) → d ≡ 0 → ns ≡ elements_put ns d n
put_none ns d n e = rw (le-ltb 0 d (omega arith))

pub put_at : (ns : List ℕ) (d n : ℕ) → 0 < d → set ns (d - 1) n ≡ elements_put ns d n
put_at ns d n h = rw (lt-ltb 0 d h)

-- nothing is put behind the end
pub set_beyond : (ns : List ℕ) (i n : ℕ) → length ns ≤ i → ns ≡ set ns i n
set_beyond [] i n h = refl
set_beyond (m ∷ ns) zero n h = absurd (omega arith)
set_beyond (m ∷ ns) (suc i) n h = ap (λ t. m ∷ t) (set_beyond ns i n (omega arith))

pub put_far : (ns : List ℕ) (d n : ℕ) → length ns ≡ 64 → 64 < d → ns ≡ elements_put ns d n
put_far ns d n e h = set_beyond ns (d - 1) n (omega arith) ∙ put_at ns d n (omega arith)

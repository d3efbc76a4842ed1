-- Lent lists, the entries in them, the open containers with their elements and marks, read as the machine has them.
use mathlib.Core.Path.{◌≡◌, refl, sym, ◌∙◌, ap}
use mathlib.Core.Logic.{inr, ◌≢◌}
use mathlib.Core.Bool.{Bool, true, false, cond, not, ◌&&◌, ◌||◌}
use mathlib.Core.List.{List, [], ◌∷◌, ◌++◌, append_assoc}
use Prim.Native.Nat.{ℕ, zero, suc, ◌+◌, ◌-◌, ◌*◌, ◌≤◌, ◌<◌}
use native.Mathlib.Nat.{add-zero, zero-add, sub-zero}
use native.Mathlib.Omega.{arith}
use lib.Dec.{eqb, leb, ltb}
use lib.ListN.{drop, get_or, length, length-append, length-drop, length-set, length-take, set, take}
use lib.Seq.{drop_at, get_or-set_other, get_or-set_same, take_at}
use borrow.Author.Tests.{le-leb, leb-true, lt-leb, lt-ltb, ltb-true, ltb-false, ne_eqb}
use Rattle.std.specs.Prelude.{Some, None}
use Rattle.encoding.specs.Slices.{write}
use Rattle.encoding.proofs.PackedLaws.{Below}
use Rattle.container.specs.declared.Entry.{Entry}
use Rattle.container.specs.Entries.{entries_of, ids_of, misplaced, put_entries, room_for, seek, set_entry}
use Rattle.container.specs.Undo.{restore}
use Rattle.container.proofs.EntryLaws.{length_set_entry, entry_set_same, length_entries, entries_append, entries_set_other, ids_bounded, length_put, entries_put_other, entries_put_same}
use Rattle.container.proofs.UndoLaws.{offset_other, entries_restored}
use Rattle.semantics.specs.declared.Container.{Container}
use Rattle.semantics.specs.declared.Counts.{Counts}
use Rattle.semantics.specs.declared.Mark.{Mark}
use Rattle.semantics.specs.Record.{table_size, no_container, container_at, elements_at, under, countable, rising, chained, slot_of, mark_at, marks_of, mark_at_start, mark_now, not_above, falling, marks_hold}
use Rattle.semantics.specs.Step.{with_marks, put_mark}
use Rattle.semantics.proofs.Machine.{put, find, first_of, rest_of, Rising, Counting, NotAbove, Falling, AllFalling}

-- ---- tests

pub not_ltb : (a b : ℕ) → not (ltb a b) ≡ leb b a
not_ltb a b = go (ltb a b) refl
  where
    go : (t : Bool) → ltb a b ≡ t → not t ≡ leb b a
    go true e = sym (lt-leb b a (ltb-true a b e))
    go false e = sym (le-leb b a (ltb-false a b e))

-- ---- bytes written

-- what is written behind the used bytes
pub take_write : (at : ℕ) (bs l : List ℕ) → at ≤ length l → take (at + length bs) (write at bs l) ≡ take at l ++ bs
unfolding write
take_write at bs l h =
    let n : length (take at l ++ bs) ≡ at + length bs = simp (length-append, length-take) (omega arith) in
    rw (← append_assoc) (take_at (take at l ++ bs) (drop (at + length bs) l) (at + length bs) n)

pub drop_write : (at : ℕ) (bs l : List ℕ) → at ≤ length l → drop (at + length bs) (write at bs l) ≡ drop (at + length bs) l
unfolding write
drop_write at bs l h =
    let n : length (take at l ++ bs) ≡ at + length bs = simp (length-append, length-take) (omega arith) in
    rw (← append_assoc) (drop_at (take at l ++ bs) (drop (at + length bs) l) (at + length bs) n)

-- ---- entries: parts of those read

pub entries_drop : (l : List ℕ) (a k n : ℕ) → entries_of l (a + k) (n - k) ≡ drop k (entries_of l a n)
unfolding entries_of
entries_drop l a zero n = rw (add-zero, sub-zero)
entries_drop l a (suc k) zero = let e : 0 - suc k ≡ 0 = omega arith in rw e
entries_drop l a (suc k) (suc n) =
    let e : suc n - suc k ≡ n - k = omega arith in
    let f : a + suc k ≡ a + 1 + k = omega arith in
    rw (e, f) (entries_drop l (a + 1) k n)

pub entries_take : (l : List ℕ) (a k n : ℕ) → k ≤ n → entries_of l a k ≡ take k (entries_of l a n)
unfolding entries_of
entries_take l a zero n h = refl
entries_take l a (suc k) zero h = absurd (omega arith)
entries_take l a (suc k) (suc n) h = rw (entries_take l (a + 1) k n (omega arith))

-- ---- an entry found, moved or added

module _ (i o : ℕ) where
  -- moved where it stands
  pub put_there : (es : List Entry) → seek i es < length es → restore (record { id = i; offset = o }) es ≡ put i o es
  unfolding seek restore put
  put_there [] h = absurd (omega arith)
  put_there (e ∷ es) h = go (eqb e.id i) h (put_there es)
    where
      go : (t : Bool) → cond t 0 (1 + seek i es) < suc (length es) → (seek i es < length es → restore (record { id = i; offset = o }) es ≡ put i o es)
          → cond t (record { id = e.id; offset = o } ∷ es) (e ∷ restore (record { id = i; offset = o }) es)
          ≡ cond t (record { id = e.id; offset = o } ∷ es) (e ∷ put i o es)
      go true h f = refl
      go false h f = ap (λ z. e ∷ z) (f (omega arith))

  -- one that is not there is added
  pub put_new : (es : List Entry) → seek i es ≡ length es → put i o es ≡ es ++ (record { id = i; offset = o } ∷ [])
  unfolding seek put
  put_new [] h = refl
  put_new (e ∷ es) h = go (eqb e.id i) h (put_new es)
    where
      go : (t : Bool) → cond t 0 (1 + seek i es) ≡ suc (length es) → (seek i es ≡ length es → put i o es ≡ es ++ (record { id = i; offset = o } ∷ []))
          → cond t (record { id = e.id; offset = o } ∷ es) (e ∷ put i o es) ≡ e ∷ (es ++ (record { id = i; offset = o } ∷ []))
      go true h f = absurd (omega arith)
      go false h f = rw (f (omega arith))

-- how it came about
pub find_new : (i : ℕ) (es : List Entry) → seek i es ≡ length es → find i es ≡ None
unfolding seek find
find_new i [] h = refl
find_new i (e ∷ es) h = go (eqb e.id i) h (find_new i es)
  where
    go : (t : Bool) → cond t 0 (1 + seek i es) ≡ suc (length es) → (seek i es ≡ length es → find i es ≡ None) → cond t (Some (record { id = i; offset = e.offset })) (find i es) ≡ None
    go true h f = absurd (omega arith)
    go false h f = f (omega arith)

pub find_there : (i : ℕ) (es : List Entry) (d : Entry) → seek i es < length es → find i es ≡ Some (record { id = i; offset = (get_or es (seek i es) d).offset })
unfolding seek find
find_there i [] d h = absurd (omega arith)
find_there i (e ∷ es) d h = go (eqb e.id i) h (find_there i es d)
  where
    go : (t : Bool) → cond t 0 (1 + seek i es) < suc (length es) → (seek i es < length es → find i es ≡ Some (record { id = i; offset = (get_or es (seek i es) d).offset }))
        → cond t (Some (record { id = i; offset = e.offset })) (find i es) ≡ Some (record { id = i; offset = (get_or (e ∷ es) (cond t 0 (1 + seek i es)) d).offset })
    go true h f = refl
    go false h f = let q : 1 + seek i es ≡ suc (seek i es) = omega arith in rw q (f (omega arith))

-- an id that is not below the name count has no entry in an object
pub seek_high : (i size : ℕ) (es : List Entry) → misplaced true i size es ≡ false → seek i es ≡ length es
unfolding seek
seek_high i size es h = go es (ids_bounded i size es h)
  where
    go : (es : List Entry) → Below i (ids_of es) → seek i es ≡ length es
    go [] b = refl
    go (e ∷ es) b = rw (ne_eqb e.id i (λ q. omega (arith, b.0))) (omega (arith, go es b.1))

-- ---- the used entries of a storage

-- the first n entries of l are es
pub record Used (l : List ℕ) (n : ℕ) (es : List Entry) : Type 0 where
  pub all : entries_of l 0 n ≡ es
  pub room : n ≤ room_for (length l)

module _ {l : List ℕ} {n : ℕ} {es : List Entry} (u : Used l n es) where
  pub used_count : length es ≡ n
  used_count = ap length (sym u.all) ∙ length_entries l 0 n

  -- those from k on, those before it, those between
  pub used_from : (k : ℕ) → entries_of l k (n - k) ≡ drop k es
  used_from k = rw (zero-add k) at (entries_drop l 0 k n) ∙ ap (drop k) u.all

  pub used_before : (k : ℕ) → k ≤ n → entries_of l 0 k ≡ take k es
  used_before k h = entries_take l 0 k n h ∙ ap (take k) u.all

  pub used_between : (k j : ℕ) → j ≤ n → entries_of l k (j - k) ≡ take (j - k) (drop k es)
  used_between k j h = entries_take l k (j - k) (n - k) (omega arith) ∙ ap (take (j - k)) (used_from k)

  -- only the first k
  pub used_cut : (k : ℕ) → k ≤ n → Used l k (take k es)
  used_cut k h = let r = u.room in record { all = used_before k h; room = omega arith }

  -- the first of an id moved
  pub used_moved : (i o k : ℕ) → k ≤ n → seek i (drop k es) < length (drop k es) → Used (set l (2 * (k + seek i (drop k es)) + 1) o) n (take k es ++ put i o (drop k es))
  used_moved i o k h f =
      let r = u.room in
      let c = used_count in
      let d = used_from k in
      let e : k + (n - k) ≡ n = omega arith in
      let m = set l (2 * (k + seek i (drop k es)) + 1) o in
      let g : seek i (entries_of l k (n - k)) < n - k = rw d (omega (arith, length-drop k es)) in
      let w : entries_of m k (n - k) ≡ put i o (drop k es) =
      rw d at (entries_restored (record { id = i; offset = o }) l k (n - k) g (omega arith)) ∙ put_there i o (drop k es) f in
      let p : entries_of m 0 k ≡ take k es = offset_other l (k + seek i (drop k es)) o 0 k (inr (omega arith)) ∙ used_before k h in
      let q : entries_of m 0 n ≡ entries_of m 0 k ++ entries_of m k (n - k) = rw (e, zero-add k) at (entries_append m 0 k (n - k)) in
      record { all = q ∙ (λ j. p j ++ w j); room = rw length-set r }

  -- one added
  pub used_added : (e : Entry) → n < room_for (length l) → Used (set_entry l n e) (n + 1) (es ++ (e ∷ []))
  unfolding entries_of
  used_added e h =
      let p = entries_set_other l n 0 n e (inr (omega arith)) ∙ u.all in
      let q = entry_set_same l n e (omega arith) in
      record { all = entries_append (set_entry l n e) 0 n 1 ∙ (rw zero-add (λ j. p j ++ (q j ∷ []))); room = rw length_set_entry (omega arith) }

  -- the first k, where others were written behind them
  pub used_kept : (k : ℕ) (fs : List Entry) → k ≤ n → Used (put_entries k fs l) k (take k es)
  used_kept k fs h = let r = u.room in record { all = entries_put_other k fs l 0 k (inr (omega arith)) ∙ used_before k h; room = rw length_put (omega arith) }

  -- others in place of those from k on
  pub used_put : (k : ℕ) (fs : List Entry) → k + length fs ≤ n → Used (put_entries k fs l) (k + length fs) (take k es ++ fs)
  used_put k fs h =
      let r = u.room in
      let p = entries_put_other k fs l 0 k (inr (omega arith)) ∙ used_before k (omega arith) in
      let q = entries_put_same k fs l (omega arith) in
      record { all = entries_append (put_entries k fs l) 0 k (length fs) ∙ (rw zero-add (λ j. p j ++ q j)); room = rw length_put (omega arith) }

-- ---- the open containers, and their elements

-- the first d, the innermost first
unfoldable pub stack_of : {A : Type 0} → A → List A → ℕ → List A
stack_of z xs zero = []
stack_of z xs (suc d) = get_or xs d z ∷ stack_of z xs d

-- the innermost container and its parent
abbrev pub top_of : List Container → Container
top_of ks = first_of no_container ks

abbrev pub next_of : List Container → Container
next_of ks = first_of no_container (rest_of ks)

module _ {A : Type 0} (z : A) where
  pub length_stack : (xs : List A) (d : ℕ) → length (stack_of z xs d) ≡ d
  unfolding stack_of
  length_stack xs zero = refl
  length_stack xs (suc d) = ap suc (length_stack xs d)

  pub stack_top : (xs : List A) (d : ℕ) → cond (ltb 0 d) (get_or xs (d - 1) z) z ≡ first_of z (stack_of z xs d)
  unfolding stack_of
  stack_top xs zero = refl
  stack_top xs (suc d) =
      let e : suc d - 1 ≡ d = omega arith in
      rw (lt-ltb 0 (suc d) (omega arith), e)

  pub stack_next : (xs : List A) (d : ℕ) → cond (ltb 1 d) (get_or xs (d - 2) z) z ≡ first_of z (rest_of (stack_of z xs d))
  unfolding stack_of
  stack_next xs zero = refl
  stack_next xs (suc zero) = refl
  stack_next xs (suc (suc d)) =
      let e : suc (suc d) - 2 ≡ d = omega arith in
      rw (lt-ltb 1 (suc (suc d)) (omega arith), e)

  -- those outside of the innermost
  pub stack_rest : (xs : List A) (d : ℕ) → rest_of (stack_of z xs d) ≡ stack_of z xs (d - 1)
  unfolding stack_of
  stack_rest xs zero = refl
  stack_rest xs (suc d) = let e : suc d - 1 ≡ d = omega arith in rw e

  -- the innermost before them
  pub stack_first : (xs : List A) (d : ℕ) → 0 < d → stack_of z xs d ≡ first_of z (stack_of z xs d) ∷ rest_of (stack_of z xs d)
  unfolding stack_of
  stack_first xs zero h = absurd (omega arith)
  stack_first xs (suc d) h = refl

  -- one set beyond them, one pushed, one set in place of the innermost
  pub stack_other : (xs : List A) (d j : ℕ) (x : A) → d ≤ j → stack_of z (set xs j x) d ≡ stack_of z xs d
  unfolding stack_of
  stack_other xs zero j x h = refl
  stack_other xs (suc d) j x h =
      let n : d ≢ j = (λ q. omega arith) in
      rw (get_or-set_other xs j d x z n, stack_other xs d j x (omega arith))

  pub stack_set : (xs : List A) (d : ℕ) (x : A) → d < length xs → stack_of z (set xs d x) (d + 1) ≡ x ∷ stack_of z xs d
  unfolding stack_of
  stack_set xs d x h =
      let e : d + 1 ≡ suc d = omega arith in
      rw (e, get_or-set_same xs d x z h, stack_other xs d d x (omega arith))

  pub stack_renew : (xs : List A) (d j : ℕ) (x : A) → d ≡ j + 1 → d ≤ length xs → stack_of z (set xs j x) d ≡ x ∷ rest_of (stack_of z xs d)
  stack_renew xs d j x e h =
      let r : rest_of (stack_of z xs d) ≡ stack_of z xs j = stack_rest xs d ∙ ap (stack_of z xs) (omega arith) in
      rw (r, e) (stack_set xs j x (omega arith))

-- no mark falls, and no list counts too much
pub stack_chained : (ks : List Container) (ns : List ℕ) (d a b c e w child : ℕ) → Rising (stack_of no_container ks d) a b c e w
    → Counting (stack_of no_container ks d) (stack_of 0 ns d) a child → d ≤ 64 → chained ks ns d ≡ true
unfolding chained rising stack_of
stack_chained ks ns d a b c e w child r q h = rw (le-leb d 64 h) (go d a b c e w child r q)
  where
    all : (s t u v x : Bool) → s ≡ true → t ≡ true → u ≡ true → v ≡ true → x ≡ true → (s && (t && (u && (v && x)))) ≡ true
    all s t u v x p q r w y = rw (p, q, r, w, y)

    go : (d a b c e w child : ℕ) → Rising (stack_of no_container ks d) a b c e w → Counting (stack_of no_container ks d) (stack_of 0 ns d) a child
        → rising ks ns (d - 1) ≡ true
    go zero a b c e w child r q = refl
    go (suc zero) a b c e w child r q = refl
    go (suc (suc d)) a b c e w child r q =
        let k = container_at ks d in
        let j = container_at ks (suc d) in
        let x = r.5 in
        let g : suc (suc d) - 1 ≡ suc d = omega arith in
        let f : suc d - 1 ≡ d = omega arith in
        let u : under k j ≡ true =
        all _ _ _ _ _ (le-leb k.value j.value x.0) (le-leb k.names j.names x.1) (le-leb k.text j.text x.2)
        (le-leb k.entries j.entries x.3) (le-leb k.undo j.undo x.4) in
        let n : countable k (elements_at ns d) (j.value - k.value + 1) ≡ true = q.1.0 in
        rw g (rw (u, n) (rw f at (go (suc d) j.value j.names j.text j.entries j.undo 1 x q.1)))

-- ---- the marks of the open containers

-- each container's at its depth
unfoldable pub chains_of : List ℕ → List Container → List (List Mark)
chains_of ms [] = []
chains_of ms (k ∷ ks) = marks_of ms (length ks) k.marks ∷ chains_of ms ks

not_above_lem : (object : Bool) (p q : Mark) → NotAbove object p q → not_above object p q ≡ true
not_above_lem object p q f =
    all _ _ _ _ _ _ (le-leb p.value q.value f.0) (le-leb p.names q.names f.1) (le-leb p.text q.text f.2)
    (le-leb p.entries q.entries f.3) (le-leb p.undo q.undo f.4) f.5
  where
    all : (s t u v x z : Bool) → s ≡ true → t ≡ true → u ≡ true → v ≡ true → x ≡ true → z ≡ true → (s && (t && (u && (v && (x && z))))) ≡ true
    all s t u v x z a b c d e f = rw (a, b, c, d, e, f)

falling_holds : (object : Bool) (start : Mark) (ps : List Mark) (now : Mark) → Falling object start ps now → falling object start ps now ≡ true
unfolding falling
falling_holds object start [] now f = not_above_lem object start now f
falling_holds object start (p ∷ ps) now f = rw (not_above_lem object p now f.0) (falling_holds object start ps p f.1)

-- none exceeds the counts; the uniqueness mark is nothing to it
pub stack_marks : (ks : List Container) (ns ms : List ℕ) (c : Counts) (d : ℕ)
    → AllFalling (stack_of no_container ks d) (chains_of ms (stack_of no_container ks d)) (stack_of 0 ns d) (mark_now c 0 false) → marks_hold ks ns ms c d ≡ true
unfolding marks_hold stack_of chains_of
stack_marks ks ns ms c zero f = refl
stack_marks ks ns ms c (suc d) f =
    let k = container_at ks d in
    let n = elements_at ns d in
    let g : Falling k.object (mark_at_start k) (marks_of ms d k.marks) (mark_now c n false) = rw (length_stack no_container ks d) at f.2 in
    let h = falling_holds k.object (mark_at_start k) (marks_of ms d k.marks) (mark_now c n k.unique) (other k n (marks_of ms d k.marks) g) in
    rw (le-leb k.marks 16 f.0, h, or_true (eqb k.marks 0)) (stack_marks ks ns ms c d f.3)
  where
    other : (k : Container) (n : ℕ) (ps : List Mark) → Falling k.object (mark_at_start k) ps (mark_now c n false)
        → Falling k.object (mark_at_start k) ps (mark_now c n k.unique)
    other k n [] f = f
    other k n (p ∷ ps) f = f

    or_true : (t : Bool) → (t || true) ≡ true
    or_true true = refl
    or_true false = refl

-- ---- a mark set

module _ (ms : List ℕ) (at : ℕ) (p : Mark) where
  abbrev u : ℕ
  u = cond p.unique 1 0

  abbrev l0 : List ℕ
  l0 = set ms at p.value

  abbrev l1 : List ℕ
  l1 = set l0 (at + 1) p.names

  abbrev l2 : List ℕ
  l2 = set l1 (at + 2) p.text

  abbrev l3 : List ℕ
  l3 = set l2 (at + 3) p.entries

  abbrev l4 : List ℕ
  l4 = set l3 (at + 4) p.undo

  abbrev l5 : List ℕ
  l5 = set l4 (at + 5) p.count

  -- a number before the one set
  at5 : (i : ℕ) → i < at + 6 → get_or (set l5 (at + 6) u) i 0 ≡ get_or l5 i 0
  at5 i h = get_or-set_other l5 (at + 6) i u 0 (λ q. omega arith)

  at4 : (i : ℕ) → i < at + 5 → get_or (set l5 (at + 6) u) i 0 ≡ get_or l4 i 0
  at4 i h = at5 i (omega arith) ∙ get_or-set_other l4 (at + 5) i p.count 0 (λ q. omega arith)

  at3 : (i : ℕ) → i < at + 4 → get_or (set l5 (at + 6) u) i 0 ≡ get_or l3 i 0
  at3 i h = at4 i (omega arith) ∙ get_or-set_other l3 (at + 4) i p.undo 0 (λ q. omega arith)

  at2 : (i : ℕ) → i < at + 3 → get_or (set l5 (at + 6) u) i 0 ≡ get_or l2 i 0
  at2 i h = at3 i (omega arith) ∙ get_or-set_other l2 (at + 3) i p.entries 0 (λ q. omega arith)

  at1 : (i : ℕ) → i < at + 2 → get_or (set l5 (at + 6) u) i 0 ≡ get_or l1 i 0
  at1 i h = at2 i (omega arith) ∙ get_or-set_other l1 (at + 2) i p.text 0 (λ q. omega arith)

  at0 : (i : ℕ) → i < at + 1 → get_or (set l5 (at + 6) u) i 0 ≡ get_or l0 i 0
  at0 i h = at1 i (omega arith) ∙ get_or-set_other l0 (at + 1) i p.names 0 (λ q. omega arith)

  mark_before : (i : ℕ) → i < at → get_or (put_mark ms at p) i 0 ≡ get_or ms i 0
  unfolding put_mark
  mark_before i h = at0 i (omega arith) ∙ get_or-set_other ms at i p.value 0 (λ q. omega arith)

  mark_other : (i : ℕ) → i + 7 ≤ at → mark_at (put_mark ms at p) i ≡ mark_at ms i
  unfolding mark_at
  mark_other i h =
      rw (
        mark_before i (omega arith),
        mark_before (i + 1) (omega arith),
        mark_before (i + 2) (omega arith),
        mark_before (i + 3) (omega arith),
        mark_before (i + 4) (omega arith),
        mark_before (i + 5) (omega arith),
        mark_before (i + 6) (omega arith),
      )

  pub length_put_mark : length (put_mark ms at p) ≡ length ms
  unfolding put_mark
  length_put_mark = simp length-set refl

  -- it is read
  mark_same : at + 7 ≤ length ms → mark_at (put_mark ms at p) at ≡ p
  unfolding mark_at put_mark
  mark_same h =
      let f0 = at0 at (omega arith) ∙ get_or-set_same ms at p.value 0 (omega arith) in
      let f1 = at1 (at + 1) (omega arith) ∙ get_or-set_same l0 (at + 1) p.names 0 (simp length-set (omega arith)) in
      let f2 = at2 (at + 2) (omega arith) ∙ get_or-set_same l1 (at + 2) p.text 0 (simp length-set (omega arith)) in
      let f3 = at3 (at + 3) (omega arith) ∙ get_or-set_same l2 (at + 3) p.entries 0 (simp length-set (omega arith)) in
      let f4 = at4 (at + 4) (omega arith) ∙ get_or-set_same l3 (at + 4) p.undo 0 (simp length-set (omega arith)) in
      let f5 = at5 (at + 5) (omega arith) ∙ get_or-set_same l4 (at + 5) p.count 0 (simp length-set (omega arith)) in
      let f6 = get_or-set_same l5 (at + 6) u 0 (simp length-set (omega arith)) in
      let e = ap (λ z. not (eqb z 0)) f6 ∙ bit p.unique in
      λ z. record { value = f0 z; names = f1 z; text = f2 z; entries = f3 z; undo = f4 z; count = f5 z; unique = e z }
    where
      bit : (t : Bool) → not (eqb (cond t 1 0) 0) ≡ t
      bit true = refl
      bit false = refl

  -- and others stay
  marks_other : (d n : ℕ) → 7 * (16 * d + n) ≤ at → marks_of (put_mark ms at p) d n ≡ marks_of ms d n
  unfolding marks_of
  marks_other d zero h = refl
  marks_other d (suc n) h =
      let a = mark_other (slot_of d (suc n)) (omega arith) in
      let b = marks_other d n (omega arith) in
      λ z. a z ∷ b z

  chains_other : (ks : List Container) (pss : List (List Mark)) (ns : List ℕ) (now : Mark) → AllFalling ks pss ns now → 112 * length ks ≤ at
      → chains_of (put_mark ms at p) ks ≡ chains_of ms ks
  unfolding chains_of
  chains_other [] pss ns now f h = refl
  chains_other (k ∷ ks) [] ns now f h = absurd f
  chains_other (k ∷ ks) (qs ∷ pss) ns now f h =
      let m = f.0 in
      let x = marks_other (length ks) k.marks (omega arith) in
      let y = chains_other ks pss (rest_of ns) now f.3 (omega arith) in
      λ z. x z ∷ y z

-- A MARK SET in the innermost of at most 64
pub chains_set : (ms : List ℕ) (p : Mark) (k : Container) (ks : List Container) (pss : List (List Mark)) (ns : List ℕ) (now : Mark)
    → AllFalling ks pss ns now
    → k.marks < 16 → length ks < 64 → length ms ≡ table_size
    → chains_of (put_mark ms (slot_of (length ks) (k.marks + 1)) p) (with_marks k (k.marks + 1) ∷ ks)
    ≡ (p ∷ marks_of ms (length ks) k.marks) ∷ chains_of ms ks
unfolding chains_of with_marks marks_of
chains_set ms p k ks pss ns now f m d n =
    let at = slot_of (length ks) (k.marks + 1) in
    let s : k.marks + 1 ≡ suc k.marks = omega arith in
    let x : mark_at (put_mark ms at p) at ≡ p = mark_same ms at p (omega arith) in
    let y = marks_other ms at p (length ks) k.marks (omega arith) in
    let z = chains_other ms at p ks pss ns now f (omega arith) in
    let all : marks_of (put_mark ms at p) (length ks) (suc k.marks) ≡ p ∷ marks_of ms (length ks) k.marks =
    ap (λ j. mark_at (put_mark ms at p) (slot_of (length ks) j) ∷ marks_of (put_mark ms at p) (length ks) k.marks) (sym s) ∙ (λ i. x i ∷ y i) in
    (ap (λ j. marks_of (put_mark ms at p) (length ks) j ∷ chains_of (put_mark ms at p) ks) s) ∙ (λ i. all i ∷ z i)

-- ---- a mark returned to

pub length_marks : (ms : List ℕ) (d n : ℕ) → length (marks_of ms d n) ≡ n
unfolding marks_of
length_marks ms d zero = refl
length_marks ms d (suc n) = ap suc (length_marks ms d n)

marks_from : (ms : List ℕ) (d i j : ℕ) → drop i (marks_of ms d (i + j)) ≡ marks_of ms d j
unfolding marks_of
marks_from ms d zero j = rw zero-add
marks_from ms d (suc i) j = let e : suc i + j ≡ suc (i + j) = omega arith in rw e (marks_from ms d i j)

-- the marks up to mark j
pub marks_to : (ms : List ℕ) (d n j : ℕ) → j ≤ n → drop (n - j) (marks_of ms d n) ≡ marks_of ms d j
marks_to ms d n j h = let e : n - j + j ≡ n = omega arith in ap (λ z. drop (n - j) (marks_of ms d z)) (sym e) ∙ marks_from ms d (n - j) j

not_above_trans : (object : Bool) (p q r : Mark) → NotAbove object p q → NotAbove object q r → NotAbove object p r
not_above_trans object p q r f g = (
  omega (arith, f.0, g.0),
  omega (arith, f.1, g.1),
  omega (arith, f.2, g.2),
  omega (arith, f.3, g.3),
  omega (arith, f.4, g.4),
  counts object f.5 g.5,
)
  where
    counts : (t : Bool) → (t || leb p.count q.count) ≡ true → (t || leb q.count r.count) ≡ true → (t || leb p.count r.count) ≡ true
    counts true a b = refl
    counts false a b = le-leb p.count r.count (omega (arith, leb-true p.count q.count a, leb-true q.count r.count b))

falling_more : (object : Bool) (start : Mark) (ps : List Mark) (now later : Mark) → NotAbove object now later → Falling object start ps now
    → Falling object start ps later
falling_more object start [] now later h f = not_above_trans object start now later f h
falling_more object start (p ∷ ps) now later h f = (not_above_trans object p now later f.0 h, f.1)

pub falling_drop : (i : ℕ) (object : Bool) (start : Mark) (ps : List Mark) (now : Mark) → Falling object start ps now
    → Falling object start (drop i ps) now
falling_drop zero object start ps now f = f
falling_drop (suc i) object start [] now f = f
falling_drop (suc i) object start (p ∷ ps) now f = falling_more object start (drop i ps) p now f.0 (falling_drop i object start ps p f.1)

-- the marks start at or above the container's own
pub falling_start : (object : Bool) (start : Mark) (ps : List Mark) (now : Mark) → Falling object start ps now → NotAbove object start now
falling_start object start [] now f = f
falling_start object start (p ∷ ps) now f = not_above_trans object start p now (falling_start object start ps p f.1) f.0

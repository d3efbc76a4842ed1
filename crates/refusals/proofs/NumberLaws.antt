-- A call's number, from what the functions that it rests on answer.
use mathlib.Core.Path.{◌≡◌, refl, sym, ◌∙◌, ap}
use mathlib.Core.Bool.{Bool, true, false, cond, not, ◌&&◌, ◌||◌, or-false}
use Prim.Native.Nat.{ℕ, ◌≤◌, ◌<◌}
use mathlib.Core.List.{List}
use lib.Dec.{eqb, leb, ltb}
use lib.ListN.{length}
use borrow.Author.Tests.{le-leb, le-ltb, lt-leb, lt-ltb, ltb-true, ltb-false}
use native.Mathlib.Omega.{arith}
use Rattle.encoding.specs.Rows.{first}
use Rattle.metadata.specs.Names.{intact, field_names}
use Rattle.container.specs.declared.Entry.{Entry}
use Rattle.container.specs.declared.Search.{Search}
use Rattle.container.specs.Layout.{largest}
use Rattle.container.specs.Entries.{Searches, ids_of, room_for}
use Rattle.measure.specs.Measure.{whole_values}
use Rattle.semantics.specs.declared.View.{View}
use Rattle.semantics.specs.Record.{Storage, close, roll_back, uniqueness, set_mark, return_to, is_open, in_object, inner_size, inner_data, inner_entries, parent_size, parent_entries}
use Rattle.semantics.specs.Damage.{bad_floor, fallen_ends, misplaced_inner, misplaced_parent, orphaned, unrecorded, uncounted, damaged_parent, misread}
use Rattle.semantics.specs.Table.{no_mark_free, not_set, number_of}
use Rattle.std.specs.Prelude.{Option as Optional, Some, None, Result, Ok, Err}
use Rattle.semantics.specs.declared.refusal.Refusal.{Refusal}
use Rattle.semantics.specs.declared.refusal.Refusal.TheVariants as refusal
use Rattle.semantics.specs.Refusal.{refusal_number}
use Rattle.semantics.proofs.RefusalLaws.{number_some, then_none, then_ok}
use Rattle.refusals.specs.Decide.{Backs, ClosesBy, ParentOf, broken_of, childless_by, close_by, finish_by, late_of, misread_by, place_back, unlike_by}
pub use Rattle.refusals.proofs.ViewLaws.{broken_number, broken_close, damaged_none, entries_within, inner_within, ends_read, range_within, found_before, none_before}

-- ---- a roll back's parent

-- where an `<` does not hold
not_ltb : (a b : ℕ) → leb b a ≡ not (ltb a b)
not_ltb a b = go (ltb a b) refl
  where
    go : (t : Bool) → ltb a b ≡ t → leb b a ≡ not t
    go true e = lt-leb b a (omega (arith, ltb-true))
    go false e = le-leb b a (omega (arith, ltb-false))

-- at the top level there is none
pub parent_none : (v : View) (l : Storage) → v.counts.depth ≤ 1 → ParentOf v l (Ok None)
unfolding damaged_parent
parent_none v l h = let e = le-ltb 1 v.counts.depth h in record { number = rw e; place = λ z. rw e }

module _ (v : View) (l : Storage) (below : 1 < v.counts.depth) (h : v.inner.entries ≤ room_for (length l.entries)) (s : Search) where
  -- what decides on it, and its place
  parent_by : {p : Optional ℕ} {b : Bool} (t : Bool) → b ≡ t
      → b ≡ (misplaced_parent v l || (orphaned v.inner.parent v.parent.object v.siblings (parent_size v) (parent_entries v l) || unrecorded v.inner v.parent))
      → p ≡ place_back v l v.inner.parent → ParentOf v l (cond t (Err refusal.Damaged) (Ok p))
  unfolding damaged_parent
  parent_by true e q r = record { number = rw (lt-ltb 1 v.counts.depth below, sym q ∙ e); place = λ z. absurd (omega arith) }
  parent_by false e q r = record { number = rw (lt-ltb 1 v.counts.depth below, sym q ∙ e); place = λ z. ap Ok (rw (lt-ltb 1 v.counts.depth below) r) }

  -- of a new child: an object has an entry, a list an element
  pub parent_new : {t : Bool} → v.inner.parent ≡ None → Searches l.entries v.parent.entries v.inner.entries true (field_names v.counts.dictionary) (parent_size v) 0 s
      → childless_by v s ≡ t → ParentOf v l (cond t (Err refusal.Damaged) (Ok None))
  unfolding misplaced_parent
  parent_new {t} e q i =
      parent_by t i (rw (e, q.misplaced_any, range_within _ _ _ h, not_ltb v.parent.entries v.inner.entries, none_before l.entries v.parent.entries v.inner.entries) (go v.parent.object _ _ _))
      (rw e)
    where
      go : (o m : Bool) (n k : ℕ) → ((o && (m || eqb n 0)) || (not o && eqb k 0)) ≡ ((o && m) || (eqb (cond o n k) 0 || false))
      go true m n k = or-false (m || eqb n 0) ∙ sym (ap (λ t. m || t) (or-false (eqb n 0)))
      go false m n k = sym (or-false (eqb k 0))

  -- of a child that replaced another: the parent is an object, has an entry of its id, enough data and, under a mark, fewer undo records
  pub parent_replaced : {t : Bool} (former : Entry) → v.inner.parent ≡ Some former
      → Searches l.entries v.parent.entries v.inner.entries true (field_names v.counts.dictionary) (parent_size v) former.id s
      → unlike_by v s former.offset ≡ t → ParentOf v l (cond t (Err refusal.Damaged) (Ok (Some s.place)))
  unfolding misplaced_parent
  parent_replaced {t} former e q i =
      parent_by t i
      (rw (e, not_ltb s.place v.inner.entries, q.misplaced_any, q.place_first, range_within _ _ _ h, found_before l.entries v.parent.entries v.inner.entries former.id) (go v.parent.object _ _ _))
      (rw (e, q.place_first, range_within _ _ _ h))
    where
      go : (o m r u : Bool) → (not o || (m || (r || u))) ≡ ((o && m) || ((not o || r) || u))
      go true m r u = refl
      go false m r u = refl

-- ---- rows by what their tests are found to be

pub by_rows : {a b c m f n : Bool} (i j k : ℕ) → a ≡ m → b ≡ f → c ≡ n → cond m i (cond f j (cond n k 0)) ≡ cond a i (cond b j (cond c k 0))
by_rows i j k p q r = rw (p, q, r)

-- ---- what a close and a roll back give: nothing where they are refused; and where they are not

pub closes_none : {v : View} {l : Storage} (f : Refusal) → refusal_number f ≡ close_by v l → ClosesBy v l (Err f)
closes_none f e = record { number = e; largest_id = then_none _ f e }

pub largest_ok : {v : View} {l : Storage} {r : Result ℕ Refusal} → ClosesBy v l r → close_by v l ≡ 0 → r ≡ Ok (largest (ids_of (inner_entries v l)))
largest_ok {r = r} a = then_ok _ r a.number a.largest_id

pub backs_none : {n : ℕ} {v : View} {l : Storage} (f : Refusal) → refusal_number f ≡ n → Backs n v l (Err f)
backs_none f e = record { number = e; place = then_none _ f e }

pub place_ok : {n : ℕ} {v : View} {l : Storage} {r : Result (Optional ℕ) Refusal} → Backs n v l r → n ≡ 0 → r ≡ Ok (cond (ltb 1 v.counts.depth) (place_back v l v.inner.parent) None)
place_ok {r = r} a = then_ok _ r a.number a.place

-- ---- the rows of a roll back

-- number 1's own part, where it does not refuse
pub sound_parent : (d : Bool) → ◌≡◌ {A = ℕ} 0 (cond d 1 0) → d ≡ false
sound_parent true q = absurd (omega arith)
sound_parent false q = refl

-- what the code answers after `broken`
pub rollback_rows : (v : View) (l : Storage) → broken_of v l ≡ false
    → cond (damaged_parent v l) 1 (cond v.counts.finished 2 (cond (not (is_open v)) 3 0)) ≡ number_of v l roll_back
unfolding first number_of
rollback_rows v l e = rw (damaged_none v l (damaged_parent v l) e)

-- where number 1's own part refuses it
pub rollback_refused : {e f : Refusal} {r : Result (Optional ℕ) Refusal} (v : View) (l : Storage) → broken_of v l ≡ false → ParentOf v l (Err e) → r ≡ Err f → f ≡ e
    → Backs (number_of v l roll_back) v l r
rollback_refused {e} {f} {r} v l b p q i = go (damaged_parent v l) refl
  where
    go : (d : Bool) → damaged_parent v l ≡ d → Backs (number_of v l roll_back) v l r
    go true h =
        let n : ◌≡◌ {A = ℕ} 1 (number_of v l roll_back) = by_rows 1 2 3 h refl refl ∙ rollback_rows v l b in
        rw q (backs_none f (ap refusal_number i ∙ (p.number ∙ (rw h n))))
    go false h = absurd (number_some e (p.number ∙ rw h))

-- ---- the rows of a close

-- what the code answers after `broken`
pub close_rows : (v : View) (l : Storage) (s : Search) → broken_of v l ≡ false
    → Searches l.entries v.inner.entries v.counts.entries true (field_names v.counts.dictionary) (inner_size v) 0 s
    → cond (misread_by v l s) 1
    (cond v.counts.finished 2 (cond (not (is_open v)) 3 0))
    ≡ close_by v l
unfolding first misplaced_inner uncounted
close_rows v l s e q =
    rw (ends_read v l e, damaged_none v l (misread v l close) e, damaged_none v l (fallen_ends v l || misplaced_inner v l) e, q.misplaced_any, range_within _ _ _ (entries_within v l e))
    (go v.counts.finished (is_open v) (not v.inner.object) (fallen_ends v l) (misplaced_inner v l) (not (whole_values v.elements (inner_data v l))))
  where
    go : (f o n a m w : Bool)
        → ◌≡◌ {A = ℕ} (cond (a || (m || (f && ((o && n) && w)))) 1 (cond f 2 (cond (not o) 3 0)))
        (cond (eqb (cond f 2 (cond (not o) 3 0)) 0) (cond (a || m) 1 0) (cond (a || (m || ((o && n) && w))) 1 (cond f 2 (cond (not o) 3 0))))
    go true o n a m w = refl
    go false true n a m w = rw (or-false m)
    go false false n a m w = refl

-- the largest id that the pass finds
pub close_largest : (v : View) (l : Storage) (s : Search) → broken_of v l ≡ false
    → Searches l.entries v.inner.entries v.counts.entries true (field_names v.counts.dictionary) (inner_size v) 0 s → s.largest ≡ largest (ids_of (inner_entries v l))
close_largest v l s e q = rw (range_within _ _ _ (entries_within v l e)) at q.largest_id

-- ---- the rows of a finish

-- what the code answers after `broken`: the name ends are asked where one of 2, 4 and 15 holds
pub finish_rows : (v : View) (l : Storage) (out : List ℕ) → broken_of v l ≡ false
    → cond (eqb (late_of v) 0) 0 (cond (not (intact v.counts.dictionary l.text l.ends)) 1 (late_of v)) ≡ finish_by v l out
unfolding first
finish_rows v l out e = rw (e, ends_read v l e, damaged_none v l (fallen_ends v l) e)

-- ---- the rows of a uniqueness mark to set

-- what the code answers
pub unique_rows : (v : View) (l : Storage) (u : Bool) → cond (broken_of v l) 1 (cond v.counts.finished 2 (cond (not (in_object v)) 3 0)) ≡ number_of v l (uniqueness u)
unfolding first number_of
unique_rows v l u = rw (or-false (bad_floor v))

-- ---- the rows of a mark to set, and of a return

-- what the code answers
pub mark_rows : (v : View) (l : Storage) → cond (broken_of v l) 1 (cond v.counts.finished 2 (cond (no_mark_free v) 22 0)) ≡ number_of v l set_mark
unfolding first number_of
mark_rows v l = rw (or-false (bad_floor v))

-- what it answers after `broken`
pub return_rows : (v : View) (l : Storage) (j : ℕ) (s : Search) → broken_of v l ≡ false
    → Searches l.entries v.inner.entries v.counts.entries true (field_names v.counts.dictionary) (inner_size v) 0 s
    → cond (in_object v && s.misplaced) 1 (cond v.counts.finished 2 (cond (not_set v j) 22 0)) ≡ number_of v l (return_to j)
unfolding first number_of misplaced_inner
return_rows v l j s e q = rw (damaged_none v l (misplaced_inner v l) e, q.misplaced_any, range_within _ _ _ (entries_within v l e))

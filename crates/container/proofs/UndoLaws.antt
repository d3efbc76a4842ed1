-- Undo records: replaying, and the loop over them from the newest down, each a search and at most one number set.
use mathlib.Core.Path.{◌≡◌, refl, sym, ◌∙◌, ap, subst}
use mathlib.Core.Logic.{inl, ◌≢◌}
use mathlib.Core.Bool.{Bool, true, false, cond, true≢false}
use mathlib.Core.List.{List, [], ◌∷◌, ◌++◌}
use Prim.Native.Nat.{ℕ, zero, suc, ◌+◌, ◌-◌, ◌*◌, ◌≤◌, ◌<◌}
use native.Mathlib.Nat.{add-zero}
use native.Mathlib.Omega.{arith}
use lib.Dec.{eqb, leb, ltb}
use lib.ListN.{get_or, length, length-set, set}
use lib.Seq.{get_or-set_other, get_or-set_same}
use borrow.Author.Tests.{ltb-true, ltb-false, le-ltb, lt-ltb, le-leb, lt-leb}
use Rattle.std.specs.Prelude.{Option, None, Some, MatchOption}
use Rattle.std.specs.List.{find, range_with_len}
use Rattle.std.specs.Option.{is_some, option_map, unwrap_or}
use Rattle.container.specs.declared.Entry.{Entry}
use Rattle.container.specs.Entries.{entries_of, entry_at, put_entries, room_for, seek}
use Rattle.container.specs.Undo.{restore, replay, undone_from, undone_in, undone_once}
use Rattle.container.proofs.EntryLaws.{Apart, entries_set_other, length_entries, entries_append, put_self, put_over, seek_bound, set_entry_offset, seeks}

-- ---- records undone

-- the newer records are undone first
pub replay_append : (us vs es : List Entry) → replay (us ++ vs) es ≡ replay us (replay vs es)
unfolding replay
replay_append [] vs es = refl
replay_append (u ∷ us) vs es = ap (restore u) (replay_append us vs es)

length_restore : (u : Entry) (es : List Entry) → length (restore u es) ≡ length es
unfolding restore
length_restore u [] = refl
length_restore u (e ∷ es) = go (eqb e.id u.id) (length_restore u es)
  where
    go : (t : Bool) → length (restore u es) ≡ length es
        → length (cond t (record { id = e.id; offset = u.offset } ∷ es) (e ∷ restore u es)) ≡ suc (length es)
    go true h = refl
    go false h = ap suc h

pub length_replay : (us es : List Entry) → length (replay us es) ≡ length es
unfolding replay
length_replay [] es = refl
length_replay (u ∷ us) es = length_restore u (replay us es) ∙ length_replay us es

-- a record without an entry
restore_none : (u : Entry) (es : List Entry) → seek u.id es ≡ length es → restore u es ≡ es
unfolding seek restore
restore_none u [] h = refl
restore_none u (e ∷ es) h = go (eqb e.id u.id) h (restore_none u es)
  where
    go : (t : Bool) → cond t 0 (1 + seek u.id es) ≡ suc (length es) → (seek u.id es ≡ length es → restore u es ≡ es)
        → cond t (record { id = e.id; offset = u.offset } ∷ es) (e ∷ restore u es) ≡ e ∷ es
    go true h f = absurd (omega arith)
    go false h f = ap (λ z. e ∷ z) (f (omega arith))

-- ---- in a flat list

-- an offset set elsewhere
pub offset_other : (l : List ℕ) (j o k n : ℕ) → Apart j 1 k n → entries_of (set l (2 * j + 1) o) k n ≡ entries_of l k n
offset_other l j o k n a = ap (λ z. entries_of z k n) (sym (set_entry_offset l j o)) ∙ entries_set_other l j k n _ a

-- one set where the first entry of an id stands
pub entries_restored : (u : Entry) (l : List ℕ) (k n : ℕ) → seek u.id (entries_of l k n) < n → 2 * (k + n) ≤ length l
    → entries_of (set l (2 * (k + seek u.id (entries_of l k n)) + 1) u.offset) k n ≡ restore u (entries_of l k n)
unfolding entries_of seek restore
entries_restored u l k zero h r = absurd (omega arith)
entries_restored u l k (suc n) h r = go (eqb (get_or l (2 * k) 0) u.id) refl h (entries_restored u l (k + 1) n)
  where
    o : ℕ
    o = u.offset

    s : ℕ
    s = seek u.id (entries_of l (k + 1) n)

    go : (t : Bool) → eqb (get_or l (2 * k) 0) u.id ≡ t → cond t 0 (1 + s) < suc n
        → (s < n → 2 * (k + 1 + n) ≤ length l → entries_of (set l (2 * (k + 1 + s) + 1) o) (k + 1) n ≡ restore u (entries_of l (k + 1) n))
        → entries_of (set l (2 * (k + cond t 0 (1 + s)) + 1) o) k (suc n)
        ≡ cond t (record { id = get_or l (2 * k) 0; offset = o } ∷ entries_of l (k + 1) n) (entry_at l k ∷ restore u (entries_of l (k + 1) n))
    go true p h f =
        let a : 2 * k ≢ 2 * k + 1 = (λ q. omega arith) in
        let b : 2 * k + 1 < length l = omega arith in
        let q = offset_other l k o (k + 1) n (inl (omega arith)) in
        subst (λ i. entries_of (set l (2 * i + 1) o) k (suc n) ≡ record { id = get_or l (2 * k) 0; offset = o } ∷ entries_of l (k + 1) n) (sym (add-zero k))
        (rw (q, get_or-set_other l (2 * k + 1) (2 * k) o 0 a, get_or-set_same l (2 * k + 1) o 0 b))
    go false p h f =
        let a : 2 * k ≢ 2 * (k + 1 + s) + 1 = (λ q. omega arith) in
        let b : 2 * k + 1 ≢ 2 * (k + 1 + s) + 1 = (λ q. omega arith) in
        let e : k + (1 + s) ≡ k + 1 + s = omega arith in
        let j = 2 * (k + 1 + s) + 1 in
        subst (λ i. entries_of (set l (2 * i + 1) o) k (suc n) ≡ entry_at l k ∷ restore u (entries_of l (k + 1) n)) (sym e)
        (rw (f (omega arith) (omega arith), get_or-set_other l j (2 * k) o 0 a, get_or-set_other l j (2 * k + 1) o 0 b))

-- ---- one record undone among n entries from entry k on

module _ (l : List ℕ) (k n : ℕ) (u : Entry) where
  at : ℕ
  at = seek u.id (entries_of l k n)

  once_entries : 2 * (k + n) ≤ length l → entries_of (undone_once l k n u) k n ≡ restore u (entries_of l k n)
  unfolding undone_once at
  once_entries r = go (ltb at n) refl
    where
      go : (t : Bool) → ltb at n ≡ t → entries_of (cond t (set l (2 * (k + at) + 1) u.offset) l) k n ≡ restore u (entries_of l k n)
      go true e = entries_restored u l k n (ltb-true at n e) r
      go false e =
          let f = ltb-false at n e in
          let c = length_entries l k n in
          let b = (seeks u.id (entries_of l k n)).bound in
          sym (restore_none u (entries_of l k n) (omega arith))

  once_length : length (undone_once l k n u) ≡ length l
  unfolding undone_once at
  once_length = go (ltb at n)
    where
      go : (t : Bool) → length (cond t (set l (2 * (k + at) + 1) u.offset) l) ≡ length l
      go true = length-set l (2 * (k + at) + 1) u.offset
      go false = refl

  -- n entries written over it leave nothing of it
  once_over : (fs : List Entry) → length fs ≡ n → put_entries k fs (undone_once l k n u) ≡ put_entries k fs l
  unfolding put_entries undone_once at
  once_over fs c = go (ltb at n) refl
    where
      go : (t : Bool) → ltb at n ≡ t → put_entries k fs (cond t (set l (2 * (k + at) + 1) u.offset) l) ≡ put_entries k fs l
      go true e =
          let f = ltb-true at n e in
          let d : Entry = record { id = get_or l (2 * (k + at)) 0; offset = u.offset } in
          ap (put_entries k fs) (sym (set_entry_offset l (k + at) u.offset)) ∙ put_over k fs (k + at) (d ∷ []) l (omega arith) (omega arith)
      go false e = refl

-- ---- the loop's invariant, "what is left": the records that are left, undone in what stands now, give the target

pub record Undoes (l : List ℕ) (k n : ℕ) (us : List Entry) (target : List ℕ) : Type 0 where
  pub left : put_entries k (replay us (entries_of l k n)) l ≡ target
  pub room : 2 * (k + n) ≤ length l

undoes_again : {l : List ℕ} {k n : ℕ} {us : List Entry} {target : List ℕ} (u : Entry) → Undoes l k n (us ++ (u ∷ [])) target
    → Undoes (undone_once l k n u) k n us target
unfolding replay
undoes_again {l} {k} {n} {us} {target} u x =
    let m = undone_once l k n u in
    let e = once_entries l k n u x.room in
    let fs = replay us (restore u (entries_of l k n)) in
    let p : put_entries k (replay us (entries_of m k n)) m ≡ put_entries k fs m = ap (λ z. put_entries k (replay us z) m) e in
    let c : length fs ≡ n = length_replay us (restore u (entries_of l k n)) ∙ (ap length (sym e) ∙ length_entries m k n) in
    let q : put_entries k fs m ≡ put_entries k fs l = once_over l k n u fs c in
    let r = ap (λ z. put_entries k z l) (sym (replay_append us (u ∷ []) (entries_of l k n))) in
    record { left = p ∙ (q ∙ (r ∙ x.left)); room = rw (once_length l k n u) x.room }

-- the newest of the records that are left
newest : (l : List ℕ) (low n : ℕ) → entries_of l low (n + 1) ≡ entries_of l low n ++ (entry_at l (low + n) ∷ [])
unfolding entries_of
newest l low n = entries_append l low n 1

-- the records from low up to h are left
pub record Undoing (l : List ℕ) (from to : ℕ) (undo : List ℕ) (low h : ℕ) (target : List ℕ) (size : ℕ) : Type 0 where
  pub left : Undoes l from (to - from) (entries_of undo low (h - low)) target
  pub size_is : length l ≡ size
  pub order : from ≤ to
  pub room : 2 * to ≤ size
  pub records : 2 * h ≤ length undo

pub undoing_start : (l : List ℕ) (from to : ℕ) (undo : List ℕ) (low high : ℕ) → from ≤ to → 2 * to ≤ length l → 2 * high ≤ length undo
    → Undoing l from to undo low high (undone_from l from to undo low high) (length l)
undoing_start l from to undo low high a b d = record { left = record { left = refl; room = omega arith }; size_is = refl; order = a; room = b; records = d }

pub undoing_again : {l : List ℕ} {from to : ℕ} {undo : List ℕ} {low h : ℕ} {target : List ℕ} {size : ℕ} {m : List ℕ}
    → Undoing l from to undo low h target size → low < h → m ≡ undone_once l from (to - from) (entry_at undo (h - 1))
    → Undoing m from to undo low (h - 1) target size
undoing_again {l} {from} {to} {undo} {low} {h} {target} {size} {m} x g e =
    let u = entry_at undo (h - 1) in
    let n = h - 1 - low in
    let p : h - low ≡ n + 1 = omega arith in
    let q : low + n ≡ h - 1 = omega arith in
    let y : Undoes l from (to - from) (entries_of undo low n ++ (u ∷ [])) target = rw (newest undo low n, q) at (rw p at x.left) in
    let r = x.records in
    rw e (record {
      left = undoes_again u y;
      size_is = once_length l from (to - from) u ∙ x.size_is;
      order = x.order;
      room = x.room;
      records = omega arith;
    })

pub undoing_end : {l : List ℕ} {from to : ℕ} {undo : List ℕ} {low h : ℕ} {target : List ℕ} {size : ℕ}
    → Undoing l from to undo low h target size → h ≤ low → l ≡ target
unfolding entries_of replay
undoing_end {l} {from} {to} {undo} {low} {h} x g =
    let e : h - low ≡ 0 = omega arith in
    sym (put_self l from (to - from)) ∙ (rw e at x.left).left

-- ---- one record, as the look-up finds its entry

-- is this the entry of an id?
abbrev pub is_of : ℕ → List ℕ → ℕ → Bool
is_of id l k = eqb (get_or l (2 * k) 0) id

find_seek : (id : ℕ) (l : List ℕ) (k n : ℕ)
    → let s = seek id (entries_of l k n) in find (is_of id l) (range_with_len k n) ≡ cond (ltb s n) (Some (k + s)) None
unfolding entries_of seek
find_seek id l k zero = refl
find_seek id l k (suc n) = go (is_of id l k) (find_seek id l (k + 1) n)
  where
    s : ℕ
    s = seek id (entries_of l (k + 1) n)

    below : (t : Bool) → ltb s n ≡ t → ltb (1 + s) (suc n) ≡ ltb s n
    below true t = rw t (lt-ltb (1 + s) (suc n) (omega (arith, ltb-true s n t)))
    below false t = rw t (le-ltb (1 + s) (suc n) (omega (arith, ltb-false s n t)))

    go : (t : Bool) → find (is_of id l) (range_with_len (k + 1) n) ≡ cond (ltb s n) (Some (k + 1 + s)) None
        → cond t (Some k) (find (is_of id l) (range_with_len (k + 1) n)) ≡ cond (ltb (cond t 0 (1 + s)) (suc n)) (Some (k + cond t 0 (1 + s))) None
    go true f = rw (add-zero k, lt-ltb 0 (suc n) (omega arith)) refl
    go false f =
        let p : k + (1 + s) ≡ k + 1 + s = omega arith in
        rw (p, below (ltb s n) refl) f

pub found_first : (id : ℕ) (l : List ℕ) (n : ℕ) (o : Option ℕ) → option_map (λ x. x) o ≡ find (is_of id l) (range_with_len 0 n)
    → let s = seek id (entries_of l 0 n) in MatchOption o (s ≡ n) (λ p. (p ≡ s) × (s < n))
found_first id l n o e = go (ltb s n) o refl (e ∙ find_seek id l 0 n)
  where
    s : ℕ
    s = seek id (entries_of l 0 n)

    go : (t : Bool) (o : Option ℕ) → ltb s n ≡ t → option_map (λ x. x) o ≡ cond t (Some (0 + s)) None → MatchOption o (s ≡ n) (λ p. (p ≡ s) × (s < n))
    go true None t e = absurd (true≢false (sym (ap is_some e)))
    go true (Some p) t e = let q : p ≡ 0 + s = ap (λ o. unwrap_or o 0) e in (omega arith, ltb-true s n t)
    go false None t e = let a = seek_bound id l 0 n in omega (arith, ltb-false s n t)
    go false (Some p) t e = absurd (true≢false (ap is_some e))

module _ (l : List ℕ) (n : ℕ) (u : Entry) where
  pub once_found : (k : ℕ) → (k ≡ seek u.id (entries_of l 0 n)) × (seek u.id (entries_of l 0 n) < n) → set l (2 * k + 1) u.offset ≡ undone_once l 0 n u
  unfolding undone_once
  once_found k e =
      let z : 0 + seek u.id (entries_of l 0 n) ≡ seek u.id (entries_of l 0 n) = omega arith in
      rw (e.0, lt-ltb (seek u.id (entries_of l 0 n)) n e.1, z)

  pub once_passed : seek u.id (entries_of l 0 n) ≡ n → l ≡ undone_once l 0 n u
  unfolding undone_once
  once_passed e = rw (le-ltb (seek u.id (entries_of l 0 n)) n (omega arith))

-- ---- the tests before the loop

module _ (l : List ℕ) (from to : ℕ) (undo : List ℕ) (low high : ℕ) where
  pub undo_fallen : to < from → l ≡ undone_in l from to undo low high
  unfolding undone_in
  undo_fallen h = rw (lt-leb from to h)

  pub undo_over : from ≤ to → room_for (length l) < to → l ≡ undone_in l from to undo low high
  unfolding undone_in
  undo_over h k = rw (le-leb from to h, lt-leb to (room_for (length l)) k)

  pub undo_empty : from ≤ to → to ≤ room_for (length l) → high ≤ low → l ≡ undone_in l from to undo low high
  unfolding undone_in entries_of replay
  undo_empty h k r =
      let z : high - low ≡ 0 = omega arith in
      rw (le-leb from to h, le-leb to (room_for (length l)) k, z) (empty (leb high (room_for (length undo))))
    where
      empty : (t : Bool) → l ≡ cond t (put_entries from (entries_of l from (to - from)) l) l
      empty true = sym (put_self l from (to - from))
      empty false = refl

  pub undo_unheld : from ≤ to → to ≤ room_for (length l) → room_for (length undo) < high → l ≡ undone_in l from to undo low high
  unfolding undone_in
  undo_unheld h k r = rw (le-leb from to h, le-leb to (room_for (length l)) k, lt-leb high (room_for (length undo)) r)

  pub undo_done : {m : List ℕ} → from ≤ to → to ≤ room_for (length l) → high ≤ room_for (length undo) → m ≡ undone_from l from to undo low high
      → m ≡ undone_in l from to undo low high
  unfolding undone_in
  undo_done h k r e = rw (le-leb from to h, le-leb to (room_for (length l)) k, le-leb high (room_for (length undo)) r) e

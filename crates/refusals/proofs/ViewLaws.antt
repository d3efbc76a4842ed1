-- What number 1's part that every call asks (`broken_of`) gives where it holds and where it does not, and the ranges of entries
-- that there is room for.
use mathlib.Core.Path.{◌≡◌, refl, sym}
use mathlib.Core.Bool.{Bool, true, false, cond, not, ◌||◌, true≢false}
use mathlib.Core.List.{List}
use Prim.Native.Nat.{ℕ, suc, ◌+◌, ◌-◌, ◌≤◌, min}
use native.Mathlib.Omega.{arith}
use lib.Dec.{eqb, leb, ltb}
use lib.ListN.{drop, length, take}
use borrow.Author.Tests.{ltb-true, ltb-false, lt-ltb, le-ltb, leb-true, eq-eqb, ne_eqb, not-false, not-true}
use Rattle.encoding.specs.Rows.{first}
use Rattle.encoding.specs.Slices.{counted}
use Rattle.metadata.specs.Names.{exceeds, intact, field_names, text_size}
use Rattle.container.specs.Entries.{entries_of, range_of, room_for, seek}
use Rattle.container.proofs.EntryLaws.{length_entries, seek_bound}
use Rattle.semantics.specs.declared.View.{View}
use Rattle.semantics.specs.Record.{Storage, Call, close, finish, countable, is_open, in_list, inner_size}
use Rattle.semantics.specs.Damage.{over_used, grown, unchained, bad_floor, fallen_ends, misplaced_inner, misread, damaged}
use Rattle.semantics.specs.Table.{rows, number_of}
use Rattle.semantics.proofs.ViewLaws.{both}
use Rattle.semantics.proofs.Demand1.{damaged_number}
use Rattle.refusals.specs.Decide.{broken_of, close_by, finish_by}

-- neither test of an `||` that does not hold does
pub neither : (t u : Bool) → (t || u) ≡ false → (t ≡ false) × (u ≡ false)
neither true u e = absurd (true≢false e)
neither false u e = (refl, e)

-- a number 0: the first row does not hold, and the rest is 0
pub past : (t : Bool) (n r : ℕ) → cond t (suc n) r ≡ 0 → (t ≡ false) × (r ≡ 0)
past true n r e = absurd (omega arith)
past false n r e = (refl, e)

-- ---- where it holds

-- number 1 does
pub damaged_broken : (v : View) (l : Storage) (m : Bool) → broken_of v l ≡ true → damaged v l m ≡ true
damaged_broken v l m e = go (over_used v l) (unchained v) (bad_floor v) e
  where
    go : (a b c : Bool) → (a || (b || c)) ≡ true → (a || (b || (c || m))) ≡ true
    go true b c e = refl
    go false true c e = refl
    go false false true e = refl
    go false false false e = absurd (true≢false (sym e))

-- so every call has number 1
pub broken_number : (v : View) (l : Storage) (c : Call) → broken_of v l ≡ true → number_of v l c ≡ 1
broken_number v l c e = damaged_number v l c (damaged_broken v l (misread v l c) e)

one : (t : Bool) → ◌≡◌ {A = ℕ} (cond t 1 1) 1
one true = refl
one false = refl

-- as have a close and a finish
pub broken_close : (v : View) (l : Storage) → broken_of v l ≡ true → close_by v l ≡ 1
unfolding first
broken_close v l e =
    rw (damaged_broken v l (misread v l close) e, damaged_broken v l (fallen_ends v l || misplaced_inner v l) e) (one (eqb (first (drop 1 (take 3 (rows v l close)))) 0))

pub broken_finish : (v : View) (l : Storage) (out : List ℕ) → broken_of v l ≡ true → finish_by v l out ≡ 1
unfolding first
broken_finish v l out e = rw (damaged_broken v l (fallen_ends v l) e, e) (one (eqb (first (drop 1 (take 4 (rows v l (finish out))))) 0))

-- ---- where it does not

-- none of its three tests holds
pub broken_none : (v : View) (l : Storage) → broken_of v l ≡ false → (over_used v l ≡ false) × (unchained v ≡ false) × (bad_floor v ≡ false)
broken_none v l e =
    let a = neither (over_used v l) (unchained v || bad_floor v) e in
    let b = neither (unchained v) (bad_floor v) a.1 in
    (a.0, b.0, b.1)

-- nor do they where number 1 does not
pub undamaged_unbroken : (v : View) (l : Storage) (x : Bool) → damaged v l x ≡ false → broken_of v l ≡ false
undamaged_unbroken v l x e =
    let a = neither (over_used v l) _ e in
    let b = neither (unchained v) (bad_floor v || x) a.1 in
    rw (a.0, b.0, (neither (bad_floor v) x b.1).0)

-- the call's own part is number 1
pub damaged_none : (v : View) (l : Storage) (x : Bool) → broken_of v l ≡ false → damaged v l x ≡ x
damaged_none v l x e = let b = broken_none v l e in rw (b.0, b.1, b.2)

-- the names, the entries and the undo records lie within the lent slices
pub record Within (v : View) (l : Storage) : Type 0 where
  pub text : exceeds v.counts.dictionary (length l.text) (length l.ends) ≡ false
  pub names : field_names v.counts.dictionary ≤ length l.ends
  pub entries : v.counts.entries ≤ room_for (length l.entries)
  pub undo : v.counts.undo ≤ room_for (length l.undo)

-- and do
pub within : (v : View) (l : Storage) → broken_of v l ≡ false → Within v l
unfolding over_used
within v l e =
    let m = v.counts.dictionary in
    let x = exceeds m (length l.text) (length l.ends) in
    let o = neither x _ (neither (ltb (counted (length l.value)) v.counts.value) _ (broken_none v l e).0).1 in
    let n = neither (ltb (counted (length l.text)) (text_size m)) (ltb (length l.ends) (field_names m)) o.0 in
    let u = neither (ltb (room_for (length l.entries)) v.counts.entries) _ o.1 in
    record { text = o.0; names = ltb-false _ _ n.1; entries = ltb-false _ _ u.0; undo = ltb-false _ _ u.1 }

-- the used entries lie within the lent numbers
pub entries_within : (v : View) (l : Storage) → broken_of v l ≡ false → v.counts.entries ≤ room_for (length l.entries)
entries_within v l e = (within v l e).entries

-- the innermost's starting marks lie within the used counts, and a list has few elements
pub record Grown (v : View) : Type 0 where
  pub value : leb v.inner.value v.counts.value ≡ true
  pub entries : leb v.inner.entries v.counts.entries ≡ true
  pub undo : leb v.inner.undo v.counts.undo ≡ true
  pub elements : countable v.inner v.elements (inner_size v) ≡ true

pub grown_within : (v : View) (l : Storage) → broken_of v l ≡ false → Grown v
unfolding unchained
grown_within v l e =
    let g = (both v.chain (grown v) (not-false _ (broken_none v l e).1)).1 in
    let k = both (leb v.inner.value v.counts.value) _ g in
    let n = (both (leb v.inner.names (field_names v.counts.dictionary)) _ k.1).1 in
    let t = (both (leb v.inner.text (text_size v.counts.dictionary)) _ n).1 in
    let i = both (leb v.inner.entries v.counts.entries) _ t in
    let u = both (leb v.inner.undo v.counts.undo) _ i.1 in
    record { value = k.0; entries = i.0; undo = u.0; elements = u.1 }

-- the innermost's entries start within the lent numbers
pub inner_within : (v : View) (l : Storage) → broken_of v l ≡ false → v.inner.entries ≤ room_for (length l.entries)
inner_within v l e =
    let h = leb-true v.inner.entries v.counts.entries (grown_within v l e).entries in
    let w = entries_within v l e in
    omega arith

-- a list has no more elements than there are value bytes
pub few_elements : (v : View) (l : Storage) → broken_of v l ≡ false → in_list v ≡ true → v.elements ≤ v.counts.value
few_elements v l e i =
    let o = not-true v.inner.object (both (is_open v) (not v.inner.object) i).1 in
    let h = leb-true v.elements (inner_size v) (rw o at (grown_within v l e).elements) in
    omega arith

-- what the dictionary asks of the name ends is what the rows ask
pub ends_read : (v : View) (l : Storage) → broken_of v l ≡ false → not (intact v.counts.dictionary l.text l.ends) ≡ fallen_ends v l
unfolding intact fallen_ends
ends_read v l e = rw (within v l e).text

-- ---- the entries of a range

-- one that there is room for is cut nowhere
pub range_within : (l : List ℕ) (from to : ℕ) → to ≤ room_for (length l) → range_of l from to ≡ entries_of l from (to - from)
range_within l from to h = let e : min to (room_for (length l)) ≡ to = omega arith in rw e

shifted : (i from to : ℕ) → i ≤ to - from → ltb (from + i) to ≡ ltb i (to - from)
shifted i from to h = go (ltb i (to - from)) refl
  where
    go : (t : Bool) → ltb i (to - from) ≡ t → ltb (from + i) to ≡ t
    go true e = lt-ltb (from + i) to (omega (arith, ltb-true))
    go false e = le-ltb (from + i) to (omega (arith, ltb-false))

-- the place found lies before the range's end just where the id has an entry
pub found_before : (l : List ℕ) (from to id : ℕ)
    → ltb (from + seek id (entries_of l from (to - from))) to ≡ ltb (seek id (entries_of l from (to - from))) (length (entries_of l from (to - from)))
found_before l from to id = rw (length_entries l from (to - from)) (shifted (seek id (entries_of l from (to - from))) from to (seek_bound id l from (to - from)))

-- it has no entry just where its end is not above its start
pub none_before : (l : List ℕ) (from to : ℕ) → not (ltb from to) ≡ eqb (length (entries_of l from (to - from))) 0
none_before l from to = rw (length_entries l from (to - from)) (go (ltb from to) refl)
  where
    go : (t : Bool) → ltb from to ≡ t → not t ≡ eqb (to - from) 0
    go true p = sym (ne_eqb (to - from) 0 (λ r. omega (arith, ltb-true)))
    go false p = sym (eq-eqb (to - from) 0 (omega (arith, ltb-false)))

-- Entries in a part of the numbers, and written in a row: the sort of a part is a part of the sort of all.
use mathlib.Core.Path.{◌≡◌, refl, sym, ◌∙◌, ap}
use mathlib.Core.List.{List, [], ◌∷◌, ◌++◌}
use Prim.Native.Nat.{ℕ, zero, suc, ◌+◌, ◌-◌, ◌*◌, ◌/◌, ◌≤◌, ◌<◌}
use native.Mathlib.Omega.{arith}
use lib.ListN.{get_or, set, length, take, drop, length-append, length-take, length-drop}
use lib.Seq.{drop-cons}
use borrow.Rule.Slice.PartMut.{put_mid}
use Rattle.std.specs.List.{copy_within}
use Rattle.std.proofs.lemmas.List.{get_or-take, get_or-drop}
use Rattle.encoding.specs.Slices.{write}
use Rattle.encoding.proofs.SliceLaws.{length_write, write_none, write_one, write_write}
use Rattle.metadata.specs.Names.{Name}
use Rattle.metadata.proofs.FinishLaws.{write_part}
use Rattle.container.specs.declared.Entry.{Entry}
use Rattle.container.specs.Entries.{entries_of, entry_at, put_entries, set_entry}
use Rattle.container.specs.Sort.{insert, sort, moved_up, inserted, sorted_in}
use Rattle.container.specs.Undo.{replay, undone_from}
use Rattle.container.proofs.EntryLaws.{entries_put_same, length_entries}
use Rattle.container.proofs.UndoLaws.{length_replay}
use Rattle.container.proofs.SortLaws.{length_insert, length_sort}

-- ---- entries as numbers

abbrev pub flat : List Entry → List ℕ
flat [] = []
flat (e ∷ es) = e.id ∷ e.offset ∷ flat es

length_flat : (es : List Entry) → length (flat es) ≡ 2 * length es
length_flat [] = refl
length_flat (e ∷ es) = let h = length_flat es in omega arith

flat_append : (es fs : List Entry) → flat (es ++ fs) ≡ flat es ++ flat fs
flat_append [] fs = refl
flat_append (e ∷ es) fs = ap (λ l. e.id ∷ e.offset ∷ l) (flat_append es fs)

set_flat : (l : List ℕ) (k : ℕ) (e : Entry) → 2 * (k + 1) ≤ length l → set_entry l k e ≡ write (2 * k) (e.id ∷ e.offset ∷ []) l
set_flat l k e h =
    let w = length_write (2 * k) (e.id ∷ []) l (omega arith) in
    rw (write_one l (2 * k) e.id (omega arith))
    (write_one (write (2 * k) (e.id ∷ []) l) (2 * k + 1) e.offset (omega arith) ∙ write_write l (e.id ∷ []) (e.offset ∷ []) (2 * k) (omega arith))

pub put_flat : (k : ℕ) (es : List Entry) (l : List ℕ) → 2 * (k + length es) ≤ length l → put_entries k es l ≡ write (2 * k) (flat es) l
unfolding put_entries
put_flat k [] l h = write_none l (2 * k)
put_flat k (e ∷ es) l h =
    let a = e.id ∷ e.offset ∷ [] in
    let s = set_flat l k e (omega arith) in
    let n = length_write (2 * k) a l (omega arith) in
    let f = length_flat es in
    let p : 2 * (k + 1) ≡ 2 * k + length a = omega arith in
    put_flat (k + 1) es (set_entry l k e) (rw s (omega arith)) ∙ (rw (s, p) (write_write l a (flat es) (2 * k) (omega arith)))

pub flat_entries : (l : List ℕ) (k n : ℕ) → 2 * (k + n) ≤ length l → flat (entries_of l k n) ≡ take (2 * n) (drop (2 * k) l)
unfolding entries_of
flat_entries l k zero h = refl
flat_entries l k (suc n) h =
    let a : drop (2 * k) l ≡ get_or l (2 * k) 0 ∷ drop (suc (2 * k)) l = drop-cons l (2 * k) 0 (omega arith) in
    let b : drop (suc (2 * k)) l ≡ get_or l (suc (2 * k)) 0 ∷ drop (suc (suc (2 * k))) l = drop-cons l (suc (2 * k)) 0 (omega arith) in
    let c : suc (suc (2 * k)) ≡ 2 * (k + 1) = omega arith in
    let d : suc (2 * k) ≡ 2 * k + 1 = omega arith in
    let e : 2 * suc n ≡ suc (suc (2 * n)) = omega arith in
    rw (a, b, c, d, e, flat_entries l (k + 1) n (omega arith)) refl

-- ---- a part

module _ (a s : ℕ) (l : List ℕ) where
  abbrev part : List ℕ
  part = take s (drop (2 * a) l)

  pub part_entry : (i : ℕ) → 2 * (i + 1) ≤ s → entry_at part i ≡ entry_at l (a + i)
  part_entry i h =
      let p : 2 * a + 2 * i ≡ 2 * (a + i) = omega arith in
      let q : 2 * a + (2 * i + 1) ≡ 2 * (a + i) + 1 = omega arith in
      let x = get_or-take s (drop (2 * a) l) (2 * i) 0 (omega arith) ∙ (get_or-drop (2 * a) l (2 * i) 0 ∙ ap (λ k. get_or l k 0) p) in
      let y = get_or-take s (drop (2 * a) l) (2 * i + 1) 0 (omega arith) ∙ (get_or-drop (2 * a) l (2 * i + 1) 0 ∙ ap (λ k. get_or l k 0) q) in
      λ i. record { id = x i; offset = y i }

  pub part_entries : (i n : ℕ) → 2 * (i + n) ≤ s → entries_of part i n ≡ entries_of l (a + i) n
  unfolding entries_of
  part_entries i zero h = refl
  part_entries i (suc n) h =
      let e : a + (i + 1) ≡ a + i + 1 = omega arith in
      rw (part_entry i (omega arith), part_entries (i + 1) n (omega arith), e) refl

  pub part_put : (es : List Entry) → 2 * length es ≤ s → 2 * a + s ≤ length l → put_mid (2 * a) s l (put_entries 0 es part) ≡ put_entries a es l
  part_put es h r =
      let k : length part ≡ s = length-take s (drop (2 * a) l) ∙ omega (arith, length-drop (2 * a) l) in
      let f = length_flat es in
      ap (put_mid (2 * a) s l) (put_flat 0 es part (omega arith)) ∙ (write_part (2 * a) s l (flat es) (omega arith) r ∙ sym (put_flat a es l (omega arith)))

-- the sort of a part is its part of the sort of all
pub sorted_part : (names : List Name) (from to : ℕ) (l : List ℕ) {ys : List ℕ} → from ≤ to → 2 * to ≤ length l
    → (let rest = take (2 * to - 2 * from) (drop (2 * from) l) in ys ≡ sorted_in names 0 (length rest / 2) rest)
    → put_mid (2 * from) (2 * to - 2 * from) l ys ≡ sorted_in names from to l
unfolding sorted_in
sorted_part names from to l h r y =
    let s = 2 * to - 2 * from in
    let es = sort names (entries_of l from (to - from)) in
    let k : length es ≡ to - from = length_sort names (entries_of l from (to - from)) ∙ length_entries l from (to - from) in
    let t : length (take s (drop (2 * from) l)) ≡ s = length-take s (drop (2 * from) l) ∙ omega (arith, length-drop (2 * from) l) in
    let z : length (take s (drop (2 * from) l)) / 2 - 0 ≡ to - from = omega arith in
    let f : from + 0 ≡ from = omega arith in
    rw (y, z, part_entries from s l 0 (to - from) (omega arith), f) (part_put from s l es (omega arith) (omega arith))

-- the entries that it leaves there
pub sorted_read : (names : List Name) (from to : ℕ) (l : List ℕ) {ys : List ℕ} → from ≤ to → 2 * to ≤ length l
    → (let rest = take (2 * to - 2 * from) (drop (2 * from) l) in ys ≡ sorted_in names 0 (length rest / 2) rest)
    → entries_of ys 0 (to - from) ≡ sort names (entries_of l from (to - from))
unfolding sorted_in
sorted_read names from to l h r y =
    let s = 2 * to - 2 * from in
    let rest = take s (drop (2 * from) l) in
    let es = sort names (entries_of l from (to - from)) in
    let k : length es ≡ to - from = length_sort names (entries_of l from (to - from)) ∙ length_entries l from (to - from) in
    let t : length rest ≡ s = length-take s (drop (2 * from) l) ∙ omega (arith, length-drop (2 * from) l) in
    let z : length rest / 2 - 0 ≡ to - from = omega arith in
    let f : from + 0 ≡ from = omega arith in
    rw (y, z, part_entries from s l 0 (to - from) (omega arith), f) (rw k at (entries_put_same 0 es rest (omega arith)))

-- an entry put among those behind it, likewise
pub inserted_part : (names : List Name) (j to n s : ℕ) (l : List ℕ) {ys : List ℕ} → j < to → 2 * j + s ≤ length l → 2 * (to - j) ≤ s → n ≡ to - j
    → ys ≡ inserted names 0 n (take s (drop (2 * j) l))
    → put_mid (2 * j) s l ys ≡ inserted names j to l
unfolding inserted
inserted_part names j to n s l h r q e y =
    let fs = entries_of l (j + 1) (to - (j + 1)) in
    let es = insert names (entry_at l j) fs in
    let k : length es ≡ suc (to - (j + 1)) = length_insert names (entry_at l j) fs ∙ ap suc (length_entries l (j + 1) (to - (j + 1))) in
    let z : n - (0 + 1) ≡ to - (j + 1) = omega arith in
    let f : j + 0 ≡ j = omega arith in
    rw (y, z, part_entry j s l 0 (omega arith), part_entries j s l (0 + 1) (to - (j + 1)) (omega arith), f) (part_put j s l es (omega arith) r)

-- the numbers from entry j on
pub tail_length : (j : ℕ) (l : List ℕ) → length (take (length l - 2 * j) (drop (2 * j) l)) ≡ length l - 2 * j
tail_length j l = length-take (length l - 2 * j) (drop (2 * j) l) ∙ omega (arith, length-drop (2 * j) l)

-- those behind entry j in order, as they stand there
pub tail_held : (names : List Name) (j to : ℕ) (l : List ℕ) → j < to → to ≡ length l / 2
    → sort names (entries_of l (j + 1) (to - (j + 1))) ≡ entries_of l (j + 1) (to - (j + 1))
    → let rest = take (length l - 2 * j) (drop (2 * j) l) in let n = length rest / 2 - 1 in sort names (entries_of rest 1 n) ≡ entries_of rest 1 n
tail_held names j to l h e k =
    let s = length l - 2 * j in
    let rest = take s (drop (2 * j) l) in
    let t = tail_length j l in
    let n : length rest / 2 - 1 ≡ to - (j + 1) = omega arith in
    rw (n, part_entries j s l 1 (to - (j + 1)) (omega arith)) k

-- ---- the first entry moved to place k, by the library's `copy_within`

copied : (l : List ℕ) (k : ℕ) → 2 * (k + 1) ≤ length l → copy_within l 2 (2 * (k + 1)) 0 ≡ write 0 (take (2 * k) (drop 2 l)) l
unfolding write
copied l k h =
    let n : length (take (2 * k) (drop 2 l)) ≡ 2 * k = length-take (2 * k) (drop 2 l) ∙ omega (arith, length-drop 2 l) in
    let e : 2 * (k + 1) - 2 ≡ 2 * k = omega arith in
    rw (e, n) refl

pub first_moved : (l : List ℕ) (k : ℕ) → 2 * (k + 1) ≤ length l
    → set (set (copy_within l 2 (2 * (k + 1)) 0) (2 * k) (get_or l 0 0)) (2 * k + 1) (get_or l 1 0) ≡ moved_up 0 k l
unfolding moved_up
first_moved l k h =
    let bs = take (2 * k) (drop 2 l) in
    let e = entry_at l 0 in
    let n : length bs ≡ 2 * k = length-take (2 * k) (drop 2 l) ∙ omega (arith, length-drop 2 l) in
    let es = entries_of l (0 + 1) (k - 0) in
    let z : k - 0 ≡ k = omega arith in
    let f : flat es ≡ bs = rw z (flat_entries l 1 k (omega arith)) in
    let w = length_write 0 bs l (omega arith) in
    let p = length-append es (e ∷ []) in
    let q = length_entries l (0 + 1) (k - 0) in
    let t : flat (es ++ (e ∷ [])) ≡ bs ++ (e.id ∷ e.offset ∷ []) = flat_append es (e ∷ []) ∙ ap (λ x. x ++ (e.id ∷ e.offset ∷ [])) f in
    let a : 2 * k ≡ 0 + length bs = omega arith in
    let c : set_entry (write 0 bs l) k e ≡ write (0 + length bs) (e.id ∷ e.offset ∷ []) (write 0 bs l) =
    set_flat (write 0 bs l) k e (omega arith) ∙ ap (λ i. write i (e.id ∷ e.offset ∷ []) (write 0 bs l)) a in
    rw (copied l k h)
    (c ∙ (write_write l bs (e.id ∷ e.offset ∷ []) 0 (omega arith) ∙ (ap (λ x. write 0 x l) (sym t) ∙ sym (put_flat 0 (es ++ (e ∷ [])) l (omega arith)))))

-- ---- the records undone in a part of the entries are those undone in all

pub undone_part : (l undo : List ℕ) (from to low high : ℕ) {ys : List ℕ} → from ≤ to → 2 * to ≤ length l → low ≤ high → 2 * high ≤ length undo
    → (let rest = take (2 * to - 2 * from) (drop (2 * from) l) in
    let us = take (2 * high - 2 * low) (drop (2 * low) undo) in ys ≡ undone_from rest 0 (length rest / 2) us 0 (length us / 2))
    → put_mid (2 * from) (2 * to - 2 * from) l ys ≡ undone_from l from to undo low high
undone_part l undo from to low high h r g q y =
    let s = 2 * to - 2 * from in
    let v = 2 * high - 2 * low in
    let es = replay (entries_of undo low (high - low)) (entries_of l from (to - from)) in
    let k : length es ≡ to - from = length_replay (entries_of undo low (high - low)) (entries_of l from (to - from)) ∙ length_entries l from (to - from) in
    let t : length (take s (drop (2 * from) l)) ≡ s = length-take s (drop (2 * from) l) ∙ omega (arith, length-drop (2 * from) l) in
    let w : length (take v (drop (2 * low) undo)) ≡ v = length-take v (drop (2 * low) undo) ∙ omega (arith, length-drop (2 * low) undo) in
    let z : length (take s (drop (2 * from) l)) / 2 - 0 ≡ to - from = omega arith in
    let x : length (take v (drop (2 * low) undo)) / 2 - 0 ≡ high - low = omega arith in
    let f : from + 0 ≡ from = omega arith in
    let d : low + 0 ≡ low = omega arith in
    rw (y, z, x, part_entries from s l 0 (to - from) (omega arith), part_entries low v undo 0 (high - low) (omega arith), f, d)
    (part_put from s l es (omega arith) (omega arith))

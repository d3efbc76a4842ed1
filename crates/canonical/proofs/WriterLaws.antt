-- For the code: an object's bytes without a sort, the names in use found in rising order by repeated walks, and ids by rank.
use mathlib.Core.Path.{◌≡◌, refl, sym, ◌∙◌, ap}
use mathlib.Core.Logic.{◌↔◌, inl, inr}
use mathlib.Core.Bool.{Bool, true, false, cond, true≢false}
use mathlib.Core.List.{List, [], ◌∷◌, ◌++◌}
use mathlib.Core.Option.{Option, none, some}
use Prim.Native.Nat.{ℕ, zero, suc, ◌+◌, ◌≤◌, ◌<◌}
use native.Mathlib.Omega.{arith}
use native.Mathlib.Decide.{dec_le}
use lib.ListN.{length, get_or}
use Rattle.metadata.specs.Names.{Name, below, place}
use Rattle.metadata.proofs.DictionaryLaws.{place_here, below_self, below_trans, below_asym}
use Rattle.container.specs.Layout.{list_header, object_header}
use Rattle.container.specs.Entries.{ids_of, offsets_of}
use Rattle.container.proofs.SortLaws.{Mem, sort_stays}
use Rattle.semantics.specs.Tree.{data_of, starts_from, with_field, fields_from, list_bytes, object_bytes, encode, parts_of}
use Rattle.semantics.proofs.TreeLaws.{HeldItems}
use Rattle.live.specs.Live.{Live, leaf, nest, Lives, end, child}
use Rattle.live.proofs.ListLaws.{Rises}
use Rattle.canonical.specs.Canonical.{tree_of, items_of, put, put_label, used, used_all, in_use}
use Rattle.canonical.specs.Sizes.{label_ids, above, next_name, lower, better, better_label, walk, walk_all}
use Rattle.canonical.proofs.UseLaws.{rises_at, put_cases, used_rises, all_rises}
use Rattle.canonical.proofs.GoodLaws.{GoodAll}
use Rattle.canonical.proofs.AgainLaws.{fields, entries_ordered}

-- ---- a container's bytes

module _ (names : List Name) where
  ids_are : (at : ℕ) (ls : Lives) → ids_of (fields 1 names at ls) ≡ label_ids names ls
  unfolding fields tree_of parts_of fields_from with_field label_ids
  ids_are at end = refl
  ids_are at (child none l ls) = ids_are (at + length (encode 1 names (tree_of l))) ls
  ids_are at (child (some n) l ls) = ap (λ x. place n names ∷ x) (ids_are (at + length (encode 1 names (tree_of l))) ls)

  offsets_are : (d at : ℕ) (ls : Lives) → GoodAll d true ls → offsets_of (fields 1 names at ls) ≡ starts_from at (parts_of 1 names (items_of ls))
  unfolding fields tree_of parts_of fields_from with_field starts_from
  offsets_are d at end g = refl
  offsets_are d at (child none l ls) g = absurd g.0
  offsets_are d at (child (some n) l ls) g = ap (λ x. at ∷ x) (offsets_are d (at + length (encode 1 names (tree_of l))) ls g.2)

  -- "data in name order": the ids of the names as they stand, and the offsets at which the values start, which a walk over them finds
  pub object_form : (d : ℕ) (ls : Lives) → GoodAll d true ls → HeldItems names (items_of ls)
      → let ps = parts_of 1 names (items_of ls) in
      encode 1 names (tree_of (nest true ls)) ≡ object_header 1 (label_ids names ls) (starts_from 0 ps) (length (data_of ps)) ++ data_of ps
  unfolding encode object_bytes tree_of fields
  object_form d ls g h =
      let s = sort_stays names (fields 1 names 0 ls) (entries_ordered 1 names d 0 ls g h) in
      rw (s, ids_are 0 ls, offsets_are d 0 ls g) refl

  pub list_form : (ls : Lives)
      → let ps = parts_of 1 names (items_of ls) in encode 1 names (tree_of (nest false ls)) ≡ list_header 1 (starts_from 0 ps) (length (data_of ps)) ++ data_of ps
  unfolding encode list_bytes tree_of
  list_form ls = refl

-- ---- names found in rising order

-- a name above one that is above the last one taken is above it, too
above_low : (last : Option Name) (n m : Name) → below n m ≡ true → above last n ≡ true → above last m ≡ true
above_low none n m p q = refl
above_low (some l) n m p q = below_trans l n m q p

-- where every name is above n, n is the lower of the two
first_lower : (last : Option Name) (n : Name) (ms : List Name) → ((m : Name) → Mem m ms → below n m ≡ true) → lower n (next_name last ms) ≡ some n
unfolding next_name
first_lower last n [] h = refl
first_lower last n (m ∷ ms) h = go (above last m) (first_lower last n ms (λ x k. h x (inr k)))
  where
    go : (t : Bool) → lower n (next_name last ms) ≡ some n → lower n (cond t (some m) (next_name last ms)) ≡ some n
    go true e = rw (h m (inl refl))
    go false e = e

module _ (last : Option Name) (n : Name) where
  next_front : (m : Name) (ms : List Name) → below n m ≡ true → Rises (m ∷ ms) → next_name last (n ∷ (m ∷ ms)) ≡ better last n (next_name last (m ∷ ms))
  unfolding next_name
  next_front m ms p r = go (above last n)
    where
      all : (x : Name) → Mem x (m ∷ ms) → below n x ≡ true
      all x (inl q) = rw q p
      all x (inr k) = below_trans n m x p (r.0 x k)

      go : (t : Bool) → cond t (some n) (next_name last (m ∷ ms)) ≡ cond t (lower n (next_name last (m ∷ ms))) (next_name last (m ∷ ms))
      go true = sym (first_lower last n (m ∷ ms) all)
      go false = refl

  next_same : (m : Name) (ms : List Name) → n ≡ m → next_name last (m ∷ ms) ≡ better last n (next_name last (m ∷ ms))
  unfolding next_name
  next_same m ms e = rw e (go (above last m))
    where
      go : (t : Bool) → let rest = next_name last ms in cond t (some m) rest ≡ cond t (lower m (cond t (some m) rest)) (cond t (some m) rest)
      go true = rw (below_self m) refl
      go false = refl

  next_behind : (m : Name) (ms : List Name) → below m n ≡ true → next_name last (put n ms) ≡ better last n (next_name last ms)
      → next_name last (m ∷ put n ms) ≡ better last n (next_name last (m ∷ ms))
  unfolding next_name
  next_behind m ms p e = go (above last m) refl
    where
      go : (t : Bool) → above last m ≡ t → cond t (some m) (next_name last (put n ms)) ≡ better last n (cond t (some m) (next_name last ms))
      go true q = rw (above_low last m n p q, below_asym m n p) refl
      go false q = e

  -- one more name
  put_next : (ms : List Name) → Rises ms → next_name last (put n ms) ≡ better last n (next_name last ms)
  unfolding next_name
  put_next ms =
      put_cases (λ os bs. Rises os → next_name last bs ≡ better last n (next_name last os)) n ms (λ r. refl)
      (λ m os p r. next_front m os p r)
      (λ m os p r. next_same m os p)
      (λ m os p h r. next_behind m os p (h r.1))

label_next : (last n : Option Name) (ns : List Name) → Rises ns → next_name last (put_label n ns) ≡ better_label last n (next_name last ns)
label_next last none ns r = refl
label_next last (some n) ns r = put_next last n ns r

mutual
  unfolding used walk

  used_next : (last : Option Name) (l : Live) (ns : List Name) → Rises ns → next_name last (used l ns) ≡ walk last l (next_name last ns)
  used_next last (leaf l) ns r = refl
  used_next last (nest object ls) ns r = all_next last ls ns r

  all_next : (last : Option Name) (ls : Lives) (ns : List Name) → Rises ns → next_name last (used_all ls ns) ≡ walk_all last ls (next_name last ns)
  all_next last end ns r = refl
  all_next last (child n l ls) ns r =
      let rest = all_rises ls ns r in
      label_next last n (used l (used_all ls ns)) (used_rises l (used_all ls ns) rest)
      ∙ ap (better_label last n) (used_next last l (used_all ls ns) rest ∙ ap (walk last l) (all_next last ls ns r))

-- THE WALK finds the next name in use
pub walk_next : (last : Option Name) (l : Live) → walk last l none ≡ next_name last (in_use l)
unfolding next_name
walk_next last l = sym (used_next last l [] tt)

-- the first name; behind the name of rank k the next; behind the last none
pub next_first : (ns : List Name) → 0 < length ns → next_name none ns ≡ some (get_or ns 0 [])
unfolding next_name
next_first [] h = absurd (omega arith)
next_first (n ∷ ns) h = refl

pub next_after : (ns : List Name) (k : ℕ) → Rises ns → suc k < length ns → next_name (some (get_or ns k [])) ns ≡ some (get_or ns (suc k) [])
unfolding next_name
next_after [] k r h = absurd (omega arith)
next_after (n ∷ []) k r h = absurd (omega arith)
next_after (n ∷ (m ∷ ns)) zero r h = rw (below_self n, r.0 m (inl refl)) refl
next_after (n ∷ (m ∷ ns)) (suc k) r h =
    let low = below_asym n (get_or (m ∷ ns) k []) (rises_at (n ∷ (m ∷ ns)) 0 (suc k) r (omega arith) (omega arith)) in
    rw low (next_after (m ∷ ns) k r.1 (omega arith))

pub next_last : (ns : List Name) (k : ℕ) → Rises ns → suc k ≡ length ns → next_name (some (get_or ns k [])) ns ≡ none
unfolding next_name
next_last [] k r h = absurd (omega arith)
next_last (n ∷ []) zero r h = rw (below_self n) refl
next_last (n ∷ []) (suc k) r h = absurd (omega arith)
next_last (n ∷ (m ∷ ns)) zero r h = absurd (omega arith)
next_last (n ∷ (m ∷ ns)) (suc k) r h =
    let low = below_asym n (get_or (m ∷ ns) k []) (rises_at (n ∷ (m ∷ ns)) 0 (suc k) r (omega arith) (omega arith)) in
    rw low (next_last (m ∷ ns) k r.1 (omega arith))

-- ---- a new id is at least k exactly if its name is not below the name of rank k: widths of ids, before the ids are known
pub rank_at : (ns : List Name) (n : Name) (k : ℕ) → Rises ns → place n ns < length ns → k < length ns → (k ≤ place n ns) ↔ (below n (get_or ns k []) ≡ false)
rank_at ns n k r h l = (up, down)
  where
    own : get_or ns (place n ns) [] ≡ n
    own = place_here n ns h

    up : k ≤ place n ns → below n (get_or ns k []) ≡ false
    up q = go (dec_le (place n ns) k)
      where
        go : Dec (place n ns ≤ k) → below n (get_or ns k []) ≡ false
        go (yes p) = let e : k ≡ place n ns = omega arith in rw (e, own) (below_self n)
        go (no p) = below_asym (get_or ns k []) n (rw own at (rises_at ns k (place n ns) r (omega arith) h))

    down : below n (get_or ns k []) ≡ false → k ≤ place n ns
    down e = go (dec_le k (place n ns))
      where
        go : Dec (k ≤ place n ns) → k ≤ place n ns
        go (yes p) = p
        go (no p) = absurd (true≢false (sym (rw own at (rises_at ns (place n ns) k r (omega arith) l)) ∙ e))

-- The names in use: they ascend strictly, they are those of live fields, and the tree that is written finds them held.
use mathlib.Core.Path.{◌≡◌, refl, sym, ◌∙◌, ap}
use mathlib.Core.Logic.{◌↔◌, ◌⊎◌, inl, inr, ◌≢◌}
use mathlib.Core.Bool.{Bool, true, false, cond, true≢false}
use mathlib.Core.List.{List, [], ◌∷◌}
use mathlib.Core.Option.{Option, none, some}
use Prim.Native.Nat.{ℕ, zero, suc, ◌+◌, ◌<◌}
use native.Mathlib.Omega.{arith}
use lib.Dec.{ltb}
use lib.ListN.{length, get_or}
use borrow.Author.Tests.{lt-ltb}
use Rattle.metadata.specs.Names.{Name, same, below, place, ascending, sorted}
use Rattle.metadata.proofs.DictionaryLaws.{same_equal, same_differs, below_trans, below_total}
use Rattle.container.proofs.SortLaws.{Mem, Incl}
use Rattle.lexicon.proofs.DictionaryLaws.{with_both}
use Rattle.semantics.proofs.TreeLaws.{Held, HeldItems, HeldLabel}
use Rattle.live.specs.Live.{Live, leaf, nest, Lives, end, child}
use Rattle.live.proofs.ListLaws.{Rises}
use Rattle.canonical.specs.Canonical.{put, put_label, used, used_all, in_use, Uses, UsesAny, label_of, tree_of, items_of}

-- ---- names that rise

pub rises_ascending : (ns : List Name) → Rises ns → ascending ns ≡ true
unfolding ascending
rises_ascending [] r = refl
rises_ascending (x ∷ []) r = refl
rises_ascending (x ∷ (y ∷ ns)) r = with_both (r.0 y (inl refl)) (rises_ascending (y ∷ ns) r.1)

pub name_mem : (ns : List Name) (i : ℕ) → i < length ns → Mem (get_or ns i []) ns
name_mem [] i h = absurd (omega arith)
name_mem (n ∷ ns) zero h = inl refl
name_mem (n ∷ ns) (suc i) h = inr (name_mem ns i (omega arith))

pub rises_at : (ns : List Name) (i j : ℕ) → Rises ns → i < j → j < length ns → below (get_or ns i []) (get_or ns j []) ≡ true
rises_at [] i j r h k = absurd (omega arith)
rises_at (n ∷ ns) i zero r h k = absurd (omega arith)
rises_at (n ∷ ns) zero (suc j) r h k = r.0 (get_or ns j []) (name_mem ns j (omega arith))
rises_at (n ∷ ns) (suc i) (suc j) r h k = rises_at ns i j r.1 (omega arith) (omega arith)

-- ---- a name put among others

-- a fact about it, by where it goes: to the end, before a name above it, nowhere, or behind a name below it
pub put_cases : (P : List Name → List Name → Type 0) (n : Name) (ms : List Name) → P [] (n ∷ [])
    → ((m : Name) (ms : List Name) → below n m ≡ true → P (m ∷ ms) (n ∷ (m ∷ ms)))
    → ((m : Name) (ms : List Name) → n ≡ m → P (m ∷ ms) (m ∷ ms))
    → ((m : Name) (ms : List Name) → below m n ≡ true → P ms (put n ms) → P (m ∷ ms) (m ∷ put n ms)) → P ms (put n ms)
unfolding put
put_cases P n [] a b c d = a
put_cases P n (m ∷ ms) a b c d = go (below n m) refl (same n m) refl (put_cases P n ms a b c d)
  where
    lower : below n m ≡ false → n ≢ m → below m n ≡ true
    lower p q = elim (below_total n m) [ inl k ↦ absurd (true≢false (sym k ∙ p)) | inr k ↦ elim k [ inl e ↦ absurd (q e) | inr l ↦ l ] ]

    go : (t : Bool) → below n m ≡ t → (u : Bool) → same n m ≡ u → P ms (put n ms) → P (m ∷ ms) (cond t (n ∷ (m ∷ ms)) (cond u (m ∷ ms) (m ∷ put n ms)))
    go true p u q h = b m ms p
    go false p true q h = c m ms (same_equal n m q)
    go false p false q h = d m ms (lower p (same_differs n m q)) h

pub put_mem : (n : Name) (ms : List Name) → Incl (put n ms) (n ∷ ms)
put_mem n ms x = put_cases (λ os bs. Mem x bs → Mem x (n ∷ os)) n ms (λ k. k) (λ m os p k. k) (λ m os p k. inr k)
    (λ m os p h k. elim k [ inl q ↦ inr (inl q) | inr j ↦ elim (h j) [ inl q ↦ inl q | inr i ↦ inr (inr i) ] ])

mem_put : (n : Name) (ms : List Name) → Incl (n ∷ ms) (put n ms)
mem_put n ms x = put_cases (λ os bs. Mem x (n ∷ os) → Mem x bs) n ms (λ k. k) (λ m os p k. k) (λ m os p k. elim k [ inl q ↦ inl (q ∙ p) | inr j ↦ j ])
    (λ m os p h k. elim k [ inl q ↦ inr (h (inl q)) | inr j ↦ elim j [ inl q ↦ inl q | inr i ↦ inr (h (inr i)) ] ])

put_rises : (n : Name) (ms : List Name) → Rises ms → Rises (put n ms)
put_rises n ms = put_cases (λ os bs. Rises os → Rises bs) n ms (λ r. ((λ y k. absurd k), tt))
    (λ m os p r. ((λ y k. elim k [ inl q ↦ rw q p | inr j ↦ below_trans n m y p (r.0 y j) ]), r))
    (λ m os p r. r)
    (λ m os p h r. ((λ y k. elim (put_mem n os y k) [ inl q ↦ rw q p | inr j ↦ r.0 y j ]), h r.1))

label_rises : (n : Option Name) (ns : List Name) → Rises ns → Rises (put_label n ns)
label_rises none ns r = r
label_rises (some n) ns r = put_rises n ns r

label_keeps : (n : Option Name) (ns : List Name) → Incl ns (put_label n ns)
label_keeps none ns x m = m
label_keeps (some n) ns x m = mem_put n ns x (inr m)

label_mem : (m : Option Name) (ns : List Name) (n : Name) → Mem n (put_label m ns) → (m ≡ some n) ⊎ Mem n ns
label_mem none ns n k = inr k
label_mem (some m) ns n k = elim (put_mem m ns n k) [ inl q ↦ inl (ap some (sym q)) | inr i ↦ inr i ]

label_put : (m : Option Name) (ns : List Name) (n : Name) → m ≡ some n → Mem n (put_label m ns)
label_put m ns n e = rw e (mem_put n ns n (inl refl))

-- ---- all names of a live tree

mutual
  unfolding used

  pub used_rises : (l : Live) (ns : List Name) → Rises ns → Rises (used l ns)
  used_rises (leaf l) ns r = r
  used_rises (nest object ls) ns r = all_rises ls ns r

  pub all_rises : (ls : Lives) (ns : List Name) → Rises ns → Rises (used_all ls ns)
  all_rises end ns r = r
  all_rises (child n l ls) ns r = label_rises n (used l (used_all ls ns)) (used_rises l (used_all ls ns) (all_rises ls ns r))

mutual
  unfolding used

  used_keeps : (l : Live) (ns : List Name) → Incl ns (used l ns)
  used_keeps (leaf l) ns x m = m
  used_keeps (nest object ls) ns x m = all_keeps ls ns x m

  all_keeps : (ls : Lives) (ns : List Name) → Incl ns (used_all ls ns)
  all_keeps end ns x m = m
  all_keeps (child n l ls) ns x m = label_keeps n (used l (used_all ls ns)) x (used_keeps l (used_all ls ns) x (all_keeps ls ns x m))

mutual
  unfolding used

  used_only : (l : Live) (ns : List Name) (n : Name) → Mem n (used l ns) → Uses n l ⊎ Mem n ns
  used_only (leaf l) ns n m = inr m
  used_only (nest object ls) ns n m = all_only ls ns n m

  all_only : (ls : Lives) (ns : List Name) (n : Name) → Mem n (used_all ls ns) → UsesAny n ls ⊎ Mem n ns
  all_only end ns n m = inr m
  all_only (child k l ls) ns n m =
      elim (label_mem k (used l (used_all ls ns)) n m) [
        | inl q ↦ inl (inl q)
        | inr i ↦ elim (used_only l (used_all ls ns) n i) [
          | inl u ↦ inl (inr (inl u))
          | inr j ↦ elim (all_only ls ns n j) [ inl u ↦ inl (inr (inr u)) | inr x ↦ inr x ]
        ]
      ]

mutual
  unfolding used

  used_all_lem : (l : Live) (ns : List Name) (n : Name) → Uses n l → Mem n (used l ns)
  used_all_lem (leaf l) ns n u = absurd u
  used_all_lem (nest object ls) ns n u = all_all ls ns n u

  all_all : (ls : Lives) (ns : List Name) (n : Name) → UsesAny n ls → Mem n (used_all ls ns)
  all_all end ns n u = absurd u
  all_all (child k l ls) ns n (inl q) = label_put k (used l (used_all ls ns)) n q
  all_all (child k l ls) ns n (inr (inl u)) = label_keeps k (used l (used_all ls ns)) n (used_all_lem l (used_all ls ns) n u)
  all_all (child k l ls) ns n (inr (inr u)) = label_keeps k (used l (used_all ls ns)) n (used_keeps l (used_all ls ns) n (all_all ls ns n u))

-- "just the names in use"
pub in_use_is : (l : Live) (n : Name) → Mem n (in_use l) ↔ Uses n l
in_use_is l n = ((λ m. elim (used_only l [] n m) [ inl u ↦ u | inr k ↦ absurd k ]), used_all_lem l [] n)

-- "strictly ascending"
pub in_use_rises : (l : Live) → Rises (in_use l)
in_use_rises l = used_rises l [] tt

pub in_use_ascends : (l : Live) → ascending (in_use l) ≡ true
in_use_ascends l = rises_ascending (in_use l) (in_use_rises l)

-- "the sorted mark by A3": on exactly if a name is in use
pub mark_is : (l : Live) → sorted (in_use l) ≡ ltb 0 (length (in_use l))
unfolding sorted
mark_is l = go (in_use l) (in_use_ascends l)
  where
    go : (ns : List Name) → ascending ns ≡ true → sorted ns ≡ ltb 0 (length ns)
    go [] a = refl
    go (n ∷ ns) a = a ∙ sym (lt-ltb 0 (suc (length ns)) (omega arith))

-- ---- they are held

mem_place : (n : Name) (ns : List Name) → Mem n ns → place n ns < length ns
unfolding place
mem_place n [] m = absurd m
mem_place n (x ∷ ns) m = go (same x n) refl (mem_place n ns) m
  where
    go : (t : Bool) → same x n ≡ t → (Mem n ns → place n ns < length ns) → Mem n (x ∷ ns) → cond t 0 (1 + place n ns) < suc (length ns)
    go true e f m = omega arith
    go false e f (inl q) = absurd (same_differs x n e (sym q))
    go false e f (inr m) = omega (arith, f m)

label_held : (names : List Name) (m : Option Name) → ((n : Name) → m ≡ some n → Mem n names) → HeldLabel names (label_of m)
label_held names none h = tt
label_held names (some n) h = mem_place n names (h n refl)

mutual
  unfolding tree_of

  uses_held : (names : List Name) (l : Live) → ((n : Name) → Uses n l → Mem n names) → Held names (tree_of l)
  uses_held names (leaf l) h = tt
  uses_held names (nest object ls) h = any_held names ls h

  any_held : (names : List Name) (ls : Lives) → ((n : Name) → UsesAny n ls → Mem n names) → HeldItems names (items_of ls)
  any_held names end h = tt
  any_held names (child m l ls) h =
      (label_held names m (λ n e. h n (inl e)), uses_held names l (λ n u. h n (inr (inl u))), any_held names ls (λ n u. h n (inr (inr u))))

pub in_use_held : (l : Live) → Held (in_use l) (tree_of l)
in_use_held l = uses_held (in_use l) l (λ n u. (in_use_is l n).1 u)

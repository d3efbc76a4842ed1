-- The small values are all there, each once, ascending by bytes.
use mathlib.Core.Path.{◌≡◌, refl, sym, ◌∙◌, ap}
use mathlib.Core.Logic.{◌↔◌, ◌⊎◌, inl, inr}
use mathlib.Core.Bool.{Bool, true, false, cond, true≢false}
use mathlib.Core.List.{List, [], ◌∷◌, ◌++◌, map}
use Prim.Native.Nat.{ℕ, zero, suc, ◌+◌, ◌≤◌, ◌<◌}
use native.Mathlib.Omega.{arith}
use lib.Dec.{eqb}
use lib.ListN.{length}
use borrow.Author.Tests.{lt-ltb, le-ltb, eq-eqb, eqb-true, eqb-false}
use Rattle.encoding.specs.Rows.{first}
use Rattle.encoding.proofs.PackedLaws.{Below}
use Rattle.metadata.specs.Names.{below}
use Rattle.metadata.specs.Bytes.{never_used}
use Rattle.container.proofs.SortLaws.{Mem, Pairwise}
use Rattle.grammar.specs.Grammar.{Shape, ReadsPair}
use Rattle.grammar.specs.Tests.{pair_rows}
use Rattle.grammar.proofs.TestLaws.{pair_reads, reads_pair}
use Rattle.small_values.specs.Small.{accepted, up_from, each, strings, keep, values_of}
use Rattle.small_values.proofs.SmallLaws.{never_names}

-- ---- members

mem_append : {A : Type 0} (x : A) (a b : List A) → Mem x (a ++ b) → Mem x a ⊎ Mem x b
mem_append x [] b m = inr m
mem_append x (y ∷ a) b (inl q) = inl (inl q)
mem_append x (y ∷ a) b (inr m) = elim (mem_append x a b m) [ inl k ↦ inl (inr k) | inr k ↦ inr k ]

mem_map : {A B : Type 0} (f : A → B) (x : B) (l : List A) → Mem x (map f l) → (y : A) × Mem y l × (x ≡ f y)
mem_map f x [] m = absurd m
mem_map f x (y ∷ l) (inl q) = (y, inl refl, q)
mem_map f x (y ∷ l) (inr m) = let r = mem_map f x l m in (r.0, inr r.1, r.2)

left : {A : Type 0} (x : A) (a b : List A) → Mem x a → Mem x (a ++ b)
left x [] b m = absurd m
left x (y ∷ a) b (inl q) = inl q
left x (y ∷ a) b (inr m) = inr (left x a b m)

right : {A : Type 0} (x : A) (a b : List A) → Mem x b → Mem x (a ++ b)
right x [] b m = m
right x (y ∷ a) b m = inr (right x a b m)

mapped : {A B : Type 0} (f : A → B) (x : A) (l : List A) → Mem x l → Mem (f x) (map f l)
mapped f x [] m = absurd m
mapped f x (y ∷ l) (inl q) = inl (ap f q)
mapped f x (y ∷ l) (inr m) = inr (mapped f x l m)

-- ---- ascending

-- each is below all later ones
abbrev pub Rises : List (List ℕ) → Type 0
Rises xs = Pairwise (λ x y. below x y ≡ true) xs

rises_append : (xs ys : List (List ℕ)) → Rises xs → Rises ys → ((x y : List ℕ) → Mem x xs → Mem y ys → below x y ≡ true) → Rises (xs ++ ys)
rises_append [] ys r s h = s
rises_append (x ∷ xs) ys r s h =
    ((λ y m. elim (mem_append y xs ys m) [ inl k ↦ r.0 y k | inr k ↦ h x y (inl refl) k ]), rises_append xs ys r.1 s (λ a b m k. h a b (inr m) k))

front_rises : (a : ℕ) (ts : List (List ℕ)) → Rises ts → Rises (map (λ t. a ∷ t) ts)
unfolding below
front_rises a [] r = tt
front_rises a (t ∷ ts) r =
    ((λ y m. let k = mem_map (λ u. a ∷ u) y ts m in rw (k.2, le-ltb a a (omega arith), eq-eqb a a refl) (r.0 k.0 k.1)), front_rises a ts r.1)

-- the bytes before the strings
each_mem : (bytes : List ℕ) (ts : List (List ℕ)) (x : List ℕ) → Mem x (each bytes ts) → (a : ℕ) × (t : List ℕ) × Mem a bytes × Mem t ts × (x ≡ a ∷ t)
unfolding each
each_mem [] ts x m = absurd m
each_mem (b ∷ bytes) ts x m = go (mem_append x (map (λ t. b ∷ t) ts) (each bytes ts) m) (each_mem bytes ts x)
  where
    Answer : Type 0
    Answer = (a : ℕ) × (t : List ℕ) × Mem a (b ∷ bytes) × Mem t ts × (x ≡ a ∷ t)

    go : Mem x (map (λ t. b ∷ t) ts) ⊎ Mem x (each bytes ts) → (Mem x (each bytes ts) → (a : ℕ) × (t : List ℕ) × Mem a bytes × Mem t ts × (x ≡ a ∷ t)) → Answer
    go (inl k) f = let r = mem_map (λ t. b ∷ t) x ts k in (b, r.0, inl refl, r.1, r.2)
    go (inr k) f = let r = f k in (r.0, r.1, inr r.2, r.3, r.4)

abbrev Up : List ℕ → Type 0
Up ns = Pairwise (λ a b. a < b) ns

up_low : (n k x : ℕ) → Mem x (up_from n k) → (k ≤ x) × (x < k + n)
unfolding up_from
up_low zero k x m = absurd m
up_low (suc n) k x (inl q) = omega arith
up_low (suc n) k x (inr m) = omega (arith, up_low n (suc k) x m)

up_rises : (n k : ℕ) → Up (up_from n k)
unfolding up_from
up_rises zero k = tt
up_rises (suc n) k = ((λ y m. omega (arith, up_low n (suc k) y m)), up_rises n (suc k))

up_all : (n k x : ℕ) → k ≤ x → x < k + n → Mem x (up_from n k)
unfolding up_from
up_all zero k x h l = absurd (omega arith)
up_all (suc n) k x h l = go (eqb k x) refl (up_all n (suc k) x)
  where
    go : (t : Bool) → eqb k x ≡ t → (suc k ≤ x → x < suc k + n → Mem x (up_from n (suc k))) → (x ≡ k) ⊎ Mem x (up_from n (suc k))
    go true q f = inl (sym (eqb-true k x q))
    go false q f = inr (f (omega (arith, eqb-false k x q)) (omega arith))

less_below : (a b : ℕ) (t u : List ℕ) → a < b → below (a ∷ t) (b ∷ u) ≡ true
unfolding below
less_below a b t u h = rw (lt-ltb a b h)

each_rises : (bytes : List ℕ) (ts : List (List ℕ)) → Up bytes → Rises ts → Rises (each bytes ts)
unfolding each
each_rises [] ts u r = tt
each_rises (a ∷ bytes) ts u r = rises_append (map (λ t. a ∷ t) ts) (each bytes ts) (front_rises a ts r) (each_rises bytes ts u.1 r) apart
  where
    apart : (x y : List ℕ) → Mem x (map (λ t. a ∷ t) ts) → Mem y (each bytes ts) → below x y ≡ true
    apart x y m k =
        let p = mem_map (λ t. a ∷ t) x ts m in
        let q = each_mem bytes ts y k in
        rw (p.2, q.4) (less_below a q.0 p.0 q.1 (u.0 q.0 q.2))

strings_rise : (n : ℕ) → Rises (strings n)
unfolding strings
strings_rise zero = ((λ y m. absurd m), tt)
strings_rise (suc n) = each_rises (up_from 256 0) (strings n) (up_rises 256 0) (strings_rise n)

keep_mem : (xs : List (List ℕ)) (x : List ℕ) → Mem x (keep xs) ↔ (Mem x xs × (accepted x ≡ true))
unfolding keep
keep_mem [] x = ((λ m. absurd m), λ m. absurd m.0)
keep_mem (y ∷ xs) x = go (accepted y) refl (keep_mem xs x)
  where
    go : (t : Bool) → accepted y ≡ t → Mem x (keep xs) ↔ (Mem x xs × (accepted x ≡ true))
        → Mem x (cond t (y ∷ keep xs) (keep xs)) ↔ (Mem x (y ∷ xs) × (accepted x ≡ true))
    go true q h = (
      (λ m. elim m [ inl p ↦ (inl p, rw p q) | inr k ↦ let r = h.0 k in (inr r.0, r.1) ]),
      λ m. elim m.0 [ inl p ↦ inl p | inr k ↦ inr (h.1 (k, m.1)) ],
    )
    go false q h = (
      (λ m. let r = h.0 m in (inr r.0, r.1)),
      λ m. elim m.0 [ inl p ↦ absurd (true≢false (sym m.1 ∙ rw p q)) | inr k ↦ h.1 (k, m.1) ],
    )

keep_rises : (xs : List (List ℕ)) → Rises xs → Rises (keep xs)
unfolding keep
keep_rises [] r = tt
keep_rises (x ∷ xs) r = go (accepted x) (keep_rises xs r.1)
  where
    go : (t : Bool) → Rises (keep xs) → Rises (cond t (x ∷ keep xs) (keep xs))
    go true h = ((λ y m. r.0 y ((keep_mem xs y).0 m).0), h)
    go false h = h

-- ---- all strings of n bytes

each_all : (bytes : List ℕ) (ts : List (List ℕ)) (a : ℕ) (t : List ℕ) → Mem a bytes → Mem t ts → Mem (a ∷ t) (each bytes ts)
unfolding each
each_all [] ts a t m k = absurd m
each_all (b ∷ bytes) ts a t (inl q) k = left (a ∷ t) (map (λ u. b ∷ u) ts) (each bytes ts) (rw q (mapped (λ u. b ∷ u) t ts k))
each_all (b ∷ bytes) ts a t (inr m) k = right (a ∷ t) (map (λ u. b ∷ u) ts) (each bytes ts) (each_all bytes ts a t m k)

strings_all : (x : List ℕ) → Below 256 x → Mem x (strings (length x))
unfolding strings
strings_all [] h = inl refl
strings_all (a ∷ x) h = each_all (up_from 256 0) (strings (length x)) a x (up_all 256 0 a (omega arith) (omega (arith, h.0))) (strings_all x h.1)

pub strings_only : (n : ℕ) (x : List ℕ) → Mem x (strings n) → (length x ≡ n) × Below 256 x
unfolding strings
strings_only zero x (inl q) = rw q (refl, tt)
strings_only zero x (inr m) = absurd m
strings_only (suc n) x m =
    let r = each_mem (up_from 256 0) (strings n) x m in
    let s = strings_only n r.1 r.3 in
    let l = up_low 256 0 r.0 r.2 in
    rw r.4 (ap suc s.0, (omega arith, s.1))

-- "each once, ascending by bytes"
pub values_rise : (n : ℕ) → Rises (values_of n)
unfolding values_of
values_rise n = keep_rises (strings n) (strings_rise n)

-- "every value that the reader accepts", of n bytes
pub values_are : (n : ℕ) (x : List ℕ) → Mem x (values_of n) ↔ ((length x ≡ n) × Below 256 x × (accepted x ≡ true))
unfolding values_of
values_are n x = (
  (λ m.
      let r = (keep_mem (strings n) x).0 m in
      let s = strings_only n x r.0 in
      (s.0, s.1, r.1)),
  λ a. (keep_mem (strings n) x).1 (rw a.0 at (strings_all x a.1), a.2),
)

-- ---- by readings

-- x has a reading over the dictionary `01 00 00`, whose numbers take one byte, without a mark and names
abbrev pub Readable : List ℕ → Type 0
Readable x = (t : Shape) × ReadsPair never_used x 1 false [] t

pub accepted_reads : (x : List ℕ) → Below 256 x → (accepted x ≡ true) ↔ Readable x
unfolding accepted
accepted_reads x b = (
  (λ e. rw never_names at (pair_reads never_used x b (eqb-true (first (pair_rows never_used x)) 0 e))),
  λ r. eq-eqb (first (pair_rows never_used x)) 0 (reads_pair r.1),
)

pub values_read : (n : ℕ) (x : List ℕ) → Mem x (values_of n) ↔ ((length x ≡ n) × Below 256 x × Readable x)
values_read n x = (
  (λ m. let r = (values_are n x).0 m in (r.0, r.1, (accepted_reads x r.1).0 r.2)),
  λ a. (values_are n x).1 (a.0, a.1, (accepted_reads x a.1).1 a.2),
)

-- Members of lists put together, what stands pairwise among them, and names that rise.
use mathlib.Core.Path.{◌≡◌, refl, sym, ap}
use mathlib.Core.Logic.{◌⊎◌, inl, inr}
use mathlib.Core.Bool.{Bool, true, false, true≢false}
use mathlib.Core.List.{List, [], ◌∷◌, ◌++◌, map}
use mathlib.Core.Option.{Option, none, some}
use Rattle.metadata.specs.Names.{Name, below, ascending}
use Rattle.metadata.proofs.DictionaryLaws.{below_trans}
use Rattle.container.proofs.SortLaws.{Mem, Pairwise}
use Rattle.lexicon.proofs.DictionaryLaws.{both}

pub some_inj : {A : Type 0} (a b : A) → some a ≡ some b → a ≡ b
some_inj {A} a b e = ap (held a) e
  where
    held : A → Option A → A
    held d none = d
    held d (some x) = x

pub none_some : {A : Type 0} (a : A) → none ≡ some a → ⊥
none_some {A} a e = true≢false (sym (ap is e))
  where
    is : Option A → Bool
    is none = false
    is (some x) = true

-- ---- members

pub mem_append : {A : Type 0} (x : A) (a b : List A) → Mem x (a ++ b) → Mem x a ⊎ Mem x b
mem_append x [] b m = inr m
mem_append x (y ∷ a) b (inl q) = inl (inl q)
mem_append x (y ∷ a) b (inr m) = elim (mem_append x a b m) [ inl k ↦ inl (inr k) | inr k ↦ inr k ]

pub left : {A : Type 0} (x : A) (a b : List A) → Mem x a → Mem x (a ++ b)
left x [] b m = absurd m
left x (y ∷ a) b (inl q) = inl q
left x (y ∷ a) b (inr m) = inr (left x a b m)

pub right : {A : Type 0} (x : A) (a b : List A) → Mem x b → Mem x (a ++ b)
right x [] b m = m
right x (y ∷ a) b m = inr (right x a b m)

pub mem_map : {A B : Type 0} (f : A → B) (x : B) (l : List A) → Mem x (map f l) → (y : A) × Mem y l × (x ≡ f y)
mem_map f x [] m = absurd m
mem_map f x (y ∷ l) (inl q) = (y, inl refl, q)
mem_map f x (y ∷ l) (inr m) = let r = mem_map f x l m in (r.0, inr r.1, r.2)

pub mapped : {A B : Type 0} (f : A → B) (x : A) (l : List A) → Mem x l → Mem (f x) (map f l)
mapped f x [] m = absurd m
mapped f x (y ∷ l) (inl q) = inl (ap f q)
mapped f x (y ∷ l) (inr m) = inr (mapped f x l m)

-- ---- each to all behind it

pub pairwise_append : {A : Type 0} (R : A → A → Type 0) (a b : List A) → Pairwise R a → Pairwise R b → ((x y : A) → Mem x a → Mem y b → R x y) → Pairwise R (a ++ b)
pairwise_append R [] b u v h = v
pairwise_append R (x ∷ a) b u v h =
    ((λ y m. elim (mem_append y a b m) [ inl k ↦ u.0 y k | inr k ↦ h x y (inl refl) k ]), pairwise_append R a b u.1 v (λ p q m k. h p q (inr m) k))

pub pairwise_map : {A B : Type 0} (f : A → B) (R : A → A → Type 0) (S : B → B → Type 0) → ((x y : A) → R x y → S (f x) (f y)) → (l : List A) → Pairwise R l → Pairwise S (map f l)
pairwise_map f R S h [] u = tt
pairwise_map f R S h (x ∷ l) u = ((λ y m. let k = mem_map f y l m in rw k.2 (h x k.0 (u.0 k.0 k.1))), pairwise_map f R S h l u.1)

-- ---- names that rise

abbrev pub Rises : List Name → Type 0
Rises ns = Pairwise (λ x y. below x y ≡ true) ns

pub ascending_rises : (ns : List Name) → ascending ns ≡ true → Rises ns
unfolding ascending
ascending_rises [] e = tt
ascending_rises (x ∷ []) e = ((λ y m. absurd m), tt)
ascending_rises (x ∷ (y ∷ ns)) e =
    let p = both {a = below x y} e in
    let r = ascending_rises (y ∷ ns) p.1 in
    let first = p.0 in
    ((λ z m. elim m [ inl q ↦ rw q first | inr k ↦ below_trans x y z first (r.0 z k) ]), r)

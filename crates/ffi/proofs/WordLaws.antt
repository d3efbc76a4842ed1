-- What the state words mean, after they are read and written.
use mathlib.Core.Path.{◌≡◌, refl, sym, ◌∙◌, ap}
use mathlib.Core.Bool.{Bool, true, false}
use mathlib.Core.List.{List, [], ◌∷◌}
use Prim.Native.Nat.{ℕ, zero, suc, ◌+◌, ◌-◌, ◌≤◌, ◌<◌}
use native.Mathlib.Omega.{arith}
use lib.ListN.{length, length-set, get_or, set}
use lib.Seq.{get_or-set_other, get_or-set_same}
use borrow.Author.Tests.{lt-ltb, le-ltb}
use mir.Val.{bool_byte}
use Rattle.std.specs.Prelude.{Option as Optional, Some, None}
use Rattle.container.specs.declared.Entry.{Entry}
use Rattle.semantics.specs.declared.Builder.{Builder}
use Rattle.semantics.specs.declared.Container.{Container}
use Rattle.semantics.specs.declared.Counts.{Counts}
use Rattle.semantics.specs.Record.{no_container, container_at, elements_at}
use Rattle.actions.proofs.ElementLaws.{set_beyond}
use Rattle.ffi.specs.Words.{word_at, flag, counts_of, parent_entry_of, container_from, container_word, container_of, row_from, containers_of, elements_word, elements_of, builder_of, word_of, tag_of, id_of, offset_of, put_from, counts_words, counts_put, container_words, container_put, PutsCounts, PutsContainer, PutsElements, PutsInner}

-- ---- a row by its places

-- what stands at place j of those from i on
row_at : {A : Type 0} (f : ℕ → A) (z : A) (n i j t : ℕ) → j < n → i + j ≡ t → get_or (row_from f n i) j z ≡ f t
unfolding row_from
row_at f z zero i j t h e = absurd (omega arith)
row_at f z (suc n) i zero t h e = ap f (the_same e)
  where
    the_same : i + 0 ≡ t → i ≡ t
    the_same e = omega arith
row_at f z (suc n) i (suc j) t h e = row_at f z n (suc i) j t (omega arith) (omega arith)

row_length : {A : Type 0} (f : ℕ → A) (n i : ℕ) → length (row_from f n i) ≡ n
unfolding row_from
row_length f zero i = refl
row_length f (suc n) i = ap suc (row_length f n (suc i))

-- rows that do not differ
row_same : {A : Type 0} (f g : ℕ → A) (n i : ℕ) → ((m : ℕ) → i ≤ m → m < i + n → g m ≡ f m) → row_from g n i ≡ row_from f n i
unfolding row_from
row_same f g zero i h = refl
row_same f g (suc n) i h = rw (h i (omega arith) (omega arith), row_same f g n (suc i) (λ m a b. h m (omega arith) (omega arith)))

-- rows that differ at t
row_set : {A : Type 0} (f g : ℕ → A) (k : A) (n i j t : ℕ) → i + j ≡ t → g t ≡ k → ((m : ℕ) → m < t → g m ≡ f m)
    → ((m : ℕ) → t < m → m < i + n → g m ≡ f m) → row_from g n i ≡ set (row_from f n i) j k
unfolding row_from
row_set f g k zero i j t e here low high = refl
row_set f g k (suc n) i zero t e here low high =
    let p : i ≡ t = omega arith in
    rw (p, here, row_same f g n (suc t) (λ m a b. high m (omega arith) (omega arith)))
row_set f g k (suc n) i (suc j) t e here low high = rw (low i (omega arith), row_set f g k n (suc i) j t (omega arith) here low (λ m a b. high m a (omega arith)))

-- ---- the containers and their elements

pub container_at_lem : (ws : List ℕ) (d : ℕ) → d < 64 → container_of ws d ≡ container_at (containers_of ws) d
unfolding containers_of
container_at_lem ws d h = sym (row_at (container_of ws) no_container 64 0 d d h (omega arith))

pub containers_length : (ws : List ℕ) → length (containers_of ws) ≡ 64
unfolding containers_of
containers_length ws = row_length (container_of ws) 64 0

abbrev elements_in : List ℕ → ℕ → ℕ
elements_in ws i = word_at ws (elements_word i)

pub elements_word_lem : (ws : List ℕ) (d : ℕ) → d < 64 → word_at ws (elements_word d) ≡ elements_at (elements_of ws) d
unfolding elements_of
elements_word_lem ws d h = sym (row_at (elements_in ws) 0 64 0 d d h (omega arith))

pub elements_length : (ws : List ℕ) → length (elements_of ws) ≡ 64
unfolding elements_of
elements_length ws = row_length (elements_in ws) 64 0

-- ---- words put one behind the other

-- the other words stay
put_other : (ws : List ℕ) (p n : ℕ) (xs : List ℕ) (j : ℕ) → ((i : ℕ) → i < length xs → j ≡ p + n + i → ⊥) → word_at (put_from ws p n xs) j ≡ word_at ws j
unfolding put_from
put_other ws p n [] j f = refl
put_other ws p n (x ∷ xs) j f =
    put_other (set ws (p + n) x) p (suc n) xs j (λ i l e. f (suc i) (omega arith) (omega arith))
    ∙ get_or-set_other ws (p + n) j x 0 (λ e. f 0 (omega arith) (omega arith))

-- and these are read again
put_at : (ws : List ℕ) (p n : ℕ) (xs : List ℕ) (i t : ℕ) → p + n + length xs ≤ length ws → i < length xs → p + n + i ≡ t → word_at (put_from ws p n xs) t ≡ word_at xs i
unfolding put_from
put_at ws p n [] i t h l e = absurd (omega arith)
put_at ws p n (x ∷ xs) zero t h l e =
    let s : t ≡ p + n = omega arith in
    rw s (put_other (set ws (p + n) x) p (suc n) xs (p + n) (λ i l e. omega arith) ∙ get_or-set_same ws (p + n) x 0 (omega arith))
put_at ws p n (x ∷ xs) (suc i) t h l e = put_at (set ws (p + n) x) p (suc n) xs i t (rw length-set (omega arith)) (omega arith) (omega arith)

-- ---- what is read of the words

-- a flag's word
pub flag_word : (b : Bool) → flag (word_of b) ≡ b
flag_word true = refl
flag_word false = refl

-- which is its byte
pub flag_byte : (b : Bool) → bool_byte b ≡ word_of b
flag_byte true = refl
flag_byte false = refl

-- the counts are nine words
counts_from : (ws us : List ℕ) → ((i : ℕ) → i < 9 → word_at us i ≡ word_at ws i) → counts_of us ≡ counts_of ws
unfolding counts_of
counts_from ws us h =
    rw (h 0 (omega arith), h 1 (omega arith), h 2 (omega arith), h 3 (omega arith), h 4 (omega arith), h 5 (omega arith), h 6 (omega arith), h 7 (omega arith), h 8 (omega arith))

-- and a container eleven
container_from_lem : (ws us : List ℕ) (p q : ℕ) → ((i : ℕ) → i < 11 → word_at us (q + i) ≡ word_at ws (p + i)) → container_from us q ≡ container_from ws p
unfolding container_from
container_from_lem ws us p q h =
    let a : q + 0 ≡ q = omega arith in
    let b : p + 0 ≡ p = omega arith in
    rw (rw (a, b) at (h 0 (omega arith)), h 1 (omega arith), h 2 (omega arith), h 3 (omega arith), h 4 (omega arith), h 5 (omega arith), h 6 (omega arith), h 7 (omega arith), h 8 (omega arith), h 9 (omega arith), h 10 (omega arith))

-- ---- the counts written

counts_read : (ws : List ℕ) (c : Counts) → 9 ≤ length ws → counts_of (counts_put ws c) ≡ c
unfolding counts_of
counts_read ws c h =
    counts_from (counts_words c) (counts_put ws c) (λ i l. put_at ws 0 0 (counts_words c) i i (omega arith) l (omega arith))
    ∙ rw (flag_word c.unique, flag_word c.finished)

-- the words with other counts mean the same containers and elements with those counts
pub put_counts : (ws : List ℕ) (c : Counts) → length ws ≡ 777 → PutsCounts ws (counts_put ws c) c
unfolding containers_of elements_of
put_counts ws c h =
    let us = counts_put ws c in
    let other : (j : ℕ) → 9 ≤ j → word_at us j ≡ word_at ws j = λ j g. put_other ws 0 0 (counts_words c) j (λ i l e. omega arith) in
    let same = row_same (container_of ws) (container_of us) 64 0 (λ m g k. container_from_lem ws us (container_word m) (container_word m) (λ i l. other (container_word m + i) (omega arith))) in
    let elements = row_same (elements_in ws) (elements_in us) 64 0 (λ m g k. other (elements_word m) (omega arith)) in
    record { words = refl; builder = rw (counts_read ws c (omega arith), same, elements) }

-- ---- a container written

parent_read : (e : Optional Entry) → parent_entry_of (tag_of e) (id_of e) (offset_of e) ≡ e
unfolding parent_entry_of
parent_read None = refl
parent_read (Some former) = refl

container_read : (ws : List ℕ) (p : ℕ) (k : Container) → p + 11 ≤ length ws → container_from (container_put ws p k) p ≡ k
unfolding container_from
container_read ws p k h =
    container_from_lem (container_words k) (container_put ws p k) 0 p (λ i l. put_at ws p 0 (container_words k) i (p + i) (omega arith) l (omega arith) ∙ ap (word_at (container_words k)) (the_same i))
    ∙ rw (parent_read k.parent, flag_word k.object, flag_word k.unique)
  where
    the_same : (i : ℕ) → i ≡ 0 + i
    the_same i = omega arith

-- the words with another container at depth d mean the builder with that container
pub put_container : (ws : List ℕ) (d : ℕ) (k : Container) → length ws ≡ 777 → d < 64
    → PutsContainer ws (container_put ws (container_word d) k) d k
unfolding containers_of elements_of
put_container ws d k e h =
    let p = container_word d in
    let us = container_put ws p k in
    let other : (j : ℕ) → ((i : ℕ) → i < 11 → j ≡ p + 0 + i → ⊥) → word_at us j ≡ word_at ws j = put_other ws p 0 (container_words k) in
    let counts = counts_from ws us (λ i l. other i (λ m g q. omega arith)) in
    let beside : (m : ℕ) → (m ≡ d → ⊥) → container_of us m ≡ container_of ws m
    = λ m f. container_from_lem ws us (container_word m) (container_word m) (λ i l. other (container_word m + i) (λ n g q. omega arith)) in
    let put = row_set (container_of ws) (container_of us) k 64 0 d d (omega arith) (container_read ws p k (omega arith)) (λ m g. beside m (λ q. omega arith)) (λ m g i. beside m (λ q. omega arith)) in
    let elements = row_same (elements_in ws) (elements_in us) 64 0 (λ m g i. other (elements_word m) (λ n f q. omega arith)) in
    record { words = refl; builder = rw (counts, put, elements) }

-- ---- elements written

elements_set : (ws : List ℕ) (i n : ℕ) → length ws ≡ 777 → i < 64
    → builder_of (set ws (elements_word i) n) ≡ record { containers = containers_of ws; elements = set (elements_of ws) i n; counts = counts_of ws }
unfolding containers_of elements_of
elements_set ws i n e h =
    let us = set ws (elements_word i) n in
    let other : (j : ℕ) → (j ≡ elements_word i → ⊥) → word_at us j ≡ word_at ws j = λ j f. get_or-set_other ws (elements_word i) j n 0 f in
    let counts = counts_from ws us (λ j l. other j (λ q. omega arith)) in
    let same = row_same (container_of ws) (container_of us) 64 0 (λ m g k. container_from_lem ws us (container_word m) (container_word m) (λ j l. other (container_word m + j) (λ q. omega arith))) in
    let put = row_set (elements_in ws) (elements_in us) n 64 0 i i (omega arith) (get_or-set_same ws (elements_word i) n 0 (omega arith))
    (λ m g. other (elements_word m) (λ q. omega arith))
    (λ m g k. other (elements_word m) (λ q. omega arith)) in
    rw (counts, same, put)

-- as the code has it: of none, of more than there are, and of one
module _ (ws : List ℕ) (d n : ℕ) where
  pub written_none : d ≡ 0 → PutsElements ws ws d n
  written_none e = let z = le-ltb 0 d (omega arith) in record { words = rw z; builder = rw z }

  pub written_far : length ws ≡ 777 → 64 < d → PutsElements ws ws d n
  written_far e h =
      let z = lt-ltb 0 d (omega arith) in
      let l = elements_length ws in
      record { words = rw z (set_beyond ws (elements_word (d - 1)) n (omega arith)); builder = rw (z, ← set_beyond (elements_of ws) (d - 1) n (omega arith)) }

  pub put_elements : length ws ≡ 777 → 0 < d → d ≤ 64 → PutsElements ws (set ws (elements_word (d - 1)) n) d n
  put_elements e a b =
      let z = lt-ltb 0 d a in
      record { words = rw z; builder = rw z (elements_set ws (d - 1) n e (omega arith)) }

-- the counts put, and then the elements
pub puts_inner : {ws ms us : List ℕ} {c : Counts} {d n : ℕ} → PutsCounts ws ms c → PutsElements ms us d n → PutsInner ws us c d n
puts_inner {ws} {ms} {us} {c} {d} {n} p q =
    let k = ap (λ (b : Builder). b.containers) p.builder in
    let e = ap (λ (b : Builder). b.elements) p.builder in
    let o = ap (λ (b : Builder). b.counts) p.builder in
    record { words = q.words ∙ rw p.words refl; builder = q.builder ∙ rw (k, e, o) refl }

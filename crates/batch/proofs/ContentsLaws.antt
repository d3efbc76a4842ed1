-- What comes out of bytes, record by record: a record at the front and all behind it; steps by places; a tail taken off and more put behind.
use mathlib.Core.Path.{◌≡◌, refl, sym, ◌∙◌, ap}
use mathlib.Core.Bool.{Bool, true, false}
use mathlib.Core.List.{List, [], ◌∷◌, ◌++◌, append_assoc}
use Prim.Native.Nat.{ℕ, zero, suc, ◌+◌, ◌-◌, ◌≤◌, ◌<◌, max}
use native.Mathlib.Omega.{arith}
use lib.Dec.{ltb}
use borrow.Author.Tests.{le-leb, leb-true, ltb-false}
use lib.ListN.{length, take, drop, length-take, length-drop, length-append, take-append-drop}
use lib.Seq.{drop-drop, take-take, take-append-le, take-append-add, drop-append-le, take-nil, take_at, drop_at}
use Rattle.std.specs.Prelude.{Ok}
use Rattle.batch.specs.Layout.{record_of, big_number}
use Rattle.batch.specs.Writing.{no_batch}
use Rattle.batch.specs.Reading.{count_at, present, body_of, size_in, misfit, whole, bad, item_of, Contents, tail_only, item_then, contents_behind}
use Rattle.batch.specs.Reading.{Outcome, batch, read_batch, step_from, step_at, part, step_then, walk}
use Rattle.batch.proofs.ReadingLaws.{length_body, or_none}

-- ---- lists

pub drop_take : {A : Type 0} (m n : ℕ) (l : List A) → drop m (take n l) ≡ take (n - m) (drop m l)
drop_take zero n l = let e : n ≡ n - 0 = omega arith in ap (λ k. take k l) e
drop_take (suc m) zero [] = sym (take-nil (0 - suc m))
drop_take (suc m) zero (x ∷ l) = let e : 0 ≡ 0 - suc m = omega arith in ap (λ k. take k (drop m l)) e
drop_take (suc m) (suc n) [] = sym (take-nil (suc n - suc m))
drop_take (suc m) (suc n) (x ∷ l) = let e : n - m ≡ suc n - suc m = omega arith in drop_take m n l ∙ ap (λ k. take k (drop m l)) e

-- ---- a record at the front

-- bytes of a record that has come out are passed over
pub passed_over : (k : ℕ) (bs : List ℕ) → contents_behind k bs ≡ contents_behind 0 (drop k bs)
unfolding contents_behind
passed_over zero bs = refl
passed_over (suc k) [] = refl
passed_over (suc k) (b ∷ bs) = passed_over k bs

pub comes_first : (bs : List ℕ) → present bs ≡ true → contents_behind 0 bs ≡ item_then (item_of (body_of bs)) (contents_behind 0 (drop (4 + count_at bs) bs))
unfolding contents_behind
comes_first [] p = absurd (omega (arith, leb-true (4 + count_at []) 0 p))
comes_first (b ∷ bs) p =
    let e : 4 + count_at (b ∷ bs) ≡ suc (3 + count_at (b ∷ bs)) = omega arith in
    rw (p, e) (ap (item_then (item_of (body_of (b ∷ bs)))) (passed_over (3 + count_at (b ∷ bs)) bs))

pub comes_none : (bs : List ℕ) → present bs ≡ false → contents_behind 0 bs ≡ tail_only (length bs)
unfolding contents_behind
comes_none [] p = refl
comes_none (b ∷ bs) p = rw p

-- f is a record by its count: its four bytes, and as many as it says
abbrev pub Counted : List ℕ → Type 0
Counted f = length f ≡ 4 + count_at f

pub counted_first : (f x : List ℕ) → Counted f → contents_behind 0 (f ++ x) ≡ item_then (item_of (drop 4 f)) (contents_behind 0 x)
counted_first f x h =
    let n : count_at (f ++ x) ≡ count_at f = ap big_number (take-append-le 4 f x (omega arith)) in
    let l = length-append f x in
    let p = le-leb (4 + count_at (f ++ x)) (length (f ++ x)) (omega arith) in
    let d : drop 4 (f ++ x) ≡ drop 4 f ++ x = drop-append-le 4 f x (omega arith) in
    let b : body_of (f ++ x) ≡ drop 4 f = rw (n, d) (take_at (drop 4 f) x (count_at f) (length-drop 4 f ∙ (omega arith))) in
    let r : drop (4 + count_at (f ++ x)) (f ++ x) ≡ x = rw n (drop_at f x (4 + count_at f) h) in
    comes_first (f ++ x) p ∙ (rw (b, r))

-- a record wholly present is one by its count, and the rest behind it
pub record Splits (bs : List ℕ) : Type 0 where
  pub front : List ℕ
  pub rest : List ℕ
  pub parts : bs ≡ front ++ rest
  pub counts : Counted front

pub splits : (bs : List ℕ) → present bs ≡ true → Splits bs
splits bs p =
    let h = leb-true (4 + count_at bs) (length bs) p in
    let e : take 4 (take (4 + count_at bs) bs) ≡ take 4 bs = take-take 4 (4 + count_at bs) bs (omega arith) in
    record {
      front = take (4 + count_at bs) bs;
      rest = drop (4 + count_at bs) bs;
      parts = sym (take-append-drop (4 + count_at bs) bs);
      counts = rw e (length-take (4 + count_at bs) bs ∙ (omega arith));
    }

-- ---- more behind what has come out

abbrev pub joined : Contents → Contents → Contents
joined c d = record { items = c.items ++ d.items; tail = d.tail }

-- the tail lies within the bytes; without it, whatever comes behind is read as if it stood alone
pub record GoesOn (bs more : List ℕ) (c : Contents) : Type 0 where
  pub within : c.tail ≤ length bs
  pub all : contents_behind 0 (take (length bs - c.tail) bs ++ more) ≡ joined c (contents_behind 0 more)

goes_first : (bs more f r : List ℕ) (c : Contents) → bs ≡ f ++ r → Counted f → GoesOn r more c → GoesOn bs more (item_then (item_of (drop 4 f)) c)
goes_first bs more f r c e h g =
    let l = ap length e ∙ length-append f r in
    let w = g.within in
    let k : length bs - c.tail ≡ length f + (length r - c.tail) = omega arith in
    let t : take (length bs - c.tail) bs ≡ f ++ take (length r - c.tail) r = rw (k, e) (take-append-add f r (length r - c.tail)) in
    record {
      within = omega arith;
      all = rw (t, append_assoc) (counted_first f (take (length r - c.tail) r ++ more) h ∙ ap (item_then (item_of (drop 4 f))) g.all);
    }

goes_tail : (bs more : List ℕ) → GoesOn bs more (tail_only (length bs))
goes_tail bs more = let e : length bs - length bs ≡ 0 = omega arith in record { within = omega arith; all = rw e }

goes_step : (bs more : List ℕ) → ((r : List ℕ) → length r < length bs → GoesOn r more (contents_behind 0 r)) → (t : Bool) → present bs ≡ t
    → GoesOn bs more (contents_behind 0 bs)
goes_step bs more ih false p = rw (comes_none bs p) (goes_tail bs more)
goes_step bs more ih true p =
    let s = splits bs p in
    let l = ap length s.parts ∙ length-append s.front s.rest in
    let k = s.counts in
    let e : contents_behind 0 bs ≡ item_then (item_of (drop 4 s.front)) (contents_behind 0 s.rest) =
    ap (contents_behind 0) s.parts ∙ counted_first s.front s.rest s.counts in
    rw e (goes_first bs more s.front s.rest (contents_behind 0 s.rest) s.parts s.counts (ih s.rest (omega arith)))

goes_by : (n : ℕ) (bs more : List ℕ) → length bs < n → GoesOn bs more (contents_behind 0 bs)
goes_by zero bs more h = absurd (omega arith)
goes_by (suc n) bs more h = goes_step bs more (λ r k. goes_by n r more (omega arith)) (present bs) refl

pub goes_on : (bs more : List ℕ) → GoesOn bs more (contents_behind 0 bs)
goes_on bs more = goes_by (suc (length bs)) bs more (omega arith)

-- ---- steps by places

pub item_bad : (body : List ℕ) → misfit body ≡ true → item_of body ≡ bad
unfolding item_of
item_bad body m = rw m

pub item_whole : (body : List ℕ) → misfit body ≡ false → item_of body ≡ whole (record_of (take (size_in body) (drop 4 body)) (drop (4 + size_in body) body))
unfolding item_of
item_whole body m = rw m

dictionary_part : (file : List ℕ) (at n m : ℕ) → m ≤ n - 4 → part (at + 8) (at + (8 + m)) file ≡ take m (drop 4 (take n (drop 4 (drop at file))))
dictionary_part file at n m h =
    let e : at + (8 + m) - (at + 8) ≡ m = omega arith in
    let d : at + 4 + 4 ≡ at + 8 = omega arith in
    rw (drop_take 4 n (drop 4 (drop at file)), take-take m (n - 4) (drop 4 (drop 4 (drop at file))) h, drop-drop 4 at file, drop-drop 4 (at + 4) file, d, e)

value_part : (file : List ℕ) (at n m : ℕ) → part (at + (8 + m)) (at + (4 + n)) file ≡ drop (4 + m) (take n (drop 4 (drop at file)))
value_part file at n m =
    let e : at + (4 + n) - (at + (8 + m)) ≡ n - (4 + m) = omega arith in
    let d : at + 4 + (4 + m) ≡ at + (8 + m) = omega arith in
    rw (drop_take (4 + m) n (drop 4 (drop at file)), drop-drop 4 at file, drop-drop (4 + m) (at + 4) file, d, e)

module _ (file : List ℕ) (at : ℕ) (from : ℕ → Outcome) where
  abbrev bs : List ℕ
  bs = drop at file

  abbrev behind : ℕ
  behind = at + (4 + count_at bs)

  walk_step : (present bs ≡ true → from behind ≡ batch (contents_behind 0 (drop behind file)))
      → step_then file (Ok (step_from file at)) from ≡ batch (contents_behind 0 bs)
  unfolding step_from
  walk_step h = go (present bs) (misfit (body_of bs)) refl refl
    where
      go : (t u : Bool) → present bs ≡ t → misfit (body_of bs) ≡ u → step_then file (Ok (step_from file at)) from ≡ batch (contents_behind 0 bs)
      go false u p m = rw (p, comes_none bs p)
      go true true p m = rw (p, m, h p, comes_first bs p, item_bad (body_of bs) m, drop-drop (4 + count_at bs) at file)
      go true false p m =
          let b = length_body bs (leb-true (4 + count_at bs) (length bs) p) in
          let f = or_none (ltb (length (body_of bs)) 4) (ltb (length (body_of bs) - 4) (size_in (body_of bs))) m in
          let i = ltb-false (length (body_of bs) - 4) (size_in (body_of bs)) f.1 in
          let d = dictionary_part file at (count_at bs) (size_in (body_of bs)) (omega arith) in
          let v = value_part file at (count_at bs) (size_in (body_of bs)) in
          rw (p, m, h p, comes_first bs p, item_whole (body_of bs) m, drop-drop (4 + count_at bs) at file, d, v)

walk_from : (file : List ℕ) → no_batch file ≡ false → (n at : ℕ) → 1 ≤ at → length file - at < n → walk n file at ≡ batch (contents_behind 0 (drop at file))
unfolding walk step_at
walk_from file v zero at l h = absurd (omega arith)
walk_from file v (suc n) at l h =
    let m : max at 1 ≡ at = omega arith in
    rw (v, m) (walk_step file at (walk n file) (λ p. walk_from file v n (at + (4 + count_at (drop at file))) (omega arith)
    (omega (arith, leb-true (4 + count_at (drop at file)) (length (drop at file)) p, length-drop at file))))

-- steps from the start on give what reading the file gives
pub walk_all_lem : (file : List ℕ) (n : ℕ) → length file < n → walk n file 0 ≡ read_batch file
unfolding walk step_at read_batch
walk_all_lem file zero h = absurd (omega arith)
walk_all_lem file (suc n) h = go (no_batch file) refl
  where
    go : (t : Bool) → no_batch file ≡ t → walk (suc n) file 0 ≡ read_batch file
    go true v = rw v
    go false v = rw v (rw v at (walk_from file v (suc n) 1 (omega arith) (omega arith)))

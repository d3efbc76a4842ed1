-- Reading: one step by places is one step of the definition.
use mathlib.Core.Path.{◌≡◌, refl, sym, ◌∙◌, ap}
use mathlib.Core.Bool.{Bool, true, false, cond, ◌||◌, true≢false}
use mathlib.Core.List.{List, []}
use Prim.Native.Nat.{ℕ, ◌+◌, ◌-◌, ◌≤◌, ◌<◌, max, min}
use native.Mathlib.Omega.{arith}
use lib.Dec.{ltb, leb}
use borrow.Author.Tests.{lt-ltb, le-ltb, leb-true, leb-false, ltb-false}
use lib.ListN.{length, take, drop, length-take, length-drop, drop_of_length-le}
use lib.Seq.{take_all}
use Rattle.encoding.specs.Rows.{first, order, in_order}
use Rattle.std.specs.Prelude.{Result, Ok, Err}
use Rattle.batch.specs.declared.NoBatch.{NoBatch}
use Rattle.batch.specs.declared.Step.{Step}
use Rattle.batch.specs.declared.Step.TheVariants.{Whole, Bad, Tail}
use Rattle.batch.specs.Layout.{big_number}
use Rattle.batch.specs.Writing.{no_batch}
use Rattle.batch.specs.Reading.{count_at, present, body_of, size_in, misfit, refusal, step_from, step_at, step_number, bad_at, step_rows, read_number, read_rows, dictionary_in, value_in, is_whole}

pub step_in_order : (file : List ℕ) (place : ℕ) → in_order order (step_rows file place) ≡ true
step_in_order file place = refl

pub read_in_order : (file : List ℕ) → in_order order (read_rows file) ≡ true
read_in_order file = refl

-- ---- a record at the front

pub length_body : (bs : List ℕ) → 4 + count_at bs ≤ length bs → length (body_of bs) ≡ count_at bs
length_body bs h = simp (length-take, length-drop) (omega arith)

-- the bytes from a place on, as the code cuts them
pub left_is : (file : List ℕ) (at : ℕ) {m : ℕ} → m ≡ min at (length file) → take (length file - m) (drop m file) ≡ drop at file
left_is file at {m} e = take_all (length file - m) (drop m file) (omega (arith, length-drop m file)) ∙ go (leb at (length file)) refl
  where
    go : (t : Bool) → leb at (length file) ≡ t → drop m file ≡ drop at file
    go true q = let h : m ≡ at = omega (arith, leb-true at (length file) q) in rw h
    go false q =
        let h = leb-false at (length file) q in
        drop_of_length-le file (omega arith) ∙ sym (drop_of_length-le file (omega arith))

pub step_tail : (file : List ℕ) (at : ℕ) {left : List ℕ} → left ≡ drop at file → present left ≡ false → Tail (length left) ≡ step_from file at
unfolding step_from
step_tail file at e p = rw (← e, p)

-- a record wholly present, by its body
module _ (file : List ℕ) (at : ℕ) {left body : List ℕ} (e : left ≡ drop at file) (q : (present left ≡ true) × (body ≡ body_of left)) where
  counted : length body ≡ count_at left
  counted = ap length q.1 ∙ length_body left (leb-true (4 + count_at left) (length left) q.0)

  pub step_bad_count : length body < 4 → Bad (at + (4 + length body)) ≡ step_from file at
  unfolding step_from
  step_bad_count h = rw (← e, q.0, ← q.1, lt-ltb (length body) 4 h, counted)

  module _ {size : ℕ} {parts : List ℕ} (s : (4 ≤ length body) × (size ≡ big_number (take 4 body)) × (parts ≡ drop 4 body)) where
    left_over : length parts ≡ length body - 4
    left_over = ap length s.2 ∙ length-drop 4 body

    pub step_bad_size : length parts < size → Bad (at + (4 + length body)) ≡ step_from file at
    unfolding step_from
    step_bad_size h = rw (← e, q.0, ← q.1, ← s.1, le-ltb (length body) 4 s.0, lt-ltb (length body - 4) size (omega (arith, left_over)), counted)

    pub step_whole : size ≤ length parts → Whole (at + 8) (at + (8 + size)) (at + (4 + length body)) ≡ step_from file at
    unfolding step_from
    step_whole h = rw (← e, q.0, ← q.1, ← s.1, le-ltb (length body) 4 s.0, le-ltb (length body - 4) size (omega (arith, left_over)), counted)

-- ---- a step

pub step_refused : (file : List ℕ) (place : ℕ) → no_batch file ≡ true → Err refusal ≡ step_at file place
unfolding step_at
step_refused file place e = rw e

pub step_taken : (file : List ℕ) (place at : ℕ) {r : Step} → no_batch file ≡ false → at ≡ max place 1 → r ≡ step_from file at → Ok r ≡ step_at file place
unfolding step_at
step_taken file place at e m h = rw (e, ← m) (ap Ok h)

-- a whole record lies within the file
pub record Within (file : List ℕ) (dictionary value next : ℕ) : Type 0 where
  pub dictionary_order : dictionary ≤ value
  pub dictionary_end : value ≤ length file
  pub value_order : value ≤ next
  pub value_end : next ≤ length file

pub or_none : (a b : Bool) → (a || b) ≡ false → (a ≡ false) × (b ≡ false)
or_none false b e = (refl, e)
or_none true b e = absurd (true≢false e)

module _ (file : List ℕ) (at d v n : ℕ) where
  abbrev bs : List ℕ
  bs = drop at file

  abbrev behind : ℕ
  behind = at + (4 + count_at bs)

  within_from : Whole d v n ≡ step_from file at → Within file d v n
  unfolding step_from
  within_from e = go (present bs) (misfit (body_of bs)) refl refl e
    where
      go : (t u : Bool) → present bs ≡ t → misfit (body_of bs) ≡ u
          → Whole d v n ≡ cond t (cond u (Bad behind) (Whole (at + 8) (at + (8 + size_in (body_of bs))) behind)) (Tail (length bs)) → Within file d v n
      go false u p m q = let z : ◌≡◌ {A = ℕ} 0 1 = cc in absurd (omega arith)
      go true true p m q = let z : ◌≡◌ {A = ℕ} 0 1 = cc in absurd (omega arith)
      go true false p m q =
          let b = length_body bs (leb-true (4 + count_at bs) (length bs) p) in
          let h = leb-true (4 + count_at bs) (length bs) p in
          let f = or_none (ltb (length (body_of bs)) 4) (ltb (length (body_of bs) - 4) (size_in (body_of bs))) m in
          let g = ltb-false (length (body_of bs)) 4 f.0 in
          let i = ltb-false (length (body_of bs) - 4) (size_in (body_of bs)) f.1 in
          let l = length-drop at file in
          let x : d ≡ at + 8 = cc in
          let y : v ≡ at + (8 + size_in (body_of bs)) = cc in
          let w : n ≡ behind = cc in
          record { dictionary_order = omega arith; dictionary_end = omega arith; value_order = omega arith; value_end = omega arith }

pub within : (file : List ℕ) (place d v n : ℕ) → Ok (Whole d v n) ≡ step_at file place → Within file d v n
unfolding step_at
within file place d v n e = go (no_batch file) e
  where
    go : (t : Bool) → Ok (Whole d v n) ≡ cond t (Err refusal) (Ok (step_from file (max place 1))) → Within file d v n
    go true q = let z : ◌≡◌ {A = ℕ} 0 1 = cc in absurd (omega arith)
    go false q = let w : Whole d v n ≡ step_from file (max place 1) = cc in within_from file (max place 1) d v n w

-- no bytes of the file where no whole record stands
pub no_dictionary : (file : List ℕ) (s : Result Step NoBatch) → is_whole s ≡ false → [] ≡ dictionary_in file s
no_dictionary file (Ok (Whole d v n)) e = absurd (true≢false e)
no_dictionary file (Ok (Bad n)) e = refl
no_dictionary file (Ok (Tail n)) e = refl
no_dictionary file (Err x) e = refl

pub no_value : (file : List ℕ) (s : Result Step NoBatch) → is_whole s ≡ false → [] ≡ value_in file s
no_value file (Ok (Whole d v n)) e = absurd (true≢false e)
no_value file (Ok (Bad n)) e = refl
no_value file (Ok (Tail n)) e = refl
no_value file (Err x) e = refl

-- ---- a step's number

module _ (file : List ℕ) (at : ℕ) where
  from_number : step_number (Ok (step_from file at)) ≡ cond (bad_at (drop at file)) 19 0
  unfolding step_from
  from_number = go (present (drop at file)) (misfit (body_of (drop at file))) refl refl
    where
      go : (t u : Bool) → present (drop at file) ≡ t → misfit (body_of (drop at file)) ≡ u
          → step_number (Ok (step_from file at)) ≡ cond (bad_at (drop at file)) 19 0
      go false u p m = rw p
      go true false p m = rw (p, m)
      go true true p m = rw (p, m)

-- 21 is the call's, 19 the record's, in the table's order
pub step_numbers : (file : List ℕ) (place : ℕ)
    → (step_number (step_at file place) ≡ first (step_rows file place)) × (read_number (step_at file place) ≡ first (read_rows file))
unfolding step_at first
step_numbers file place = go (no_batch file) refl
  where
    go : (t : Bool) → no_batch file ≡ t
        → (step_number (step_at file place) ≡ first (step_rows file place)) × (read_number (step_at file place) ≡ first (read_rows file))
    go true v = (rw v, rw v)
    go false v = (rw v (from_number file (max place 1)), rw v)

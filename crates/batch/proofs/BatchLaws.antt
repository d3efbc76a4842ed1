-- The promises of A7: records come out as written and in order; a file cut after any byte past the first gives those wholly present, and the
-- rest as its tail; going on behind them gives all, old and new; and what the writer's calls leave is such a file.
use mathlib.Core.Path.{◌≡◌, refl, sym, ◌∙◌, ap}
use mathlib.Core.Bool.{Bool, true, false, cond, not}
use mathlib.Core.List.{List, [], ◌∷◌, ◌++◌, append_assoc, append-nil, map, map-append}
use Prim.Native.Nat.{ℕ, zero, suc, ◌+◌, ◌-◌, ◌^◌, ◌≤◌, ◌<◌}
use native.Mathlib.Omega.{arith}
use lib.Dec.{eqb, leb, ltb}
use borrow.Author.Tests.{le-ltb, lt-leb, leb-true, leb-false, ltb-false}
use lib.ListN.{length, take, drop, length-take, length-append}
use lib.Seq.{take-take, take-append-le, take-append-add, take_at, drop_at}
use Rattle.encoding.specs.Rows.{order}
use Rattle.encoding.specs.Slices.{Placed, write, placed_number}
use Rattle.encoding.proofs.RowsLaws.{first_none}
use Rattle.std.specs.Prelude.{Result}
use Rattle.batch.specs.declared.AddError.{AddError}
use Rattle.batch.specs.Layout.{Record, count_of, big_endian, big_number, record_bytes, records_bytes, batch_bytes}
use Rattle.batch.specs.Writing.{add_rows, added_number, added_at, Starts, Adds}
use Rattle.batch.specs.Reading.{count_at, present, size_in, misfit, whole, item_of, Contents, item_then, contents_behind, refused, batch, read_batch}
use Rattle.batch.proofs.NumberLaws.{length_big, number_big}
use Rattle.batch.proofs.WritingLaws.{length_record, add_in_order}
use Rattle.batch.proofs.ReadingLaws.{or_none}
use Rattle.batch.proofs.ContentsLaws.{Counted, counted_first, comes_none, item_whole, joined, goes_on}

-- ---- a record's own bytes

-- its count goes into four bytes
abbrev pub Fits : Record → Type 0
Fits x = count_of x < 256 ^ 4

abbrev pub AllFit : List Record → Type 0
AllFit [] = Unit {0}
AllFit (x ∷ xs) = Fits x × AllFit xs

-- the number at the front of bytes
front_number : (n : ℕ) (bs : List ℕ) → n < 256 ^ 4 → count_at (big_endian n ++ bs) ≡ n
front_number n bs h = rw (take_at (big_endian n) bs 4 (length_big n)) (number_big n h)

record_count : (x : Record) → Fits x → count_at (record_bytes x) ≡ count_of x
unfolding record_bytes
record_count x h = front_number (count_of x) (big_endian (length x.dictionary) ++ (x.dictionary ++ x.value)) h

record_counts : (x : Record) → Fits x → Counted (record_bytes x)
record_counts x h =
    let l = length_record x in
    let n = record_count x h in
    omega arith

-- what follows the count gives the two parts back
body_item : (x : Record) → Fits x → item_of (big_endian (length x.dictionary) ++ (x.dictionary ++ x.value)) ≡ whole x
body_item x h =
    let b = big_endian (length x.dictionary) in
    let d = x.dictionary in
    let v = x.value in
    let n : size_in (b ++ (d ++ v)) ≡ length d = front_number (length d) (d ++ v) (omega arith) in
    let k = length_big (length d) in
    let l : length (b ++ (d ++ v)) ≡ 4 + (length d + length v) = simp length-append (omega arith) in
    let t = le-ltb (length (b ++ (d ++ v))) 4 (omega arith) in
    let u = le-ltb (length (b ++ (d ++ v)) - 4) (size_in (b ++ (d ++ v))) (omega arith) in
    let m : misfit (b ++ (d ++ v)) ≡ false = rw (t, u) in
    let e : take (length d) (drop 4 (b ++ (d ++ v))) ≡ d = rw (drop_at b (d ++ v) 4 k) (take_at d v (length d) refl) in
    let j : length (b ++ d) ≡ 4 + length d = length-append b d ∙ (omega arith) in
    let f : drop (4 + length d) (b ++ (d ++ v)) ≡ v = rw (← append_assoc b d v) (drop_at (b ++ d) v (4 + length d) j) in
    item_whole (b ++ (d ++ v)) m ∙ (rw (n, e, f))

record_item : (x : Record) → Fits x → item_of (drop 4 (record_bytes x)) ≡ whole x
unfolding record_bytes
record_item x h =
    let body = big_endian (length x.dictionary) ++ (x.dictionary ++ x.value) in
    rw (drop_at (big_endian (count_of x)) body 4 (length_big (count_of x))) (body_item x h)

-- ---- records come out as written and in order, whatever stands behind them

record_first : (x : Record) (bs : List ℕ) → Fits x → contents_behind 0 (record_bytes x ++ bs) ≡ item_then (whole x) (contents_behind 0 bs)
record_first x bs h = counted_first (record_bytes x) bs (record_counts x h) ∙ (rw (record_item x h))

abbrev pub whole_all : List Record → ℕ → Contents
whole_all xs tail = record { items = map whole xs; tail = tail }

pub records_first : (xs : List Record) (bs : List ℕ) → AllFit xs → contents_behind 0 (records_bytes xs ++ bs) ≡ joined (whole_all xs 0) (contents_behind 0 bs)
unfolding records_bytes
records_first [] bs h = refl
records_first (x ∷ xs) bs h = rw append_assoc (record_first x (records_bytes xs ++ bs) h.0 ∙ ap (item_then (whole x)) (records_first xs bs h.1))

records_alone : (xs : List Record) → AllFit xs → contents_behind 0 (records_bytes xs) ≡ whole_all xs 0
unfolding contents_behind
records_alone xs h = rw (append-nil (records_bytes xs), append-nil (map whole xs)) at (records_first xs [] h)

pub records_come_out : (xs : List Record) → AllFit xs → read_batch (batch_bytes xs) ≡ batch (whole_all xs 0)
unfolding read_batch batch_bytes
records_come_out xs h = ap batch (records_alone xs h)

-- ---- a cut

-- a record cut short is not wholly present
cut_short : (f : List ℕ) (k : ℕ) → Counted f → k < length f → present (take k f) ≡ false
cut_short f k h l =
    let n = length-take k f in
    lt-leb (4 + count_at (take k f)) (length (take k f)) (go (leb 4 k) refl)
  where
    go : (t : Bool) → leb 4 k ≡ t → length (take k f) < 4 + count_at (take k f)
    go false e = omega (arith, leb-false 4 k e, length-take k f)
    go true e = omega (arith, length-take k f, ap big_number (take-take 4 k f (leb-true 4 k e)))

-- k bytes of the records' bytes
record CutBehind (xs : List Record) (k : ℕ) : Type 0 where
  count : ℕ
  held : count ≤ length xs
  ended : length (records_bytes (take count xs)) ≤ k
  next : count < length xs → k < length (records_bytes (take (suc count) xs))
  comes_out : contents_behind 0 (take k (records_bytes xs)) ≡ whole_all (take count xs) (k - length (records_bytes (take count xs)))

module _ (x : Record) (xs : List Record) (k : ℕ) (h : Fits x) where
  cut_later : length (record_bytes x) ≤ k → CutBehind xs (k - length (record_bytes x)) → CutBehind (x ∷ xs) k
  unfolding records_bytes
  cut_later l c =
      let j = k - length (record_bytes x) in
      let e : k ≡ length (record_bytes x) + j = omega arith in
      let a = length-append (record_bytes x) (records_bytes (take c.count xs)) in
      let w = c.ended in
      let t : take k (record_bytes x ++ records_bytes xs) ≡ record_bytes x ++ take j (records_bytes xs) =
      ap (λ n. take n (record_bytes x ++ records_bytes xs)) e ∙ take-append-add (record_bytes x) (records_bytes xs) j in
      let u : k - length (record_bytes x ++ records_bytes (take c.count xs)) ≡ j - length (records_bytes (take c.count xs)) = omega arith in
      record {
        count = suc c.count;
        held = omega (arith, c.held);
        ended = omega arith;
        next = λ n. omega (arith, c.next (omega arith), length-append (record_bytes x) (records_bytes (take (suc c.count) xs)));
        comes_out = rw (t, u) (record_first x (take j (records_bytes xs)) h ∙ ap (item_then (whole x)) c.comes_out);
      }

  cut_here : k < length (record_bytes x) → CutBehind (x ∷ xs) k
  unfolding records_bytes
  cut_here l =
      let n : length (take k (record_bytes x)) ≡ k = length-take k (record_bytes x) ∙ (omega arith) in
      let u : k - 0 ≡ k = omega arith in
      let c = comes_none (take k (record_bytes x)) (cut_short (record_bytes x) k (record_counts x h) l) in
      record {
        count = 0;
        held = omega arith;
        ended = omega arith;
        next = λ m. omega (arith, length-append (record_bytes x) []);
        comes_out = rw (take-append-le k (record_bytes x) (records_bytes xs) (omega arith), c, n, u);
      }

cut_behind : (xs : List Record) (k : ℕ) → AllFit xs → k ≤ length (records_bytes xs) → CutBehind xs k
unfolding records_bytes contents_behind
cut_behind [] k h l =
    let z : k ≡ 0 = omega arith in
    rw z (record { count = 0; held = omega arith; ended = omega arith; next = λ n. absurd (omega arith); comes_out = refl })
cut_behind (x ∷ xs) k h l =
    let a = length-append (record_bytes x) (records_bytes xs) in
    go (leb (length (record_bytes x)) k) refl (cut_behind xs (k - length (record_bytes x)) h.1 (omega arith))
  where
    go : (t : Bool) → leb (length (record_bytes x)) k ≡ t → CutBehind xs (k - length (record_bytes x)) → CutBehind (x ∷ xs) k
    go true e c = cut_later x xs k h.0 (leb-true (length (record_bytes x)) k e) c
    go false e c = cut_here x xs k h.0 (leb-false (length (record_bytes x)) k e)

-- the first k bytes of a file: its first `count` records end there or before, the next one does not; just they come out, as written and in
-- order, and all that stands behind the last of them is the tail
pub record Cut (xs : List Record) (k : ℕ) : Type 0 where
  pub count : ℕ
  pub held : count ≤ length xs
  pub ended : length (batch_bytes (take count xs)) ≤ k
  pub next : count < length xs → k < length (batch_bytes (take (suc count) xs))
  pub comes_out : read_batch (take k (batch_bytes xs)) ≡ batch (whole_all (take count xs) (k - length (batch_bytes (take count xs))))

pub cut : (xs : List Record) (k : ℕ) → AllFit xs → 1 ≤ k → k ≤ length (batch_bytes xs) → Cut xs k
unfolding batch_bytes read_batch
cut xs zero h p l = absurd (omega arith)
cut xs (suc k) h p l =
    let c = cut_behind xs k h (omega arith) in
    let u : suc k - suc (length (records_bytes (take c.count xs))) ≡ k - length (records_bytes (take c.count xs)) = omega arith in
    record {
      count = c.count;
      held = c.held;
      ended = omega (arith, c.ended);
      next = λ n. omega (arith, c.next n);
      comes_out = rw u (ap batch c.comes_out);
    }

-- ---- going on

-- of any file, cut or not, with bad records or none: without its tail, and with more records behind it, all come out, old and new
pub going_on : (file : List ℕ) (more : List Record) (c : Contents) → AllFit more → read_batch file ≡ batch c
    → read_batch (take (length file - c.tail) file ++ records_bytes more) ≡ batch (record { items = c.items ++ map whole more; tail = 0 })
unfolding read_batch
going_on [] more c h e = let z : ◌≡◌ {A = ℕ} 0 1 = cc in absurd (omega arith)
going_on (b ∷ bs) more c h e = go (not (eqb b 1)) refl e
  where
    go : (t : Bool) → not (eqb b 1) ≡ t → cond t (refused 21) (batch (contents_behind 0 bs)) ≡ batch c
        → read_batch (take (suc (length bs) - c.tail) (b ∷ bs) ++ records_bytes more) ≡ batch (record { items = c.items ++ map whole more; tail = 0 })
    go true v q = let z : ◌≡◌ {A = ℕ} 0 1 = cc in absurd (omega arith)
    go false v q =
        let i : contents_behind 0 bs ≡ c = cc in
        let g = rw i at (goes_on bs (records_bytes more)) in
        let w = g.within in
        let u : suc (length bs) - c.tail ≡ suc (length bs - c.tail) = omega arith in
        rw (u, v) (ap batch (g.all ∙ (rw (records_alone more h))))

-- so of a file cut after any byte past the first
pub cut_goes_on : (xs more : List Record) (k : ℕ) → AllFit more → k ≤ length (batch_bytes xs) → (c : Cut xs k)
    → let tail = k - length (batch_bytes (take c.count xs)) in
    read_batch (take (k - tail) (take k (batch_bytes xs)) ++ records_bytes more) ≡ batch (whole_all (take c.count xs ++ more) 0)
cut_goes_on xs more k m l c =
    let n : length (take k (batch_bytes xs)) ≡ k = length-take k (batch_bytes xs) ∙ (omega arith) in
    let tail = k - length (batch_bytes (take c.count xs)) in
    rw (n, ← map-append whole (take c.count xs) more) at (going_on (take k (batch_bytes xs)) more (whole_all (take c.count xs) tail) m c.comes_out)

-- ---- what the writer's calls leave

pub started : (file after : List ℕ) (r : Placed) → Starts file r after → placed_number r ≡ 0 → take 1 after ≡ batch_bytes []
unfolding write batch_bytes records_bytes
started file after r a z = let e = sym a.number ∙ z in rw (rw e at a.bytes)

-- a record that was added fits, and stands behind the bytes that were used
pub record Stands (file : List ℕ) (used : ℕ) (x : Record) (r : Result ℕ AddError) (after : List ℕ) : Type 0 where
  pub fits : Fits x
  pub bytes : take (added_at r) after ≡ take used file ++ record_bytes x

pub added : {file after : List ℕ} {used : ℕ} {x : Record} {r : Result ℕ AddError} → Adds file used x r after → added_number r ≡ 0 → Stands file used x r after
unfolding write
added {file} {after} {used} {x} {r} a z =
    let e = sym a.number ∙ z in
    let k = (first_none order (add_rows file used x) (add_in_order file used x)).0 e in
    let u = ltb-false (length file) used k.0 in
    let f = or_none (leb (256 ^ 4) (count_of x)) (ltb (length file) (used + length (record_bytes x))) k.1.1.0 in
    let n : length (take used file ++ record_bytes x) ≡ used + length (record_bytes x) =
    length-append (take used file) (record_bytes x) ∙ (omega (arith, length-take used file)) in
    let p : added_at r ≡ used + length (record_bytes x) = rw e at a.used_then in
    let w = rw e at a.bytes in
    record {
      fits = leb-false (256 ^ 4) (count_of x) f.0;
      bytes = rw (p, w, ← append_assoc (take used file) (record_bytes x) (drop (used + length (record_bytes x)) file))
          (take_at (take used file ++ record_bytes x) (drop (used + length (record_bytes x)) file) (used + length (record_bytes x)) n);
    }

records_bytes_append : (xs more : List Record) → records_bytes (xs ++ more) ≡ records_bytes xs ++ records_bytes more
unfolding records_bytes
records_bytes_append [] more = refl
records_bytes_append (x ∷ xs) more = rw (records_bytes_append xs more, append_assoc)

-- behind the bytes of a batch: the bytes of the batch with one record more
pub added_batch : {file after : List ℕ} {used : ℕ} {x : Record} {r : Result ℕ AddError} (xs : List Record) → Adds file used x r after → added_number r ≡ 0
    → take used file ≡ batch_bytes xs → take (added_at r) after ≡ batch_bytes (xs ++ (x ∷ []))
unfolding batch_bytes records_bytes
added_batch {x = x} xs a z b = (added a z).bytes ∙ (rw (b, records_bytes_append xs (x ∷ []), append-nil (record_bytes x)))

-- behind any file's bytes, its tail taken off: what came out of them, and the record
pub added_comes_out : {file after : List ℕ} {used : ℕ} {x : Record} {r : Result ℕ AddError} (c : Contents) → read_batch (take used file) ≡ batch c → used ≤ length file
    → Adds file (used - c.tail) x r after → added_number r ≡ 0
    → read_batch (take (added_at r) after) ≡ batch (record { items = c.items ++ (whole x ∷ []); tail = 0 })
unfolding records_bytes
added_comes_out {file} {after} {used} {x} {r} c e h a z =
    let n : length (take used file) ≡ used = length-take used file ∙ (omega arith) in
    let t : take (used - c.tail) (take used file) ≡ take (used - c.tail) file = take-take (used - c.tail) used file (omega arith) in
    rw (added a z).bytes (rw (n, t, append-nil (record_bytes x)) at (going_on (take used file) (x ∷ []) c ((added a z).fits, tt) e))

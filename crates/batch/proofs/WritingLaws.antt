-- Writing: the rows in order, and what the calls leave.
use mathlib.Core.Path.{◌≡◌, refl, sym, ◌∙◌}
use mathlib.Core.Bool.{true, false, not}
use mathlib.Core.List.{List, [], ◌∷◌, ◌++◌, append_assoc, append-nil}
use Prim.Native.Nat.{ℕ, zero, suc, ◌+◌, ◌^◌, ◌≤◌, ◌<◌}
use native.Mathlib.Omega.{arith}
use lib.Dec.{eqb}
use borrow.Author.Tests.{lt-ltb, le-ltb, le-leb, lt-leb, eq-eqb, ne_eqb}
use lib.ListN.{length, take, drop, get_or, set, length-append, length-drop, drop_of_length-le}
use lib.Seq.{drop-drop, take_at, drop_at}
use Rattle.encoding.specs.Rows.{first, order, in_order}
use Rattle.encoding.specs.Slices.{write}
use Rattle.encoding.specs.declared.slices.NoRoom as refused
use Rattle.std.specs.Prelude.{Ok, Err}
use Rattle.encoding.proofs.SliceLaws.{write_one, write_write}
use Rattle.std.specs.Prelude.{Ok, Err}
use Rattle.batch.specs.declared.AddError.{AddError}
use Rattle.batch.specs.declared.AddError.TheVariants.{Damaged, NoBatch, NoRoom}
use Rattle.batch.specs.Layout.{Record, count_of, record_bytes, records_bytes, batch_bytes}
use Rattle.batch.specs.Writing.{no_batch, start_rows, Starts, add_rows, added_number, Adds}
use Rattle.batch.proofs.NumberLaws.{length_big}

-- ---- the rows in the table's order

pub start_in_order : (file : List ℕ) → in_order order (start_rows file) ≡ true
start_in_order file = refl

pub add_in_order : (file : List ℕ) (used : ℕ) (x : Record) → in_order order (add_rows file used x) ≡ true
add_in_order file used x = refl

-- ---- a file started

pub starts_none : (file : List ℕ) {n : refused.NoRoom} → length file ≡ 0 → Starts file (Err n) file
unfolding first batch_bytes records_bytes
starts_none file e = let t = lt-ltb (length file) 1 (omega arith) in record { number = rw t; bytes = rw t }

pub starts_done : (file : List ℕ) → 0 < length file → Starts file (Ok tt) (set file 0 1)
unfolding first batch_bytes records_bytes
starts_done file h = let t = le-ltb (length file) 1 (omega arith) in record { number = rw t; bytes = rw t (write_one file 0 1 h) }

-- ---- the version

pub no_batch_used : (used : ℕ) (file : List ℕ) → 0 < used → no_batch (take used file) ≡ no_batch file
no_batch_used zero file h = absurd (omega arith)
no_batch_used (suc u) [] h = refl
no_batch_used (suc u) (b ∷ file) h = refl

pub none_used : (used : ℕ) (file : List ℕ) → used ≡ 0 → no_batch (take used file) ≡ true
none_used zero file e = refl
none_used (suc u) file e = absurd (omega arith)

pub version_first : (file : List ℕ) → 0 < length file → no_batch file ≡ not (eqb (get_or file 0 0) 1)
version_first [] h = absurd (omega arith)
version_first (b ∷ file) h = refl

pub empty_file : (file : List ℕ) → length file ≡ 0 → no_batch file ≡ true
empty_file [] h = refl
empty_file (b ∷ file) h = absurd (omega arith)

pub version_one : (file : List ℕ) → 0 < length file → get_or file 0 0 ≡ 1 → no_batch file ≡ false
version_one file h e = version_first file h ∙ (rw (eq-eqb (get_or file 0 0) 1 e))

-- ---- a record's bytes written

-- how many bytes a record takes
abbrev pub size_of : Record → ℕ
size_of x = 8 + (length x.dictionary + length x.value)

pub length_record : (x : Record) → length (record_bytes x) ≡ size_of x
unfolding record_bytes
length_record x = simp (length-append, length_big) (omega arith)

-- bytes written behind others
behind : (x y b : List ℕ) (k n : ℕ) → length x ≡ k → take k (x ++ y) ++ (b ++ drop n (drop k (x ++ y))) ≡ (x ++ b) ++ drop n y
behind x y b k n e = rw (take_at x y k e, drop_at x y k e) (sym (append_assoc x b (drop n y)))

-- a part of its size, filled by four writes in a row, is the record
pub filled : (part a b d v : List ℕ) → length a ≡ 4 → length b ≡ 4 → length part ≡ 8 + (length d + length v)
    → let one = a ++ drop 4 part in
    let two = take 4 one ++ (b ++ drop 4 (drop 4 one)) in
    write (8 + length d) v (write 8 d two) ≡ a ++ (b ++ (d ++ v))
unfolding write
filled part a b d v e f h =
    let rest = drop 4 (drop 4 part) in
    let front = (a ++ b) ++ rest in
    let m : length (a ++ b) ≡ 8 = simp length-append (omega arith) in
    let n : length front ≡ 8 + (length d + length v) = simp (length-append, length-drop) (omega arith) in
    let k = length-append d v in
    let z : drop (8 + length (d ++ v)) front ≡ [] = drop_of_length-le front (omega arith) in
    let w = write_write front d v 8 (omega arith) in
    rw (behind a (drop 4 part) b 4 4 e) (w ∙ rw (take_at (a ++ b) rest 8 m, z) (simp (append-nil, append_assoc)))

-- and a part that is filled is written
pub put_part : (file bytes : List ℕ) (at n : ℕ) → n ≡ length bytes → take at file ++ (bytes ++ drop n (drop at file)) ≡ write at bytes file
unfolding write
put_part file bytes at n e = rw (drop-drop, e)

-- ---- a record added

adds_refused : (file : List ℕ) (used : ℕ) (x : Record) (e : AddError) (n : ℕ) → first (add_rows file used x) ≡ n → (n ≡ 0 → ⊥)
    → added_number (Err e) ≡ n → Adds file used x (Err e) file
adds_refused file used x r n e z a = record {
  number = a ∙ sym e;
  used_then = rw (e, ne_eqb n 0 z);
  bytes = rw (e, ne_eqb n 0 z);
}

module _ (file : List ℕ) (used : ℕ) (x : Record) where
  pub adds_damaged : length file < used → Adds file used x (Err Damaged) file
  unfolding first
  adds_damaged h = adds_refused file used x Damaged 1 (rw (lt-ltb (length file) used h)) (λ z. absurd (omega arith)) refl

  pub adds_none : used ≤ length file → no_batch (take used file) ≡ true → Adds file used x (Err NoBatch) file
  unfolding first
  adds_none h b = adds_refused file used x NoBatch 21 (rw (le-ltb (length file) used h, b)) (λ z. absurd (omega arith)) refl

  pub adds_done : {after : List ℕ} {n : ℕ} → used ≤ length file → no_batch (take used file) ≡ false → count_of x < 256 ^ 4
      → used + size_of x ≤ length file → n ≡ used + size_of x → after ≡ write used (record_bytes x) file → Adds file used x (Ok n) after
  unfolding first
  adds_done h b c r q w =
      let l = length_record x in
      let z : first (add_rows file used x) ≡ 0 =
      rw (le-ltb (length file) used h, b, lt-leb (256 ^ 4) (count_of x) c, le-ltb (length file) (used + length (record_bytes x)) (omega arith)) in
      record { number = sym z; used_then = q ∙ (rw (z, l)); bytes = w ∙ (rw z) }

  -- the count does not go into four bytes
  pub adds_many : used ≤ length file → no_batch (take used file) ≡ false → 256 ^ 4 ≤ count_of x → Adds file used x (Err NoRoom) file
  unfolding first
  adds_many h b c =
      adds_refused file used x NoRoom 14 (rw (le-ltb (length file) used h, b, le-leb (256 ^ 4) (count_of x) c)) (λ z. absurd (omega arith)) refl

  -- the buffer ends before the record does
  pub adds_no_room : used ≤ length file → no_batch (take used file) ≡ false → count_of x < 256 ^ 4 → length file < used + size_of x
      → Adds file used x (Err NoRoom) file
  unfolding first
  adds_no_room h b c r =
      let l = length_record x in
      let t = lt-ltb (length file) (used + length (record_bytes x)) (omega arith) in
      adds_refused file used x NoRoom 14 (rw (le-ltb (length file) used h, b, lt-leb (256 ^ 4) (count_of x) c, t)) (λ z. absurd (omega arith)) refl

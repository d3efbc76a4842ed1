-- What is left to be written, string by string, and the answers.
use mathlib.Core.Path.{◌≡◌, refl, sym, ◌∙◌, ap}
use mathlib.Core.Bool.{Bool, true, false, not, ◌&&◌, ◌||◌, true≢false}
use mathlib.Core.List.{List, [], ◌∷◌, ◌++◌, map, append-nil}
use Prim.Native.Nat.{ℕ, zero, suc, ◌+◌, ◌-◌, ◌/◌, ◌%◌, ◌^◌, ◌≤◌, ◌<◌, ◌*◌}
use native.Mathlib.Omega.{arith}
use lib.Dec.{eqb, leb, ltb}
use lib.ListN.{length, take, drop, get_or, length-append}
use borrow.Author.Tests.{lt-leb, le-leb, lt-ltb, le-ltb, ne_eqb, eq-eqb, eqb-true}
use Rattle.encoding.specs.Rows.{first, order, in_order}
use Rattle.encoding.specs.Slices.{Placed, placed_number, write}
use Rattle.encoding.proofs.SliceLaws.{length_write, write_none, write_write}
use Rattle.value.specs.Scalar.{type_of_byte}
use Rattle.metadata.specs.Names.{Name, same, ascending}
use Rattle.metadata.specs.Bytes.{never_used, dictionary_names}
use Rattle.container.specs.Sort.{name_at}
use Rattle.measure.specs.Measure.{measured, some_length}
use Rattle.lexicon.specs.Dictionary.{each_below}
use Rattle.lexicon.proofs.DictionaryLaws.{both}
use Rattle.grammar.specs.Scalars.{outside}
use Rattle.grammar.specs.Grammar.{starting}
use Rattle.grammar.specs.Tests.{is_scalar, is_list_head, is_object_head, is_value, pair_rows}
use Rattle.grammar.specs.Tests.{each_value, starts_of, stored_ids, list_offsets, list_from, object_offsets, object_from}
use Rattle.grammar.proofs.LengthLaws.{length_same}
use Rattle.reader.proofs.PairLaws.{pair_valid}
use Rattle.reader.proofs.ValueLaws.{value_some}
use Rattle.batch.specs.declared.AddError.{AddError}
use Rattle.batch.specs.declared.AddError.TheVariants.{Damaged, NoBatch}
use Rattle.batch.specs.declared.AddError.TheVariants as add_error
use Rattle.batch.specs.Layout.{record_of, record_bytes, records_bytes, batch_bytes, count_of}
use Rattle.batch.specs.Writing.{no_batch, add_rows, added_at, added_number, Adds, start_rows, Starts}
use Rattle.batch.proofs.WritingLaws.{length_record, no_batch_used, version_one}
use mir.Syntax.{w32}
use Rattle.std.specs.Int.{to_be_bytes}
use Rattle.std.specs.Prelude.{Option, Some, Result, Ok, Err}
use Rattle.std.specs.Option.{option_eq}
use Rattle.std.specs.Result.{result_unwrap_or}
use Rattle.reader.specs.declared.errors.ReadError.{ReadError}
use Rattle.reader.specs.declared.errors.ReadError.TheVariants.{BadDictionary, BadValue}
use Rattle.reader.specs.Answers.{number_of}
use Rattle.small_values.specs.declared.SmallError.TheVariants.{BadLength, NoRoom}
use Rattle.small_values.specs.Small.{up_from, accepted, keep, values_of, file_of, small_rows, WritesSmall}
use Rattle.small_values.proofs.DigitLaws.{digits, strings_are}

-- ---- a value is as long as its first bytes say

same_length : (v : List ℕ) (a b : Bool) → (a && (eqb (measured v) (length v) && b)) ≡ true → measured v ≡ length v
same_length v a b h =
    let p = both {a = a} {b = eqb (measured v) (length v) && b} h in
    eqb-true (measured v) (length v) (both {a = eqb (measured v) (length v)} {b = b} p.1).0

scalar_measured : (v : List ℕ) → is_scalar v ≡ true → measured v ≡ length v
unfolding is_scalar
scalar_measured v h = same_length v (ltb (get_or v 0 0 % 4) 2) (ltb 0 (length v) && not (outside (type_of_byte (get_or v 0 0)) (drop 1 v))) h

list_measured : (v : List ℕ) → is_list_head v ≡ true → measured v ≡ length v
unfolding is_list_head
list_measured v h =
    let b = same (list_offsets v) (starts_of (drop (list_from v) v)) in
    let p = both {a = eqb (get_or v 0 0 % 4) 3} {b = ltb (get_or v 0 0) 32 && (eqb (measured v) (length v) && b)} h in
    same_length v (ltb (get_or v 0 0) 32) b p.1

object_measured : (names : List Name) (v : List ℕ) → is_object_head names v ≡ true → measured v ≡ length v
unfolding is_object_head
object_measured names v h =
    let ids = each_below (length names) (stored_ids v) && ascending (map (name_at names) (stored_ids v)) in
    let b = starting (starts_of (drop (object_from v) v)) (object_offsets v) && ids in
    let p = both {a = eqb (get_or v 0 0 % 4) 2} {b = ltb (get_or v 0 0) 128 && (eqb (measured v) (length v) && b)} h in
    same_length v (ltb (get_or v 0 0) 128) b p.1

one_of : (v : List ℕ) (t u w a b : Bool) → (t ≡ true → measured v ≡ length v) → (u ≡ true → measured v ≡ length v) → (w ≡ true → measured v ≡ length v)
    → (t || ((u && a) || (w && b))) ≡ true → measured v ≡ length v
one_of v true u w a b f g h e = f refl
one_of v false true w a b f g h e = g refl
one_of v false false true a b f g h e = h refl
one_of v false false false a b f g h e = absurd (true≢false (sym e))

value_measured : (names : List Name) (d : ℕ) (v : List ℕ) → is_value names (suc d) v ≡ true → measured v ≡ length v
unfolding is_value
value_measured names d v h =
    let each : ℕ → Bool = λ from. each_value (is_value names d) (length v) (drop from v) in
    one_of v (is_scalar v) (is_list_head v) (is_object_head names v) (each (list_from v)) (each (object_from v))
    (scalar_measured v) (list_measured v) (object_measured names v) h

-- ---- the records of one string: one or none

abbrev pub bytes_of : List ℕ → List ℕ
bytes_of v = records_bytes (map (record_of never_used) (keep (v ∷ [])))

pub not_accepted : (v : List ℕ) → accepted v ≡ false → bytes_of v ≡ []
unfolding keep records_bytes
not_accepted v e = rw e

pub is_accepted : (v : List ℕ) → accepted v ≡ true → bytes_of v ≡ record_bytes (record_of never_used v)
unfolding keep records_bytes
is_accepted v e = rw e (append-nil (record_bytes (record_of never_used v)))

pub other_length : (v : List ℕ) {o : Option ℕ} → o ≡ some_length (measured v) → not (option_eq eqb o (Some (length v))) ≡ true → bytes_of v ≡ []
unfolding accepted
other_length v {o} e f = not_accepted v (go (accepted v) refl)
  where
    go : (t : Bool) → accepted v ≡ t → accepted v ≡ false
    go false p = p
    go true p =
        let i = pair_valid never_used v refl (eqb-true (first (pair_rows never_used v)) 0 p) in
        let m = eq-eqb (measured v) (length v) (value_measured (dictionary_names never_used) 63 v i) in
        let q = length_same (measured v) (length v) {o = o} (value_some (dictionary_names never_used) 64 v i) e refl in
        absurd (true≢false (sym f ∙ ap not (q ∙ m)))

pub refused : (v : List ℕ) {n : ℕ} → n ≡ first (pair_rows never_used v) → (n ≡ 0 → ⊥) → bytes_of v ≡ []
unfolding accepted
refused v e h = not_accepted v (ne_eqb (first (pair_rows never_used v)) 0 (λ z. h (e ∙ z)))

pub taken : (v : List ℕ) {n : ℕ} → n ≡ first (pair_rows never_used v) → n ≡ 0 → bytes_of v ≡ record_bytes (record_of never_used v)
unfolding accepted
taken v e z = is_accepted v (eq-eqb (first (pair_rows never_used v)) 0 (sym e ∙ z))

-- a refusal's number is above 0
pub refusal : {T : Type 0} (r : Result T ReadError) → ((x : T) → r ≡ Ok x → ⊥) → number_of r ≡ 0 → ⊥
refusal (Ok x) h z = h x refl
refusal (Err BadDictionary) h z = absurd (omega arith)
refusal (Err BadValue) h z = absurd (omega arith)

-- ---- what `add_value` leaves

pub none_added : (out v : List ℕ) (used : ℕ) → bytes_of v ≡ [] → (used ≡ used + length (bytes_of v)) × (out ≡ write used (bytes_of v) out)
none_added out v used e = (rw e (omega arith), rw e (write_none out used))

record_size : (v : List ℕ) → length (record_bytes (record_of never_used v)) ≡ 11 + length v
record_size v = length_record (record_of never_used v) ∙ (omega arith)

pub one_added : (out after v : List ℕ) (used : ℕ) {r : Result ℕ AddError} {n : ℕ} → 1 ≤ used → get_or out 0 0 ≡ 1 → length v ≤ 3 → used + length (bytes_of v) ≤ length out
    → bytes_of v ≡ record_bytes (record_of never_used v) → Adds out used (record_of never_used v) r after
    → n ≡ result_unwrap_or r used → (n ≡ used + length (bytes_of v)) × (after ≡ write used (bytes_of v) out)
unfolding first
one_added out after v used {r} b f l h e a u =
    let x = record_of never_used v in
    let s = record_size v in
    let room : used + length (record_bytes x) ≤ length out = rw e at h in
    let nb : no_batch (take used out) ≡ false = no_batch_used used out (omega arith) ∙ version_one out (omega arith) f in
    let z : first (add_rows out used x) ≡ 0 =
    rw (le-ltb (length out) used (omega arith), nb, lt-leb (256 ^ 4) (count_of x) (omega arith), le-ltb (length out) (used + length (record_bytes x)) room) in
    (u ∙ (rw e (go r (length (record_bytes x)) (rw z at a.number) (rw z at a.used_then))), rw e (rw z at a.bytes))
  where
    go : (r : Result ℕ AddError) (size : ℕ) → added_number r ≡ 0 → added_at r ≡ used + size → result_unwrap_or r used ≡ used + size
    go (Ok n) size k q = q
    go (Err Damaged) size k q = absurd (omega arith)
    go (Err NoBatch) size k q = absurd (omega arith)
    go (Err add_error.NoRoom) size k q = absurd (omega arith)

-- ---- string n

-- how many strings there are
pub count_is : (k : ℕ) → 1 ≤ k → k ≤ 3 → 1 * 2 ^ (8 * k) % 4294967296 ≡ 256 ^ k
count_is zero h l = absurd (omega arith)
count_is (suc zero) h l = refl
count_is (suc (suc zero)) h l = refl
count_is (suc (suc (suc zero))) h l = refl
count_is (suc (suc (suc (suc k)))) h l = absurd (omega arith)

pub string_is : (k n : ℕ) → 1 ≤ k → k ≤ 3 → take (4 - (4 - k)) (drop (4 - k) (to_be_bytes w32 n)) ≡ digits k n
unfolding digits
string_is zero n h l = absurd (omega arith)
string_is (suc zero) n h l = let e : n / 1 ≡ n = omega arith in rw e
string_is (suc (suc zero)) n h l = let e : n / 1 ≡ n = omega arith in rw e
string_is (suc (suc (suc zero))) n h l = let e : n / 1 ≡ n = omega arith in rw e
string_is (suc (suc (suc (suc k)))) n h l = absurd (omega arith)

length_digits : (k n : ℕ) → length (digits k n) ≡ k
unfolding digits
length_digits zero n = refl
length_digits (suc k) n = rw (length_digits k n)

pub string_short : (k n : ℕ) {v : List ℕ} → v ≡ digits k n → k ≤ 3 → length v ≤ 3
string_short k n e h = omega (arith, ap length e, length_digits k n)

-- ---- the records of m strings from n on

unfoldable pub rest_of : ℕ → ℕ → ℕ → List ℕ
rest_of k m n = records_bytes (map (record_of never_used) (keep (map (digits k) (up_from m n))))

rest_more : (k m n : ℕ) → rest_of k (suc m) n ≡ bytes_of (digits k n) ++ rest_of k m (suc n)
unfolding rest_of up_from keep records_bytes
rest_more k m n = go (accepted (digits k n)) refl
  where
    go : (t : Bool) → accepted (digits k n) ≡ t → rest_of k (suc m) n ≡ bytes_of (digits k n) ++ rest_of k m (suc n)
    go false p = rw p
    go true p = rw (p, append-nil (record_bytes (record_of never_used (digits k n))))

rest_none : (k n : ℕ) → rest_of k 0 n ≡ []
unfolding rest_of up_from keep records_bytes
rest_none k n = refl

rest_all : (k : ℕ) → rest_of k (256 ^ k) 0 ≡ records_bytes (map (record_of never_used) (values_of k))
unfolding rest_of values_of
rest_all k = rw (strings_are k)

-- n strings of k bytes are done: the others' records, written where the loop stands, give the target
pub record Left (t : List ℕ) (k long : ℕ) (out : List ℕ) (used n : ℕ) : Type 0 where
  pub same : write used (rest_of k (256 ^ k - n) n) out ≡ t
  pub room : used + length (rest_of k (256 ^ k - n) n) ≤ long
  pub size : length out ≡ long
  pub version : get_or out 0 0 ≡ 1
  pub begun : 1 ≤ used

file_length : (k : ℕ) → length (file_of k) ≡ 1 + length (records_bytes (map (record_of never_used) (values_of k)))
unfolding file_of batch_bytes
file_length k = omega arith

pub left_start : (k : ℕ) (out : List ℕ) → get_or out 0 0 ≡ 1 → length (file_of k) ≤ length out
    → Left (write 1 (records_bytes (map (record_of never_used) (values_of k))) out) k (length out) out 1 0
left_start k out v h =
    let z : 256 ^ k - 0 ≡ 256 ^ k = omega arith in
    let f = file_length k in
    record { same = rw (z, rest_all k); room = rw (z, rest_all k) (omega arith); size = refl; version = v; begun = omega arith }

first_kept : (at : ℕ) (bs l : List ℕ) → 1 ≤ at → get_or l 0 0 ≡ 1 → get_or (write at bs l) 0 0 ≡ 1
unfolding write
first_kept zero bs l h e = absurd (omega arith)
first_kept (suc at) bs [] h e = absurd (omega arith)
first_kept (suc at) bs (b ∷ l) h e = e

module _ {t out : List ℕ} {k long used n : ℕ} (s : Left t k long out used n) (h : n < 256 ^ k) where
  next : rest_of k (256 ^ k - n) n ≡ bytes_of (digits k n) ++ rest_of k (256 ^ k - (n + 1)) (n + 1)
  next =
      let a : 256 ^ k - n ≡ suc (256 ^ k - (n + 1)) = omega arith in
      let b : suc n ≡ n + 1 = omega arith in
      rw (a, rest_more k (256 ^ k - (n + 1)) n, b)

  next_length : length (rest_of k (256 ^ k - n) n) ≡ length (bytes_of (digits k n)) + length (rest_of k (256 ^ k - (n + 1)) (n + 1))
  next_length = ap length next ∙ length-append (bytes_of (digits k n)) (rest_of k (256 ^ k - (n + 1)) (n + 1))

  pub left_room : {v : List ℕ} → v ≡ digits k n → used + length (bytes_of v) ≤ length out
  left_room e = rw e (omega (arith, s.room, s.size, next_length))

  pub left_again : {v after : List ℕ} {r : ℕ} → v ≡ digits k n → (r ≡ used + length (bytes_of v)) × (after ≡ write used (bytes_of v) out)
      → Left t k long after r (n + 1)
  left_again {v} {after} {r} e a =
      let bs = bytes_of (digits k n) in
      let rest = rest_of k (256 ^ k - (n + 1)) (n + 1) in
      let g = next_length in
      let f = s.room in
      let i = s.size in
      let j = s.begun in
      let p : r ≡ used + length bs = rw e at a.0 in
      let q : after ≡ write used bs out = rw e at a.1 in
      record {
        same = rw (p, q) (write_write out bs rest used (omega arith) ∙ (rw next at s.same));
        room = omega arith;
        size = ap length q ∙ (length_write used bs out (omega arith) ∙ i);
        version = rw q (first_kept used bs out j s.version);
        begun = omega arith;
      }

pub left_end : {t out : List ℕ} {k long used n : ℕ} → Left t k long out used n → 256 ^ k ≤ n → out ≡ t
left_end {out = out} {k = k} {used = used} {n = n} s h =
    let z : 256 ^ k - n ≡ 0 = omega arith in
    write_none out used ∙ (rw (z, rest_none k n) at s.same)

-- ---- the answers

pub small_bad : (n : ℕ) (out : List ℕ) → (leb 1 n && leb n 3) ≡ false → WritesSmall n out (Err BadLength) out
unfolding first
small_bad n out e = record { number = rw e; written = refl; bytes = refl }

pub small_no_room : (n s : ℕ) (out : List ℕ) → (1 ≤ n) × (n ≤ 3) → s ≡ length (file_of n) → length out < s → WritesSmall n out (Err NoRoom) out
unfolding first
small_no_room n s out a e h =
    record { number = rw (le-leb 1 n a.0, le-leb n 3 a.1, lt-ltb (length out) (length (file_of n)) (omega arith)); written = refl; bytes = refl }

-- the version byte, then the records
start_clear : (out : List ℕ) → 1 ≤ length out → first (start_rows out) ≡ 0
unfolding first batch_bytes records_bytes
start_clear out h = rw (le-ltb (length out) 1 h)

started_is : (out started : List ℕ) {r : Placed} → 1 ≤ length out → Starts out r started → started ≡ write 0 (1 ∷ []) out
unfolding batch_bytes records_bytes
started_is out started h s = rw (start_clear out h) at s.bytes

module _ (n : ℕ) (out started : List ℕ) {r : Placed} (h : length (file_of n) ≤ length out) (s : Starts out r started) where
  some : 1 ≤ length out
  some = omega (arith, file_length n)

  -- so that it is not refused
  pub started_good : placed_number r ≡ 0
  started_good = s.number ∙ start_clear out some

  pub started_version : get_or started 0 0 ≡ 1
  unfolding write
  started_version = rw (started_is out started some s)

  pub started_room : length (file_of n) ≤ length started
  started_room = omega (arith, ap length (started_is out started some s), length_write 0 (1 ∷ []) out some)

  pub file_written : {after : List ℕ} → after ≡ write 1 (records_bytes (map (record_of never_used) (values_of n))) started → after ≡ write 0 (file_of n) out
  unfolding file_of batch_bytes
  file_written e =
      let rs = records_bytes (map (record_of never_used) (values_of n)) in
      e ∙ (rw (started_is out started some s) (write_write out (1 ∷ []) rs 0 (omega (arith, file_length n))))

pub small_written_lem : (n s : ℕ) (out after : List ℕ) → (1 ≤ n) × (n ≤ 3) → s ≡ length (file_of n) → s ≤ length out → after ≡ write 0 (file_of n) out
    → WritesSmall n out (Ok s) after
unfolding first
small_written_lem n s out after a e h w =
    record { number = rw (le-leb 1 n a.0, le-leb n 3 a.1, le-ltb (length out) (length (file_of n)) (omega arith)); written = e; bytes = w }

-- the rows are in the table's order
pub small_order : (n : ℕ) (out : List ℕ) → in_order order (small_rows n out) ≡ true
small_order n out = refl

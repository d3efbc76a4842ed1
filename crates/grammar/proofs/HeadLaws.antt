-- Headers: what stands in one that is laid out, and that bytes which pass the test are one laid out.
use mathlib.Core.Path.{◌≡◌, refl, sym, ◌∙◌, ap}
use mathlib.Core.Bool.{Bool, true, false, cond}
use mathlib.Core.List.{List, [], ◌∷◌, ◌++◌, append_assoc}
use Prim.Native.Nat.{ℕ, ◌+◌, ◌-◌, ◌*◌, ◌^◌, ◌/◌, ◌%◌, ◌≤◌, ◌<◌}
use native.Mathlib.Nat.{mul-add, add-mul, zero-add, suc_inj, suc-ne-zero}
use native.Mathlib.Omega.{arith}
use lib.Dec.{eqb, leb, ltb}
use lib.ListN.{length, take, drop, get_or, length-drop, take-append-drop}
use lib.Seq.{take_at, drop_at, drop-drop, drop-cons, take-add}
use borrow.Author.Tests.{eq-eqb, ne_eqb, eqb-true, eqb-false, ltb-true}
use Rattle.encoding.specs.Packed.{le, les, number}
use Rattle.encoding.proofs.PackedLaws.{Below, length_le, length_les, number_le}
use Rattle.metadata.specs.Names.{Name}
use Rattle.metadata.specs.Bytes.{numbers}
use Rattle.metadata.proofs.DictionaryLaws.{same_equal}
use Rattle.container.specs.declared.Entry.{Entry}
use Rattle.container.specs.Entries.{ids_of, offsets_of}
use Rattle.container.specs.Layout.{count_size, list_byte, list_header_at, object_byte, object_header_at}
use Rattle.container.proofs.LayoutLaws.{Width, HoldsList, HoldsObject, length_list_at, length_object_at, list_kind, object_kind, list_byte_inj, object_byte_inj}
use Rattle.measure.specs.Measure.{number_at, within, container_length, value_length, measured}
use Rattle.lexicon.proofs.ByteLaws.{below_drop, le_at, les_at, small_at, length_numbers, numbers_below}
use Rattle.lexicon.proofs.DictionaryLaws.{both, below_each}
use Rattle.lexicon.proofs.TestLaws.{drop_first}
use Rattle.grammar.specs.Grammar.{HeldList, HeldObject, Fields}
use Rattle.grammar.specs.Tests.{starts_of, offset_width, id_width, list_large, object_large, list_table, list_count, list_offsets, list_from, id_table, object_count, stored_ids, object_offsets, object_from, is_list_head, is_object_head}

-- ---- the first byte

one_to_four : (x : ℕ) → Width (x % 4 + 1)
one_to_four x = (omega arith, omega arith)

-- made of its digits again
list_again : (b : ℕ) → b % 4 ≡ 3 → b < 32 → list_byte (b / 4 % 4 + 1) (eqb (b / 16 % 2) 1) ≡ b
list_again b k h = go (eqb (b / 16 % 2) 1) refl
  where
    go : (t : Bool) → eqb (b / 16 % 2) 1 ≡ t → list_byte (b / 4 % 4 + 1) t ≡ b
    go true e = omega (arith, eqb-true (b / 16 % 2) 1 e)
    go false e = omega (arith, eqb-false (b / 16 % 2) 1 e)

top_one : (b : ℕ) → b < 128 → b / 64 % 2 ≡ 1 → 64 ≡ 64 * (b / 64)
top_one b h e = omega arith

top_none : (b : ℕ) → b < 128 → (b / 64 % 2 ≡ 1 → ⊥) → 0 ≡ 64 * (b / 64)
top_none b h e = omega arith

-- an object's by its four digits, highest first
object_again : (b : ℕ) → b % 4 ≡ 2 → b < 128 → object_byte (b / 4 % 4 + 1) (b / 16 % 4 + 1) (eqb (b / 64 % 2) 1) ≡ b
object_again b k h =
    let x : b / 16 ≡ b / 4 / 4 = omega arith in
    let y : b / 64 ≡ b / 16 / 4 = omega arith in
    go (eqb (b / 64 % 2) 1) refl (omega arith) (omega arith) (omega arith)
  where
    digits : (q r s t : ℕ) → b ≡ 4 * q + 2 → q ≡ 4 * s + r → (u : ℕ) → s ≡ 4 * t + u → (top : ℕ) → top ≡ 64 * t → 2 + 4 * (r + 1 - 1) + 16 * (u + 1 - 1) + top ≡ b
    digits q r s t e f u g top i = omega arith

    go : (t : Bool) → eqb (b / 64 % 2) 1 ≡ t → b ≡ 4 * (b / 4) + 2 → b / 4 ≡ 4 * (b / 16) + b / 4 % 4 → b / 16 ≡ 4 * (b / 64) + b / 16 % 4
        → object_byte (b / 4 % 4 + 1) (b / 16 % 4 + 1) t ≡ b
    go true e p q r = digits (b / 4) (b / 4 % 4) (b / 16) (b / 64) p q (b / 16 % 4) r 64 (top_one b h (eqb-true (b / 64 % 2) 1 e))
    go false e p q r = digits (b / 4) (b / 4 % 4) (b / 16) (b / 64) p q (b / 16 % 4) r 0 (top_none b h (eqb-false (b / 64 % 2) 1 e))

list_small : (w : ℕ) (big : Bool) → Width w → list_byte w big < 32
list_small w true h = omega arith
list_small w false h = omega arith

object_small : (w v : ℕ) (big : Bool) → Width w → Width v → object_byte w v big < 128
object_small w v true h k = omega arith
object_small w v false h k = omega arith

-- the digits are what it was made of
list_digits : (w : ℕ) (big : Bool) → Width w → (list_byte w big / 4 % 4 + 1 ≡ w) × (eqb (list_byte w big / 16 % 2) 1 ≡ big)
list_digits w big h =
    let b = list_byte w big in
    list_byte_inj (b / 4 % 4 + 1) w (eqb (b / 16 % 2) 1) big (one_to_four (b / 4)) h (list_again b (list_kind w big) (list_small w big h))

object_digits : (w v : ℕ) (big : Bool) → Width w → Width v
    → (object_byte w v big / 4 % 4 + 1 ≡ w) × (object_byte w v big / 16 % 4 + 1 ≡ v) × (eqb (object_byte w v big / 64 % 2) 1 ≡ big)
object_digits w v big h k =
    let b = object_byte w v big in
    object_byte_inj (b / 4 % 4 + 1) w (b / 16 % 4 + 1) v (eqb (b / 64 % 2) 1) big (one_to_four (b / 4)) h (one_to_four (b / 16)) k
    (object_again b (object_kind w v big) (object_small w v big h k))

-- ---- numbers laid out are read back

numbers_les : (w : ℕ) (ns r : List ℕ) → Below (256 ^ w) ns → numbers w (length ns) (les w ns ++ r) ≡ ns
unfolding numbers les
numbers_les w [] r h = refl
numbers_les w (n ∷ ns) r h =
    let l = length_le w n in
    rw (append_assoc (le w n) (les w ns) r, take_at (le w n) (les w ns ++ r) w l, drop_at (le w n) (les w ns ++ r) w l, number_le w n h.0, numbers_les w ns r h.1)

count_at_lem : (x c n : ℕ) (rest : List ℕ) → n < 256 ^ c → number_at (x ∷ (le c n ++ rest)) 1 c ≡ n
count_at_lem x c n rest h = ap number (take_at (le c n) rest c (length_le c n)) ∙ number_le c n h

past_count : (x c n : ℕ) (rest : List ℕ) → drop (1 + c) (x ∷ (le c n ++ rest)) ≡ rest
past_count x c n rest = drop_first x c (le c n ++ rest) ∙ drop_at (le c n) rest c (length_le c n)

past_numbers : (p w : ℕ) (ns v rest : List ℕ) → drop p v ≡ les w ns ++ rest → drop (p + w * length ns) v ≡ rest
past_numbers p w ns v rest e = sym (drop-drop (w * length ns) p v) ∙ (ap (drop (w * length ns)) e ∙ drop_at (les w ns) rest (w * length ns) (length_les w ns))

-- ---- a list's header laid out

regroup : (x : ℕ) (a b c d : List ℕ) → (x ∷ (a ++ (b ++ c))) ++ d ≡ x ∷ (a ++ (b ++ (c ++ d)))
regroup x a b c d = ap (λ l. x ∷ l) (simp append_assoc)

pub record ListParts (v : List ℕ) (w : ℕ) (big : Bool) (os bytes : List ℕ) : Type 0 where
  pub kind : get_or v 0 0 % 4 ≡ 3
  pub small : get_or v 0 0 < 32
  pub width : offset_width v ≡ w
  pub large : list_large v ≡ big
  pub count : list_count v ≡ length os
  pub offsets : list_offsets v ≡ os
  pub from : list_from v ≡ length (list_header_at w big os (length bytes))
  pub rest : drop (list_from v) v ≡ bytes

pub list_parts : (w : ℕ) (big : Bool) (os bytes : List ℕ) → HoldsList w big os (length bytes) → ListParts (list_header_at w big os (length bytes) ++ bytes) w big os bytes
unfolding list_header_at
list_parts w big os bytes h =
    let v = list_header_at w big os (length bytes) ++ bytes in
    let c = count_size big in
    let tail = les w os ++ (le w (length bytes) ++ bytes) in
    let e : v ≡ list_byte w big ∷ (le c (length os) ++ tail) = regroup (list_byte w big) (le c (length os)) (les w os) (le w (length bytes)) bytes in
    let t = list_digits w big h.width in
    let n : number_at v 1 c ≡ length os = rw e (count_at_lem (list_byte w big) c (length os) tail h.count) in
    let f : 1 + c + w * (length os + 1) ≡ length (list_header_at w big os (length bytes)) = sym (length_list_at w big os (length bytes)) in
    record {
      kind = list_kind w big;
      small = list_small w big h.width;
      width = t.0;
      large = t.1;
      count = rw t.1 n;
      offsets = rw (t.0, t.1, n, e, past_count (list_byte w big) c (length os) tail) (numbers_les w os _ h.offsets);
      from = rw (t.0, t.1, n) f;
      rest = rw (t.0, t.1, n, f) (drop_at (list_header_at w big os (length bytes)) bytes _ refl);
    }

-- ---- an object's header laid out

pub record ObjectParts (v : List ℕ) (w u : ℕ) (big : Bool) (is os bytes : List ℕ) : Type 0 where
  pub kind : get_or v 0 0 % 4 ≡ 2
  pub small : get_or v 0 0 < 128
  pub width : offset_width v ≡ w
  pub ids_width : id_width v ≡ u
  pub large : object_large v ≡ big
  pub count : object_count v ≡ length is
  pub ids : stored_ids v ≡ is
  pub offsets : object_offsets v ≡ os
  pub from : object_from v ≡ length (object_header_at w u big is os (length bytes))
  pub rest : drop (object_from v) v ≡ bytes

pub object_parts : (w u : ℕ) (big : Bool) (is os bytes : List ℕ) → HoldsObject w u big is os (length bytes)
    → ObjectParts (object_header_at w u big is os (length bytes) ++ bytes) w u big is os bytes
unfolding object_header_at
object_parts w u big is os bytes h =
    let v = object_header_at w u big is os (length bytes) ++ bytes in
    let b = object_byte w u big in
    let c = count_size big in
    let tail = les w os ++ (le w (length bytes) ++ bytes) in
    let e : v ≡ b ∷ (le c (length is) ++ (les u is ++ tail)) = ap (λ l. b ∷ l) (simp append_assoc) in
    let t = object_digits w u big h.width h.id_width in
    let n : number_at v 1 c ≡ length is = rw e (count_at_lem b c (length is) (les u is ++ tail) h.count) in
    let i : drop (1 + c) v ≡ les u is ++ tail = rw e (past_count b c (length is) (les u is ++ tail)) in
    let o : drop (1 + c + u * length is) v ≡ tail = past_numbers (1 + c) u is v tail i in
    let f : 1 + c + u * length is + w * (length is + 1) ≡ length (object_header_at w u big is os (length bytes)) = sym (length_object_at w u big is os (length bytes) h.pairs) in
    record {
      kind = object_kind w u big;
      small = object_small w u big h.width h.id_width;
      width = t.0;
      ids_width = t.1;
      large = t.2;
      count = rw t.2 n;
      ids = rw (t.1, t.2, n, i) (numbers_les u is tail h.ids);
      offsets = rw (t.0, t.1, t.2, n, o, ← h.pairs) (numbers_les w os _ h.offsets);
      from = rw (t.0, t.1, t.2, n) f;
      rest = rw (t.0, t.1, t.2, n, f) (drop_at (object_header_at w u big is os (length bytes)) bytes _ refl);
    }

-- ---- a header of bytes that are as long as they say

-- the length stated is that of the bytes, where they are whole
within_is : (n x : ℕ) → 0 < n → within n x ≡ n → x ≡ n
within_is n x h = go (leb x n)
  where
    go : (t : Bool) → cond t x 0 ≡ n → x ≡ n
    go true e = e
    go false e = absurd (omega arith)

pub whole_length : (v : List ℕ) → 0 < length v → measured v ≡ length v → value_length v ≡ length v
unfolding measured
whole_length v h e = within_is (length v) (value_length v) h e

kind_some : (v : List ℕ) → 0 < get_or v 0 0 % 4 → 0 < length v
kind_some [] h = absurd (omega arith)
kind_some (b ∷ v) h = omega arith

room_at : (p w : ℕ) (v : List ℕ) → p + w ≤ length v → w ≤ length (drop p v)
room_at p w v h = let l = length-drop p v in omega arith

pieces : (v : List ℕ) (c t w : ℕ) → 1 + c + t + w ≤ length v
    → v ≡ get_or v 0 0 ∷ (take c (drop 1 v) ++ (take t (drop (1 + c) v) ++ (take w (drop (1 + c + t) v) ++ drop (1 + c + t + w) v)))
pieces v c t w h =
    let p : v ≡ get_or v 0 0 ∷ drop 1 v = drop-cons v 0 0 (omega arith) in
    let q = sym (take-append-drop c (drop 1 v)) in
    let r = sym (take-append-drop t (drop (1 + c) v)) in
    let s = sym (take-append-drop w (drop (1 + c + t) v)) in
    p ∙ ap (λ x. get_or v 0 0 ∷ x) (q ∙ ap (λ x. take c (drop 1 v) ++ x) (drop-drop c 1 v ∙ (r ∙ ap (λ x. take t (drop (1 + c) v) ++ x) (drop-drop t (1 + c) v ∙ (s ∙ ap (λ x. take w (drop (1 + c + t) v) ++ x) (drop-drop w (1 + c + t) v))))))

-- a count in c bytes, t bytes, and the size of what is left in w bytes
record Front (v : List ℕ) (c t w from : ℕ) : Type 0 where
  laid : v ≡ get_or v 0 0 ∷ (le c (number_at v 1 c) ++ (take t (drop (1 + c) v) ++ (le w (length (drop from v)) ++ drop from v)))
  count : number_at v 1 c < 256 ^ c
  size : length (drop from v) < 256 ^ w

front : (v : List ℕ) (c t w from : ℕ) → Below 256 v → length v ≡ 1 + c + t + w + number_at v (1 + c + t) w → from ≡ 1 + c + t + w → Front v c t w from
front v c t w from b l f =
    let r1 = room_at 1 c v (omega arith) in
    let r2 = room_at (1 + c + t) w v (omega arith) in
    let n = length-drop from v in
    let z : length (drop from v) ≡ number_at v (1 + c + t) w = omega arith in
    let x : le c (number_at v 1 c) ≡ take c (drop 1 v) = le_at c (drop 1 v) (below_drop 1 v b) r1 in
    let y : le w (length (drop from v)) ≡ take w (drop (1 + c + t) v) = rw z (le_at w (drop (1 + c + t) v) (below_drop (1 + c + t) v b) r2) in
    record {
      laid = rw (x, y, f) (pieces v c t w (omega arith));
      count = small_at c (drop 1 v) (below_drop 1 v b) r1;
      size = rw z (small_at w (drop (1 + c + t) v) (below_drop (1 + c + t) v b) r2);
    }

-- ---- a list's

list_length_lem : (v : List ℕ) → get_or v 0 0 % 4 ≡ 3 → measured v ≡ length v
    → let w = offset_width v in let last = list_table v + w * list_count v in length v ≡ last + w + number_at v last w
unfolding value_length container_length
list_length_lem v k e = sym (whole_length v (kind_some v (omega arith)) e) ∙ rw (eq-eqb (get_or v 0 0 % 4) 3 k, zero-add (offset_width v))

pub record ListHead (v : List ℕ) : Type 0 where
  pub laid : v ≡ list_header_at (offset_width v) (list_large v) (starts_of (drop (list_from v) v)) (length (drop (list_from v) v)) ++ drop (list_from v) v
  pub held : HeldList (offset_width v) (list_large v) (starts_of (drop (list_from v) v)) (length (drop (list_from v) v))

-- one that passes is laid out, over the starts of its data
pub list_head_lem : (v : List ℕ) → Below 256 v → is_list_head v ≡ true → ListHead v
unfolding is_list_head list_header_at
list_head_lem v b h =
    let p = both {a = eqb (get_or v 0 0 % 4) 3} h in
    let q = both {a = ltb (get_or v 0 0) 32} p.1 in
    let r = both {a = eqb (measured v) (length v)} q.1 in
    let kind = eqb-true (get_or v 0 0 % 4) 3 p.0 in
    let w = offset_width v in
    let c = count_size (list_large v) in
    let n = list_count v in
    let from = list_from v in
    let m = mul-add w n 1 in
    let l = list_length_lem v kind (eqb-true (measured v) (length v) r.0) in
    let f = front v c (w * n) w from b l (omega arith) in
    let e : list_offsets v ≡ starts_of (drop from v) = same_equal (list_offsets v) (starts_of (drop from v)) r.1 in
    let k : length (starts_of (drop from v)) ≡ n = rw (← e) (length_numbers w n (drop (1 + c) v)) in
    let room = room_at (1 + c) (w * n) v (omega arith) in
    let table : les w (starts_of (drop from v)) ≡ take (w * n) (drop (1 + c) v) = rw (← e) (les_at w n (drop (1 + c) v) (below_drop (1 + c) v b) room) in
    let byte : list_byte w (list_large v) ≡ get_or v 0 0 = list_again (get_or v 0 0) kind (ltb-true (get_or v 0 0) 32 q.0) in
    let again = regroup (get_or v 0 0) (le c n) (take (w * n) (drop (1 + c) v)) (le w (length (drop from v))) (drop from v) in
    record {
      laid = rw (byte, k, table) (f.laid ∙ sym again);
      held = record {
        least = (one_to_four (get_or v 0 0 / 4)).0;
        most = (one_to_four (get_or v 0 0 / 4)).1;
        count = below_each (256 ^ c) _ (rw k f.count, tt);
        numbers = below_each (256 ^ w) _ (rw (← e) (numbers_below w n (drop (1 + c) v) (below_drop (1 + c) v b) room));
        data_size = below_each (256 ^ w) _ (f.size, tt);
      };
    }

-- a header that passes lies within the bytes, whatever they are
pub list_within : (v : List ℕ) → is_list_head v ≡ true → list_from v ≤ length v
unfolding is_list_head
list_within v h =
    let p = both {a = eqb (get_or v 0 0 % 4) 3} h in
    let q = both {a = ltb (get_or v 0 0) 32} p.1 in
    let r = both {a = eqb (measured v) (length v)} q.1 in
    omega (arith, mul-add (offset_width v) (list_count v) 1, list_length_lem v (eqb-true (get_or v 0 0 % 4) 3 p.0) (eqb-true (measured v) (length v) r.0))

-- ---- an object's

object_length_lem : (v : List ℕ) → get_or v 0 0 % 4 ≡ 2 → measured v ≡ length v
    → let w = offset_width v in let last = id_table v + (id_width v + w) * object_count v in length v ≡ last + w + number_at v last w
unfolding value_length container_length
object_length_lem v k e = sym (whole_length v (kind_some v (omega arith)) e) ∙ rw (ne_eqb (get_or v 0 0 % 4) 3 (omega arith), eq-eqb (get_or v 0 0 % 4) 2 k)

-- ids and offsets as entries
abbrev pair : List ℕ → List ℕ → List Entry
pair [] os = []
pair (i ∷ is) [] = []
pair (i ∷ is) (o ∷ os) = record { id = i; offset = o } ∷ pair is os

pair_ids : (is os : List ℕ) → length os ≡ length is → ids_of (pair is os) ≡ is
pair_ids [] os e = refl
pair_ids (i ∷ is) [] e = absurd (suc-ne-zero (length is) (sym e))
pair_ids (i ∷ is) (o ∷ os) e = ap (λ l. i ∷ l) (pair_ids is os (suc_inj e))

pair_offsets : (is os : List ℕ) → length os ≡ length is → offsets_of (pair is os) ≡ os
pair_offsets [] [] e = refl
pair_offsets [] (o ∷ os) e = absurd (suc-ne-zero (length os) e)
pair_offsets (i ∷ is) [] e = refl
pair_offsets (i ∷ is) (o ∷ os) e = ap (λ l. o ∷ l) (pair_offsets is os (suc_inj e))

pub record ObjectHead (names : List Name) (v : List ℕ) : Type 0 where
  pub entries : List Entry
  pub laid : v ≡ object_header_at (offset_width v) (id_width v) (object_large v) (ids_of entries) (offsets_of entries) (length (drop (object_from v) v)) ++ drop (object_from v) v
  pub held : HeldObject (offset_width v) (id_width v) (object_large v) (ids_of entries) (offsets_of entries) (length (drop (object_from v) v))
  pub fields : Fields names entries (starts_of (drop (object_from v) v))

-- the two rows of numbers
rows_cut : (v : List ℕ) (p u w n : ℕ) → Below 256 v → p + (u + w) * n ≤ length v
    → take ((u + w) * n) (drop p v) ≡ les u (numbers u n (drop p v)) ++ les w (numbers w n (drop (p + u * n) v))
rows_cut v p u w n b h =
    let z = add-mul u w n in
    let r1 = room_at p (u * n) v (omega arith) in
    let r2 = room_at (p + u * n) (w * n) v (omega arith) in
    rw (z, take-add (u * n) (w * n) (drop p v), drop-drop (u * n) p v, les_at u n (drop p v) (below_drop p v b) r1, les_at w n (drop (p + u * n) v) (below_drop (p + u * n) v b) r2)

object_regroup : (x : ℕ) (a i o c d : List ℕ) → x ∷ (a ++ ((i ++ o) ++ (c ++ d))) ≡ (x ∷ (a ++ (i ++ (o ++ c)))) ++ d
object_regroup x a i o c d = ap (λ l. x ∷ l) (simp append_assoc)

-- one that passes is laid out, over the entries that its two rows of numbers make
pub object_head_lem : (names : List Name) (v : List ℕ) → Below 256 v → is_object_head names v ≡ true → ObjectHead names v
unfolding is_object_head object_header_at
object_head_lem names v b h =
    let p = both {a = eqb (get_or v 0 0 % 4) 2} h in
    let q = both {a = ltb (get_or v 0 0) 128} p.1 in
    let r = both {a = eqb (measured v) (length v)} q.1 in
    let kind = eqb-true (get_or v 0 0 % 4) 2 p.0 in
    let w = offset_width v in
    let u = id_width v in
    let c = count_size (object_large v) in
    let n = object_count v in
    let is = stored_ids v in
    let os = object_offsets v in
    let from = object_from v in
    let m = mul-add w n 1 in
    let z = add-mul u w n in
    let l = object_length_lem v kind (eqb-true (measured v) (length v) r.0) in
    let f = front v c ((u + w) * n) w from b l (omega arith) in
    let ki : length is ≡ n = length_numbers u n (drop (1 + c) v) in
    let ko : length os ≡ n = length_numbers w n (drop (1 + c + u * n) v) in
    let pi = pair_ids is os (ko ∙ sym ki) in
    let po = pair_offsets is os (ko ∙ sym ki) in
    let cut = rows_cut v (1 + c) u w n b (omega arith) in
    let byte : object_byte w u (object_large v) ≡ get_or v 0 0 = object_again (get_or v 0 0) kind (ltb-true (get_or v 0 0) 128 q.0) in
    let again = object_regroup (get_or v 0 0) (le c n) (les u is) (les w os) (le w (length (drop from v))) (drop from v) in
    let roomIds = room_at (1 + c) (u * n) v (omega arith) in
    let roomOffsets = room_at (1 + c + u * n) (w * n) v (omega arith) in
    let s = both r.1 in
    let t = both s.1 in
    record {
      entries = pair is os;
      laid = rw (pi, po, byte, ki) (f.laid ∙ (ap (λ k. get_or v 0 0 ∷ (le c n ++ (k ++ (le w (length (drop from v)) ++ drop from v)))) cut ∙ again));
      held = record {
        list = record {
          least = (one_to_four (get_or v 0 0 / 4)).0;
          most = (one_to_four (get_or v 0 0 / 4)).1;
          count = below_each (256 ^ c) _ (rw (po, ko) f.count, tt);
          numbers = rw po (below_each (256 ^ w) os (numbers_below w n (drop (1 + c + u * n) v) (below_drop (1 + c + u * n) v b) roomOffsets));
          data_size = below_each (256 ^ w) _ (f.size, tt);
        };
        least = (one_to_four (get_or v 0 0 / 16)).0;
        most = (one_to_four (get_or v 0 0 / 16)).1;
        numbers = rw pi (below_each (256 ^ u) is (numbers_below u n (drop (1 + c) v) (below_drop (1 + c) v b) roomIds));
      };
      fields = record { offsets = rw po s.0; ids = rw pi t.0; order = rw pi t.1 };
    }

pub object_within : (names : List Name) (v : List ℕ) → is_object_head names v ≡ true → object_from v ≤ length v
unfolding is_object_head
object_within names v h =
    let p = both {a = eqb (get_or v 0 0 % 4) 2} h in
    let q = both {a = ltb (get_or v 0 0) 128} p.1 in
    let r = both {a = eqb (measured v) (length v)} q.1 in
    let l = object_length_lem v (eqb-true (get_or v 0 0 % 4) 2 p.0) (eqb-true (measured v) (length v) r.0) in
    omega (arith, mul-add (offset_width v) (object_count v) 1, add-mul (id_width v) (offset_width v) (object_count v), l)

-- For the code: the tests that it makes are those of the definition.
use mathlib.Core.Path.{◌≡◌, refl, sym, ◌∙◌, ap}
use mathlib.Core.Bool.{Bool, true, false, ◌&&◌, false≢true}
use mathlib.Core.List.{List, [], ◌∷◌, ◌++◌, append_assoc}
use Prim.Native.Nat.{ℕ, zero, suc, ◌+◌, ◌-◌, ◌*◌, ◌^◌, ◌/◌, ◌%◌, ◌≤◌, ◌<◌}
use native.Mathlib.Nat.{mul-add, sub-zero, zero-add}
use native.Mathlib.Omega.{arith}
use lib.Dec.{eqb, leb}
use lib.ListN.{length, take, drop, get_or, length-append, length-drop, take-append-drop}
use lib.Seq.{drop-drop, take_all}
use borrow.Author.Tests.{le-leb, eqb-true, eq-eqb}
use Rattle.encoding.specs.Packed.{le, les, number}
use Rattle.encoding.specs.Utf8.{utf8}
use Rattle.encoding.proofs.PackedLaws.{Below}
use Rattle.measure.specs.Measure.{number_at}
use Rattle.metadata.specs.Names.{Name, cuts, risen, ascending}
use Rattle.metadata.specs.Bytes.{joined, ends_from, first_byte, laid_out, numbers, names_in, dictionary_names}
use Rattle.metadata.proofs.BytesLaws.{behind_first, layout_count, layout_zero, layout_ends, layout_text, layout_size, cuts_ends, length_cuts, joined_cuts}
use Rattle.metadata.proofs.BytesLaws.{ends_cuts}
use Rattle.std.specs.Prelude.{Ok, Err}
use Rattle.lexicon.specs.Dictionary.{each_utf8, stored_numbers, most_bytes, ReadsNames, width_in, mark_in, is_dictionary, read_dictionary, good_names}
use Rattle.lexicon.proofs.ByteLaws.{below_drop, le_at, les_at, small_at, length_numbers, numbers_below}
use Rattle.lexicon.proofs.DictionaryLaws.{both, with_both, below_each, held_parts, reads_width, reads_mark, reads_names, reads_is, is_reads}

-- ---- names between ends that rise

good_next : (at e : ℕ) (es text : List ℕ) → good_names at (e ∷ es) text ≡ true
    → (leb at e ≡ true) × (utf8 (take (e - at) (drop at text)) ≡ true) × (good_names e es text ≡ true)
unfolding good_names
good_next at e es text h =
    let n = utf8 (take (e - at) (drop at text)) in
    let p = both {a = leb at e} {b = n && good_names e es text} h in
    let q = both {a = n} {b = good_names e es text} p.1 in
    (p.0, q.0, q.1)

pub good_risen : (at : ℕ) (es text : List ℕ) → good_names at es text ≡ true → risen at es (length text) ≡ true
unfolding good_names risen
good_risen at [] text h = h
good_risen at (e ∷ es) text h = let p = good_next at e es text h in with_both {a = leb at e} p.0 (good_risen e es text p.2)

good_utf8 : (at : ℕ) (es text : List ℕ) → good_names at es text ≡ true → each_utf8 (cuts at es text) ≡ true
unfolding good_names each_utf8 cuts
good_utf8 at [] text h = refl
good_utf8 at (e ∷ es) text h = let p = good_next at e es text h in with_both {a = utf8 (take (e - at) (drop at text))} p.1 (good_utf8 e es text p.2)

risen_good : (at : ℕ) (es text : List ℕ) → risen at es (length text) ≡ true → each_utf8 (cuts at es text) ≡ true → good_names at es text ≡ true
unfolding good_names each_utf8 cuts risen
risen_good at [] text h u = h
risen_good at (e ∷ es) text h u =
    let n = utf8 (take (e - at) (drop at text)) in
    let p = both {a = leb at e} {b = risen e es (length text)} h in
    let q = both {a = n} {b = each_utf8 (cuts e es text)} u in
    with_both {a = leb at e} p.0 (with_both {a = n} q.0 (risen_good e es text p.1 q.1))

-- the ends of names rise to the end of the last
risen_ends : (at : ℕ) (ns : List Name) → risen at (ends_from at ns) (at + length (joined ns)) ≡ true
unfolding risen ends_from joined
risen_ends at [] = eq-eqb at (at + 0) (omega arith)
risen_ends at (n ∷ ns) =
    let e : at + length (n ++ joined ns) ≡ at + length n + length (joined ns) = simp length-append (omega arith) in
    with_both {a = leb at (at + length n)} (le-leb at (at + length n) (omega arith)) (rw e (risen_ends (at + length n) ns))

-- ---- what stands in bytes, by places from the first byte on

abbrev pub count_in : List ℕ → ℕ
count_in d = number_at d 1 (width_in d)

abbrev pub ends_in : List ℕ → List ℕ
ends_in d = numbers (width_in d) (count_in d) (drop (1 + width_in d + width_in d) d)

abbrev pub text_in : List ℕ → List ℕ
text_in d = drop (1 + width_in d * (count_in d + 2)) d

pub drop_first : (b x : ℕ) (bs : List ℕ) → drop (1 + x) (b ∷ bs) ≡ drop x bs
drop_first b x bs = let e : 1 + x ≡ suc x = omega arith in rw e

drop_twice : (b w : ℕ) (bs : List ℕ) → drop (1 + w + w) (b ∷ bs) ≡ drop (w + w) bs
drop_twice b w bs = let e : 1 + w + w ≡ suc (w + w) = omega arith in rw e

pub names_by : (d : List ℕ) → dictionary_names d ≡ cuts 0 (ends_in d) (text_in d)
unfolding dictionary_names names_in numbers cuts number
names_by [] = refl
names_by (b ∷ bs) = let w = b / 64 + 1 in rw (drop_twice b w bs, drop_first b (w * (number (take w bs) + 2)) bs)

pub length_by : (d : List ℕ) → length (dictionary_names d) ≡ count_in d
length_by d = rw (names_by d, length_cuts 0 (ends_in d) (text_in d)) (length_numbers (width_in d) (count_in d) (drop (1 + width_in d + width_in d) d))

-- ---- the tests

-- all but the order of the names
pub record Front (d : List ℕ) : Type 0 where
  pub some : 0 < length d
  pub few : length d ≤ most_bytes
  pub version : get_or d 0 0 % 16 ≡ 1
  pub unused : get_or d 0 0 / 32 % 2 ≡ 0
  pub room : 1 + width_in d * (count_in d + 2) ≤ length d
  pub zero_first : number_at d (1 + width_in d) (width_in d) ≡ 0
  pub good : good_names 0 (ends_in d) (text_in d) ≡ true

pub record Tests (d : List ℕ) : Type 0 where
  pub front : Front d
  pub order : mark_in d ≡ true → ascending (dictionary_names d) ≡ true

-- the low bits of a dictionary's first byte
low_bits : (mark : Bool) (w : ℕ) → 1 ≤ w → (first_byte mark w % 16 ≡ 1) × (first_byte mark w / 32 % 2 ≡ 0)
low_bits true w h = (omega arith, omega arith)
low_bits false w h = (omega arith, omega arith)

-- and a byte of these low bits is one
bits_back : (b : ℕ) → b % 16 ≡ 1 → b / 32 % 2 ≡ 0 → b ≡ first_byte (eqb (b / 16 % 2) 1) (b / 64 + 1)
bits_back b h k =
    let p : b / 16 / 2 ≡ b / 32 = omega arith in
    let q : b / 32 / 2 ≡ b / 64 = omega arith in
    let r : b ≡ b / 16 * 16 + 1 = omega arith in
    let s : b / 32 ≡ b / 64 * 2 = omega arith in
    let t : b / 16 ≡ b / 32 * 2 + b / 16 % 2 = omega arith in
    go (b / 16 % 2) refl (omega arith)
  where
    go : (m : ℕ) → b / 16 % 2 ≡ m → b ≡ 64 * (b / 64) + 16 * (b / 16 % 2) + 1 → b ≡ first_byte (eqb m 1) (b / 64 + 1)
    go zero e f = omega arith
    go (suc zero) e f = omega arith
    go (suc (suc m)) e f = absurd (omega arith)

layout_tests : (w : ℕ) (mark : Bool) (ns : List Name) → ReadsNames (laid_out w mark ns) w mark ns → Tests (laid_out w mark ns)
unfolding laid_out
layout_tests w mark ns r =
    let d = laid_out w mark ns in
    let b = first_byte mark w in
    let bs = behind_first w ns in
    let h = held_parts ns r.held in
    let ew = reads_width r in
    let en : number_at d 1 w ≡ length ns = layout_count w ns h.count in
    let es : numbers w (length ns) (drop (1 + w + w) d) ≡ ends_from 0 ns = rw (drop_twice b w bs) (layout_ends w ns h.bytes) in
    let et : drop (1 + w * (length ns + 2)) d ≡ joined ns = rw (drop_first b (w * (length ns + 2)) bs) (layout_text w ns) in
    let l = layout_size w mark ns in
    let v = low_bits mark w r.least in
    let g : good_names 0 (ends_from 0 ns) (joined ns) ≡ true =
    risen_good 0 (ends_from 0 ns) (joined ns) (rw zero-add at (risen_ends 0 ns)) (rw (cuts_ends 0 [] ns refl) r.text) in
    record {
      front = record {
        some = omega arith;
        few = r.size;
        version = v.0;
        unused = v.1;
        room = rw (ew, en) (omega arith);
        zero_first = rw (ew, drop_first b w bs) (layout_zero w ns (omega (arith, h.count)));
        good = rw (ew, en, es, et) g;
      };
      order = λ e. rw (reads_names r) (r.marked (sym (reads_mark r) ∙ e));
    }

reads_tests : {d : List ℕ} {w : ℕ} {mark : Bool} {ns : List Name} → ReadsNames d w mark ns → Tests d
reads_tests {d} {w} {mark} {ns} r = rw r.layout (layout_tests w mark ns (rw r.layout at r))

pub is_tests : {d : List ℕ} → is_dictionary d ≡ true → Tests d
is_tests h = reads_tests (is_reads h)

-- bytes behind the first, of which count and offsets are all there and rise from 0 to the text's end, are the layout of what they cut
behind_back : (w n : ℕ) (bs : List ℕ) → Below 256 bs → n ≡ number (take w bs) → w * (n + 2) ≤ length bs → number (take w (drop w bs)) ≡ 0
    → let es = numbers w n (drop (w + w) bs) in let text = drop (w * (n + 2)) bs in
    risen 0 es (length text) ≡ true → bs ≡ behind_first w (cuts 0 es text)
unfolding les
behind_back w n bs b e room z h =
    let es = numbers w n (drop (w + w) bs) in
    let text = drop (w * (n + 2)) bs in
    let m = mul-add w n 2 in
    let k : length (cuts 0 es text) ≡ n = length_cuts 0 es text ∙ length_numbers w n (drop (w + w) bs) in
    let ends : ends_from 0 (cuts 0 es text) ≡ es = ends_cuts 0 es text (length text) h (omega arith) in
    let rest : joined (cuts 0 es text) ≡ text = joined_cuts 0 es text (length text) h ∙ (rw sub-zero (take_all (length text) text (omega arith))) in
    let l1 = length-drop w bs in
    let l2 = length-drop (w + w) bs in
    let count : le w n ≡ take w bs = rw e (le_at w bs b (omega arith)) in
    let none : le w 0 ≡ take w (drop w bs) = rw (← z) (le_at w (drop w bs) (below_drop w bs b) (omega arith)) in
    let table : les w es ≡ take (w * n) (drop (w + w) bs) = les_at w n (drop (w + w) bs) (below_drop (w + w) bs b) (omega arith) in
    let size : w + w + w * n ≡ w * (n + 2) = omega arith in
    let last : drop (w * n) (drop (w + w) bs) ≡ text = drop-drop (w * n) (w + w) bs ∙ ap (λ x. drop x bs) size in
    let third : drop (w + w) bs ≡ les w es ++ text = rw (table, ← last) (sym (take-append-drop (w * n) (drop (w + w) bs))) in
    let second : drop w bs ≡ (le w 0 ++ les w es) ++ text =
    sym (take-append-drop w (drop w bs)) ∙ (rw (none, append_assoc (take w (drop w bs)) (les w es) text, ← third, drop-drop w w bs)) in
    rw (k, ends, rest, count, ← second) (sym (take-append-drop w bs))

tests_read : (first : ℕ) (bs : List ℕ) → Below 256 (first ∷ bs) → Tests (first ∷ bs)
    → ReadsNames (first ∷ bs) (width_in (first ∷ bs)) (mark_in (first ∷ bs)) (dictionary_names (first ∷ bs))
unfolding laid_out dictionary_names names_in
tests_read first bs b t =
    let f = t.front in
    let w = first / 64 + 1 in
    let n = number (take w bs) in
    let es = numbers w n (drop (w + w) bs) in
    let text = drop (w * (n + 2)) bs in
    let ns = cuts 0 es text in
    let m = mul-add w n 2 in
    let ends = drop_twice first w bs in
    let rest = drop_first first (w * (n + 2)) bs in
    let zeros : number (take w (drop w bs)) ≡ 0 = rw (drop_first first w bs) at f.zero_first in
    let good : good_names 0 es text ≡ true = rw (ends, rest) at f.good in
    let rise = good_risen 0 es text good in
    let back = behind_back w n bs b.1 refl (omega (arith, f.room)) zeros rise in
    let bits = bits_back first f.version f.unused in
    let l2 = length-drop (w + w) bs in
    let count : length ns ≡ n = length_cuts 0 es text ∙ length_numbers w n (drop (w + w) bs) in
    let few = small_at w bs b.1 (omega (arith, f.room)) in
    let offsets : ends_from 0 ns ≡ es = ends_cuts 0 es text (length text) rise (omega arith) in
    let table = numbers_below w n (drop (w + w) bs) (below_drop (w + w) bs b.1) (omega (arith, f.room)) in
    record {
      layout = rw (← back, ← bits);
      least = omega arith;
      most = omega (arith, b.0);
      held = below_each (256 ^ w) (stored_numbers ns) (rw (count, offsets) (few, (omega arith, table)));
      text = good_utf8 0 es text good;
      marked = t.order;
      size = f.few;
    }

pub tests_is : (d : List ℕ) → Below 256 d → Tests d → is_dictionary d ≡ true
tests_is [] b t = absurd (omega (arith, t.front.some))
tests_is (first ∷ bs) b t = reads_is (tests_read first bs b t)

-- ---- the answer

refused : (d : List ℕ) → (Tests d → ⊥) → false ≡ is_dictionary d
refused d h = go (is_dictionary d) refl
  where
    go : (t : Bool) → is_dictionary d ≡ t → false ≡ t
    go true e = absurd (h (is_tests e))
    go false e = refl

pub refused_front : (d : List ℕ) → (Front d → ⊥) → false ≡ is_dictionary d
refused_front d h = refused d (λ t. h t.front)

pub accepted_unmarked : {d : List ℕ} → Below 256 d → Front d → mark_in d ≡ false → true ≡ is_dictionary d
accepted_unmarked {d} b f m = sym (tests_is d b (record { front = f; order = λ e. absurd (false≢true (sym m ∙ e)) }))

-- the names' order decides
pub decided_marked : {d : List ℕ} (r : Bool) → Below 256 d → Front d → mark_in d ≡ true → r ≡ ascending (dictionary_names d) → r ≡ is_dictionary d
decided_marked {d} true b f m e = sym (tests_is d b (record { front = f; order = λ _. sym e }))
decided_marked {d} false b f m e = refused d (λ t. absurd (false≢true (e ∙ t.order m)))

-- both tests of the first byte, as the code makes them
pub bits_fail : (b : ℕ) → (eqb (b % 16) 1 && eqb (b / 32 % 2) 0) ≡ false → b % 16 ≡ 1 → b / 32 % 2 ≡ 0 → ⊥
bits_fail b h p q = false≢true (sym h ∙ with_both {a = eqb (b % 16) 1} (eq-eqb (b % 16) 1 p) (eq-eqb (b / 32 % 2) 0 q))

pub bits_pass : (b : ℕ) → (eqb (b % 16) 1 && eqb (b / 32 % 2) 0) ≡ true → (b % 16 ≡ 1) × (b / 32 % 2 ≡ 0)
bits_pass b h =
    let p = both {a = eqb (b % 16) 1} {b = eqb (b / 32 % 2) 0} h in
    (eqb-true (b % 16) 1 p.0, eqb-true (b / 32 % 2) 0 p.1)

ends_there : (d : List ℕ) (w n : ℕ) → w ≡ width_in d → n ≡ count_in d
    → good_names 0 (numbers w n (drop (1 + w + w) d)) (drop (1 + w * (n + 2)) d) ≡ good_names 0 (ends_in d) (text_in d)
ends_there d w n ew en = rw (en, ew)

-- what the code has found, of the width and the count that it read
module _ {d : List ℕ} {w n : ℕ} (ew : w ≡ width_in d) (en : n ≡ count_in d) where
  pub room_short : length d < 1 + w * (n + 2) → Front d → ⊥
  room_short l f = let e : w * (n + 2) ≡ width_in d * (count_in d + 2) = rw (en, ew) in omega (arith, f.room)

  pub zero_other : {r : ℕ} → r ≡ number_at d (1 + w) w → (r ≡ 0 → ⊥) → Front d → ⊥
  zero_other e z f = z (e ∙ (rw ew f.zero_first))

  pub names_bad : {r : Bool} → r ≡ good_names 0 (numbers w n (drop (1 + w + w) d)) (drop (1 + w * (n + 2)) d) → r ≡ false → Front d → ⊥
  names_bad e z f = false≢true (sym z ∙ (e ∙ (ends_there d w n ew en ∙ f.good)))

  pub front_passed : {r : ℕ} {t u : Bool} → (length d ≡ 0 → ⊥) → length d ≤ most_bytes
      → t ≡ (eqb (get_or d 0 0 % 16) 1 && eqb (get_or d 0 0 / 32 % 2) 0) → t ≡ true
      → 1 + w * (n + 2) ≤ length d → r ≡ number_at d (1 + w) w → r ≡ 0
      → u ≡ good_names 0 (numbers w n (drop (1 + w + w) d)) (drop (1 + w * (n + 2)) d) → u ≡ true → Front d
  front_passed s l v vt room z zt g gt =
      let p = bits_pass (get_or d 0 0) (sym v ∙ vt) in
      let e : w * (n + 2) ≡ width_in d * (count_in d + 2) = rw (en, ew) in
      record {
        some = omega arith;
        few = l;
        version = p.0;
        unused = p.1;
        room = omega arith;
        zero_first = rw (← ew) (sym z ∙ zt);
        good = sym (ends_there d w n ew en) ∙ (sym g ∙ gt);
      }

pub read_names : (d : List ℕ) (n : ℕ) → is_dictionary d ≡ true → n ≡ length (dictionary_names d) → Ok n ≡ read_dictionary d
unfolding read_dictionary
read_names d n h e = rw (h, e)

pub read_bad : (d : List ℕ) → is_dictionary d ≡ false → Err (record {}) ≡ read_dictionary d
unfolding read_dictionary
read_bad d h = rw h

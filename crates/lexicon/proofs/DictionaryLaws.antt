-- A reading is unique, the test decides whether there is one, and what a finish writes has one.
use mathlib.Core.Path.{◌≡◌, refl, sym, ◌∙◌, ap}
use mathlib.Core.Bool.{Bool, true, false, cond, not, ◌&&◌, ◌||◌, and-eq-true_iff, false≢true}
use mathlib.Core.List.{List, [], ◌∷◌}
use Prim.Native.Nat.{ℕ, ◌+◌, ◌^◌, ◌/◌, ◌%◌, ◌≤◌, ◌<◌, max}
use native.Mathlib.Omega.{arith}
use lib.Dec.{eqb, leb, ltb}
use lib.ListN.{length, get_or, length-append}
use borrow.Author.Tests.{ltb-true, lt-ltb, leb-true, le-leb, eq-eqb, ne_eqb}
use Rattle.encoding.specs.Rows.{order, in_order, first}
use Rattle.encoding.specs.Slices.{counted}
use Rattle.encoding.specs.Width.{width_at}
use Rattle.encoding.proofs.PackedLaws.{Below}
use Rattle.encoding.proofs.WidthLaws.{width_at_low, width_at_high, width_at_holds}
use Rattle.metadata.specs.declared.MetadataBuilder.{MetadataBuilder}
use Rattle.metadata.specs.Names.{Name, names_of, intact, ascending, sorted}
use Rattle.metadata.specs.Bytes.{joined, ends_from, first_byte, laid_out, dictionary, size_of, dictionary_names}
use Rattle.metadata.specs.Calls.{finishes}
use Rattle.metadata.proofs.BytesLaws.{first_width, laid_out_read, ends_below, dictionary_size, length_names, length_joined_names, size_least}
use Rattle.metadata.proofs.DictionaryLaws.{same_equal, equal_same}
use Rattle.std.specs.Prelude.{Ok, Err}
use Rattle.lexicon.specs.Dictionary.{each_utf8, stored_numbers, each_below, holds, most_bytes, ReadsNames, width_in, mark_in, is_dictionary, dictionary_rows}
use Rattle.lexicon.specs.Dictionary.{dictionary_number, read_dictionary, name_in}

-- both of two tests
pub both : {a b : Bool} → (a && b) ≡ true → (a ≡ true) × (b ≡ true)
both {a} {b} h = (and-eq-true_iff a b).0 h

pub with_both : {a b : Bool} → a ≡ true → b ≡ true → (a && b) ≡ true
with_both {a} {b} p q = (and-eq-true_iff a b).1 (p, q)

-- ---- numbers that w bytes hold

pub each_below_lem : (b : ℕ) (ns : List ℕ) → each_below b ns ≡ true → Below b ns
unfolding each_below
each_below_lem b [] h = tt
each_below_lem b (n ∷ ns) h = let p = both {a = ltb n b} {b = each_below b ns} h in (ltb-true n b p.0, each_below_lem b ns p.1)

pub below_each : (b : ℕ) (ns : List ℕ) → Below b ns → each_below b ns ≡ true
unfolding each_below
below_each b [] h = refl
below_each b (n ∷ ns) h = with_both {a = ltb n b} (lt-ltb n b h.0) (below_each b ns h.1)

-- the last offset is the size of all names
last_below : (b at : ℕ) (ns : List Name) → at < b → Below b (ends_from at ns) → at + length (joined ns) < b
unfolding ends_from joined
last_below b at [] l h = omega arith
last_below b at (n ∷ ns) l h = let k = length-append n (joined ns) in omega (arith, last_below b (at + length n) ns h.0 h.1)

-- count and name bytes held, so are all numbers
pub record Held (w : ℕ) (ns : List Name) : Type 0 where
  pub count : length ns < 256 ^ w
  pub bytes : length (joined ns) < 256 ^ w

pub held_parts : {w : ℕ} (ns : List Name) → holds w (stored_numbers ns) ≡ true → Held w ns
held_parts {w} ns h =
    let b = each_below_lem (256 ^ w) (stored_numbers ns) h in
    record { count = b.0; bytes = omega (arith, last_below (256 ^ w) 0 ns b.1.0 b.1.1) }

pub parts_held : {w : ℕ} {ns : List Name} → Held w ns → holds w (stored_numbers ns) ≡ true
parts_held {w} {ns} h = below_each (256 ^ w) (stored_numbers ns) (h.count, (omega arith, ends_below (256 ^ w) 0 ns (omega arith)))

-- ---- a reading is unique

first_mark : (mark : Bool) (w : ℕ) → 1 ≤ w → eqb (first_byte mark w / 16 % 2) 1 ≡ mark
first_mark true w h = eq-eqb (first_byte true w / 16 % 2) 1 (omega arith)
first_mark false w h = ne_eqb (first_byte false w / 16 % 2) 1 (λ e. omega arith)

module _ {d : List ℕ} {w : ℕ} {mark : Bool} {ns : List Name} (r : ReadsNames d w mark ns) where
  reads_first : get_or d 0 0 ≡ first_byte mark w
  unfolding laid_out
  reads_first = rw r.layout

  pub reads_width : width_in d ≡ w
  reads_width = rw reads_first (first_width mark w r.least)

  pub reads_mark : mark_in d ≡ mark
  reads_mark = rw reads_first (first_mark mark w r.least)

  pub reads_names : dictionary_names d ≡ ns
  reads_names = let h = held_parts ns r.held in rw r.layout (laid_out_read w mark ns r.least h.count h.bytes)

  -- and each name is found by its id
  pub reads_name : (id : ℕ) → name_in d id ≡ get_or ns id []
  reads_name id = ap (λ ms. get_or ms id []) reads_names

-- "a reading is unique": bytes have one width, one mark and one list of names
pub reading_unique : {d : List ℕ} {w v : ℕ} {mark other : Bool} {ns ms : List Name} → ReadsNames d w mark ns → ReadsNames d v other ms
    → (w ≡ v) × (mark ≡ other) × (ns ≡ ms)
reading_unique r s = (sym (reads_width r) ∙ reads_width s, sym (reads_mark r) ∙ reads_mark s, sym (reads_names r) ∙ reads_names s)

-- ---- the test decides

marked_test : (mark : Bool) (t : Bool) → (mark ≡ true → t ≡ true) → (not mark || t) ≡ true
marked_test true t h = h refl
marked_test false t h = refl

test_marked : (mark : Bool) (t : Bool) → (not mark || t) ≡ true → mark ≡ true → t ≡ true
test_marked true t h e = h
test_marked false t h e = absurd (false≢true e)

pub reads_is : {d : List ℕ} {w : ℕ} {mark : Bool} {ns : List Name} → ReadsNames d w mark ns → is_dictionary d ≡ true
unfolding is_dictionary
reads_is {d} {w} {mark} {ns} r =
    rw (reads_names r, reads_width r, reads_mark r)
    (with_both (equal_same r.layout)
    (with_both (le-leb w 4 r.most)
    (with_both r.held (with_both r.text (with_both (marked_test mark (ascending ns) r.marked) (le-leb (length d) most_bytes r.size))))))

one_more_lem : (n : ℕ) → 1 ≤ n + 1
one_more_lem n = omega arith

pub is_reads : {d : List ℕ} → is_dictionary d ≡ true → ReadsNames d (width_in d) (mark_in d) (dictionary_names d)
unfolding is_dictionary
is_reads {d} h =
    let a = both h in
    let b = both a.1 in
    let c = both b.1 in
    let e = both c.1 in
    let f = both e.1 in
    record {
      layout = same_equal d (laid_out (width_in d) (mark_in d) (dictionary_names d)) a.0;
      least = one_more_lem (get_or d 0 0 / 64);
      most = leb-true (width_in d) 4 b.0;
      held = c.0;
      text = e.0;
      marked = test_marked (mark_in d) (ascending (dictionary_names d)) f.0;
      size = leb-true (length d) most_bytes f.1;
    }

-- ---- the number

pub number_19 : (d : List ℕ) → dictionary_number (read_dictionary d) ≡ first (dictionary_rows d)
unfolding read_dictionary first
number_19 d = go (is_dictionary d)
  where
    go : (t : Bool) → dictionary_number (cond t (Ok (length (dictionary_names d))) (Err (record {}))) ≡ cond (not t) 19 0
    go true = refl
    go false = refl

pub rows_ordered : (d : List ℕ) → in_order order (dictionary_rows d) ≡ true
rows_ordered d = refl

-- ---- what a finish writes

sorted_ascends : (ns : List Name) → sorted ns ≡ true → ascending ns ≡ true
unfolding sorted
sorted_ascends [] h = absurd (false≢true h)
sorted_ascends (n ∷ ns) h = h

-- the dictionary of UTF-8 names, at every floor, reads as these names
pub dictionary_reads : (floor : ℕ) (ns : List Name) → each_utf8 ns ≡ true → length (dictionary floor ns) ≤ most_bytes
    → ReadsNames (dictionary floor ns) (width_at floor (max (length ns) (length (joined ns)))) (sorted ns) ns
unfolding dictionary
dictionary_reads floor ns u h =
    let most = max (length ns) (length (joined ns)) in
    let s = dictionary_size floor ns in
    let l = size_least floor (length ns) (length (joined ns)) in
    let f = width_at_holds floor most (omega arith) in
    record {
      layout = refl;
      least = width_at_low floor most;
      most = width_at_high floor most;
      held = parts_held {ns = ns} (record { count = omega arith; bytes = omega arith });
      text = u;
      marked = sorted_ascends ns;
      size = h;
    }

-- a finish that is carried out, over any storage whose names are UTF-8: the bytes that it writes are accepted, and read as those names
pub finish_reads : (floor : ℕ) (m : MetadataBuilder) (text ends out : List ℕ) → each_utf8 (names_of m text ends) ≡ true → finishes floor m text ends out ≡ 0
    → (is_dictionary (dictionary floor (names_of m text ends)) ≡ true) × (dictionary_names (dictionary floor (names_of m text ends)) ≡ names_of m text ends)
unfolding finishes
finish_reads floor m text ends out u = go (intact m text ends) (leb (size_of floor m.names m.text) (counted (length out))) refl refl
  where
    go : (t s : Bool) → intact m text ends ≡ t → leb (size_of floor m.names m.text) (counted (length out)) ≡ s → ◌≡◌ {A = ℕ} (cond (not t) 1 (cond s 0 16)) 0
        → (is_dictionary (dictionary floor (names_of m text ends)) ≡ true) × (dictionary_names (dictionary floor (names_of m text ends)) ≡ names_of m text ends)
    go false s i k e = absurd (omega arith)
    go true false i k e = absurd (omega arith)
    go true true i k e =
        let l = leb-true (size_of floor m.names m.text) (counted (length out)) k in
        let a = length_names m text ends i in
        let b = length_joined_names m text ends i in
        let z : length (dictionary floor (names_of m text ends)) ≤ most_bytes = rw (dictionary_size floor (names_of m text ends), a, b) (omega arith) in
        let r = dictionary_reads floor (names_of m text ends) u z in
        (reads_is r, reads_names r)

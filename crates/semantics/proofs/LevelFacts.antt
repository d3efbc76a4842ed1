-- What the levels tell: the counts that the table's rows ask for, and that number 1 never comes.
use mathlib.Core.Path.{◌≡◌, refl, sym, ◌∙◌, ap}
use mathlib.Core.Bool.{Bool, true, false, cond, not, ◌&&◌, ◌||◌}
use mathlib.Core.List.{List, [], ◌∷◌, ◌++◌, append_assoc}
use mathlib.Core.Option.{Option, none, some}
use Prim.Native.Nat.{ℕ, zero, suc, ◌+◌, ◌-◌, ◌^◌, ◌≤◌, ◌<◌}
use native.Mathlib.Nat.{add-zero}
use native.Mathlib.Omega.{arith}
use lib.Dec.{eqb, leb, ltb}
use lib.Seq.{take_at, drop_at}
use lib.ListN.{drop, take, length, length-append}
use borrow.Author.Tests.{le-leb, lt-ltb, ne_eqb}
use Rattle.std.specs.Prelude.{Option as Optional, Some, None}
use Rattle.metadata.specs.Names.{Name, place}
use Rattle.metadata.specs.Bytes.{joined}
use Rattle.metadata.proofs.DictionaryLaws.{Distinct, distinct_front}
use Rattle.container.specs.declared.Entry.{Entry}
use Rattle.container.specs.Entries.{misplaced, seek}
use Rattle.container.proofs.SortLaws.{Mem}
use Rattle.measure.specs.Measure.{whole_values}
use Rattle.semantics.specs.declared.Container.{Container}
use Rattle.semantics.specs.Tree.{element, live, replaced, Tree, Items, empty, item}
use Rattle.semantics.specs.declared.Mark.{Mark}
use Rattle.semantics.specs.Record.{mark_at_start}
use Rattle.semantics.specs.Damage.{orphaned, replacing, unrecorded}
use Rattle.semantics.specs.History.{Copy, Level}
use Rattle.semantics.specs.Ledger.{Tally, Tallied, live_ids, is_live, total, inner_sum, header_size, unique_in, live_in, marks_in, entry_count, own_entry, entries_used, own_undo, undos_used}
use Rattle.semantics.specs.Ledger as ledger
use Rattle.semantics.proofs.TreeLaws.{FormedItems, HeldItems, items_grow}
use Rattle.semantics.proofs.HistoryLaws.{Extends, extends_same, extends_more, HeldName, Named, Chained, inner_object, with_extends, with_held, FormedLevels}
use Rattle.semantics.proofs.Machine.{Machine, note_in, link_in, note, link_of, record_of, marks_at, logged, first_of, rest_of, one_more, header_of, any_open, object_inner, unique_at, live_at, header_at, Rising, with_count, NotAbove, Falling, AllFalling, Counting, Texts, InnerTexts, InnerPlaced, ParentPlaced}
use Rattle.semantics.proofs.LayerLaws.{Layer, layer_grows, layer_placed, layer_live, layer_count, layer_header, layer_whole, layer_low, note_count, record_count, Placed, all_placed, placed_grows, note_placed, list_owned, note_owned}
use Rattle.semantics.proofs.MarkLaws.{Stand, stand_of, Start, Marks, marks_lengths}
use Rattle.semantics.proofs.LevelLaws.{Used, Levels, own_names, noted, logged_by, start_of, live_item_lem, no_undo, front_entries, own_entries, own_bytes, own_size, names_roll}

held_extends : {ns ms : List Name} (is : Items) → Extends ns ms → HeldItems ns is → HeldItems ms is
held_extends {ns} is e h = rw e.grown (items_grow ns e.more is h)

distinct_before : {ns ms : List Name} → Extends ns ms → Distinct ms → Distinct ns
distinct_before {ns} e d = distinct_front ns e.more (rw e.grown at d)

-- ---- counts

-- the bytes are the ledger's total
pub levels_total : (floor : ℕ) (top : Option Tree) (u : Bool) (ls : List Level) (ks : List Container) (ns : List Name) (s : Used)
    → Levels floor top u ls ks ns s → length s.bytes ≡ total s.tallies
unfolding total
levels_total floor top u [] [] ns s x = rw x.tallies_are (omega arith)
levels_total floor top u [] (k ∷ ks) ns s x = absurd x
levels_total floor top u (l ∷ ls) [] ns s x = absurd x
levels_total floor top u (l ∷ ls) (k ∷ ks) ns s x =
    rw x.tallies_are
    (omega (arith, ap length x.bytes_are, length-append x.outer.bytes x.body, levels_total floor top u ls ks l.before x.outer x.under))

live_count : (ns ms : List Name) (is : Items) → length (live_ids ns is) ≡ length (live_ids ms is)
unfolding live_ids
live_count ns ms empty = refl
live_count ns ms (item element t is) = live_count ns ms is
live_count ns ms (item (live n) t is) = ap (λ k. suc k) (live_count ns ms is)
live_count ns ms (item replaced t is) = live_count ns ms is

-- names do not matter for how many entries are used
used_same : (ns ms : List Name) (ls : List Level) → entries_used ns ls ≡ entries_used ms ls
unfolding entries_used
used_same ns ms [] = refl
used_same ns ms (l ∷ []) = ap (λ n. cond l.object n 0) (live_count ns ms l.items)
used_same ns ms (l ∷ (p ∷ ls)) =
    let a = live_count ns ms l.items in
    let b = used_same ns ms (p ∷ ls) in
    λ i. cond l.object (a i) 0 + (own_entry l.own p.items + b i)

abbrev own_in : Option Name → List Level → ℕ
own_in nm [] = 0
own_in nm (l ∷ ls) = own_entry nm l.items

-- a note among the innermost's entries
noted_count : (floor : ℕ) (top : Option Tree) (u : Bool) (ls : List Level) (ks : List Container) (ns ms : List Name) (s : Used) (nm : Option Name) (at : ℕ) → Extends ns ms → HeldName ms nm
    → Named (inner_object ls) nm → Chained ns top ls → Levels floor top u ls ks ns s → length (note ms ks nm at s.entries) ≡ own_in nm ls + length s.entries
unfolding note
noted_count floor top u [] [] ns ms s nm at e h n c x = omega arith
noted_count floor top u [] (k ∷ ks) ns ms s nm at e h n c x = absurd x
noted_count floor top u (l ∷ ls) [] ns ms s nm at e h n c x = absurd x
noted_count floor top u (l ∷ ls) (k ∷ ks) ns ms s nm at e h n c x =
    let f = front_entries x in
    let g = own_entries x in
    let o = at - k.value in
    let base = noted l ks x.outer in
    let held = c.0.held in
    let p : take k.entries s.entries ++ note_in ms nm o (drop k.entries s.entries) ≡ base ++ note_in ms nm o x.seg = λ i. f i ++ note_in ms nm o (g i) in
    let q = note_count (held_extends l.items e held) l.object nm o n h (layer_grows l.object l.items e held x.layer) in
    omega (arith, ap length p, length-append base (note_in ms nm o x.seg), q, ap length x.entries_are, length-append base x.seg)

-- the entries are as many as the ledger counts
pub levels_used : (floor : ℕ) (top : Option Tree) (u : Bool) (ls : List Level) (ks : List Container) (ns : List Name) (s : Used) → Distinct ns → FormedLevels ls → Chained ns top ls
    → Levels floor top u ls ks ns s → length s.entries ≡ entries_used ns ls
unfolding entries_used
levels_used floor top u [] [] ns s d f c x = ap length x.entries_are
levels_used floor top u [] (k ∷ ks) ns s d f c x = absurd x
levels_used floor top u (l ∷ ls) [] ns s d f c x = absurd x
levels_used floor top u (l ∷ ls) (k ∷ ks) ns s d f c x =
    let st = c.0 in
    let own = noted_count floor top u ls ks l.before (own_names l) x.outer l.own (length x.outer.bytes) (with_extends l.before l.own) (with_held l.before l.own) f.1 c.1 x.under in
    let rest = levels_used floor top u ls ks l.before x.outer (distinct_before st.extends d) f.2 c.1 x.under ∙ used_same l.before ns ls in
    let all : length s.entries ≡ entry_count ns l + (own_in l.own ls + entries_used ns ls) =
    omega (arith, ap length x.entries_are, length-append (noted l ks x.outer) x.seg, layer_count st.held l.object d st.apart x.layer, own, rest) in
    all ∙ sum ls
  where
    sum : (ls : List Level) → entry_count ns l + (own_in l.own ls + entries_used ns ls) ≡ entries_used ns (l ∷ ls)
    sum [] = omega arith
    sum (p ∷ ls) = refl

-- the marks are as many as the history's
pub levels_marks : (floor : ℕ) (top : Option Tree) (u : Bool) (ls : List Level) (ks : List Container) (ns : List Name) (s : Used)
    → Levels floor top u ls ks ns s → marks_at ks ≡ marks_in ls
levels_marks floor top u [] [] ns s x = refl
levels_marks floor top u [] (k ∷ ks) ns s x = absurd x
levels_marks floor top u (l ∷ ls) [] ns s x = absurd x
levels_marks floor top u (l ∷ ls) (k ∷ ks) ns s x =
    x.marks_are ∙ sym
    (marks_lengths floor l.object (start_of l k) l.marks x.chain x.told (stand_of ns x.seg x.body x.own x.count) x.marks).0

-- the record that a value takes in the innermost
undo_count : (floor : ℕ) (top : Option Tree) (u : Bool) (ls : List Level) (ks : List Container) (ns ms : List Name) (s : Used) (nm : Option Name)
    → Extends ns ms → HeldName ms nm → Named (inner_object ls) nm
    → Chained ns top ls → Levels floor top u ls ks ns s → length (record_of (marks_at ks) (link_of ms ks nm s.entries)) ≡ own_undo nm ls
unfolding link_of record_of own_undo
undo_count floor top u [] [] ns ms s nm e h n c x = sym (no_undo nm)
undo_count floor top u [] (k ∷ ks) ns ms s nm e h n c x = absurd x
undo_count floor top u (l ∷ ls) [] ns ms s nm e h n c x = absurd x
undo_count floor top u (l ∷ ls) (k ∷ ks) ns ms s nm e h n c x =
    let g = own_entries x in
    let held = c.0.held in
    let count = levels_marks floor top u (l ∷ ls) (k ∷ ks) ns s x in
    ap (λ z. length (record_of k.marks (link_in ms nm z))) g
    ∙ (record_count (held_extends l.items e held) l.object nm k.marks n h (layer_grows l.object l.items e held x.layer)
    ∙ sym (λ i. cond (live_item_lem nm l ls i && ltb 0 (sym count i)) 1 0))

-- the undo records are as many as the ledger counts
pub levels_undos : (floor : ℕ) (top : Option Tree) (u : Bool) (ls : List Level) (ks : List Container) (ns : List Name) (s : Used) → FormedLevels ls
    → Chained ns top ls
    → Levels floor top u ls ks ns s → length s.undos ≡ undos_used s.tallies ls
unfolding undos_used logged
levels_undos floor top u [] [] ns s f c x = rw x.tallies_are (ap length x.undos_are)
levels_undos floor top u [] (k ∷ ks) ns s f c x = absurd x
levels_undos floor top u (l ∷ ls) [] ns s f c x = absurd x
levels_undos floor top u (l ∷ ls) (k ∷ ks) ns s f c x =
    let own =
    undo_count floor top u ls ks l.before (own_names l) x.outer l.own (with_extends l.before l.own) (with_held l.before l.own)
    f.1 c.1 x.under in
    let rest = levels_undos floor top u ls ks l.before x.outer f.2 c.1 x.under in
    let r = record_of (marks_at ks) (link_of (own_names l) ks l.own x.outer.entries) in
    rw x.tallies_are
    (omega (arith, ap length x.undos_are, length-append (x.outer.undos ++ r) x.own, length-append x.outer.undos r, own, rest))

-- ---- the rows' tests, where the machine has these names, bytes and entries

-- whether a container is open
pub levels_open : (floor : ℕ) (top : Option Tree) (u : Bool) (ls : List Level) (ks : List Container) (ns : List Name) (s : Used) → Levels floor top u ls ks ns s → any_open ks ≡ ledger.any_open ls
levels_open floor top u [] [] ns s x = refl
levels_open floor top u [] (k ∷ ks) ns s x = absurd x
levels_open floor top u (l ∷ ls) [] ns s x = absurd x
levels_open floor top u (l ∷ ls) (k ∷ ks) ns s x = refl

-- whether the innermost is an object
pub levels_object : (floor : ℕ) (top : Option Tree) (u : Bool) (ls : List Level) (ks : List Container) (ns : List Name) (s : Used) → Levels floor top u ls ks ns s → object_inner ks ≡ ledger.object_inner ls
levels_object floor top u [] [] ns s x = refl
levels_object floor top u [] (k ∷ ks) ns s x = absurd x
levels_object floor top u (l ∷ ls) [] ns s x = absurd x
levels_object floor top u (l ∷ ls) (k ∷ ks) ns s x = x.opened.object

-- how many are open
pub levels_depth : (floor : ℕ) (top : Option Tree) (u : Bool) (ls : List Level) (ks : List Container) (ns : List Name) (s : Used) → Levels floor top u ls ks ns s → length ks ≡ length ls
levels_depth floor top u [] [] ns s x = refl
levels_depth floor top u [] (k ∷ ks) ns s x = absurd x
levels_depth floor top u (l ∷ ls) [] ns s x = absurd x
levels_depth floor top u (l ∷ ls) (k ∷ ks) ns s x = ap (λ n. suc n) (levels_depth floor top u ls ks l.before x.outer x.under)

module _ (m : Machine) (ts : List Tallied) where
  -- what the machine uses
  abbrev pub used_by : Used
  used_by = record { bytes = m.bytes; entries = m.entries; elements = m.elements; undos = m.undos; chains = m.chains; tallies = ts }

  -- the uniqueness mark in force
  pub levels_unique : (floor : ℕ) (top : Option Tree) (ls : List Level) (ks : List Container) → Levels floor top m.unique ls ks m.names used_by
      → unique_at m ks ≡ unique_in ts
  levels_unique floor top [] [] x = rw x.tallies_are
  levels_unique floor top [] (k ∷ ks) x = absurd x
  levels_unique floor top (l ∷ ls) [] x = absurd x
  levels_unique floor top (l ∷ ls) (k ∷ ks) x = rw x.tallies_are

  -- whether a name is live in the innermost, where row 5 does not hold
  pub levels_live : (floor : ℕ) (top : Option Tree) (u : Bool) (ls : List Level) (ks : List Container) (nm : Option Name) → Named (inner_object ls) nm → Chained m.names top ls
      → Levels floor top u ls ks m.names used_by → live_at m nm ks ≡ live_in nm ls
  levels_live floor top u ls ks none n c x = refl
  levels_live floor top u [] [] (some y) n c x = refl
  levels_live floor top u [] (k ∷ ks) (some y) n c x = absurd x
  levels_live floor top u (l ∷ ls) [] (some y) n c x = absurd x
  levels_live floor top u (l ∷ ls) (k ∷ ks) (some y) n c x =
      let g = own_entries x in
      ap (λ (es : List Entry). ltb (place y m.names) (length m.names) && ltb (seek (place y m.names) es) (length es)) g ∙ go l.object n x.layer
    where
      go : (object : Bool) → Named object (some y) → Layer floor m.names object l.items x.seg x.count x.body
          → (ltb (place y m.names) (length m.names) && ltb (seek (place y m.names) x.seg) (length x.seg)) ≡ is_live y l.items
      go true n l = layer_live c.0.held l y
      go false n l = absurd n

  -- the innermost's header has the ledger's size
  pub levels_header : (top : Option Tree) (u : Bool) (ls : List Level) (ks : List Container) → Distinct m.names → Chained m.names top ls → Levels m.floor top u ls ks m.names used_by
      → length (header_at m ks) ≡ header_size m.floor m.names ls (inner_sum ts)
  unfolding header_size
  levels_header top u [] [] d c x = refl
  levels_header top u [] (k ∷ ks) d c x = absurd x
  levels_header top u (l ∷ ls) [] d c x = absurd x
  levels_header top u (l ∷ ls) (k ∷ ks) d c x =
      let g = own_entries x in
      let o = own_bytes x in
      let b = x.opened.object in
      let w = x.elements_are in
      let p : inner_sum ts ≡ length x.body = ap inner_sum x.tallies_are in
      ap length (λ i. header_of m.floor m.names (b i) (first_of 0 (w i)) (g i) (o i)) ∙ (layer_header c.0.held l.object d c.0.apart x.layer ∙ ap (header_size m.floor m.names (l ∷ ls)) (sym p))

  -- ---- orderly

  -- the innermost's entries are well placed, and a list's data is whole values
  pub levels_inner : (floor : ℕ) (top : Option Tree) (u : Bool) (ls : List Level) (ks : List Container) → FormedLevels ls → Chained m.names top ls → length m.bytes < 256 ^ 4
      → Levels floor top u ls ks m.names used_by → InnerPlaced m ks
  levels_inner floor top u [] [] f c small x = tt
  levels_inner floor top u [] (k ∷ ks) f c small x = absurd x
  levels_inner floor top u (l ∷ ls) [] f c small x = absurd x
  levels_inner floor top u (l ∷ ls) (k ∷ ks) f c small x = (
    rw (own_entries x, own_size x, x.opened.object) (placed l.object x.layer),
    rw (names_roll x) x.opened.text,
    rw (own_bytes x, x.elements_are, x.opened.object) (whole l.object f.0 x.layer),
  )
    where
      placed : (object : Bool) → Layer floor m.names object l.items x.seg x.count x.body → (object && misplaced true (length m.names) (length x.body) x.seg) ≡ false
      placed false y = refl
      placed true y = all_placed (length m.names) (length x.body) x.seg (layer_placed c.0.held y)

      whole : (object : Bool) → FormedItems object l.items → Layer floor m.names object l.items x.seg x.count x.body → (not object && not (whole_values x.count x.body)) ≡ false
      whole false g y = ap not (layer_whole c.0.held g (omega (arith, ap length x.bytes_are, length-append x.outer.bytes x.body)) y)
      whole true g y = refl

-- no list counts more than its data bytes, and with one element more than one above them
layer_counts : {floor : ℕ} {ns : List Name} {is : Items} {seg : List Entry} {count : ℕ} {body : List ℕ} (object : Bool) (child : ℕ) → HeldItems ns is → Layer floor ns object is seg count body
    → (object || leb (cond object count (count + child)) (length body + child)) ≡ true
layer_counts true child h l = refl
layer_counts {count} {body} false child h l = le-leb (count + child) (length body + child) (omega (arith, layer_low h l))

-- so that none counts too much with a child open in it
counting_child : (floor : ℕ) (top : Option Tree) (u : Bool) (ls : List Level) (ks : List Container) (ns : List Name) (s : Used) → Chained ns top ls → Levels floor top u ls ks ns s
    → Counting ks (one_more ks s.elements) (length s.bytes) 1
unfolding one_more
counting_child floor top u [] [] ns s c x = x.elements_are
counting_child floor top u [] (k ∷ ks) ns s c x = absurd x
counting_child floor top u (l ∷ ls) [] ns s c x = absurd x
counting_child floor top u (l ∷ ls) (k ∷ ks) ns s c x =
    let later : Counting ks (one_more ks x.outer.elements) k.value 1 = rw x.opened.value (counting_child floor top u ls ks l.before x.outer c.1 x.under) in
    rw (x.elements_are, own_size x, x.opened.object) (layer_counts l.object 1 c.0.held x.layer, later)

-- nor without one
pub levels_counting : (floor : ℕ) (top : Option Tree) (u : Bool) (ls : List Level) (ks : List Container) (ns : List Name) (s : Used) → Chained ns top ls → Levels floor top u ls ks ns s
    → Counting ks s.elements (length s.bytes) 0
levels_counting floor top u [] [] ns s c x = x.elements_are
levels_counting floor top u [] (k ∷ ks) ns s c x = absurd x
levels_counting floor top u (l ∷ ls) [] ns s c x = absurd x
levels_counting floor top u (l ∷ ls) (k ∷ ks) ns s c x =
    let later : Counting ks (one_more ks x.outer.elements) k.value 1 = rw x.opened.value (counting_child floor top u ls ks l.before x.outer c.1 x.under) in
    rw (x.elements_are, own_size x, x.opened.object) (go l.object (layer_counts l.object 0 c.0.held x.layer), later)
  where
    go : (t : Bool) → (t || leb (cond t x.count (x.count + 0)) (length x.body + 0)) ≡ true → (t || leb x.count (length x.body + 0)) ≡ true
    go true e = refl
    go false e = rw (sym (add-zero x.count)) e

joined_append : (ns ms : List Name) → joined (ns ++ ms) ≡ joined ns ++ joined ms
unfolding joined
joined_append [] ms = refl
joined_append (n ∷ ns) ms = ap (λ z. n ++ z) (joined_append ns ms) ∙ sym (append_assoc n (joined ns) (joined ms))

logged_longer : (ns : List Name) (ks : List Container) (nm : Option Name) (es us : List Entry) → length us ≤ length (logged ns ks nm es us)
unfolding logged
logged_longer ns ks nm es us = omega (arith, length-append us (record_of (marks_at ks) (link_of ns ks nm es)))

-- ---- the marks lie between the starting marks and the used counts

extends_longer : {ns ms : List Name} → Extends ns ms → (length ns ≤ length ms) × (length (joined ns) ≤ length (joined ms))
extends_longer {ns} {ms} e = (
  omega (arith, ap length e.grown, length-append ns e.more),
  omega (arith, ap (λ z. length (joined z)) e.grown ∙ (ap length (joined_append ns e.more) ∙ length-append (joined ns) (joined e.more))),
)

-- the count of a list is not above another; an object's is free
low : (object : Bool) (a b : ℕ) → a ≤ b → (object || leb a b) ≡ true
low true a b h = refl
low false a b h = le-leb a b h

-- what stands is not above the mark
pub record Reaches (k : Container) (now : Stand) (p : Mark) : Type 0 where
  pub value : k.value + length now.body ≤ p.value
  pub names : length now.names ≤ p.names
  pub text : length (joined now.names) ≤ p.text
  pub entries : k.entries + length now.seg ≤ p.entries
  pub undo : k.undo + length now.own ≤ p.undo
  pub count : now.count ≤ p.count

module _ (floor : ℕ) (object : Bool) (l : Level) (k : Container) (sn : k.names ≤ length (own_names l)) (st : k.text ≤ length (joined (own_names l))) where
  marks_falling : (kind : Bool) (cs : List Copy) (ps : List Mark) (ts : List Tally) (now : Stand) (above : Mark) → Extends (own_names l) now.names
      → Reaches k now above → Marks floor object (start_of l k) cs ps ts now → Falling kind (mark_at_start k) ps above
  marks_falling kind [] [] [] now above g r x =
      let e = extends_longer g in (
        omega (arith, r.value),
        omega (arith, sn, e.0, r.names),
        omega (arith, st, e.1, r.text),
        omega (arith, r.entries),
        omega (arith, r.undo),
        low kind 0 above.count (omega arith),
      )
  marks_falling kind (c ∷ cs) (p ∷ ps) (q ∷ ts) now above g r x =
      let e = extends_longer x.since.names in
      let z = x.then in
      let b : length now.body ≡ length z.body + length x.since.more = ap length x.since.body ∙ length-append z.body x.since.more in
      let o : length now.own ≡ length z.own + length x.since.records = ap length x.since.own ∙ length-append z.own x.since.records in
      let reaches : Reaches k z p =
      record {
        value = omega (arith, x.value);
        names = omega (arith, x.names);
        text = omega (arith, x.text);
        entries = omega (arith, x.entries);
        undo = omega (arith, x.undo);
        count = omega (arith, x.count);
      } in
      let first : NotAbove kind p above = (
        omega (arith, x.value, b, r.value),
        omega (arith, x.names, e.0, r.names),
        omega (arith, x.text, e.1, r.text),
        omega (arith, x.entries, x.since.back.fewer, r.entries),
        omega (arith, x.undo, o, r.undo),
        low kind p.count above.count (omega (arith, x.count, x.since.fewer, r.count)),
      ) in
      (first, marks_falling kind cs ps ts z p x.grows reaches x.rest)
  marks_falling kind [] [] (q ∷ ts) now above g r x = absurd x
  marks_falling kind [] (p ∷ ps) [] now above g r x = absurd x
  marks_falling kind [] (p ∷ ps) (q ∷ ts) now above g r x = absurd x
  marks_falling kind (c ∷ cs) [] [] now above g r x = absurd x
  marks_falling kind (c ∷ cs) [] (q ∷ ts) now above g r x = absurd x
  marks_falling kind (c ∷ cs) (p ∷ ps) [] now above g r x = absurd x

marks_texts : (floor : ℕ) (object : Bool) (start : Start) (cs : List Copy) (ps : List Mark) (ts : List Tally) (now : Stand) (ns : List Name)
    → Extends now.names ns → Marks floor object start cs ps ts now
    → Texts ps ns
marks_texts floor object start [] [] [] now ns g x = tt
marks_texts floor object start (c ∷ cs) (p ∷ ps) (t ∷ ts) now ns g x =
    let e = extends_more x.since.names g in
    let q : take p.names ns ≡ x.then.names = ap (take p.names) e.grown ∙ take_at x.then.names e.more p.names (sym x.names) in
    (x.text ∙ ap (λ z. length (joined z)) (sym q), marks_texts floor object start cs ps ts x.then ns e x.rest)
marks_texts floor object start [] [] (t ∷ ts) now ns g x = absurd x
marks_texts floor object start [] (p ∷ ps) [] now ns g x = absurd x
marks_texts floor object start [] (p ∷ ps) (t ∷ ts) now ns g x = absurd x
marks_texts floor object start (c ∷ cs) [] [] now ns g x = absurd x
marks_texts floor object start (c ∷ cs) [] (t ∷ ts) now ns g x = absurd x
marks_texts floor object start (c ∷ cs) (p ∷ ps) [] now ns g x = absurd x

pub levels_texts : (floor : ℕ) (top : Option Tree) (u : Bool) (ls : List Level) (ks : List Container) (ns : List Name) (s : Used)
    → Levels floor top u ls ks ns s → InnerTexts s.chains ns
levels_texts floor top u [] [] ns s x = rw x.chains_are tt
levels_texts floor top u [] (k ∷ ks) ns s x = absurd x
levels_texts floor top u (l ∷ ls) [] ns s x = absurd x
levels_texts floor top u (l ∷ ls) (k ∷ ks) ns s x =
    let now = stand_of ns x.seg x.body x.own x.count in
    rw x.chains_are (marks_texts floor l.object (start_of l k) l.marks x.chain x.told now ns (extends_same ns) x.marks)

-- all that is used is not above the mark
pub record Within (ns : List Name) (s : Used) (p : Mark) : Type 0 where
  pub value : length s.bytes ≤ p.value
  pub names : length ns ≤ p.names
  pub text : length (joined ns) ≤ p.text
  pub entries : length s.entries ≤ p.entries
  pub undo : length s.undos ≤ p.undo

-- so in all containers, with a child open in the innermost or without one
pub levels_falling : (floor : ℕ) (top : Option Tree) (u : Bool) (ls : List Level) (ks : List Container) (ns : List Name) (s : Used)
    (child : Bool) (now : Mark) → Within ns s now → FormedLevels ls
    → Chained ns top ls → Levels floor top u ls ks ns s → AllFalling ks s.chains (cond child (one_more ks s.elements) s.elements) now
unfolding one_more
levels_falling floor top u [] [] ns s child now w f c x = rw x.chains_are tt
levels_falling floor top u [] (k ∷ ks) ns s child now w f c x = absurd x
levels_falling floor top u (l ∷ ls) [] ns s child now w f c x = absurd x
levels_falling floor top u (l ∷ ls) (k ∷ ks) ns s child now w f c x =
    let g = extends_longer c.0.extends in
    let own =
    noted_count floor top u ls ks l.before (own_names l) x.outer l.own (length x.outer.bytes) (with_extends l.before l.own)
    (with_held l.before l.own) f.1 c.1 x.under in
    let b = ap length x.bytes_are ∙ length-append x.outer.bytes x.body in
    let a = ap length x.entries_are ∙ length-append (noted l ks x.outer) x.seg in
    let d = ap length x.undos_are ∙ length-append (logged_by l ks x.outer) x.own in
    let m = logged_longer (own_names l) ks l.own x.outer.entries x.outer.undos in
    let within : Within l.before x.outer now =
    record {
      value = omega (arith, b, w.value);
      names = omega (arith, g.0, w.names);
      text = omega (arith, g.1, w.text);
      entries = omega (arith, a, own, w.entries);
      undo = omega (arith, d, m, w.undo);
    } in
    let later = levels_falling floor top u ls ks l.before x.outer true now within f.2 c.1 x.under in
    rw (x.chains_are, x.elements_are) (go child a b d later)
  where
    one : (n : ℕ) → length s.entries ≡ length (noted l ks x.outer) + length x.seg
        → length s.bytes ≡ length x.outer.bytes + length x.body
        → length s.undos ≡ length (logged_by l ks x.outer) + length x.own → x.count ≤ n
        → Falling k.object (mark_at_start k) x.chain (with_count now n)
    one n a b d h =
        let o = x.opened in
        let e = extends_longer (with_extends l.before l.own) in
        marks_falling floor l.object l k (omega (arith, o.names, e.0)) (omega (arith, o.text, e.1)) k.object l.marks x.chain x.told
        (stand_of ns x.seg x.body x.own x.count) (with_count now n) x.grows
        (record {
          value = omega (arith, o.value, b, w.value);
          names = w.names;
          text = w.text;
          entries = omega (arith, o.entries, a, w.entries);
          undo = omega (arith, o.undo, d, w.undo);
          count = h;
        }) x.marks

    more : (t : Bool) → x.count ≤ cond t x.count (x.count + 1)
    more true = omega arith
    more false = omega arith

    go : (t : Bool) → length s.entries ≡ length (noted l ks x.outer) + length x.seg
        → length s.bytes ≡ length x.outer.bytes + length x.body
        → length s.undos ≡ length (logged_by l ks x.outer) + length x.own → AllFalling ks x.outer.chains (one_more ks x.outer.elements) now
        → AllFalling (k ∷ ks) (x.chain ∷ x.outer.chains)
        (cond t (one_more (k ∷ ks) (x.count ∷ one_more ks x.outer.elements)) (x.count ∷ one_more ks x.outer.elements)) now
    go true a b d later =
        (omega (arith, x.few, x.marks_are), x.marks_are, one (cond k.object x.count (x.count + 1)) a b d (more k.object), later)
    go false a b d later = (omega (arith, x.few, x.marks_are), x.marks_are, one x.count a b d (omega arith), later)

-- no starting mark falls or exceeds the used counts
pub levels_rising : (floor : ℕ) (top : Option Tree) (u : Bool) (ls : List Level) (ks : List Container) (ns : List Name) (s : Used)
    (value names text entries undo : ℕ) → length s.bytes ≤ value → length ns ≤ names
    → length (joined ns) ≤ text → length s.entries ≤ entries → length s.undos ≤ undo → FormedLevels ls → Chained ns top ls
    → Levels floor top u ls ks ns s → Rising ks value names text entries undo
levels_rising floor top u [] [] ns s value names text entries undo v n t e w f c x = tt
levels_rising floor top u [] (k ∷ ks) ns s value names text entries undo v n t e w f c x = absurd x
levels_rising floor top u (l ∷ ls) [] ns s value names text entries undo v n t e w f c x = absurd x
levels_rising floor top u (l ∷ ls) (k ∷ ks) ns s value names text entries undo v n t e w f c x =
    let o = x.opened in
    let g = c.0.extends in
    let own = noted_count floor top u ls ks l.before (own_names l) x.outer l.own (length x.outer.bytes) (with_extends l.before l.own) (with_held l.before l.own) f.1 c.1 x.under in
    let a = ap length x.entries_are ∙ length-append (noted l ks x.outer) x.seg in
    let gl = ap length g.grown ∙ length-append l.before g.more in
    let gt = ap (λ z. length (joined z)) g.grown ∙ (ap length (joined_append l.before g.more) ∙ length-append (joined l.before) (joined g.more)) in (
      omega (arith, o.value, ap length x.bytes_are, length-append x.outer.bytes x.body),
      omega (arith, o.names),
      omega (arith, o.text),
      omega (arith, o.entries),
      omega (arith, o.undo, ap length x.undos_are, length-append (logged_by l ks x.outer) x.own),
      levels_rising floor top u ls ks l.before x.outer k.value k.names k.text k.entries k.undo (omega (arith, o.value))
          (omega (arith, o.names)) (omega (arith, o.text))
          (omega (arith, o.entries)) (omega (arith, o.undo, logged_longer (own_names l) ks l.own x.outer.entries x.outer.undos)) f.2
          c.1 x.under,
    )

-- a record that was taken counts
not_unrecorded : (k p : Container) → p.undo + length (record_of p.marks k.parent) ≤ k.undo → unrecorded k p ≡ false
unfolding record_of
not_unrecorded k p h = go k.parent p.marks h
  where
    go : (e : Optional Entry) (n : ℕ) → p.undo + length (record_of n e) ≤ k.undo → ((replacing e && ltb 0 n) && eqb k.undo p.undo) ≡ false
    go None n h = refl
    go (Some e) zero h = refl
    go (Some e) (suc n) h =
        let a : ltb 0 (suc n) ≡ true = lt-ltb 0 (suc n) (omega arith) in
        rw (a, ne_eqb k.undo p.undo (λ e. omega (arith, e)))

-- the parent's entries are well placed, and the innermost's own is among them
pub levels_parent : (floor : ℕ) (top : Option Tree) (u : Bool) (ls : List Level) (m : Machine) (ks : List Container) (ts : List Tallied)
    → FormedLevels ls → Chained m.names top ls
    → Levels floor top u ls ks m.names (used_by m ts) → ParentPlaced m ks
unfolding note link_of one_more logged
levels_parent floor top u [] m [] ts f c x = tt
levels_parent floor top u [] m (k ∷ ks) ts f c x = absurd x
levels_parent floor top u (l ∷ ls) m [] ts f c x = absurd x
levels_parent floor top u (l ∷ []) m (k ∷ []) ts f c x = tt
levels_parent floor top u (l ∷ []) m (k ∷ (p ∷ ks)) ts f c x = absurd x.under
levels_parent floor top u (l ∷ (q ∷ ls)) m (k ∷ []) ts f c x = absurd x.under
levels_parent floor top u (l ∷ (q ∷ ls)) m (k ∷ (p ∷ ks)) ts f c x =
    let ms = own_names l in
    let y = x.under in
    let base = noted q ks y.outer in
    let N = note_in ms l.own (length y.body) y.seg in
    let fr = front_entries y in
    let ow = own_entries y in
    let oz = own_size y in
    let a : noted l (p ∷ ks) x.outer ≡ base ++ N = λ i. fr i ++ note_in ms l.own (oz i) (ow i) in
    let b : m.entries ≡ base ++ (N ++ x.seg) = x.entries_are ∙ (ap (λ z. z ++ x.seg) a ∙ append_assoc base N x.seg) in
    let v : length N ≡ k.entries - p.entries = omega (arith, x.opened.entries, ap length a, length-append base N, y.opened.entries) in
    let es : take (k.entries - p.entries) (drop p.entries m.entries) ≡ N =
    ap (λ z. take (k.entries - p.entries) (drop p.entries z)) b
    ∙ (ap (take (k.entries - p.entries)) (drop_at base (N ++ x.seg) p.entries (sym y.opened.entries)) ∙ take_at N x.seg (k.entries - p.entries) v) in
    let size : k.value - p.value ≡ length y.body = ap (λ z. z - p.value) x.opened.value ∙ oz in
    let kp : k.parent ≡ link_in ms l.own y.seg = x.opened.parent ∙ ap (link_in ms l.own) ow in
    let ob = y.opened.object in
    let more = with_extends l.before l.own in
    let few : length l.before ≤ length ms = omega (arith, ap length more.grown, length-append l.before more.more) in
    let few2 : length ms ≤ length m.names = omega (arith, ap length x.grows.grown, length-append ms x.grows.more) in
    let w : first_of 0 (rest_of m.elements) ≡ cond q.object y.count (y.count + 1) =
    (λ i. first_of 0 (rest_of (x.elements_are i))) ∙ (λ i. cond (ob i) (first_of 0 (y.elements_are i)) (first_of 0 (y.elements_are i) + 1)) in
    let all = go q.object f.1 few few2 y.layer in
    let r = record_of p.marks (link_in ms l.own (drop p.entries x.outer.entries)) in
    let taken : p.undo + length (record_of p.marks k.parent) ≤ k.undo =
    (let a = ap length y.undos_are ∙ length-append (logged_by q ks y.outer) y.own in
    let b = ap (λ z. length (record_of p.marks z)) x.opened.parent in
    omega (arith, a, b, x.opened.undo, length-append x.outer.undos r, y.opened.undo)) in
    (rw (es, size, ob) all.0, rw (es, size, ob, kp, w) all.1, not_unrecorded k p taken)
  where
    go : (object : Bool) → Named object l.own → length l.before ≤ length (own_names l) → length (own_names l) ≤ length m.names
        → let y = x.under in let N = note_in (own_names l) l.own (length y.body) y.seg in Layer floor l.before object q.items y.seg y.count y.body
        → ((object && misplaced true (length m.names) (length y.body) N) ≡ false)
        × (orphaned (link_in (own_names l) l.own y.seg) object (cond object y.count (y.count + 1)) (length y.body) N ≡ false)
    go false n few few2 z = let y = x.under in (refl, list_owned (own_names l) l.own (length y.body) (length y.body) (y.count + 1) y.seg n (omega arith))
    go true n few few2 z =
        let y = x.under in
        let ms = own_names l in
        let size = length y.body in
        let pl : (e : Entry) → Mem e y.seg → Placed (length ms) size e = λ e i. placed_grows few (omega arith) (layer_placed c.1.0.held z e i) in
        let np = note_placed ms l.own size y.seg (with_held l.before l.own) pl in
        (all_placed (length m.names) size (note_in ms l.own size y.seg) (λ e i. placed_grows few2 (omega arith) (np e i)), note_owned ms l.own size size y.count y.seg n pl)

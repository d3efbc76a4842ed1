-- `step` over a record and its storage does what the machine does: a state that represents a machine of a run has the same
-- numbers (never 1), and each call that is carried out leaves one that represents the machine after it.
use mathlib.Core.Path.{◌≡◌, refl, sym, ◌∙◌, ap}
use mathlib.Core.Bool.{Bool, true, false, cond, not, ◌&&◌, ◌||◌, and-eq-true_iff, true≢false}
use mathlib.Core.List.{List, [], ◌∷◌, ◌++◌, append_assoc, append-nil, head-eq_of_cons-eq, tail-eq_of_cons-eq}
use mathlib.Core.Option.{Option, none, some}
use Prim.Native.Nat.{ℕ, zero, suc, ◌+◌, ◌-◌, ◌*◌, ◌^◌, ◌≤◌, ◌<◌}
use native.Mathlib.Nat.{add-zero, zero-add}
use native.Mathlib.Omega.{arith}
use lib.Dec.{eqb, leb, ltb}
use lib.ListN.{drop, get_or, length, length-append, length-drop, length-set, set, take, take-append-drop}
use lib.Seq.{length-take-le, take-take}
use borrow.Author.Tests.{leb-true, leb-false, le-leb, lt-ltb, le-ltb, ltb-true, ltb-false, ne_eqb, not-false}
use Rattle.std.specs.Prelude.{Option as Optional, Some, None}
use Rattle.encoding.specs.Rows.{Row, row, first, test_of}
use Rattle.encoding.specs.Slices.{counted, fits, write}
use Rattle.encoding.proofs.SliceLaws.{length_write}
use Rattle.value.specs.Scalar.{scalar_bytes}
use Rattle.metadata.specs.declared.MetadataBuilder.{MetadataBuilder}
use Rattle.metadata.specs.Names.{Name, place, field_names, text_size}
use Rattle.metadata.specs.Bytes.{dictionary, dictionary_names, joined, size_of}
use Rattle.metadata.specs.Calls.{has_room, added}
use Rattle.metadata.proofs.BytesLaws.{intact_parts, dictionary_size, dictionary_read, size_least}
use Rattle.metadata.proofs.DictionaryLaws.{Kept, place_low, place_added, kept_fresh, kept_added, kept_back, room}
use Rattle.container.specs.declared.Entry.{Entry}
use Rattle.container.specs.Entries.{entries_of, entry_at, ids_of, misplaced, offsets_of, put_entries, room_for, seek, set_entry}
use Rattle.container.proofs.EntryLaws.{length_set_entry, length_put, entry_of, seeks, fronted_end, length_fronted}
use Rattle.container.specs.Undo.{replay}
use Rattle.container.proofs.UndoLaws.{length_replay}
use Rattle.container.specs.Close.{fronted}
use Rattle.container.specs.Layout.{list_header, object_header}
use Rattle.container.specs.Sort.{sort}
use Rattle.measure.specs.Measure.{starts_in, whole_values}
use Rattle.semantics.specs.declared.Container.{Container}
use Rattle.semantics.specs.declared.Counts.{Counts}
use Rattle.semantics.specs.declared.Mark.{Mark}
use Rattle.semantics.specs.declared.View.{View}
use Rattle.semantics.specs.Record.{Storage, State, Scalars, Call, register, append, open_in, close, roll_back, uniqueness, set_mark, return_to, finish, scalar_of, table_size, good_floor, no_container, no_mark, countable, chained, slot_of, mark_at, marks_of, mark_at_start, mark_now, marks_hold, view_at, is_open, in_object, in_list, inner_size, inner_data, inner_entries, parent_entries, names_held, unique_now}
use Rattle.semantics.specs.Damage.{over_used, unchained, bad_floor, fallen_ends, misplaced_inner, misplaced_parent, uncounted, orphaned, replacing, unrecorded, damaged_parent, misread_by, misread, damaged}
use Rattle.semantics.specs.Table.{scalar_rows, rows, number_of, misnamed, bad_name, id_of, held, live, live_under, names_full, entries_full, recorded, undo_full, too_long as too_long_for, header}
use Rattle.semantics.specs.Step.{dictionary_with, text_with, ends_with, id_for, entries_with, count_with, former_offset, parent_with, undo_with, undo_count_with, registered, appended, opened, new_container, entries_closed, closed, entries_back, count_back, undo_back, rolled_back, with_marks, put_mark, new_mark, mark_to, entries_returned, returned, finished, dictionary_of, elements_with, elements_back, elements_after, after}
use Rattle.semantics.specs.Step as step
use Rattle.semantics.specs.History.{with_name}
use Rattle.semantics.specs.Ledger.{full_for}
use Rattle.semantics.specs.Run.{Fresh, floor_of, lent_by, value_bytes}
use Rattle.semantics.proofs.Demand1.{none_at, append_at}
use Rattle.semantics.proofs.Machine.{Machine, put, find, note, note_in, link_of, link_in, undo, record_of, marks_at, logged, unwound, first_of, rest_of, one_more, less_of, one_less, header_of, close_at, roll_at, set_unique_at, mark_of, set_at, back_to, return_at, apply, unique_at, any_open, object_inner, misnamed_at, live_at, no_entry_free, no_undo_free, too_long, header_at, number_at, Rising, Falling, AllFalling, Counting, Texts, InnerPlaced, ParentPlaced, Orderly}
use Rattle.semantics.proofs.StorageLaws.{not_ltb, take_write, drop_write, seek_high, put_new, find_new, find_there, Used, used_count, used_from, used_between, used_cut, used_moved, used_added, used_kept, used_put, stack_of, top_of, next_of, length_stack, stack_top, stack_next, stack_rest, stack_first, stack_set, stack_renew, stack_chained, chains_of, stack_marks, length_put_mark, chains_set, length_marks, marks_to, falling_drop, falling_start}

-- ---- what is represented

-- by the counts and the storage
pub record Stored (c : Counts) (l : Storage) (m : Machine) : Type 0 where
  pub value : c.value ≡ length m.bytes
  pub bytes : take c.value l.value ≡ m.bytes
  pub within : c.value ≤ counted (length l.value)
  pub names : Kept c.dictionary l.text l.ends m.names
  pub entries : Used l.entries c.entries m.entries
  pub undo : Used l.undo c.undo m.undos
  pub unique : c.unique ≡ m.unique
  pub finished : c.finished ≡ m.finished
  pub floor : c.floor ≡ m.floor

-- by a state: the open containers, their elements and their marks too, the innermost first
pub record Represents (s : State) (m : Machine) : Type 0 where
  pub stored : Stored s.builder.counts s.storage m
  pub stack : stack_of no_container s.builder.containers s.builder.counts.depth ≡ m.conts
  pub elements : stack_of 0 s.builder.elements s.builder.counts.depth ≡ m.elements
  pub size : length s.builder.containers ≡ 64
  pub sizes : length s.builder.elements ≡ 64
  pub chains : chains_of s.marks m.conts ≡ m.chains
  pub table : length s.marks ≡ table_size

-- by what a call sees
pub record Sees (v : View) (l : Storage) (m : Machine) : Type 0 where
  pub stored : Stored v.counts l m
  pub depth : v.counts.depth ≡ length m.conts
  pub inner : v.inner ≡ top_of m.conts
  pub elements : v.elements ≡ first_of 0 m.elements
  pub parent : v.parent ≡ next_of m.conts
  pub siblings : v.siblings ≡ first_of 0 (rest_of m.elements)
  pub chain : v.chain ≡ true

pub represents_depth : {s : State} {m : Machine} → Represents s m → s.builder.counts.depth ≡ length m.conts
represents_depth {s} r = sym (length_stack no_container s.builder.containers s.builder.counts.depth) ∙ ap length r.stack

-- the mark that would be set
used_now : {c : Counts} {l : Storage} {m : Machine} → Stored c l m → {n : ℕ} {u : Bool} → mark_now c n u ≡ mark_of m n u
used_now t {n} {u} =
    let a = t.value in
    let b = t.names.holds in
    let c = used_count t.entries in
    let d = used_count t.undo in
    λ i. record { value = a i; names = sym b.count i; text = sym b.total i; entries = sym c i; undo = sym d i; count = n; unique = u }

holds_by : (ks : List Container) (ns ms : List ℕ) (c : Counts) (d : ℕ) (m : Machine) → stack_of no_container ks d ≡ m.conts → stack_of 0 ns d ≡ m.elements
    → chains_of ms m.conts ≡ m.chains → mark_now c 0 false ≡ mark_of m 0 false → Orderly m → marks_hold ks ns ms c d ≡ true
holds_by ks ns ms c d m p q r e o = stack_marks ks ns ms c d (rw (p, q, r, e) o.falling)

-- what a call sees of a state that represents m
pub sees : {s : State} {m : Machine} → Represents s m → Orderly m → Sees (view_at s) s.storage m
sees {s} {m} r o =
    let ks = s.builder.containers in
    let ns = s.builder.elements in
    let d = s.builder.counts.depth in
    record {
      stored = r.stored;
      depth = represents_depth r;
      inner = stack_top no_container ks d ∙ ap top_of r.stack;
      elements = stack_top 0 ns d ∙ ap (first_of 0) r.elements;
      parent = stack_next no_container ks d ∙ ap next_of r.stack;
      siblings = stack_next 0 ns d ∙ ap (λ (z : List ℕ). first_of 0 (rest_of z)) r.elements;
      chain = both_true _ _ rises (holds_by ks ns s.marks s.builder.counts d m r.stack r.elements r.chains (used_now r.stored) o);
    }
  where
    both_true : (t u : Bool) → t ≡ true → u ≡ true → (t && u) ≡ true
    both_true t u p q = rw (p, q)

    rises : chained s.builder.containers s.builder.elements s.builder.counts.depth ≡ true
    rises =
        let k = o.depth in
        let e = represents_depth r in
        stack_chained s.builder.containers s.builder.elements s.builder.counts.depth (length m.bytes) (length m.names)
        (length (joined m.names))
        (length m.entries) (length m.undos) 0 (rw r.stack o.rising) (rw (r.stack, r.elements) o.counting) (omega arith)

-- ---- what a call reads is the machine's

open_stack : (ks : List Container) → ltb 0 (length ks) ≡ any_open ks
open_stack [] = refl
open_stack (k ∷ ks) = lt-ltb 0 (suc (length ks)) (omega arith)

in_stack : (ks : List Container) → (any_open ks && (top_of ks).object) ≡ object_inner ks
in_stack [] = refl
in_stack (k ∷ ks) = refl

unique_stack : (m : Machine) (ks : List Container) → cond (any_open ks) (top_of ks).unique m.unique ≡ unique_at m ks
unique_stack m [] = refl
unique_stack m (k ∷ ks) = refl

marks_stack : (ks : List Container) → (top_of ks).marks ≡ marks_at ks
marks_stack [] = refl
marks_stack (k ∷ ks) = refl

live_stack : (m : Machine) (n : Name) (ks : List Container) → let es = drop (top_of ks).entries m.entries in
    (any_open ks && (ltb (place n m.names) (length m.names) && ltb (seek (place n m.names) es) (length es))) ≡ live_at m (some n) ks
live_stack m n [] = refl
live_stack m n (k ∷ ks) = refl

module _ {v : View} {l : Storage} {m : Machine} (s : Sees v l m) where
  used : Used l.entries v.counts.entries m.entries
  used = s.stored.entries

  count_law : v.counts.entries ≡ length m.entries
  count_law = sym (used_count used)

  undo_law : v.counts.undo ≡ length m.undos
  undo_law = sym (used_count s.stored.undo)

  marks_law : v.inner.marks ≡ marks_at m.conts
  marks_law = ap (λ k. k.marks) s.inner ∙ marks_stack m.conts

  names_law : names_held v l ≡ m.names
  names_law = s.stored.names.holds.names

  many_law : field_names v.counts.dictionary ≡ length m.names
  many_law = sym s.stored.names.holds.count

  text_law : text_size v.counts.dictionary ≡ length (joined m.names)
  text_law = sym s.stored.names.holds.total

  open_law : is_open v ≡ any_open m.conts
  open_law = ap (ltb 0) s.depth ∙ open_stack m.conts

  in_law : in_object v ≡ object_inner m.conts
  in_law = (λ i. open_law i && (s.inner i).object) ∙ in_stack m.conts

  unique_law : unique_now v ≡ unique_at m m.conts
  unique_law = (λ i. cond (open_law i) (s.inner i).unique (s.stored.unique i)) ∙ unique_stack m m.conts

  size_law : inner_size v ≡ length m.bytes - (top_of m.conts).value
  size_law i = s.stored.value i - (s.inner i).value

  entries_law : inner_entries v l ≡ drop (top_of m.conts).entries m.entries
  entries_law = (λ i. entries_of l.entries (s.inner i).entries (v.counts.entries - (s.inner i).entries)) ∙ used_from used (top_of m.conts).entries

  id_law : (n : Name) → id_of v l n ≡ place n m.names
  id_law n = ap (place n) names_law

  held_law : (n : Name) → held v l n ≡ ltb (place n m.names) (length m.names)
  held_law n i = ltb (id_law n i) (many_law i)

  live_law : (nm : Option Name) → live_under v l nm ≡ live_at m nm m.conts
  live_law none = refl
  live_law (some n) = (λ i. open_law i && (held_law n i && ltb (seek (id_law n i) (entries_law i)) (length (entries_law i)))) ∙ live_stack m n m.conts

  data_law : inner_data v l ≡ drop (top_of m.conts).value m.bytes
  data_law i = drop (s.inner i).value (s.stored.bytes i)

  header_law : header v l ≡ header_of m.floor m.names (top_of m.conts).object (first_of 0 m.elements) (drop (top_of m.conts).entries m.entries) (drop (top_of m.conts).value m.bytes)
  unfolding header header_of
  header_law =
      let size : inner_size v ≡ length (drop (top_of m.conts).value m.bytes) = size_law ∙ sym (length-drop (top_of m.conts).value m.bytes) in
      λ i. let sorted = sort (names_law i) (entries_law i) in
      cond (s.inner i).object (object_header (s.stored.floor i) (ids_of sorted) (offsets_of sorted) (size i)) (list_header (s.stored.floor i) (starts_in (s.elements i) 0 (data_law i)) (size i))

  -- the rows' tests
  misnamed_law : (nm : Option Name) → misnamed nm v ≡ misnamed_at nm m.conts
  misnamed_law none = in_law
  misnamed_law (some n) = ap not in_law

  full_law : (nm : Option Name) → names_full v l nm ≡ full_for (lent_by l) m.names nm
  full_law none = refl
  full_law (some n) =
      (λ i. not (held_law n i) && not (ltb (many_law i) (length l.ends) && fits (text_law i) (length n) (length l.text)))
      ∙ ap (λ t. t && not (ltb (length m.names) (length l.ends) && fits (length (joined m.names)) (length n) (length l.text))) (not_ltb (place n m.names) (length m.names))

  free_law : (nm : Option Name) → entries_full v l nm ≡ no_entry_free m (lent_by l) nm
  free_law nm i = (in_law i && not (live_law nm i)) && leb (room_for (length l.entries)) (count_law i)

  record_law : (nm : Option Name) → undo_full v l nm ≡ no_undo_free m (lent_by l) nm
  record_law nm i = (live_law nm i && ltb 0 (marks_law i)) && leb (room_for (length l.undo)) (undo_law i)

-- ---- number 1 does not come

neither : (t u : Bool) → t ≡ false → u ≡ false → (t || u) ≡ false
neither t u p q = rw (p, q)

-- the innermost's starting marks lie within the counts
record Low (k : Container) (a b c e w : ℕ) : Type 0 where
  value : k.value ≤ a
  names : k.names ≤ b
  text : k.text ≤ c
  entries : k.entries ≤ e
  undo : k.undo ≤ w

low_stack : (ks : List Container) (a b c e w : ℕ) → Rising ks a b c e w → Low (top_of ks) a b c e w
low_stack [] a b c e w r = record { value = omega arith; names = omega arith; text = omega arith; entries = omega arith; undo = omega arith }
low_stack (k ∷ ks) a b c e w r = record { value = r.0; names = r.1; text = r.2; entries = r.3; undo = r.4 }

module _ {v : View} {l : Storage} {m : Machine} (s : Sees v l m) (o : Orderly m) where
  low : Low (top_of m.conts) (length m.bytes) (length m.names) (length (joined m.names)) (length m.entries) (length m.undos)
  low = low_stack m.conts _ _ _ _ _ o.rising

  over_none : over_used v l ≡ false
  unfolding over_used
  over_none =
      let h = s.stored.names.holds in
      neither _ _ (le-ltb (counted (length l.value)) v.counts.value s.stored.within)
      (neither _ _ (neither _ _ (le-ltb (counted (length l.text)) (text_size v.counts.dictionary) h.in_text) (le-ltb (length l.ends) (field_names v.counts.dictionary) h.in_ends))
      (neither _ _ (le-ltb (room_for (length l.entries)) v.counts.entries (used s).room)
      (le-ltb (room_for (length l.undo)) v.counts.undo s.stored.undo.room)))

  chain_none : unchained v ≡ false
  unfolding unchained
  chain_none =
      let k = top_of m.conts in
      let w = low in
      let x1 = le-leb k.value (length m.bytes) w.value in
      let x2 = le-leb k.names (length m.names) w.names in
      let x3 = le-leb k.text (length (joined m.names)) w.text in
      let x4 = le-leb k.entries (length m.entries) w.entries in
      let x5 = le-leb k.undo (length m.undos) w.undo in
      let x6 = go m.conts o.counting in
      (λ i. not (s.chain i && (leb (s.inner i).value (s.stored.value i) && (leb (s.inner i).names (many_law s i) && (leb (s.inner i).text (text_law s i) && (leb (s.inner i).entries (count_law s i)
      && (leb (s.inner i).undo (undo_law s i) && countable (s.inner i) (s.elements i) (size_law s i))))))))
      ∙ (λ i. not (x1 i && (x2 i && (x3 i && (x4 i && (x5 i && x6 i))))))
    where
      go : (ks : List Container) → Counting ks m.elements (length m.bytes) 0 → countable (top_of ks) (first_of 0 m.elements) (length m.bytes - (top_of ks).value) ≡ true
      go [] c = rw c (le-leb 0 (length m.bytes - 0) (omega arith))
      go (k ∷ ks) c = rw add-zero at c.0

  floor_none : bad_floor v ≡ false
  unfolding bad_floor
  floor_none = ap not (ap good_floor s.stored.floor ∙ o.floor)

  ends_none : fallen_ends v l ≡ false
  unfolding fallen_ends
  ends_none = ap not (intact_parts v.counts.dictionary l.text l.ends s.stored.names.holds.sound).rise

  inner_none : misplaced_inner v l ≡ false
  unfolding misplaced_inner
  inner_none = (λ i. in_law s i && misplaced true (many_law s i) (size_law s i) (entries_law s i)) ∙ go m.conts o.inner
    where
      go : (ks : List Container) → InnerPlaced m ks
          → (object_inner ks && misplaced true (length m.names) (length m.bytes - (top_of ks).value) (drop (top_of ks).entries m.entries)) ≡ false
      go [] h = refl
      go (k ∷ ks) h = h.0

  whole_none : uncounted v l ≡ false
  unfolding uncounted
  whole_none = (λ i. (open_law s i && not (s.inner i).object) && not (whole_values (s.elements i) (data_law s i))) ∙ go m.conts o.inner
    where
      go : (ks : List Container) → InnerPlaced m ks → ((any_open ks && not (top_of ks).object) && not (whole_values (first_of 0 m.elements) (drop (top_of ks).value m.bytes))) ≡ false
      go [] h = refl
      go (k ∷ ks) h = h.2

  parent_entries_lem : parent_entries v l ≡ take ((top_of m.conts).entries - (next_of m.conts).entries) (drop (next_of m.conts).entries m.entries)
  parent_entries_lem =
      let w = low in
      let c = count_law s in
      (λ i. entries_of l.entries (s.parent i).entries ((s.inner i).entries - (s.parent i).entries)) ∙ used_between (used s) (next_of m.conts).entries (top_of m.conts).entries (omega arith)

  parent_none : damaged_parent v l ≡ false
  unfolding damaged_parent misplaced_parent
  parent_none =
      (λ i. ltb 1 (s.depth i) && (((s.parent i).object && misplaced true (many_law s i) ((s.inner i).value - (s.parent i).value) (parent_entries_lem i))
      || (orphaned (s.inner i).parent (s.parent i).object (s.siblings i) ((s.inner i).value - (s.parent i).value) (parent_entries_lem i)
      || unrecorded (s.inner i) (s.parent i))))
      ∙ go m.conts o.parent
    where
      go : (ks : List Container) → ParentPlaced m ks → let es = take ((top_of ks).entries - (next_of ks).entries) (drop (next_of ks).entries m.entries) in
          (ltb 1 (length ks) && (((next_of ks).object && misplaced true (length m.names) ((top_of ks).value - (next_of ks).value) es)
          || (orphaned (top_of ks).parent (next_of ks).object (first_of 0 (rest_of m.elements)) ((top_of ks).value - (next_of ks).value) es
          || unrecorded (top_of ks) (next_of ks)))) ≡ false
      go [] h = refl
      go (k ∷ []) h = refl
      go (k ∷ (p ∷ ks)) h = rw (lt-ltb 1 (suc (suc (length ks))) (omega arith)) (neither _ _ h.0 (neither _ _ h.1 h.2))

  named_none : (nm : Option Name) → misread_by v l nm ≡ false
  named_none none = refl
  named_none (some n) = neither _ _ ends_none inner_none

  misread_none : (c : Call) → misread v l c ≡ false
  misread_none (register n) = ends_none
  misread_none (append nm x) = named_none nm
  misread_none (open_in nm k) = named_none nm
  misread_none close = neither _ _ ends_none (neither _ _ inner_none whole_none)
  misread_none roll_back = parent_none
  misread_none (uniqueness u) = refl
  misread_none set_mark = refl
  misread_none (return_to j) = inner_none
  misread_none (finish out) = ends_none

  damaged_none : (c : Call) → damaged v l (misread v l c) ≡ false
  damaged_none c = neither _ _ over_none (neither _ _ chain_none (neither _ _ floor_none (misread_none c)))

  -- ---- the numbers

  sees_number : (c : Call) → number_of v l c ≡ number_at m (lent_by l) c
  unfolding number_of number_at first
  sees_number (register n) = λ i.
      first (row 1 (damaged_none (register n) i) ∷ (row 2 (s.stored.finished i) ∷ (row 9 (bad_name (some n)) ∷ (row 12 (full_law s (some n) i) ∷ []))))
  sees_number (append nm x) = λ i.
      first (row 1 (damaged_none (append nm x) i)
      ∷ (row 2 (s.stored.finished i)
      ∷ (row 5 (misnamed_law s nm i)
      ∷ (row 6 (not (open_law s i) && ltb 0 (s.stored.value i))
      ∷ (scalar_rows x
      ++ (row 9 (bad_name nm)
      ∷ (row 10 (unique_law s i && live_law s nm i)
      ∷ (row 12 (full_law s nm i)
      ∷ (row 13 (free_law s nm i)
      ∷ (row 23 (record_law s nm i) ∷ (row 14 (not (fits (s.stored.value i) (length (scalar_bytes (scalar_of x))) (length l.value))) ∷ [])))))))))))
  sees_number (open_in nm k) = λ i.
      first (row 1 (damaged_none (open_in nm k) i)
      ∷ (row 2 (s.stored.finished i)
      ∷ (row 5 (misnamed_law s nm i)
      ∷ (row 6 (not (open_law s i) && ltb 0 (s.stored.value i))
      ∷ (row 9 (bad_name nm)
      ∷ (row 10 (unique_law s i && live_law s nm i)
      ∷ (row 11 (leb 64 (s.depth i)) ∷ (row 12 (full_law s nm i) ∷ (row 13 (free_law s nm i) ∷ (row 23 (record_law s nm i) ∷ []))))))))))
  sees_number close =
      (λ i. first (row 1 (damaged_none close i)
      ∷ (row 2 (s.stored.finished i) ∷ (row 3 (not (open_law s i)) ∷ (row 14 (not (fits (s.stored.value i) (length (header_law s i)) (length l.value))) ∷ [])))))
      ∙ go m.conts
    where
      rest : Bool → Bool → List Row
      rest t u = row 2 m.finished ∷ (row 3 (not t) ∷ (row 14 u ∷ []))

      go : (ks : List Container) → let es = drop (top_of ks).entries m.entries in
          first (rest (any_open ks) (too_long m (lent_by l) (length (header_of m.floor m.names (top_of ks).object (first_of 0 m.elements) es (drop (top_of ks).value m.bytes)))))
          ≡ first (rest (any_open ks) (too_long m (lent_by l) (length (header_at m ks))))
      go [] = refl
      go (k ∷ ks) = refl
  sees_number roll_back = λ i. first (row 1 (damaged_none roll_back i) ∷ (row 2 (s.stored.finished i) ∷ (row 3 (not (open_law s i)) ∷ [])))
  sees_number (uniqueness u) = λ i. first (row 1 (damaged_none (uniqueness u) i) ∷ (row 2 (s.stored.finished i) ∷ (row 3 (not (in_law s i)) ∷ [])))
  sees_number set_mark =
      λ i. first (row 1 (damaged_none set_mark i) ∷ (row 2 (s.stored.finished i) ∷ (row 22 (not (open_law s i) || leb 16 (marks_law s i)) ∷ [])))
  sees_number (return_to j) = λ i.
      first (row 1 (damaged_none (return_to j) i)
      ∷ (row 2 (s.stored.finished i) ∷ (row 22 (not (open_law s i) || (eqb j 0 || ltb (marks_law s i) j)) ∷ [])))
  sees_number (finish out) = λ i.
      first (row 1 (damaged_none (finish out) i)
      ∷ (row 2 (s.stored.finished i)
      ∷ (row 4 (open_law s i)
      ∷ (row 15 (eqb (s.stored.value i) 0) ∷ (row 16 (not (leb (size_of (s.stored.floor i) (many_law s i) (text_law s i)) (counted (length out)))) ∷ [])))))

-- the numbers are the machine's, so that number 1 never comes
pub represents_number : {s : State} {m : Machine} → Represents s m → Orderly m → (c : Call)
    → number_of (view_at s) s.storage c ≡ number_at m (lent_by s.storage) c
represents_number r o c = sees_number (sees r o) o c

-- ---- a name given

-- the dictionary then, and what the lent lists are
record Named (d : MetadataBuilder) (text ends : List ℕ) (l : Storage) (ns : List Name) : Type 0 where
  kept : Kept d text ends ns
  text_size_lem : length text ≡ length l.text
  ends_size : length ends ≡ length l.ends

-- a name that may be new has its place where it is looked for
place_with : (n : Name) (ns : List Name) → place n (with_name ns (some n)) ≡ place n ns
unfolding with_name
place_with n ns = go (ltb (place n ns) (length ns)) refl
  where
    go : (t : Bool) → ltb (place n ns) (length ns) ≡ t → place n (cond t ns (ns ++ (n ∷ []))) ≡ place n ns
    go true e = refl
    go false e = let q : place n ns ≡ length ns = omega (arith, ltb-false (place n ns) (length ns) e, place_low n ns) in place_added n ns q ∙ sym q

module _ {v : View} {l : Storage} {m : Machine} (s : Sees v l m) where
  names_with : (nm : Option Name) → names_full v l nm ≡ false → Named (dictionary_with v l nm) (text_with v l nm) (ends_with v l nm) l (with_name m.names nm)
  unfolding with_name
  names_with none h = record { kept = s.stored.names; text_size_lem = refl; ends_size = refl }
  names_with (some n) h = rw (held_law s n) (go (ltb (place n ns) (length ns)) refl (rw (held_law s n) at h))
    where
      d : MetadataBuilder
      d = v.counts.dictionary

      ns : List Name
      ns = m.names

      go : (t : Bool) → ltb (place n ns) (length ns) ≡ t → (not t && not (has_room d l.text l.ends n)) ≡ false
          → Named (cond t d (added d n)) (cond t l.text (write (text_size d) n l.text)) (cond t l.ends (set l.ends (field_names d) (text_size d + length n))) l
          (cond t ns (ns ++ (n ∷ [])))
      go true e h = record { kept = s.stored.names; text_size_lem = refl; ends_size = refl }
      go false e h =
          let r = not-false (has_room d l.text l.ends n) h in
          let b = room d l.text l.ends n r in
          let q : place n ns ≡ length ns = omega (arith, ltb-false (place n ns) (length ns) e, place_low n ns) in
          record {
            kept = kept_added n s.stored.names q r;
            text_size_lem = (let c = b.in_text in length_write (text_size d) n l.text (omega arith));
            ends_size = length-set l.ends (field_names d) (text_size d + length n);
          }

-- ---- the next value's entry

-- the id in it, by the machine's names
abbrev id_at : Machine → Option Name → ℕ
id_at m none = 0
id_at m (some n) = place n m.names

used_by_lem : {l l' : List ℕ} {n n' : ℕ} {es : List Entry} → l' ≡ l → n' ≡ n → Used l n es → Used l' n' es
used_by_lem p q u = rw (p, q) u

-- what `entries_with` and `parent_with` leave, of the parts that they read
abbrev entries_for : List ℕ → ℕ → Bool → Bool → ℕ → ℕ → ℕ → List Entry → List ℕ
entries_for l n any live id base o es = cond (any && not live) (set_entry l n (record { id = id; offset = o })) (cond live (set l (2 * (base + seek id es) + 1) o) l)

abbrev parent_for : List ℕ → Bool → ℕ → ℕ → List Entry → Optional Entry
parent_for l live id base es = cond live (Some (record { id = id; offset = (entry_at l (base + seek id es)).offset })) None

-- in an object a name is live exactly where its id is found
module _ (m : Machine) (k : Container) (ks : List Container) (n : Name) (p : InnerPlaced m (k ∷ ks)) (object : k.object ≡ true) where
  live_found : live_at m (some n) (k ∷ ks) ≡ true → seek (place n m.names) (drop k.entries m.entries) < length (drop k.entries m.entries)
  live_found e = ltb-true _ _ ((and-eq-true_iff (ltb (place n m.names) (length m.names)) _).0 e).1

  not_found : live_at m (some n) (k ∷ ks) ≡ false → seek (place n m.names) (drop k.entries m.entries) ≡ length (drop k.entries m.entries)
  not_found = go (ltb (place n ns) (length ns)) refl
    where
      ns : List Name
      ns = m.names

      es : List Entry
      es = drop k.entries m.entries

      go : (t : Bool) → ltb (place n ns) (length ns) ≡ t → (t && ltb (seek (place n ns) es) (length es)) ≡ false → seek (place n ns) es ≡ length es
      go true q e = let b = (seeks (place n ns) es).bound in omega (arith, ltb-false (seek (place n ns) es) (length es) e)
      go false q e =
          let a : place n ns ≡ length ns = omega (arith, ltb-false (place n ns) (length ns) q, place_low n ns) in
          rw a (seek_high (length ns) (length m.bytes - k.value) es (rw object at p.0))

module _ {l : List ℕ} {c : ℕ} (m : Machine) (u : Used l c m.entries) where
  -- the entries with one more or one moved
  note_law : (nm : Option Name) (ks : List Container) → InnerPlaced m ks → (top_of ks).entries ≤ c → misnamed_at nm ks ≡ false
      → ((object_inner ks && not (live_at m nm ks)) && leb (room_for (length l)) c) ≡ false → let es = drop (top_of ks).entries m.entries in
      Used (entries_for l c (object_inner ks) (live_at m nm ks) (id_at m nm) (top_of ks).entries (length m.bytes - (top_of ks).value) es) (cond (object_inner ks && not (live_at m nm ks)) (c + 1) c)
      (note (with_name m.names nm) ks nm (length m.bytes) m.entries)
  unfolding note note_in
  note_law none [] p w h f = u
  note_law (some n) [] p w h f = u
  note_law none (k ∷ ks) p w h f = rw (h, take-append-drop) u
  note_law (some n) (k ∷ ks) p w h f = rw (place_with, not-false k.object h) (go (live_at m (some n) (k ∷ ks)) refl (rw (not-false k.object h) at f))
    where
      es : List Entry
      es = drop k.entries m.entries

      i : ℕ
      i = place n m.names

      o : ℕ
      o = length m.bytes - k.value

      go : (t : Bool) → live_at m (some n) (k ∷ ks) ≡ t → (not t && leb (room_for (length l)) c) ≡ false
          → Used (entries_for l c true t i k.entries o es) (cond (not t) (c + 1) c) (take k.entries m.entries ++ put i o es)
      go true e f = used_moved u i o k.entries w (live_found m k ks n p (not-false _ h) e)
      go false e f =
          rw (put_new i o es (not_found m k ks n p (not-false _ h) e), ← append_assoc, take-append-drop) (used_added u (record { id = i; offset = o }) (leb-false (room_for (length l)) c f))

  -- how it came about
  link_law : (nm : Option Name) (ks : List Container) → InnerPlaced m ks → misnamed_at nm ks ≡ false
      → parent_for l (live_at m nm ks) (id_at m nm) (top_of ks).entries (drop (top_of ks).entries m.entries) ≡ link_of (with_name m.names nm) ks nm m.entries
  unfolding link_of link_in
  link_law none [] p h = refl
  link_law (some n) [] p h = refl
  link_law none (k ∷ ks) p h = refl
  link_law (some n) (k ∷ ks) p h = rw place_with (go (live_at m (some n) (k ∷ ks)) refl)
    where
      es : List Entry
      es = drop k.entries m.entries

      i : ℕ
      i = place n m.names

      go : (t : Bool) → live_at m (some n) (k ∷ ks) ≡ t → parent_for l t i k.entries es ≡ find i es
      go true e =
          let f = live_found m k ks n p (not-false _ h) e in
          let d : Entry = record { id = 0; offset = 0 } in
          let g : seek i es < c - k.entries = (let a = used_count u in omega (arith, length-drop k.entries m.entries)) in
          let q : get_or es (seek i es) d ≡ entry_at l (k.entries + seek i es) = ap (λ z. get_or z (seek i es) d) (sym (used_from u k.entries)) ∙ entry_of l k.entries (c - k.entries) (seek i es) d g in
          sym (find_there i es d f ∙ ap (λ z. Some (record { id = i; offset = z.offset })) q)
      go false e = sym (find_new i es (not_found m k ks n p (not-false _ h) e))

-- the lent list is as long as before
note_size : (l : List ℕ) (c : ℕ) (any live : Bool) (id base o : ℕ) (es : List Entry) → length (entries_for l c any live id base o es) ≡ length l
note_size l c true true id base o es = length-set l (2 * (base + seek id es) + 1) o
note_size l c true false id base o es = length_set_entry l c (record { id = id; offset = o })
note_size l c false true id base o es = length-set l (2 * (base + seek id es) + 1) o
note_size l c false false id base o es = refl

module _ {v : View} {l : Storage} {m : Machine} (s : Sees v l m) (o : Orderly m) (nm : Option Name) (named : misnamed nm v ≡ false) where
  fresh_id : id_for v l nm ≡ id_at m nm
  fresh_id = go nm
    where
      go : (nm : Option Name) → id_for v l nm ≡ id_at m nm
      go none = refl
      go (some n) = id_law s n

  named_at : misnamed_at nm m.conts ≡ false
  named_at = sym (misnamed_law s nm) ∙ named

  entries_with_lem : entries_full v l nm ≡ false → Used (entries_with v l nm) (count_with v l nm) (note (with_name m.names nm) m.conts nm (length m.bytes) m.entries)
  entries_with_lem f =
      let w = low s o in
      let c = count_law s in
      let g = note_law m (used s) nm m.conts o.inner (omega arith) named_at (rw c (sym (free_law s nm) ∙ f)) in
      used_by_lem (λ i. entries_for l.entries v.counts.entries (in_law s i) (live_law s nm i) (fresh_id i) (s.inner i).entries (size_law s i) (entries_law s i))
      (λ i. cond (in_law s i && not (live_law s nm i)) (v.counts.entries + 1) v.counts.entries) g

  entries_size : length (entries_with v l nm) ≡ length l.entries
  entries_size = note_size l.entries v.counts.entries (in_object v) (live_under v l nm) (id_for v l nm) v.inner.entries (inner_size v) (inner_entries v l)

  parent_with_lem : parent_with v l nm ≡ link_of (with_name m.names nm) m.conts nm m.entries
  parent_with_lem =
      (λ i. parent_for l.entries (live_law s nm i) (fresh_id i) (s.inner i).entries (entries_law s i)) ∙ link_law m (used s) nm m.conts o.inner named_at

-- ---- the undo record of a replacement

used_as : {l : List ℕ} {n : ℕ} {es fs : List Entry} → es ≡ fs → Used l n es → Used l n fs
used_as p u = rw (← p) u

log_law : {l : List ℕ} {n : ℕ} {us : List Entry} (u : Used l n us) (live : Bool) (marks id o : ℕ)
    → ((live && ltb 0 marks) && leb (room_for (length l)) n) ≡ false
    → Used (cond (live && ltb 0 marks) (set_entry l n (record { id = id; offset = o })) l) (cond (live && ltb 0 marks) (n + 1) n)
    (us ++ record_of marks (cond live (Some (record { id = id; offset = o })) None))
unfolding record_of
log_law {us = us} u false zero id o f = rw (append-nil us) u
log_law {us = us} u false (suc m) id o f = rw (append-nil us) u
log_law {us = us} u true zero id o f = rw (append-nil us) u
log_law {l} {n} {us} u true (suc m) id o f =
    let e : ltb 0 (suc m) ≡ true = lt-ltb 0 (suc m) (omega arith) in
    let g : leb (room_for (length l)) n ≡ false = rw e at f in
    rw e (used_added u (record { id = id; offset = o }) (leb-false (room_for (length l)) n g))

log_size : (l : List ℕ) (n : ℕ) (t : Bool) (e : Entry) → length (cond t (set_entry l n e) l) ≡ length l
log_size l n true e = length_set_entry l n e
log_size l n false e = refl

module _ {v : View} {l : Storage} {m : Machine} (s : Sees v l m) (o : Orderly m) (nm : Option Name) (named : misnamed nm v ≡ false) where
  undo_with_lem : undo_full v l nm ≡ false
      → Used (undo_with v l nm) (undo_count_with v l nm) (logged (with_name m.names nm) m.conts nm m.entries m.undos)
  unfolding logged
  undo_with_lem f =
      let p = parent_with_lem s o nm named in
      let q = marks_law s in
      used_as (λ i. m.undos ++ record_of (q i) (p i))
      (log_law s.stored.undo (live_under v l nm) v.inner.marks (id_for v l nm) (former_offset v l nm) f)

  undo_size : length (undo_with v l nm) ≡ length l.undo
  undo_size = log_size l.undo v.counts.undo (recorded v l nm) (record { id = id_for v l nm; offset = former_offset v l nm })

-- ---- what each call leaves

-- rows 5, 12, 13 and 23, where a value may enter under a name or none
record Admits (v : View) (l : Storage) (nm : Option Name) : Type 0 where
  named : misnamed nm v ≡ false
  full : names_full v l nm ≡ false
  free : entries_full v l nm ≡ false
  undos : undo_full v l nm ≡ false

module _ {v : View} {l : Storage} {m : Machine} (s : Sees v l m) where
  -- bytes behind the used ones
  fits_law : (n : ℕ) → too_long_for v l n ≡ false → v.counts.value + n ≤ counted (length l.value)
  fits_law n h = leb-true _ _ (not-false _ h)

  register_law : (n : Name) → names_full v l (some n) ≡ false → Stored (registered v l n).counts (registered v l n).storage (apply m (register n))
  unfolding registered apply
  register_law n h =
      let t = s.stored in
      let w = names_with s (some n) h in
      record {
        value = t.value;
        bytes = t.bytes;
        within = t.within;
        names = w.kept;
        entries = t.entries;
        undo = t.undo;
        unique = t.unique;
        finished = t.finished;
        floor = t.floor;
      }

  finish_law : (out : List ℕ) → Stored (finished v.counts) l (apply m (finish out))
  unfolding finished apply
  finish_law out =
      let t = s.stored in
      record {
        value = t.value;
        bytes = t.bytes;
        within = t.within;
        names = t.names;
        entries = t.entries;
        undo = t.undo;
        unique = t.unique;
        finished = refl;
        floor = t.floor;
      }

  module _ (o : Orderly m) where
    append_law : (nm : Option Name) (x : Scalars) → Admits v l nm → too_long_for v l (length (scalar_bytes (scalar_of x))) ≡ false
        → Stored (appended v l nm x).counts (appended v l nm x).storage (apply m (append nm x))
    unfolding appended apply
    append_law nm x a d =
        let t = s.stored in
        let w = names_with s nm a.full in
        let bs = scalar_bytes (scalar_of x) in
        let f = fits_law (length bs) d in
        record {
          value = ap (λ n. n + length bs) t.value ∙ sym (length-append m.bytes bs);
          bytes = take_write v.counts.value bs l.value (omega arith) ∙ ap (λ z. z ++ bs) t.bytes;
          within = rw (length_write v.counts.value bs l.value (omega arith)) f;
          names = w.kept;
          entries = entries_with_lem s o nm a.named a.free;
          undo = undo_with_lem s o nm a.named a.undos;
          unique = t.unique;
          finished = t.finished;
          floor = t.floor;
        }

    open_stored : (nm : Option Name) (object : Bool) → Admits v l nm → Stored (opened v l nm).counts (opened v l nm).storage (apply m (open_in nm object))
    unfolding opened apply
    open_stored nm object a =
        let t = s.stored in
        let w = names_with s nm a.full in
        record {
          value = t.value;
          bytes = t.bytes;
          within = t.within;
          names = w.kept;
          entries = entries_with_lem s o nm a.named a.free;
          undo = undo_with_lem s o nm a.named a.undos;
          unique = t.unique;
          finished = t.finished;
          floor = t.floor;
        }

    open_container : (nm : Option Name) (object : Bool) → Admits v l nm → new_container v l nm object ∷ m.conts ≡ (apply m (open_in nm object)).conts
    unfolding new_container apply
    open_container nm object a =
        let e = sym (used_count (entries_with_lem s o nm a.named a.free)) in
        let p = parent_with_lem s o nm a.named in
        let w = sym (used_count (undo_with_lem s o nm a.named a.undos)) in
        λ i. record {
          value = s.stored.value i;
          names = many_law s i;
          text = text_law s i;
          entries = e i;
          undo = w i;
          parent = p i;
          object = object;
          unique = unique_law s i;
          marks = 0;
        } ∷ m.conts

-- the bytes and the entries before a mark
before_mark : (k n : ℕ) (value bytes : List ℕ) → take n value ≡ bytes → k ≤ n → take k value ≡ take k bytes
before_mark k n value bytes e h = sym (take-take k n value h) ∙ ap (take k) e

closed_entries : {l : List ℕ} {n : ℕ} {es : List Entry} (t : Bool) (k : ℕ) (fs : List Entry) → Used l n es → k ≤ n → Used (cond t (put_entries k fs l) l) k (take k es)
closed_entries true k fs u h = used_kept u k fs h
closed_entries false k fs u h = used_cut u k h

-- what `entries_back` leaves, of the parts that it reads
abbrev back_for : List ℕ → Optional Entry → ℕ → List Entry → List ℕ
back_for l None base es = l
back_for l (Some e) base es = set l (2 * (base + seek e.id es) + 1) e.offset

back_for_lem : (v : View) (l : Storage) (p : Optional Entry) → entries_back v l p ≡ back_for l.entries p v.parent.entries (parent_entries v l)
back_for_lem v l None = refl
back_for_lem v l (Some e) = refl

-- the parent's entries without the child's own; j is the parent's mark, k the child's
back_law : {l : List ℕ} {n : ℕ} {es : List Entry} (u : Used l n es) (p : Optional Entry) (count size k : ℕ) (parent : Container) (js : List Container) → let j = parent.entries in
    j ≤ k → k ≤ n → orphaned p parent.object count size (take (k - j) (drop j es)) ≡ false
    → Used (back_for l p j (take (k - j) (drop j es))) (count_back parent.object k p) (undo (parent ∷ js) p (take k es))
unfolding undo
back_law {l = l} {es = es} u None count size k parent js g h f = go parent.object
  where
    go : (t : Bool) → Used l (cond t (k - 1) k) (cond t (take (length (take k es) - 1) (take k es)) (take k es))
    go true = let c = used_cut u k h in rw (used_count c) (used_cut c (k - 1) (omega arith))
    go false = used_cut u k h
back_law {es = es} u (Some e) count size k parent js g h f =
    let j = parent.entries in
    let c = used_cut u k h in
    let p : take (k - j) (drop j es) ≡ drop j (take k es) = sym (used_between u j k h) ∙ used_from c j in
    let x : ltb (seek e.id (take (k - j) (drop j es))) (length (take (k - j) (drop j es))) ≡ true = found parent.object _ (ltb size e.offset) f in
    rw p (used_moved c e.id e.offset j g (ltb-true _ _ (rw p at x)))
  where
    found : (object t u : Bool) → (not object || (not t || u)) ≡ false → t ≡ true
    found true true u h = refl
    found true false u h = absurd (true≢false h)
    found false t u h = absurd (true≢false h)

module _ {v : View} {l : Storage} {m : Machine} (s : Sees v l m) (o : Orderly m) where
  -- the marks of the innermost, as the view has them
  record Innermost (k : Container) : Type 0 where
    is : v.inner ≡ k
    value : v.inner.value ≤ v.counts.value
    names : v.inner.names ≤ field_names v.counts.dictionary
    entries : v.inner.entries ≤ v.counts.entries
    undo : v.inner.undo ≤ v.counts.undo

  innermost_law : Innermost (top_of m.conts)
  innermost_law =
      let w = low s o in
      let e = s.inner in
      let a = count_law s in
      let b = many_law s in
      let c = s.stored.value in
      let d = undo_law s in
      record {
        is = e;
        value = rw e (omega arith);
        names = rw e (omega arith);
        entries = rw e (omega arith);
        undo = rw e (omega arith);
      }

  close_law : (js : List Container) → m.conts ≡ js → any_open js ≡ true → too_long_for v l (length (header v l)) ≡ false → Stored (closed v l).counts (closed v l).storage (close_at m js)
  unfolding closed entries_closed
  close_law [] e h f = absurd (true≢false (sym h))
  close_law (k ∷ ks) e h f =
      let t = s.stored in
      let i : Innermost k = rw (ap top_of e) at innermost_law in
      let room = fits_law s (length (header v l)) f in
      let hl : header v l ≡ header_of m.floor m.names k.object (first_of 0 m.elements) (drop k.entries m.entries) (drop k.value m.bytes) = rw (ap top_of e) at (header_law s) in
      let b : take v.inner.value l.value ≡ take v.inner.value m.bytes = before_mark v.inner.value v.counts.value l.value m.bytes t.bytes i.value in
      let r : v.counts.value + length (header v l) ≤ length l.value = omega arith in
      let all : take (v.counts.value + length (header v l)) (fronted v.inner.value v.counts.value (header v l) l.value) ≡ (close_at m (k ∷ ks)).bytes =
      fronted_end v.inner.value v.counts.value (header v l) l.value i.value r ∙ (λ z. b z ++ (header v l ++ drop v.inner.value (t.bytes z)))
      ∙ (λ z. take (i.is z).value m.bytes ++ (hl z ++ drop (i.is z).value m.bytes)) in
      let n = length_fronted v.inner.value v.counts.value (header v l) l.value i.value r in
      record {
        value = sym (length-take-le (v.counts.value + length (header v l)) _ (rw n r)) ∙ ap length all;
        bytes = all;
        within = rw n room;
        names = t.names;
        entries = rw (← i.is) (closed_entries v.inner.object v.inner.entries _ (used s) i.entries);
        undo = rw (← i.is) (used_cut t.undo v.inner.undo i.undo);
        unique = t.unique;
        finished = t.finished;
        floor = t.floor;
      }

  roll_entries : (k : Container) (ks : List Container) → m.conts ≡ k ∷ ks → let below = ltb 1 v.counts.depth in
      Used (cond below (entries_back v l v.inner.parent) l.entries) (cond below (count_back v.parent.object v.inner.entries v.inner.parent) v.inner.entries) (undo ks k.parent (take k.entries m.entries))
  unfolding undo
  roll_entries k [] e =
      let i : Innermost k = rw (ap top_of e) at innermost_law in
      let below : ltb 1 v.counts.depth ≡ false = ap (ltb 1) (s.depth ∙ ap length e) in
      let h : k.entries ≤ v.counts.entries = rw i.is at i.entries in
      used_by_lem (λ z. cond (below z) (entries_back v l v.inner.parent) l.entries) (λ z. cond (below z) (count_back v.parent.object v.inner.entries v.inner.parent) (i.is z).entries) (used_cut (used s) k.entries h)
  roll_entries k (p ∷ ks) e =
      let i : Innermost k = rw (ap top_of e) at innermost_law in
      let h : k.entries ≤ v.counts.entries = rw i.is at i.entries in
      let below : ltb 1 v.counts.depth ≡ true = ap (ltb 1) (s.depth ∙ ap length e) ∙ lt-ltb 1 (suc (suc (length ks))) (omega arith) in
      let par : v.parent ≡ p = s.parent ∙ ap next_of e in
      let es : parent_entries v l ≡ take (k.entries - p.entries) (drop p.entries m.entries) =
      parent_entries_lem s o ∙ ap (λ z. take ((top_of z).entries - (next_of z).entries) (drop (next_of z).entries m.entries)) e in
      let rise : Rising (k ∷ (p ∷ ks)) (length m.bytes) (length m.names) (length (joined m.names)) (length m.entries) (length m.undos) =
      rw e at o.rising in
      let own : ParentPlaced m (k ∷ (p ∷ ks)) = rw e at o.parent in
      let back = back_for_lem v l v.inner.parent ∙ (λ z. back_for l.entries (i.is z).parent (par z).entries (es z)) in
      used_by_lem (λ z. cond (below z) (back z) l.entries) (λ z. cond (below z) (count_back (par z).object (i.is z).entries (i.is z).parent) (i.is z).entries)
      (back_law (used s) k.parent (first_of 0 (rest_of m.elements)) (k.value - p.value) k.entries p ks rise.5.3 h own.1)

  -- its own record is free again
  roll_count : (k : Container) (ks : List Container) → m.conts ≡ k ∷ ks
      → cond (ltb 1 v.counts.depth) (undo_back v.inner v.parent) v.inner.undo ≡ k.undo - length (record_of (marks_at ks) k.parent)
  unfolding record_of
  roll_count k [] e =
      let i : Innermost k = rw (ap top_of e) at innermost_law in
      let below : ltb 1 v.counts.depth ≡ false = ap (ltb 1) (s.depth ∙ ap length e) in
      (λ z. cond (below z) (undo_back v.inner v.parent) (i.is z).undo) ∙ omega arith
  roll_count k (p ∷ ks) e =
      let i : Innermost k = rw (ap top_of e) at innermost_law in
      let below : ltb 1 v.counts.depth ≡ true = ap (ltb 1) (s.depth ∙ ap length e) ∙ lt-ltb 1 (suc (suc (length ks))) (omega arith) in
      let par : v.parent ≡ p = s.parent ∙ ap next_of e in
      (λ z. cond (below z) (undo_back (i.is z) (par z)) (i.is z).undo) ∙ go k.parent p.marks
    where
      go : (x : Optional Entry) (n : ℕ) → cond (replacing x && ltb 0 n) (k.undo - 1) k.undo ≡ k.undo - length (record_of n x)
      go None zero = omega arith
      go None (suc n) = omega arith
      go (Some e) zero = omega arith
      go (Some e) (suc n) = let q : ltb 0 (suc n) ≡ true = lt-ltb 0 (suc n) (omega arith) in rw q (omega arith)

  roll_undos : (k : Container) (ks : List Container) → m.conts ≡ k ∷ ks
      → Used l.undo (cond (ltb 1 v.counts.depth) (undo_back v.inner v.parent) v.inner.undo)
      (take (k.undo - length (record_of (marks_at ks) k.parent)) m.undos)
  roll_undos k ks e =
      let i : Innermost k = rw (ap top_of e) at innermost_law in
      let h : k.undo ≤ v.counts.undo = rw i.is at i.undo in
      used_by_lem refl (roll_count k ks e) (used_cut s.stored.undo (k.undo - length (record_of (marks_at ks) k.parent)) (omega arith))

  roll_law : (js : List Container) → m.conts ≡ js → any_open js ≡ true → Stored (rolled_back v l).counts (rolled_back v l).storage (roll_at m js)
  unfolding rolled_back undo
  roll_law [] e h = absurd (true≢false (sym h))
  roll_law (k ∷ ks) e h =
      let t = s.stored in
      let i : Innermost k = rw (ap top_of e) at innermost_law in
      let x = ap (λ z. z.names) i.is in
      let y = ap (λ z. z.text) i.is in
      let a = i.value in
      let c = count_law s in
      let d = many_law s in
      let q = i.names in
      let b : take v.inner.value l.value ≡ take v.inner.value m.bytes = before_mark v.inner.value v.counts.value l.value m.bytes t.bytes a in
      let n : length (take v.inner.value l.value) ≡ v.inner.value = length-take-le v.inner.value l.value (omega arith) in
      let bs : take v.inner.value l.value ≡ take k.value m.bytes = b ∙ ap (λ z. take z.value m.bytes) i.is in
      let placed : InnerPlaced m (k ∷ ks) = rw e at o.inner in
      let whole : Kept v.counts.dictionary l.text l.ends (take k.names m.names ++ drop k.names m.names) = rw take-append-drop t.names in
      record {
        value = sym n ∙ ap length bs;
        bytes = bs;
        within = omega arith;
        names = rw (x, y) (kept_back (take k.names m.names) (drop k.names m.names) whole (length-take-le k.names m.names (omega arith)) (sym placed.1));
        entries = roll_entries k ks e;
        undo = roll_undos k ks e;
        unique = t.unique;
        finished = t.finished;
        floor = t.floor;
      }

-- ---- a return

take_parts : (k q : ℕ) (es : List Entry) → k ≤ q → take q es ≡ take k es ++ take (q - k) (drop k es)
take_parts zero q es h = let e : q - 0 ≡ q = omega arith in rw e
take_parts (suc k) zero es h = absurd (omega arith)
take_parts (suc k) (suc q) [] h = sym (none (suc q - suc k))
  where
    none : (n : ℕ) → ◌≡◌ {A = List Entry} (take n []) []
    none zero = refl
    none (suc n) = refl
take_parts (suc k) (suc q) (e ∷ es) h = let p : suc q - suc k ≡ q - k = omega arith in rw p (ap (λ z. e ∷ z) (take_parts k q es (omega arith)))

-- the entries cut, and in an object the records undone
back_entries : {l : List ℕ} {n : ℕ} {es : List Entry} (u : Used l n es) (t : Bool) (k q : ℕ) (rs : List Entry) → k ≤ q → q ≤ n
    → Used (cond t (put_entries k (replay rs (take (q - k) (drop k es))) l) l) q (take k es ++ unwound t rs (take (q - k) (drop k es)))
unfolding unwound
back_entries {es = es} u true k q rs g h =
    let fs = replay rs (take (q - k) (drop k es)) in
    let c = used_count u in
    let w = length-drop k es in
    let d : length (take (q - k) (drop k es)) ≡ q - k = length-take-le (q - k) (drop k es) (omega arith) in
    let e : k + length fs ≡ q = omega (arith, length_replay rs (take (q - k) (drop k es)), d) in
    used_by_lem refl (sym e) (used_put u k fs (omega arith))
back_entries {es = es} u false k q rs g h = used_as (take_parts k q es g) (used_cut u q h)

texts_drop : (i : ℕ) (ps : List Mark) (ns : List Name) → Texts ps ns → Texts (drop i ps) ns
texts_drop zero ps ns t = t
texts_drop (suc i) [] ns t = t
texts_drop (suc i) (p ∷ ps) ns t = texts_drop i ps ns t.1

module _ {v : View} {l : Storage} {m : Machine} (s : Sees v l m) (o : Orderly m) where
  return_law : (k : Container) (ks : List Container) (pss : List (List Mark)) (p : Mark) (ps : List Mark) (n : ℕ) → m.conts ≡ k ∷ ks
      → Falling k.object (mark_at_start k) (p ∷ ps) (mark_of m n false) → p.text ≡ length (joined (take p.names m.names))
      → Stored (returned v l p).counts (returned v l p).storage (back_to m k ks pss (p ∷ ps))
  unfolding returned entries_returned
  return_law k ks pss p ps n e f x =
      let t = s.stored in
      let i : v.inner ≡ k = s.inner ∙ ap top_of e in
      let low = falling_start k.object (mark_at_start k) ps p f.1 in
      let a : p.value ≤ v.counts.value = (let c = t.value in omega (arith, f.0.0)) in
      let b : p.entries ≤ v.counts.entries = (let c = count_law s in omega (arith, f.0.3)) in
      let d : p.undo ≤ v.counts.undo = (let c = undo_law s in omega (arith, f.0.4)) in
      let bs : take p.value l.value ≡ take p.value m.bytes = before_mark p.value v.counts.value l.value m.bytes t.bytes a in
      let n : length (take p.value l.value) ≡ p.value = (let w = t.within in length-take-le p.value l.value (omega arith)) in
      let whole : Kept v.counts.dictionary l.text l.ends (take p.names m.names ++ drop p.names m.names) =
      rw take-append-drop t.names in
      let rs : entries_of l.undo p.undo (v.counts.undo - p.undo) ≡ drop p.undo m.undos = used_from t.undo p.undo in
      let es : entries_of l.entries k.entries (p.entries - k.entries) ≡ take (p.entries - k.entries) (drop k.entries m.entries) =
      used_between (used s) k.entries p.entries b in
      let path = (λ z. let left = entries_of l.entries (i z).entries (p.entries - (i z).entries) in
      cond (i z).object (put_entries (i z).entries (replay (rs z) left) l.entries) l.entries)
      ∙ ap (λ y. cond k.object (put_entries k.entries (replay (drop p.undo m.undos) y) l.entries) l.entries) es in
      record {
        value = sym n ∙ ap length bs;
        bytes = bs;
        within = (let w = t.within in omega arith);
        names = kept_back (take p.names m.names) (drop p.names m.names) whole (length-take-le p.names m.names f.0.1) (sym x);
        entries = used_by_lem path refl (back_entries (used s) k.object k.entries p.entries (drop p.undo m.undos) low.3 b);
        undo = used_cut t.undo p.undo d;
        unique = t.unique;
        finished = t.finished;
        floor = t.floor;
      }

-- ---- the whole

put_size : (t : Bool) (k : ℕ) (fs : List Entry) (l : List ℕ) → length (cond t (put_entries k fs l) l) ≡ length l
put_size true k fs l = length_put k fs l
put_size false k fs l = refl

back_size : (t : Bool) (p : Optional Entry) (v : View) (l : Storage) → length (cond t (entries_back v l p) l.entries) ≡ length l.entries
back_size true None v l = refl
back_size true (Some e) v l = length-set l.entries (2 * (v.parent.entries + seek e.id (parent_entries v l)) + 1) e.offset
back_size false p v l = refl

-- a fresh builder represents the machine with nothing in it
pub represents_fresh : (s : State) → Fresh s
    → Represents s (record {
      bytes = [];
      names = [];
      entries = [];
      undos = [];
      conts = [];
      elements = [];
      chains = [];
      unique = s.builder.counts.unique;
      finished = false;
      floor = floor_of s;
    })
unfolding entries_of stack_of chains_of
represents_fresh s f =
    record {
      stored = record {
        value = f.value;
        bytes = rw f.value;
        within = rw f.value (omega arith);
        names = rw f.dictionary (kept_fresh s.storage.text s.storage.ends);
        entries = record { all = rw f.entries; room = rw f.entries (omega arith) };
        undo = record { all = rw f.undo; room = rw f.undo (omega arith) };
        unique = refl;
        finished = f.finished;
        floor = refl;
      };
      stack = rw f.depth;
      elements = rw f.depth;
      size = f.containers;
      sizes = f.elements;
      chains = refl;
      table = f.marks;
    }

module _ {s : State} {m : Machine} (r : Represents s m) (o : Orderly m) where
  abbrev view : View
  view = view_at s

  seen : Sees view s.storage m
  seen = sees r o

  -- row n's test does not hold
  clear : (c : Call) → number_of view s.storage c ≡ 0 → (n : ℕ) → test_of n (rows view s.storage c) ≡ false
  clear = none_at view s.storage

  append_admits : (nm : Option Name) (x : Scalars) → number_of view s.storage (append nm x) ≡ 0 → Admits view s.storage nm × (too_long_for view s.storage (length (scalar_bytes (scalar_of x))) ≡ false)
  append_admits nm x h =
      let k = append_at view s.storage nm x h in
      (record { named = k 5; full = k 12; free = k 13; undos = k 23 }, k 14)

  open_admits : (nm : Option Name) (object : Bool) → number_of view s.storage (open_in nm object) ≡ 0 → Admits view s.storage nm × (leb 64 s.builder.counts.depth ≡ false)
  open_admits nm object h =
      let k = clear (open_in nm object) h in
      (record { named = k 5; full = k 12; free = k 13; undos = k 23 }, k 11)

  some_open : not (is_open view) ≡ false → any_open m.conts ≡ true
  some_open h = sym (open_law seen) ∙ not-false _ h

  -- the innermost is open no more
  popped : (js : List Container) → m.conts ≡ js → any_open js ≡ true
      → (stack_of no_container s.builder.containers (s.builder.counts.depth - 1) ≡ (close_at m js).conts) × (stack_of no_container s.builder.containers (s.builder.counts.depth - 1) ≡ (roll_at m js).conts)
  popped [] e h = absurd (true≢false (sym h))
  popped (k ∷ js) e h = let q = sym (stack_rest no_container s.builder.containers s.builder.counts.depth) ∙ ap rest_of (r.stack ∙ e) in (q, q)

  -- and its marks with it
  popped_chains : (js : List Container) → m.conts ≡ js → any_open js ≡ true
      → (chains_of s.marks (close_at m js).conts ≡ (close_at m js).chains) × (chains_of s.marks (roll_at m js).conts ≡ (roll_at m js).chains)
  unfolding chains_of
  popped_chains [] e h = absurd (true≢false (sym h))
  popped_chains (k ∷ js) e h = let q = ap rest_of (sym (ap (chains_of s.marks) e) ∙ r.chains) in (q, q)

  -- or is another one
  renewed : (x k : Container) (js : List Container) → m.conts ≡ k ∷ js
      → stack_of no_container (set s.builder.containers (s.builder.counts.depth - 1) x) s.builder.counts.depth ≡ x ∷ js
  renewed x k js e =
      let d = s.builder.counts.depth in
      let a = represents_depth r ∙ ap length e in
      let b : length (k ∷ js) ≤ 64 = rw e at o.depth in
      let c = r.size in
      stack_renew no_container s.builder.containers d (d - 1) x (omega arith) (omega arith) ∙ ap (λ z. x ∷ z) (ap rest_of (r.stack ∙ e))

  inner_is : (k : Container) (js : List Container) → m.conts ≡ k ∷ js → view.inner ≡ k
  inner_is k js e = seen.inner ∙ ap top_of e

  -- of another uniqueness mark
  remarked : (u : Bool) (js : List Container) → m.conts ≡ js → object_inner js ≡ true
      → stack_of no_container (set s.builder.containers (s.builder.counts.depth - 1) (step.with_unique view.inner u)) s.builder.counts.depth
      ≡ set_unique_at u js
  remarked u [] e h = absurd (true≢false (sym h))
  remarked u (k ∷ js) e h = renewed (step.with_unique view.inner u) k js e ∙ ap (λ z. step.with_unique z u ∷ js) (inner_is k js e)

  remarked_chains : (u : Bool) (js : List Container) → m.conts ≡ js → chains_of s.marks (set_unique_at u js) ≡ m.chains
  unfolding chains_of step.with_unique
  remarked_chains u [] e = sym (ap (chains_of s.marks) e) ∙ r.chains
  remarked_chains u (k ∷ js) e = sym (ap (chains_of s.marks) e) ∙ r.chains

  -- ---- the elements

  elements_rest : stack_of 0 s.builder.elements (s.builder.counts.depth - 1) ≡ rest_of m.elements
  elements_rest = sym (stack_rest 0 s.builder.elements s.builder.counts.depth) ∙ ap rest_of r.elements

  renewed_elements : (n : ℕ) → 0 < s.builder.counts.depth
      → stack_of 0 (set s.builder.elements (s.builder.counts.depth - 1) n) s.builder.counts.depth ≡ n ∷ rest_of m.elements
  renewed_elements n h =
      let d = s.builder.counts.depth in
      let a = represents_depth r in
      let b = o.depth in
      let c = r.sizes in
      stack_renew 0 s.builder.elements d (d - 1) n (omega arith) (omega arith) ∙ ap (λ z. n ∷ rest_of z) r.elements

  closed_elements : (js : List Container) → any_open js ≡ true → stack_of 0 s.builder.elements (s.builder.counts.depth - 1) ≡ (close_at m js).elements
  closed_elements [] h = absurd (true≢false (sym h))
  closed_elements (k ∷ js) h = elements_rest

  -- with one more where a value enters a list
  elements_more : (js : List Container) → m.conts ≡ js → stack_of 0 (elements_with view s.builder.elements) s.builder.counts.depth ≡ one_more js m.elements
  unfolding stack_of one_more
  elements_more [] e = none (elements_with view s.builder.elements) ∙ (sym (none s.builder.elements) ∙ r.elements)
    where
      none : (xs : List ℕ) → stack_of 0 xs s.builder.counts.depth ≡ []
      none xs = rw (represents_depth r ∙ ap length e)
  elements_more (k ∷ js) e =
      let i : view.inner ≡ k = seen.inner ∙ ap top_of e in
      let any : is_open view ≡ true = open_law seen ∙ ap any_open e in
      (λ z. stack_of 0 (cond (any z && not (i z).object) (set ns (d - 1) (view.elements + 1)) ns) d) ∙ go k.object
    where
      ns : List ℕ
      ns = s.builder.elements

      d : ℕ
      d = s.builder.counts.depth

      one : 0 < d
      one = omega (arith, represents_depth r, ap length e)

      go : (t : Bool) → stack_of 0 (cond (not t) (set ns (d - 1) (view.elements + 1)) ns) d ≡ cond t (first_of 0 m.elements) (first_of 0 m.elements + 1) ∷ rest_of m.elements
      go true = stack_first 0 ns d one ∙ (λ z. first_of 0 (r.elements z) ∷ rest_of (r.elements z))
      go false = renewed_elements (view.elements + 1) one ∙ (λ z. (seen.elements z + 1) ∷ rest_of m.elements)

  -- with one less where a list's new child is rolled back
  elements_less : (js : List Container) → m.conts ≡ js → any_open js ≡ true
      → stack_of 0 (elements_after view no_mark roll_back s.builder.elements) (s.builder.counts.depth - 1) ≡ (roll_at m js).elements
  unfolding one_less
  elements_less [] e h = absurd (true≢false (sym h))
  elements_less (k ∷ []) e h =
      let below : ltb 1 s.builder.counts.depth ≡ false = ap (ltb 1) (represents_depth r ∙ ap length e) in
      rw below elements_rest
  elements_less (k ∷ (p ∷ js)) e h =
      let i : view.inner ≡ k = seen.inner ∙ ap top_of e in
      let below : ltb 1 d ≡ true = lt-ltb 1 d (omega (arith, two)) in
      (λ z. stack_of 0 (cond (below z) (elements_back view (i z).parent ns) ns) (d - 1)) ∙ back k.parent
    where
      ns : List ℕ
      ns = s.builder.elements

      d : ℕ
      d = s.builder.counts.depth

      two : 2 ≤ d
      two = omega (arith, represents_depth r, ap length e)

      within : d ≤ length ns
      within = omega (arith, represents_depth r, o.depth, r.sizes)

      rest : List ℕ
      rest = rest_of m.elements

      as_they_were : stack_of 0 ns (d - 1) ≡ first_of 0 rest ∷ rest_of rest
      as_they_were = stack_first 0 ns (d - 1) (omega (arith, two)) ∙ (λ z. first_of 0 (elements_rest z) ∷ rest_of (elements_rest z))

      new : (t : Bool) → stack_of 0 (cond t ns (set ns (d - 2) (view.siblings - 1))) (d - 1) ≡ less_of t None (first_of 0 rest) ∷ rest_of rest
      new true = as_they_were
      new false = stack_renew 0 ns (d - 1) (d - 2) (view.siblings - 1) (omega (arith, two)) (omega (arith, within)) ∙ (λ z. (seen.siblings z - 1) ∷ rest_of (elements_rest z))

      back : (q : Optional Entry) → stack_of 0 (elements_back view q ns) (d - 1) ≡ less_of p.object q (first_of 0 rest) ∷ rest_of rest
      back None = let par : view.parent ≡ p = seen.parent ∙ ap next_of e in (λ z. stack_of 0 (cond (par z).object ns (set ns (d - 2) (view.siblings - 1))) (d - 1)) ∙ new p.object
      back (Some e) = as_they_were

  -- and as many places as before
  either_size : (t : Bool) (xs ys : List ℕ) → length xs ≡ 64 → length ys ≡ 64 → length (cond t xs ys) ≡ 64
  either_size true xs ys a b = a
  either_size false xs ys a b = b

  with_sizes : length (elements_with view s.builder.elements) ≡ 64
  with_sizes = either_size (in_list view) _ _ (length-set s.builder.elements (s.builder.counts.depth - 1) (view.elements + 1) ∙ r.sizes) r.sizes

  back_sizes : length (elements_after view no_mark roll_back s.builder.elements) ≡ 64
  back_sizes = either_size (ltb 1 s.builder.counts.depth) _ _ (go view.inner.parent) r.sizes
    where
      go : (p : Optional Entry) → length (elements_back view p s.builder.elements) ≡ 64
      go None = either_size view.parent.object _ _ r.sizes (length-set s.builder.elements (s.builder.counts.depth - 2) (view.siblings - 1) ∙ r.sizes)
      go (Some e) = r.sizes

  -- ---- marks

  -- A MARK
  represents_mark : (js : List Container) (pss : List (List Mark)) → m.conts ≡ js → m.chains ≡ pss → (not (any_open js) || leb 16 (marks_at js)) ≡ false
      → Represents (after s set_mark) (set_at m js pss)
  unfolding after chains_of
  represents_mark [] pss e f h = absurd (true≢false h)
  represents_mark (k ∷ ks) [] e f h = absurd (rw (e, f) at o.falling)
  represents_mark (k ∷ ks) (ps ∷ pss) e f h =
      let t = r.stored in
      let all : AllFalling (k ∷ ks) (ps ∷ pss) m.elements (mark_of m 0 false) = rw (e, f) at o.falling in
      let i = inner_is k ks e in
      let x = with_marks view.inner (view.inner.marks + 1) in
      let d : s.builder.counts.depth - 1 ≡ length ks = (let a = represents_depth r ∙ ap length e in omega arith) in
      let few : length (k ∷ ks) ≤ 64 = rw e at o.depth in
      let n = first_of 0 m.elements in
      let p : new_mark view ≡ mark_of m n k.unique = used_now t ∙ (λ z. mark_of m (seen.elements z) (i z).unique) in
      let c : chains_of s.marks (k ∷ ks) ≡ ps ∷ pss = sym (ap (chains_of s.marks) e) ∙ (r.chains ∙ f) in
      let q =
      chains_set s.marks (mark_of m n k.unique) k ks pss (rest_of m.elements) (mark_of m 0 false) all.3 (leb-false 16 k.marks h)
      (omega arith) r.table in
      record {
        stored = record {
          value = t.value;
          bytes = t.bytes;
          within = t.within;
          names = t.names;
          entries = t.entries;
          undo = t.undo;
          unique = t.unique;
          finished = t.finished;
          floor = t.floor;
        };
        stack = renewed x k ks e ∙ ap (λ z. with_marks z (z.marks + 1) ∷ ks) i;
        elements = r.elements;
        size = length-set s.builder.containers (s.builder.counts.depth - 1) x ∙ r.size;
        sizes = r.sizes;
        chains =
            (λ z. chains_of (put_mark s.marks (slot_of (d z) ((i z).marks + 1)) (p z)) (with_marks k (k.marks + 1) ∷ ks))
            ∙ (q ∙ set_chains k ks ps pss (mark_of m n k.unique) c);
        table = length_put_mark s.marks (slot_of (s.builder.counts.depth - 1) (view.inner.marks + 1)) (new_mark view) ∙ r.table;
      }
    where
      set_chains : (k : Container) (ks : List Container) (ps : List Mark) (pss : List (List Mark)) (p : Mark) → chains_of s.marks (k ∷ ks) ≡ ps ∷ pss
          → (p ∷ marks_of s.marks (length ks) k.marks) ∷ chains_of s.marks ks ≡ (p ∷ ps) ∷ pss
      set_chains k ks ps pss p c = λ z. (p ∷ head-eq_of_cons-eq c z) ∷ tail-eq_of_cons-eq c z

  -- A RETURN
  represents_return : (js : List Container) (pss : List (List Mark)) (j : ℕ) → m.conts ≡ js → m.chains ≡ pss
      → (not (any_open js) || (eqb j 0 || ltb (marks_at js) j)) ≡ false
      → Represents (after s (return_to j)) (return_at m js pss j)
  unfolding after chains_of marks_of returned step.with_unique with_marks
  represents_return [] pss j e f h = absurd (true≢false h)
  represents_return (k ∷ ks) [] j e f h = absurd (rw (e, f) at o.falling)
  represents_return (k ∷ ks) (ps ∷ pss) zero e f h = absurd (true≢false h)
  represents_return (k ∷ ks) (ps ∷ pss) (suc n) e f h =
      let ms = s.marks in
      let all : AllFalling (k ∷ ks) (ps ∷ pss) m.elements (mark_of m 0 false) = rw (e, f) at o.falling in
      let texts : Texts ps m.names = rw f at o.texts in
      let i = inner_is k ks e in
      let d : s.builder.counts.depth - 1 ≡ length ks = (let a = represents_depth r ∙ ap length e in omega arith) in
      let c : chains_of ms (k ∷ ks) ≡ ps ∷ pss = sym (ap (chains_of ms) e) ∙ (r.chains ∙ f) in
      let nz : eqb (suc n) 0 ≡ false = ne_eqb (suc n) 0 (λ q. omega arith) in
      let j : suc n ≤ k.marks = ltb-false k.marks (suc n) (rw nz at h) in
      let count = all.1 in
      let p = mark_at ms (slot_of (length ks) (suc n)) in
      let qs = marks_of ms (length ks) n in
      let to : drop (length ps - suc n) ps ≡ p ∷ qs =
      (λ z. drop (sym count z - suc n) (head-eq_of_cons-eq (sym c) z)) ∙ marks_to ms (length ks) k.marks (suc n) j in
      let now = mark_of m (first_of 0 m.elements) false in
      let fall : Falling k.object (mark_at_start k) (p ∷ qs) now =
      rw to at (falling_drop (length ps - suc n) k.object (mark_at_start k) ps now all.2) in
      let text : Texts (p ∷ qs) m.names = rw to at (texts_drop (length ps - suc n) ps m.names texts) in
      let size : length (p ∷ qs) ≡ suc n = ap suc (length_marks ms (length ks) n) in
      let pt : mark_to view ms (return_to (suc n)) ≡ p = ap (λ z. mark_at ms (slot_of z (suc n))) d in
      let q = mark_to view ms (return_to (suc n)) in
      let x = with_marks (step.with_unique view.inner q.unique) (suc n) in
      rw to (record {
        stored = rw pt (return_law seen o k ks pss p qs (first_of 0 m.elements) e fall text.0);
        stack = renewed x k ks e ∙ (λ z. with_marks (step.with_unique (i z) (pt z).unique) (sym size z) ∷ ks);
        elements = renewed_elements q.count (omega (arith, represents_depth r, ap length e)) ∙ (λ z. (pt z).count ∷ rest_of m.elements);
        size = length-set s.builder.containers (s.builder.counts.depth - 1) x ∙ r.size;
        sizes = length-set s.builder.elements (s.builder.counts.depth - 1) q.count ∙ r.sizes;
        chains = (λ z. marks_of ms (length ks) (size z) ∷ tail-eq_of_cons-eq c z);
        table = r.table;
      })

  -- a call that is carried out leaves a state that represents the machine after it
  pub represents_step : (c : Call) → number_of (view_at s) s.storage c ≡ 0 → Represents (after s c) (apply m c)
  unfolding after registered appended opened new_container closed rolled_back finished chains_of marks_of apply
  represents_step (register n) h =
      record {
        stored = register_law seen n (clear (register n) h 12);
        stack = r.stack;
        elements = r.elements;
        size = r.size;
        sizes = r.sizes;
        chains = r.chains;
        table = r.table;
      }
  represents_step (append nm x) h =
      let a = append_admits nm x h in
      record {
        stored = append_law seen o nm x a.0 a.1;
        stack = r.stack;
        elements = elements_more m.conts refl;
        size = r.size;
        sizes = with_sizes;
        chains = r.chains;
        table = r.table;
      }
  represents_step (open_in nm object) h =
      let a = open_admits nm object h in
      let ks = s.builder.containers in
      let d = s.builder.counts.depth in
      let ns = elements_with view s.builder.elements in
      let z = r.size in
      let x = new_container view s.storage nm object in
      record {
        stored = open_stored seen o nm object a.0;
        stack = stack_set no_container ks d x (omega (arith, leb-false 64 d a.1)) ∙ (ap (λ js. x ∷ js) r.stack ∙ open_container seen o nm object a.0);
        elements = stack_set 0 ns d 0 (let y = with_sizes in omega (arith, leb-false 64 d a.1)) ∙ ap (λ js. 0 ∷ js) (elements_more m.conts refl);
        size = length-set ks d x ∙ z;
        sizes = length-set ns d 0 ∙ with_sizes;
        chains = ap (λ y. [] ∷ y) r.chains;
        table = r.table;
      }
  represents_step close h =
      let e = some_open (clear close h 3) in
      record {
        stored = close_law seen o m.conts refl e (clear close h 14);
        stack = (popped m.conts refl e).0;
        elements = closed_elements m.conts e;
        size = r.size;
        sizes = r.sizes;
        chains = (popped_chains m.conts refl e).0;
        table = r.table;
      }
  represents_step roll_back h =
      let e = some_open (clear roll_back h 3) in
      record {
        stored = roll_law seen o m.conts refl e;
        stack = (popped m.conts refl e).1;
        elements = elements_less m.conts refl e;
        size = r.size;
        sizes = back_sizes;
        chains = (popped_chains m.conts refl e).1;
        table = r.table;
      }
  represents_step (uniqueness u) h =
      let t = r.stored in
      record {
        stored = record {
          value = t.value;
          bytes = t.bytes;
          within = t.within;
          names = t.names;
          entries = t.entries;
          undo = t.undo;
          unique = t.unique;
          finished = t.finished;
          floor = t.floor;
        };
        stack = remarked u m.conts refl (sym (in_law seen) ∙ not-false _ (clear (uniqueness u) h 3));
        elements = r.elements;
        size = length-set s.builder.containers (s.builder.counts.depth - 1) (step.with_unique view.inner u) ∙ r.size;
        sizes = r.sizes;
        chains = remarked_chains u m.conts refl;
        table = r.table;
      }
  represents_step set_mark h =
      represents_mark m.conts m.chains refl refl (sym (λ i. not (open_law seen i) || leb 16 (marks_law seen i)) ∙ clear set_mark h 22)
  represents_step (return_to j) h =
      represents_return m.conts m.chains j refl refl
      (sym (λ i. not (open_law seen i) || (eqb j 0 || ltb (marks_law seen i) j)) ∙ clear (return_to j) h 22)
  represents_step (finish out) h =
      record {
        stored = finish_law seen out;
        stack = r.stack;
        elements = r.elements;
        size = r.size;
        sizes = r.sizes;
        chains = r.chains;
        table = r.table;
      }

  -- and the lent lists are as long as before
  pub represents_lent : (c : Call) → number_of (view_at s) s.storage c ≡ 0 → lent_by (after s c).storage ≡ lent_by s.storage
  unfolding after registered appended opened closed entries_closed rolled_back returned entries_returned
  represents_lent (register n) h =
      let w = names_with seen (some n) (clear (register n) h 12) in
      λ i. record {
        value = length s.storage.value;
        text = w.text_size_lem i;
        ends = w.ends_size i;
        entries = length s.storage.entries;
        undo = length s.storage.undo;
      }
  represents_lent (append nm x) h =
      let k = append_admits nm x h in
      let bs = scalar_bytes (scalar_of x) in
      let f = fits_law seen (length bs) k.1 in
      let w = names_with seen nm k.0.full in
      let a = length_write s.builder.counts.value bs s.storage.value (omega arith) in
      let b = entries_size seen o nm k.0.named in
      let g = undo_size seen o nm k.0.named in
      λ i. record { value = a i; text = w.text_size_lem i; ends = w.ends_size i; entries = b i; undo = g i }
  represents_lent (open_in nm object) h =
      let k = open_admits nm object h in
      let w = names_with seen nm k.0.full in
      let b = entries_size seen o nm k.0.named in
      let g = undo_size seen o nm k.0.named in
      λ i. record { value = length s.storage.value; text = w.text_size_lem i; ends = w.ends_size i; entries = b i; undo = g i }
  represents_lent close h =
      let f = fits_law seen (length (header view s.storage)) (clear close h 14) in
      let w = innermost_law seen o in
      let a = length_fronted view.inner.value s.builder.counts.value (header view s.storage) s.storage.value w.value (omega arith) in
      let b = put_size view.inner.object view.inner.entries (sort (names_held view s.storage) (inner_entries view s.storage)) s.storage.entries in
      λ i. record { value = a i; text = length s.storage.text; ends = length s.storage.ends; entries = b i; undo = length s.storage.undo }
  represents_lent roll_back h =
      let b = back_size (ltb 1 s.builder.counts.depth) view.inner.parent view s.storage in
      λ i. record {
        value = length s.storage.value;
        text = length s.storage.text;
        ends = length s.storage.ends;
        entries = b i;
        undo = length s.storage.undo;
      }
  represents_lent (uniqueness u) h = refl
  represents_lent set_mark h = refl
  represents_lent (return_to j) h =
      let p = mark_to view s.marks (return_to j) in
      let k = view.inner in
      let left = entries_of s.storage.entries k.entries (p.entries - k.entries) in
      let records = entries_of s.storage.undo p.undo (s.builder.counts.undo - p.undo) in
      let b = put_size k.object k.entries (replay records left) s.storage.entries in
      λ i. record {
        value = length s.storage.value;
        text = length s.storage.text;
        ends = length s.storage.ends;
        entries = b i;
        undo = length s.storage.undo;
      }
  represents_lent (finish out) h = refl

-- ---- what a run gives

-- the value bytes
pub represents_value : {s : State} {m : Machine} → Represents s m → value_bytes s ≡ m.bytes
unfolding value_bytes
represents_value r = r.stored.bytes

-- the dictionary
pub represents_dictionary : {s : State} {m : Machine} → Represents s m → dictionary_of (view_at s) s.storage ≡ dictionary m.floor m.names
unfolding dictionary_of
represents_dictionary r i = dictionary (r.stored.floor i) (r.stored.names.holds.names i)

-- its size
pub represents_size : {s : State} {m : Machine} → Represents s m
    → length (dictionary_of (view_at s) s.storage) ≡ size_of m.floor (length m.names) (length (joined m.names))
represents_size {m = m} r = ap length (represents_dictionary r) ∙ dictionary_size m.floor m.names

-- what an accepted finish wrote, and nothing behind it
pub record WritesDictionary (s : State) (m : Machine) (out : List ℕ) : Type 0 where
  pub fits : size_of m.floor (length m.names) (length (joined m.names)) ≤ counted (length out)
  pub long : length (write 0 (dictionary_of (view_at s) s.storage) out) ≡ length out
  pub front : take (length (dictionary_of (view_at s) s.storage)) (write 0 (dictionary_of (view_at s) s.storage) out) ≡ dictionary m.floor m.names
  pub behind : drop (length (dictionary_of (view_at s) s.storage)) (write 0 (dictionary_of (view_at s) s.storage) out)
      ≡ drop (length (dictionary_of (view_at s) s.storage)) out
  pub many : length m.names < 256 ^ 4
  pub text : length (joined m.names) < 256 ^ 4
  pub read : dictionary_names (dictionary m.floor m.names) ≡ m.names

pub represents_finish : {s : State} {m : Machine} → Represents s m → (out : List ℕ) → number_of (view_at s) s.storage (finish out) ≡ 0
    → WritesDictionary s m out
represents_finish {s} {m} r out h =
    let bs = dictionary_of (view_at s) s.storage in
    let d = r.stored.names.holds in
    let ns = m.names in
    let f : size_of m.floor (length ns) (length (joined ns)) ≤ counted (length out) =
    rw (d.count, d.total, ← r.stored.floor) (leb-true _ _ (not-false _ (none_at (view_at s) s.storage (finish out) h 16))) in
    let n = represents_size r in
    let least = size_least m.floor (length ns) (length (joined ns)) in
    let a : length ns < 256 ^ 4 = omega arith in
    let b : length (joined ns) < 256 ^ 4 = omega arith in
    record {
      fits = f;
      long = length_write 0 bs out (omega arith);
      front = rw zero-add at (take_write 0 bs out (omega arith)) ∙ represents_dictionary r;
      behind = rw zero-add at (drop_write 0 bs out (omega arith));
      many = a;
      text = b;
      read = dictionary_read m.floor ns a b;
    }

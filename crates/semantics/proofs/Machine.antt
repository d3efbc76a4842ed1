-- The record and its storage as lists, and what each call does to them: a middle between `step` and the history.
use mathlib.Core.Path.{◌≡◌}
use mathlib.Core.Bool.{Bool, true, false, cond, not, ◌&&◌, ◌||◌}
use mathlib.Core.List.{List, [], ◌∷◌, ◌++◌}
use mathlib.Core.Option.{Option, none, some}
use Prim.Native.Nat.{ℕ, zero, suc, ◌+◌, ◌-◌, ◌≤◌}
use lib.Dec.{eqb, leb, ltb}
use lib.ListN.{drop, length, take}
use Rattle.std.specs.Prelude.{Option as Optional, Some, None}
use Rattle.encoding.specs.Rows.{Row, row, first}
use Rattle.encoding.specs.Slices.{counted, fits}
use Rattle.value.specs.Scalar.{scalar_bytes}
use Rattle.metadata.specs.Names.{Name, place}
use Rattle.metadata.specs.Bytes.{joined, size_of}
use Rattle.container.specs.declared.Entry.{Entry}
use Rattle.container.specs.Entries.{ids_of, offsets_of, misplaced, room_for, seek}
use Rattle.container.specs.Layout.{list_header, object_header}
use Rattle.container.specs.Sort.{sort}
use Rattle.container.specs.Undo.{replay}
use Rattle.measure.specs.Measure.{starts_in, whole_values}
use Rattle.metadata.proofs.DictionaryLaws.{Distinct}
use Rattle.semantics.specs.declared.Container.{Container}
use Rattle.semantics.specs.declared.Mark.{Mark}
use Rattle.semantics.specs.Record.{Call, register, append, open_in, close, roll_back, uniqueness, set_mark, return_to, finish, scalar_of, countable, mark_at_start, good_floor}
use Rattle.semantics.specs.Damage.{orphaned, unrecorded}
use Rattle.semantics.specs.Table.{scalar_rows, bad_name}
use Rattle.semantics.specs.Step.{with_unique, with_marks}
use Rattle.semantics.specs.History.{with_name, first_marks}
use Rattle.semantics.specs.Ledger.{Lent, full_for}

-- the used value bytes, the names held, the used entries, the undo records in use (the newest last), the open containers (the innermost first) with
-- the elements of each and the marks set in each (the latest first), the uniqueness mark, whether it is finished, and the floor
pub record Machine : Type 0 where
  pub bytes : List ℕ
  pub names : List Name
  pub entries : List Entry
  pub undos : List Entry
  pub conts : List Container
  pub elements : List ℕ
  pub chains : List (List Mark)
  pub unique : Bool
  pub finished : Bool
  pub floor : ℕ

-- ---- entries

-- the first entry of that id gets the offset, or a new one does
unfoldable pub put : ℕ → ℕ → List Entry → List Entry
put i o [] = record { id = i; offset = o } ∷ []
put i o (e ∷ es) = cond (eqb e.id i) (record { id = e.id; offset = o } ∷ es) (e ∷ put i o es)

-- how the entry came about
unfoldable pub find : ℕ → List Entry → Optional Entry
find i [] = None
find i (e ∷ es) = cond (eqb e.id i) (Some (record { id = i; offset = e.offset })) (find i es)

-- a list's element has none
unfoldable pub note_in : List Name → Option Name → ℕ → List Entry → List Entry
note_in ns none o es = es
note_in ns (some n) o es = put (place n ns) o es

unfoldable pub link_in : List Name → Option Name → List Entry → Optional Entry
link_in ns none es = None
link_in ns (some n) es = find (place n ns) es

-- the entries with one for a value that starts at `at`, and how it came about
unfoldable pub note : List Name → List Container → Option Name → ℕ → List Entry → List Entry
note ns [] nm at es = es
note ns (k ∷ ks) nm at es = take k.entries es ++ note_in ns nm (at - k.value) (drop k.entries es)

unfoldable pub link_of : List Name → List Container → Option Name → List Entry → Optional Entry
link_of ns [] nm es = None
link_of ns (k ∷ ks) nm es = link_in ns nm (drop k.entries es)

-- the parent's entries without the child's own
unfoldable pub undo : List Container → Optional Entry → List Entry → List Entry
undo [] p es = es
undo (k ∷ ks) None es = cond k.object (take (length es - 1) es) es
undo (k ∷ ks) (Some e) es = take k.entries es ++ put e.id e.offset (drop k.entries es)

-- the record that a value takes where so many marks are set
unfoldable pub record_of : ℕ → Optional Entry → List Entry
record_of zero p = []
record_of (suc n) None = []
record_of (suc n) (Some e) = e ∷ []

abbrev pub marks_at : List Container → ℕ
marks_at [] = 0
marks_at (k ∷ ks) = k.marks

unfoldable pub logged : List Name → List Container → Option Name → List Entry → List Entry → List Entry
logged ns ks nm es us = us ++ record_of (marks_at ks) (link_of ns ks nm es)

-- the records undone; of a list none is
unfoldable pub unwound : Bool → List Entry → List Entry → List Entry
unwound object us es = cond object (replay us es) es

-- ---- elements

-- the first of these, or that one
abbrev pub first_of : {A : Type 0} → A → List A → A
first_of z [] = z
first_of z (x ∷ xs) = x

-- those behind it
abbrev pub rest_of : {A : Type 0} → List A → List A
rest_of [] = []
rest_of (x ∷ xs) = xs

-- a value enters: one element more, of a list
unfoldable pub one_more : List Container → List ℕ → List ℕ
one_more [] ns = ns
one_more (k ∷ ks) ns = cond k.object (first_of 0 ns) (first_of 0 ns + 1) ∷ rest_of ns

-- a child is rolled back: one less, of a list
abbrev pub less_of : Bool → Optional Entry → ℕ → ℕ
less_of object None n = cond object n (n - 1)
less_of object (Some e) n = n

unfoldable pub one_less : List Container → Optional Entry → List ℕ → List ℕ
one_less [] p ns = ns
one_less (k ∷ ks) p ns = less_of k.object p (first_of 0 ns) ∷ rest_of ns

-- the header of a container with so many elements, these entries and this data
unfoldable pub header_of : ℕ → List Name → Bool → ℕ → List Entry → List ℕ → List ℕ
header_of floor ns object n es body =
    let sorted = sort ns es in
    cond object (object_header floor (ids_of sorted) (offsets_of sorted) (length body)) (list_header floor (starts_in n 0 body) (length body))

-- ---- what a call that is carried out does

abbrev pub with : Machine → List ℕ → List Name → List Entry → List Entry → List Container → List ℕ → List (List Mark) → Machine
with m bs ns es us ks cs pss =
    record {
      bytes = bs;
      names = ns;
      entries = es;
      undos = us;
      conts = ks;
      elements = cs;
      chains = pss;
      unique = m.unique;
      finished = m.finished;
      floor = m.floor;
    }

abbrev pub unique_at : Machine → List Container → Bool
unique_at m [] = m.unique
unique_at m (k ∷ ks) = k.unique

abbrev pub close_at : Machine → List Container → Machine
close_at m [] = m
close_at m (k ∷ ks) =
    let body = drop k.value m.bytes in
    let es = drop k.entries m.entries in
    let header = header_of m.floor m.names k.object (first_of 0 m.elements) es body in
    with m (take k.value m.bytes ++ (header ++ body)) m.names (take k.entries m.entries) (take k.undo m.undos) ks
    (rest_of m.elements) (rest_of m.chains)

abbrev pub roll_at : Machine → List Container → Machine
roll_at m [] = m
roll_at m (k ∷ ks) =
    with m (take k.value m.bytes) (take k.names m.names) (undo ks k.parent (take k.entries m.entries))
    (take (k.undo - length (record_of (marks_at ks) k.parent)) m.undos) ks (one_less ks k.parent (rest_of m.elements)) (rest_of m.chains)

abbrev pub set_unique_at : Bool → List Container → List Container
set_unique_at u [] = []
set_unique_at u (k ∷ ks) = with_unique k u ∷ ks

-- the mark that is set where the innermost has so many elements and that uniqueness mark
abbrev pub mark_of : Machine → ℕ → Bool → Mark
mark_of m n u =
    record {
      value = length m.bytes;
      names = length m.names;
      text = length (joined m.names);
      entries = length m.entries;
      undo = length m.undos;
      count = n;
      unique = u;
    }

abbrev pub set_at : Machine → List Container → List (List Mark) → Machine
set_at m [] pss = m
set_at m (k ∷ ks) [] = m
set_at m (k ∷ ks) (ps ∷ pss) =
    with m m.bytes m.names m.entries m.undos (with_marks k (k.marks + 1) ∷ ks) m.elements
    ((mark_of m (first_of 0 m.elements) k.unique ∷ ps) ∷ pss)

-- a return to the first of these marks
abbrev pub back_to : Machine → Container → List Container → List (List Mark) → List Mark → Machine
back_to m k ks pss [] = m
back_to m k ks pss (p ∷ ps) =
    let left = take (p.entries - k.entries) (drop k.entries m.entries) in
    with m (take p.value m.bytes) (take p.names m.names)
    (take k.entries m.entries ++ unwound k.object (drop p.undo m.undos) left)
    (take p.undo m.undos) (with_marks (with_unique k p.unique) (length (p ∷ ps)) ∷ ks)
    (p.count ∷ rest_of m.elements) ((p ∷ ps) ∷ pss)

abbrev pub return_at : Machine → List Container → List (List Mark) → ℕ → Machine
return_at m [] pss j = m
return_at m (k ∷ ks) [] j = m
return_at m (k ∷ ks) (ps ∷ pss) j = back_to m k ks pss (first_marks j ps)

unfoldable pub apply : Machine → Call → Machine
apply m (register n) = with m m.bytes (with_name m.names (some n)) m.entries m.undos m.conts m.elements m.chains
apply m (append nm x) =
    let ns = with_name m.names nm in
    with m (m.bytes ++ scalar_bytes (scalar_of x)) ns (note ns m.conts nm (length m.bytes) m.entries)
    (logged ns m.conts nm m.entries m.undos) m.conts (one_more m.conts m.elements) m.chains
apply m (open_in nm object) =
    let ns = with_name m.names nm in
    let es = note ns m.conts nm (length m.bytes) m.entries in
    let us = logged ns m.conts nm m.entries m.undos in
    with m m.bytes ns es us
    (record {
      value = length m.bytes;
      names = length m.names;
      text = length (joined m.names);
      entries = length es;
      undo = length us;
      parent = link_of ns m.conts nm m.entries;
      object = object;
      unique = unique_at m m.conts;
      marks = 0;
    } ∷ m.conts)
    (0 ∷ one_more m.conts m.elements) ([] ∷ m.chains)
apply m close = close_at m m.conts
apply m roll_back = roll_at m m.conts
apply m (uniqueness u) = with m m.bytes m.names m.entries m.undos (set_unique_at u m.conts) m.elements m.chains
apply m set_mark = set_at m m.conts m.chains
apply m (return_to j) = return_at m m.conts m.chains j
apply m (finish out) =
    record {
      bytes = m.bytes;
      names = m.names;
      entries = m.entries;
      undos = m.undos;
      conts = m.conts;
      elements = m.elements;
      chains = m.chains;
      unique = m.unique;
      finished = true;
      floor = m.floor;
    }

-- ---- the rows behind 1

abbrev pub any_open : List Container → Bool
any_open [] = false
any_open (k ∷ ks) = true

abbrev pub object_inner : List Container → Bool
object_inner [] = false
object_inner (k ∷ ks) = k.object

abbrev pub misnamed_at : Option Name → List Container → Bool
misnamed_at none ks = object_inner ks
misnamed_at (some n) ks = not (object_inner ks)

abbrev pub live_at : Machine → Option Name → List Container → Bool
live_at m none ks = false
live_at m (some n) [] = false
live_at m (some n) (k ∷ ks) =
    let es = drop k.entries m.entries in
    ltb (place n m.names) (length m.names) && ltb (seek (place n m.names) es) (length es)

abbrev pub no_entry_free : Machine → Lent → Option Name → Bool
no_entry_free m lent nm = (object_inner m.conts && not (live_at m nm m.conts)) && leb (room_for lent.entries) (length m.entries)

abbrev pub no_undo_free : Machine → Lent → Option Name → Bool
no_undo_free m lent nm = (live_at m nm m.conts && ltb 0 (marks_at m.conts)) && leb (room_for lent.undo) (length m.undos)

-- n bytes do not fit
abbrev pub too_long : Machine → Lent → ℕ → Bool
too_long m lent n = not (fits (length m.bytes) n lent.value)

abbrev pub header_at : Machine → List Container → List ℕ
header_at m [] = []
header_at m (k ∷ ks) = header_of m.floor m.names k.object (first_of 0 m.elements) (drop k.entries m.entries) (drop k.value m.bytes)

-- append's, before and behind the scalar's own
abbrev pub front_at : Machine → Option Name → List Row
front_at m nm =
    row 2 m.finished
    ∷ (row 5 (misnamed_at nm m.conts) ∷ (row 6 (not (any_open m.conts) && ltb 0 (length m.bytes)) ∷ []))

abbrev pub back_at : Machine → Lent → Option Name → ℕ → List Row
back_at m lent nm size =
    row 9 (bad_name nm)
    ∷ (row 10 (unique_at m m.conts && live_at m nm m.conts)
    ∷ (row 12 (full_for lent m.names nm)
    ∷ (row 13 (no_entry_free m lent nm) ∷ (row 23 (no_undo_free m lent nm) ∷ (row 14 (too_long m lent size) ∷ [])))))

abbrev pub rows_at : Machine → Lent → Call → List Row
rows_at m lent (register n) =
    row 2 m.finished ∷ (row 9 (bad_name (some n)) ∷ (row 12 (full_for lent m.names (some n)) ∷ []))
rows_at m lent (append nm x) = front_at m nm ++ (scalar_rows x ++ back_at m lent nm (length (scalar_bytes (scalar_of x))))
rows_at m lent (open_in nm k) =
    row 2 m.finished
    ∷ (row 5 (misnamed_at nm m.conts)
    ∷ (row 6 (not (any_open m.conts) && ltb 0 (length m.bytes))
    ∷ (row 9 (bad_name nm)
    ∷ (row 10 (unique_at m m.conts && live_at m nm m.conts)
    ∷ (row 11 (leb 64 (length m.conts))
    ∷ (row 12 (full_for lent m.names nm) ∷ (row 13 (no_entry_free m lent nm) ∷ (row 23 (no_undo_free m lent nm) ∷ []))))))))
rows_at m lent close =
    row 2 m.finished ∷ (row 3 (not (any_open m.conts)) ∷ (row 14 (too_long m lent (length (header_at m m.conts))) ∷ []))
rows_at m lent roll_back = row 2 m.finished ∷ (row 3 (not (any_open m.conts)) ∷ [])
rows_at m lent (uniqueness u) = row 2 m.finished ∷ (row 3 (not (object_inner m.conts)) ∷ [])
rows_at m lent set_mark = row 2 m.finished ∷ (row 22 (not (any_open m.conts) || leb 16 (marks_at m.conts)) ∷ [])
rows_at m lent (return_to j) = row 2 m.finished ∷ (row 22 (not (any_open m.conts) || (eqb j 0 || ltb (marks_at m.conts) j)) ∷ [])
rows_at m lent (finish out) =
    row 2 m.finished
    ∷ (row 4 (any_open m.conts)
    ∷ (row 15 (eqb (length m.bytes) 0)
    ∷ (row 16 (not (leb (size_of m.floor (length m.names) (length (joined m.names))) (counted (length out)))) ∷ [])))

unfoldable pub number_at : Machine → Lent → Call → ℕ
number_at m lent c = first (rows_at m lent c)

-- ---- what a machine of a run is like, so that number 1 never comes

-- no mark falls from a container to the next, nor exceeds these counts
abbrev pub Rising : List Container → ℕ → ℕ → ℕ → ℕ → ℕ → Type 0
Rising [] value names text entries undo = Unit {0}
Rising (k ∷ ks) value names text entries undo =
    (k.value ≤ value) × (k.names ≤ names) × (k.text ≤ text) × (k.entries ≤ entries) × (k.undo ≤ undo)
    × Rising ks k.value k.names k.text k.entries k.undo

-- no number of a mark is above that of another
abbrev pub NotAbove : Bool → Mark → Mark → Type 0
NotAbove object p q =
    (p.value ≤ q.value) × (p.names ≤ q.names) × (p.text ≤ q.text) × (p.entries ≤ q.entries) × (p.undo ≤ q.undo)
    × ((object || leb p.count q.count) ≡ true)

-- from the present through the marks to the start nothing rises
abbrev pub Falling : Bool → Mark → List Mark → Mark → Type 0
Falling object start [] now = NotAbove object start now
Falling object start (p ∷ ps) now = NotAbove object p now × Falling object start ps p

-- so in each container, which has at most 16
abbrev pub with_count : Mark → ℕ → Mark
with_count p n =
    record { value = p.value; names = p.names; text = p.text; entries = p.entries; undo = p.undo; count = n; unique = p.unique }

abbrev pub AllFalling : List Container → List (List Mark) → List ℕ → Mark → Type 0
AllFalling [] [] ns now = Unit {0}
AllFalling [] (ps ∷ pss) ns now = ⊥
AllFalling (k ∷ ks) [] ns now = ⊥
AllFalling (k ∷ ks) (ps ∷ pss) ns now =
    (k.marks ≤ 16) × (k.marks ≡ length ps) × Falling k.object (mark_at_start k) ps (with_count now (first_of 0 ns)) × AllFalling ks pss (rest_of ns) now

-- no list counts more than its data bytes, which run to `end`, plus one for a child open in it; there are no other counts
abbrev pub Counting : List Container → List ℕ → ℕ → ℕ → Type 0
Counting [] ns end child = ns ≡ []
Counting (k ∷ ks) ns end child = (countable k (first_of 0 ns) (end - k.value + child) ≡ true) × Counting ks (rest_of ns) k.value 1

-- the innermost's entries are well placed, its text mark is that of its names, and a list's data is as many whole values as it counts
abbrev pub InnerPlaced : Machine → List Container → Type 0
InnerPlaced m [] = Unit {0}
InnerPlaced m (k ∷ ks) =
    ((k.object && misplaced true (length m.names) (length m.bytes - k.value) (drop k.entries m.entries)) ≡ false)
    × (k.text ≡ length (joined (take k.names m.names)))
    × ((not k.object && not (whole_values (first_of 0 m.elements) (drop k.value m.bytes))) ≡ false)

-- so in each of its marks
abbrev pub Texts : List Mark → List Name → Type 0
Texts [] ns = Unit {0}
Texts (p ∷ ps) ns = (p.text ≡ length (joined (take p.names ns))) × Texts ps ns

abbrev pub InnerTexts : List (List Mark) → List Name → Type 0
InnerTexts [] ns = Unit {0}
InnerTexts (ps ∷ pss) ns = Texts ps ns

-- its parent's too, and it has its own entry among them, or is one of a list's elements, and its own record
abbrev pub ParentPlaced : Machine → List Container → Type 0
ParentPlaced m [] = Unit {0}
ParentPlaced m (k ∷ []) = Unit {0}
ParentPlaced m (k ∷ (p ∷ ks)) =
    let es = take (k.entries - p.entries) (drop p.entries m.entries) in
    ((p.object && misplaced true (length m.names) (k.value - p.value) es) ≡ false)
    × (orphaned k.parent p.object (first_of 0 (rest_of m.elements)) (k.value - p.value) es ≡ false)
    × (unrecorded k p ≡ false)

pub record Orderly (m : Machine) : Type 0 where
  pub rising : Rising m.conts (length m.bytes) (length m.names) (length (joined m.names)) (length m.entries) (length m.undos)
  pub falling : AllFalling m.conts m.chains m.elements (mark_of m 0 false)
  pub counting : Counting m.conts m.elements (length m.bytes) 0
  pub depth : length m.conts ≤ 64
  pub inner : InnerPlaced m m.conts
  pub texts : InnerTexts m.chains m.names
  pub parent : ParentPlaced m m.conts
  pub distinct : Distinct m.names
  pub floor : good_floor m.floor ≡ true

-- What a call leaves behind: every list whole.
use Rattle.std.specs.Prelude.{Bool, true, cond, List, [], ℕ, ◌+◌, ◌-◌, ◌*◌, eqb, ltb, length, set, Option as Optional, Some, None}
use Rattle.std.proofs.Math.Option.{Option, none, some}
use Rattle.encoding.specs.Slices.{write}
use Rattle.value.specs.Scalar.{scalar_bytes}
use Rattle.metadata.specs.Names.{Name, field_names, text_size}
use Rattle.metadata.specs.Bytes.{dictionary}
use Rattle.metadata.specs.Calls.{added, from_parts}
use Rattle.metadata.specs.declared.MetadataBuilder.{MetadataBuilder}
use Rattle.container.specs.declared.Entry.{Entry}
use Rattle.container.specs.Entries.{entry_at, put_entries, seek, set_entry}
use Rattle.container.specs.Sort.{sort}
use Rattle.container.specs.Undo.{undone_from}
use Rattle.container.specs.Close.{fronted}
use Rattle.semantics.specs.declared.Container.{Container}
use Rattle.semantics.specs.declared.Counts.{Counts}
use Rattle.semantics.specs.declared.Mark.{Mark}
use Rattle.semantics.specs.declared.View.{View}
use Rattle.semantics.specs.Record.{Storage, storage_of, State, Scalars, Call, register, append, open_in, close, roll_back, uniqueness, set_mark, return_to, finish, scalar_of, no_mark, slot_of, mark_at, mark_now, view_at, in_list, inner_size, inner_entries, parent_entries, names_held, unique_now}
use Rattle.semantics.specs.Damage.{recorded_child}
use Rattle.semantics.specs.Table.{id_of, held, live_under, new_entry, recorded, header, number_of}

-- ---- a name given: "a name not yet held goes last"

abbrev pub dictionary_with : View → Storage → Option Name → MetadataBuilder
dictionary_with v l none = v.counts.dictionary
dictionary_with v l (some n) = cond (held v l n) v.counts.dictionary (added v.counts.dictionary n)

abbrev pub text_with : View → Storage → Option Name → List ℕ
text_with v l none = l.text
text_with v l (some n) = cond (held v l n) l.text (write (text_size v.counts.dictionary) n l.text)

abbrev pub ends_with : View → Storage → Option Name → List ℕ
ends_with v l none = l.ends
ends_with v l (some n) = cond (held v l n) l.ends (set l.ends (field_names v.counts.dictionary) (text_size v.counts.dictionary + length n))

-- ---- the next value's entry in the innermost container

-- of the name given; without one, which an object refuses (5), there is no entry
abbrev pub id_for : View → Storage → Option Name → ℕ
id_for v l none = 0
id_for v l (some n) = id_of v l n

-- where the entry of a live name stands
abbrev pub place_for : View → Storage → Option Name → ℕ
place_for v l nm = v.inner.entries + seek (id_for v l nm) (inner_entries v l)

-- "A second field of a live name, where uniqueness is off, moves that name's offset"; any other field is a new entry. Document 02, A8, "List elements
-- shall take no entries".
abbrev pub entries_with : View → Storage → Option Name → List ℕ
entries_with v l nm =
    cond (new_entry v l nm) (set_entry l.entries v.counts.entries (record { id = id_for v l nm; offset = inner_size v }))
    (cond (live_under v l nm) (set l.entries (2 * place_for v l nm + 1) (inner_size v)) l.entries)

abbrev pub count_with : View → Storage → Option Name → ℕ
count_with v l nm = cond (new_entry v l nm) (v.counts.entries + 1) v.counts.entries

abbrev pub former_offset : View → Storage → Option Name → ℕ
former_offset v l nm = (entry_at l.entries (place_for v l nm)).offset

-- "either "new field" or "replaced" with id and former offset"; the top container's, which is left free, is new
abbrev pub parent_with : View → Storage → Option Name → Optional Entry
parent_with v l nm = cond (live_under v l nm) (Some (record { id = id_for v l nm; offset = former_offset v l nm })) None

-- document 02, A9: "Each replacement in an object with a mark takes one undo record", the id and the former offset; the newest is last
abbrev pub undo_with : View → Storage → Option Name → List ℕ
undo_with v l nm =
    cond (recorded v l nm) (set_entry l.undo v.counts.undo (record { id = id_for v l nm; offset = former_offset v l nm })) l.undo

abbrev pub undo_count_with : View → Storage → Option Name → ℕ
undo_count_with v l nm = cond (recorded v l nm) (v.counts.undo + 1) v.counts.undo

-- ---- each call, carried out

-- what it leaves of the counts and of the storage
pub record Left : Type 0 where
  pub counts : Counts
  pub storage : Storage

abbrev pub with_counts : Counts → ℕ → ℕ → ℕ → ℕ → MetadataBuilder → Counts
with_counts c value entries undo depth dictionary =
    record {
      value = value;
      entries = entries;
      undo = undo;
      depth = depth;
      dictionary = dictionary;
      unique = c.unique;
      finished = c.finished;
      floor = c.floor;
    }

-- document 02, A1: "A new name belongs to the innermost open container and goes when that one is rolled back": it comes behind that one's
-- starting mark of names, which stays
unfoldable pub registered : View → Storage → Name → Left
registered v l n =
    let c = v.counts in
    record {
      counts = with_counts c c.value c.entries c.undo c.depth (dictionary_with v l (some n));
      storage = storage_of l.value (text_with v l (some n)) (ends_with v l (some n)) l.entries l.undo;
    }

unfoldable pub appended : View → Storage → Option Name → Scalars → Left
appended v l nm x =
    let c = v.counts in
    let bs = scalar_bytes (scalar_of x) in
    record {
      counts = with_counts c (c.value + length bs) (count_with v l nm) (undo_count_with v l nm) c.depth (dictionary_with v l nm);
      storage = storage_of (write c.value bs l.value) (text_with v l nm) (ends_with v l nm) (entries_with v l nm) (undo_with v l nm);
    }

unfoldable pub opened : View → Storage → Option Name → Left
opened v l nm =
    let c = v.counts in
    record {
      counts = with_counts c c.value (count_with v l nm) (undo_count_with v l nm) (c.depth + 1) (dictionary_with v l nm);
      storage = storage_of l.value (text_with v l nm) (ends_with v l nm) (entries_with v l nm) (undo_with v l nm);
    }

-- "Its starting marks are the used counts at its opening: value bytes; names and name bytes before its own name; entries
-- after its own entry"; A9, "the undo count after a container's own record joins its starting marks"
unfoldable pub new_container : View → Storage → Option Name → Bool → Container
new_container v l nm object =
    let c = v.counts in
    record {
      value = c.value;
      names = field_names c.dictionary;
      text = text_size c.dictionary;
      entries = count_with v l nm;
      undo = undo_count_with v l nm;
      parent = parent_with v l nm;
      object = object;
      unique = unique_now v;
      marks = 0;
    }

-- left free by document 01: the freed entries after a close. Those of an object are in sorted order, those of a list as
-- they were.
unfoldable pub entries_closed : View → Storage → List ℕ
entries_closed v l = cond v.inner.object (put_entries v.inner.entries (sort (names_held v l) (inner_entries v l)) l.entries) l.entries

-- A9, a record is "free again after .. the object's end"; what freed records hold is left free, here and below: they are as they were
unfoldable pub closed : View → Storage → Left
closed v l =
    let c = v.counts in
    let k = v.inner in
    record {
      counts = with_counts c (c.value + length (header v l)) k.entries k.undo (c.depth - 1) c.dictionary;
      storage = storage_of (fronted k.value c.value (header v l) l.value) l.text l.ends (entries_closed v l) l.undo;
    }

-- "Rolling back such a child brings the former offset again; rolling back a new one .. takes its parent's last entry away"; a list's has none
abbrev pub entries_back : View → Storage → Optional Entry → List ℕ
entries_back v l None = l.entries
entries_back v l (Some former) = set l.entries (2 * (v.parent.entries + seek former.id (parent_entries v l)) + 1) former.offset

abbrev pub count_back : Bool → ℕ → Optional Entry → ℕ
count_back object n None = cond object (n - 1) n
count_back object n (Some former) = n

-- A9, a record is "free again after .. a roll back of the replacing child"
abbrev pub undo_back : Container → Container → ℕ
undo_back k parent = cond (recorded_child k parent) (k.undo - 1) k.undo

-- left free by document 01: the freed entries, names and name bytes after a roll back. They are as they were.
unfoldable pub rolled_back : View → Storage → Left
rolled_back v l =
    let c = v.counts in
    let k = v.inner in
    let below = ltb 1 c.depth in
    let entries = cond below (count_back v.parent.object k.entries k.parent) k.entries in
    let undo = cond below (undo_back k v.parent) k.undo in
    record {
      counts = with_counts c k.value entries undo (c.depth - 1) (from_parts k.names k.text);
      storage = storage_of l.value l.text l.ends (cond below (entries_back v l k.parent) l.entries) l.undo;
    }

-- the innermost with another uniqueness mark
unfoldable pub with_unique : Container → Bool → Container
with_unique k u =
    record {
      value = k.value;
      names = k.names;
      text = k.text;
      entries = k.entries;
      undo = k.undo;
      parent = k.parent;
      object = k.object;
      unique = u;
      marks = k.marks;
    }

unfoldable pub finished : Counts → Counts
finished c =
    record {
      value = c.value;
      entries = c.entries;
      undo = c.undo;
      depth = c.depth;
      dictionary = c.dictionary;
      unique = c.unique;
      finished = true;
      floor = c.floor;
    }

-- "finish writes only the dictionary"
unfoldable pub dictionary_of : View → Storage → List ℕ
dictionary_of v l = dictionary v.counts.floor (names_held v l)

-- ---- marks: document 02, A9

-- the innermost with another number of marks set
unfoldable pub with_marks : Container → ℕ → Container
with_marks k n =
    record {
      value = k.value;
      names = k.names;
      text = k.text;
      entries = k.entries;
      undo = k.undo;
      parent = k.parent;
      object = k.object;
      unique = k.unique;
      marks = n;
    }

-- a mark written in the table
unfoldable pub put_mark : List ℕ → ℕ → Mark → List ℕ
put_mark ms at p =
    let counts = set (set (set ms at p.value) (at + 1) p.names) (at + 2) p.text in
    set (set (set (set counts (at + 3) p.entries) (at + 4) p.undo) (at + 5) p.count) (at + 6) (cond p.unique 1 0)

-- "fields, elements, names, used bytes, replaced offsets and the uniqueness mark" as they are, for a return
abbrev pub new_mark : View → Mark
new_mark v = mark_now v.counts v.elements v.inner.unique

-- left free: the table beyond the marks that are set. It is as it was.
abbrev pub marks_after : View → Call → List ℕ → List ℕ
marks_after v (register n) ms = ms
marks_after v (append nm x) ms = ms
marks_after v (open_in nm k) ms = ms
marks_after v close ms = ms
marks_after v roll_back ms = ms
marks_after v (uniqueness u) ms = ms
marks_after v set_mark ms = put_mark ms (slot_of (v.counts.depth - 1) (v.inner.marks + 1)) (new_mark v)
marks_after v (return_to j) ms = ms
marks_after v (finish out) ms = ms

-- the mark that a return goes to; other calls have none
abbrev pub mark_to : View → List ℕ → Call → Mark
mark_to v ms (register n) = no_mark
mark_to v ms (append nm x) = no_mark
mark_to v ms (open_in nm k) = no_mark
mark_to v ms close = no_mark
mark_to v ms roll_back = no_mark
mark_to v ms (uniqueness u) = no_mark
mark_to v ms set_mark = no_mark
mark_to v ms (return_to j) = mark_at ms (slot_of (v.counts.depth - 1) j)
mark_to v ms (finish out) = no_mark

-- "it cuts entries first, then undoes records newest first, passing over an id without an entry"; a list has no entries
unfoldable pub entries_returned : View → Storage → Mark → List ℕ
entries_returned v l p =
    cond v.inner.object (undone_from l.entries v.inner.entries p.entries l.undo p.undo v.counts.undo) l.entries

-- a return: "fields, elements, names, used bytes, replaced offsets and the uniqueness mark are as at that mark"; a record is "free again after a
-- return to an earlier mark"
unfoldable pub returned : View → Storage → Mark → Left
returned v l p =
    let c = v.counts in
    record {
      counts = with_counts c p.value p.entries p.undo c.depth (from_parts p.names p.text);
      storage = storage_of l.value l.text l.ends (entries_returned v l p) l.undo;
    }

-- ---- any call, carried out

-- p being the mark that a return goes to
abbrev pub carried_out : View → Storage → Mark → Call → Left
carried_out v l p (register n) = registered v l n
carried_out v l p (append nm x) = appended v l nm x
carried_out v l p (open_in nm k) = opened v l nm
carried_out v l p close = closed v l
carried_out v l p roll_back = rolled_back v l
carried_out v l p (uniqueness u) = record { counts = v.counts; storage = l }
carried_out v l p set_mark = record { counts = v.counts; storage = l }
carried_out v l p (return_to j) = returned v l p
carried_out v l p (finish out) = record { counts = finished v.counts; storage = l }

-- left free by document 01: the containers beyond the depth. They are as they were. A9, of a return: the mark "stays set", "later marks are gone".
abbrev pub containers_after : View → Storage → Mark → Call → List Container → List Container
containers_after v l p (register n) ks = ks
containers_after v l p (append nm x) ks = ks
containers_after v l p (open_in nm object) ks = set ks v.counts.depth (new_container v l nm object)
containers_after v l p close ks = ks
containers_after v l p roll_back ks = ks
containers_after v l p (uniqueness u) ks = set ks (v.counts.depth - 1) (with_unique v.inner u)
containers_after v l p set_mark ks = set ks (v.counts.depth - 1) (with_marks v.inner (v.inner.marks + 1))
containers_after v l p (return_to j) ks = set ks (v.counts.depth - 1) (with_marks (with_unique v.inner p.unique) j)
containers_after v l p (finish out) ks = ks

-- ---- the elements of the open lists: document 02, A8, "a list's count stands for its entries"

-- a value enters: of a list it is one element more
abbrev pub elements_with : View → List ℕ → List ℕ
elements_with v ns = cond (in_list v) (set ns (v.counts.depth - 1) (v.elements + 1)) ns

-- a new child rolled back: its list has one element less
abbrev pub elements_back : View → Optional Entry → List ℕ → List ℕ
elements_back v None ns = cond v.parent.object ns (set ns (v.counts.depth - 2) (v.siblings - 1))
elements_back v (Some former) ns = ns

-- left free: those of objects, which are 0 at their opening, and at a return as the mark says; and those beyond the depth, which are as they were
abbrev pub elements_after : View → Mark → Call → List ℕ → List ℕ
elements_after v p (register n) ns = ns
elements_after v p (append nm x) ns = elements_with v ns
elements_after v p (open_in nm object) ns = set (elements_with v ns) v.counts.depth 0
elements_after v p close ns = ns
elements_after v p roll_back ns = cond (ltb 1 v.counts.depth) (elements_back v v.inner.parent ns) ns
elements_after v p (uniqueness u) ns = ns
elements_after v p set_mark ns = ns
elements_after v p (return_to j) ns = set ns (v.counts.depth - 1) p.count
elements_after v p (finish out) ns = ns

abbrev pub output_of : View → Storage → Call → List ℕ
output_of v l (register n) = []
output_of v l (append nm x) = []
output_of v l (open_in nm k) = []
output_of v l close = []
output_of v l roll_back = []
output_of v l (uniqueness u) = []
output_of v l set_mark = []
output_of v l (return_to j) = []
output_of v l (finish out) = write 0 (dictionary_of v l) out

abbrev pub written_by : View → Storage → Call → ℕ
written_by v l (register n) = 0
written_by v l (append nm x) = 0
written_by v l (open_in nm k) = 0
written_by v l close = 0
written_by v l roll_back = 0
written_by v l (uniqueness u) = 0
written_by v l set_mark = 0
written_by v l (return_to j) = 0
written_by v l (finish out) = length (dictionary_of v l)

-- the output as it was lent
abbrev pub lent_output : Call → List ℕ
lent_output (register n) = []
lent_output (append nm x) = []
lent_output (open_in nm k) = []
lent_output close = []
lent_output roll_back = []
lent_output (uniqueness u) = []
lent_output set_mark = []
lent_output (return_to j) = []
lent_output (finish out) = out

-- ---- the step

-- a call's number, 0 where it is carried out; the state then; of finish its output then, and how many bytes it wrote
pub record Outcome : Type 0 where
  pub number : ℕ
  pub state : State
  pub output : List ℕ
  pub written : ℕ

-- the state with what a call that is carried out leaves
unfoldable pub after : State → Call → State
after s c =
    let v = view_at s in
    let l = s.storage in
    let p = mark_to v s.marks c in
    record {
      builder =
          record {
            containers = containers_after v l p c s.builder.containers;
            elements = elements_after v p c s.builder.elements;
            counts = (carried_out v l p c).counts;
          };
      marks = marks_after v c s.marks;
      storage = (carried_out v l p c).storage;
    }

-- "after a number the builder and all the storage are as before"
unfoldable pub step : State → Call → Outcome
step s c =
    let v = view_at s in
    let n = number_of v s.storage c in
    cond (eqb n 0) (record { number = 0; state = after s c; output = output_of v s.storage c; written = written_by v s.storage c })
    (record { number = n; state = s; output = lent_output c; written = 0 })

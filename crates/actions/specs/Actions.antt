-- What a call over pieces of the record gives back and leaves behind, by the definitions of `semantics`; and, for the code, the parts
-- that calls share.
use Rattle.std.specs.Prelude.{◌≡◌, Bool, true, false, cond, not, ◌&&◌, List, [], ℕ, ◌+◌, ◌-◌, ◌*◌, eqb, leb, ltb, length, set, is_some, Option as Optional, Some, None, Result, Ok, Err, IfOk}
use Rattle.std.proofs.Math.Option.{Option, none, some}
use Rattle.encoding.specs.Slices.{write}
use Rattle.metadata.specs.declared.MetadataBuilder.{MetadataBuilder}
use Rattle.metadata.specs.Names.{Name, field_names, text_size}
use Rattle.metadata.specs.Calls.{added, from_parts, has_room}
use Rattle.container.specs.declared.Entry.{Entry}
use Rattle.container.specs.declared.Frame.{Frame}
use Rattle.container.specs.Entries.{entry_at, room_for, set_entry}
use Rattle.container.specs.Undo.{undone_in}
use Rattle.container.specs.Close.{Closed, Closes, closed_number, outside}
use Rattle.list.specs.Close.{damaged as damaged_list}
use Rattle.semantics.specs.declared.Counts.{Counts}
use Rattle.semantics.specs.declared.Mark.{Mark}
use Rattle.semantics.specs.declared.Container.{Container}
use Rattle.semantics.specs.declared.View.{View}
use Rattle.semantics.specs.declared.refusal.Refusal.{Refusal}
use Rattle.semantics.specs.Refusal.{number_told, refusal_number, then_or}
use Rattle.semantics.specs.Record.{Storage, Call, register, append, open_in, close, roll_back, uniqueness, set_mark, return_to, finish, no_mark, in_list, unique_now}
use Rattle.semantics.specs.Table.{header, number_of}
use Rattle.semantics.specs.Step.{carried_out, count_with, dictionary_of, dictionary_with, ends_with, entries_closed, entries_with, finished, new_container, new_mark, parent_with, text_with, undo_count_with, undo_with, with_counts, with_marks, with_unique}
use Rattle.actions.specs.declared.Moved.{Moved}
use Rattle.actions.specs.declared.Opened.{Opened}
use Rattle.actions.specs.declared.Marked.{Marked}
use Rattle.actions.specs.declared.Returned.{Returned}
use Rattle.actions.specs.declared.Ended.{Ended}
use Rattle.actions.specs.declared.enter.Entered.{Entered}
use Rattle.actions.specs.declared.enter.Put.{Put}
use Rattle.actions.specs.declared.enter.Put.TheVariants.{Nothing, Fresh, Live}

-- one more where it is so
abbrev pub one_more : Bool → ℕ → ℕ
one_more more n = cond more (n + 1) n

-- a parent's elements when a child of it is rolled back: a list's are one less for a new one
abbrev pub siblings_back : Bool → ℕ → Optional Entry → ℕ
siblings_back object n None = cond (not object) (n - 1) n
siblings_back object n (Some former) = n

-- how many elements the container has that is innermost after a call, of those in the record by `elements_after` (`elements_left_lem`,
-- proofs/ElementLaws)
abbrev pub elements_left : View → Mark → Call → ℕ
elements_left v p (register n) = v.elements
elements_left v p (append nm x) = one_more (in_list v) v.elements
elements_left v p (open_in nm object) = 0
elements_left v p close = v.siblings
elements_left v p roll_back = siblings_back v.parent.object v.siblings v.inner.parent
elements_left v p (uniqueness u) = v.elements
elements_left v p set_mark = v.elements
elements_left v p (return_to j) = p.count
elements_left v p (finish out) = v.elements

-- the innermost of d open containers has n elements
abbrev pub elements_put : List ℕ → ℕ → ℕ → List ℕ
elements_put ns d n = cond (ltb 0 d) (set ns (d - 1) n) ns

-- what a call that goes to no mark leaves, but for the storage
abbrev pub moved_to : View → Storage → Call → Moved
moved_to v l c = record { counts = (carried_out v l no_mark c).counts; elements = elements_left v no_mark c }

-- and what one leaves that is refused
abbrev pub unmoved : View → Moved
unmoved v = record { counts = v.counts; elements = v.elements }

-- the number, the counts, the elements and the storage of a call that goes to no mark
pub record Leaves (v : View) (l : Storage) (c : Call) (r : Result Moved Refusal) (after : Storage) : Type 0 where
  pub number : number_told r ≡ number_of v l c
  pub moved : then_or (unmoved v) r ≡ cond (eqb (number_of v l c) 0) (moved_to v l c) (unmoved v)
  pub storage : after ≡ cond (eqb (number_of v l c) 0) (carried_out v l no_mark c).storage l

-- of an open also the container; the elements are of the one that was innermost
abbrev pub opened_to : View → Storage → Option Name → Bool → Opened
opened_to v l nm object =
    record { counts = (carried_out v l no_mark (open_in nm object)).counts; elements = one_more (in_list v) v.elements; container = new_container v l nm object }

abbrev pub unopened : View → Opened
unopened v = record { counts = v.counts; elements = v.elements; container = v.inner }

pub record Opens (v : View) (l : Storage) (nm : Option Name) (object : Bool) (r : Result Opened Refusal) (after : Storage) : Type 0 where
  pub number : number_told r ≡ number_of v l (open_in nm object)
  pub opened : then_or (unopened v) r ≡ cond (eqb (number_of v l (open_in nm object)) 0) (opened_to v l nm object) (unopened v)
  pub storage : after ≡ cond (eqb (number_of v l (open_in nm object)) 0) (carried_out v l no_mark (open_in nm object)).storage l

-- of the uniqueness mark the innermost container
pub record SetsUnique (v : View) (l : Storage) (u : Bool) (r : Result Container Refusal) : Type 0 where
  pub number : number_told r ≡ number_of v l (uniqueness u)
  pub container : then_or v.inner r ≡ cond (eqb (number_of v l (uniqueness u)) 0) (with_unique v.inner u) v.inner

-- of a mark that is set the innermost container with it, and what it holds
abbrev pub marked_to : View → Marked
marked_to v = record { container = with_marks v.inner (v.inner.marks + 1); mark = new_mark v }

abbrev pub unmarked : View → Marked
unmarked v = record { container = v.inner; mark = new_mark v }

pub record SetsMark (v : View) (l : Storage) (r : Result Marked Refusal) : Type 0 where
  pub number : number_told r ≡ number_of v l set_mark
  pub marked : then_or (unmarked v) r ≡ cond (eqb (number_of v l set_mark) 0) (marked_to v) (unmarked v)

-- a mark's entries lie between the innermost's starting mark and those used
abbrev pub reachable : View → Mark → Bool
reachable v p = leb v.inner.entries p.entries && leb p.entries v.counts.entries

-- of a return to mark j, which is p, also the container; a mark that is set in a builder of number 0 is reachable
abbrev pub returned_to : View → Storage → Mark → ℕ → Returned
returned_to v l p j =
    record { counts = (carried_out v l p (return_to j)).counts; elements = elements_left v p (return_to j); container = with_marks (with_unique v.inner p.unique) j }

abbrev pub unreturned : View → Returned
unreturned v = record { counts = v.counts; elements = v.elements; container = v.inner }

pub record Returns (v : View) (l : Storage) (p : Mark) (j : ℕ) (r : Result Returned Refusal) (after : Storage) : Type 0 where
  pub number : number_told r ≡ number_of v l (return_to j)
  pub returned : then_or (unreturned v) r ≡ cond (eqb (number_of v l (return_to j)) 0) (returned_to v l p j) (unreturned v)
  pub storage : (number_of v l (return_to j) ≡ 0 → reachable v p ≡ true) → after ≡ cond (eqb (number_of v l (return_to j)) 0) (carried_out v l p (return_to j)).storage l

-- of a finish also the bytes written, and the output
abbrev pub ended_to : View → Storage → Ended
ended_to v l = record { counts = finished v.counts; written = length (dictionary_of v l) }

abbrev pub unended : View → Ended
unended v = record { counts = v.counts; written = 0 }

pub record Ends (v : View) (l : Storage) (out : List ℕ) (r : Result Ended Refusal) (after : List ℕ) : Type 0 where
  pub number : number_told r ≡ number_of v l (finish out)
  pub ended : then_or (unended v) r ≡ cond (eqb (number_of v l (finish out)) 0) (ended_to v l) (unended v)
  pub output : after ≡ cond (eqb (number_of v l (finish out)) 0) (write 0 (dictionary_of v l) out) out

-- ---- a name added where it is new
abbrev pub given : Option Name → Name
given none = []
given (some n) = n

abbrev pub adds : Bool → MetadataBuilder → List ℕ → List ℕ → Option Name → Bool
adds new m text ends none = false
adds new m text ends (some n) = new && has_room m text ends n

pub record Registers (new : Bool) (m : MetadataBuilder) (text ends : List ℕ) (nm : Option Name) (r : MetadataBuilder) (textAfter endsAfter : List ℕ) : Type 0 where
  pub metadata : r ≡ cond (adds new m text ends nm) (added m (given nm)) m
  pub text_left : textAfter ≡ cond (adds new m text ends nm) (write (text_size m) (given nm) text) text
  pub ends_left : endsAfter ≡ cond (adds new m text ends nm) (set ends (field_names m) (text_size m + length (given nm))) ends

-- ---- the entry of a value: in the place of a live name's, or in an object the next one
abbrev pub put_by : Bool → Optional ℕ → Bool → ℕ → ℕ → Put
put_by object (Some place) marked entries undo = Live place (cond marked (Some undo) None)
put_by object None marked entries undo = cond object (Fresh entries) Nothing

abbrev pub fresh_put : Put → Bool
fresh_put Nothing = false
fresh_put (Fresh place) = true
fresh_put (Live place r) = false

abbrev pub recorded_put : Put → Bool
recorded_put Nothing = false
recorded_put (Fresh place) = false
recorded_put (Live place r) = is_some r

-- as it is put
abbrev pub put_entries : Put → ℕ → ℕ → List ℕ → List ℕ
put_entries Nothing id offset es = es
put_entries (Fresh place) id offset es = cond (ltb place (room_for (length es))) (set_entry es place (record { id = id; offset = offset })) es
put_entries (Live place r) id offset es = set es (2 * place + 1) offset

abbrev pub entries_put : Entered → List ℕ → List ℕ
entries_put e es = put_entries e.put e.id e.offset es

abbrev pub put_parent : Put → ℕ → List ℕ → Optional Entry
put_parent Nothing id es = None
put_parent (Fresh place) id es = None
put_parent (Live place r) id es = Some (record { id = id; offset = (entry_at es place).offset })

abbrev pub parent_put : Entered → List ℕ → Optional Entry
parent_put e es = put_parent e.put e.id es

-- the undo record of a replaced entry, as it is put
abbrev pub record_put : Optional ℕ → ℕ → ℕ → List ℕ → List ℕ
record_put None id former us = us
record_put (Some slot) id former us = cond (ltb slot (room_for (length us))) (set_entry us slot (record { id = id; offset = former })) us

abbrev pub put_undo : Put → ℕ → List ℕ → List ℕ → List ℕ
put_undo Nothing id es us = us
put_undo (Fresh place) id es us = us
put_undo (Live place r) id es us = record_put r id (entry_at es place).offset us

abbrev pub undo_put : Entered → List ℕ → List ℕ → List ℕ
undo_put e es us = put_undo e.put e.id es us

-- the counts with a name, an entry where a value is entered, a value of that size and, of an open, a container more
abbrev pub counts_with : View → Storage → Option Name → Bool → Bool → ℕ → Counts
counts_with v l nm into opens size =
    with_counts v.counts (v.counts.value + size) (cond into (count_with v l nm) v.counts.entries) (cond into (undo_count_with v l nm) v.counts.undo) (one_more opens v.counts.depth) (dictionary_with v l nm)

-- the entry that it hands on, by what `note` makes of it; a register, of which `into` is false, puts none
pub record Enters (v : View) (l : Storage) (nm : Option Name) (into : Bool) (e : Entered) : Type 0 where
  pub entries : entries_put e l.entries ≡ cond into (entries_with v l nm) l.entries
  pub undo : undo_put e l.entries l.undo ≡ cond into (undo_with v l nm) l.undo
  pub parent : parent_put e l.entries ≡ cond into (parent_with v l nm) None

-- the counts, the elements and the uniqueness mark that it gives, or where it is refused those that its caller has
abbrev pub counts_told : View → Result Entered Refusal → Counts
counts_told v (Ok e) = e.counts
counts_told v (Err r) = v.counts

abbrev pub elements_told : View → Result Entered Refusal → ℕ
elements_told v (Ok e) = e.elements
elements_told v (Err r) = v.elements

abbrev pub unique_told : View → Result Entered Refusal → Bool
unique_told v (Ok e) = e.unique
unique_told v (Err r) = unique_now v

-- what a register, an append or an open of number n leaves, up to the entry and the value's bytes
pub record EntersBy (v : View) (l : Storage) (nm : Option Name) (into opens : Bool) (size n : ℕ) (r : Result Entered Refusal) (text ends : List ℕ) : Type 0 where
  pub number : number_told r ≡ n
  pub counts : counts_told v r ≡ cond (eqb n 0) (counts_with v l nm into opens size) v.counts
  pub elements : elements_told v r ≡ cond (eqb n 0) (one_more (into && in_list v) v.elements) v.elements
  pub unique : unique_told v r ≡ unique_now v
  pub text_left : text ≡ cond (eqb n 0) (text_with v l nm) l.text
  pub ends_left : ends ≡ cond (eqb n 0) (ends_with v l nm) l.ends
  pub entry : IfOk r (Enters v l nm into)

-- the same where a refusal is said by its number, of any flags and any own number of the scalar's: none where it is carried out
abbrev pub refused_by : Result Entered ℕ → Optional ℕ
refused_by (Ok e) = None
refused_by (Err k) = Some k

abbrev pub counts_or : View → Result Entered ℕ → Counts
counts_or v (Ok e) = e.counts
counts_or v (Err k) = v.counts

abbrev pub elements_or : View → Result Entered ℕ → ℕ
elements_or v (Ok e) = e.elements
elements_or v (Err k) = v.elements

abbrev pub unique_or : View → Result Entered ℕ → Bool
unique_or v (Ok e) = e.unique
unique_or v (Err k) = unique_now v

pub record EntersNumber (v : View) (l : Storage) (nm : Option Name) (into opens : Bool) (size n : ℕ) (r : Result Entered ℕ) (text ends : List ℕ) : Type 0 where
  pub number : refused_by r ≡ cond (eqb n 0) None (Some n)
  pub counts : counts_or v r ≡ cond (eqb n 0) (counts_with v l nm into opens size) v.counts
  pub elements : elements_or v r ≡ cond (eqb n 0) (one_more (into && in_list v) v.elements) v.elements
  pub unique : unique_or v r ≡ unique_now v
  pub text_left : text ≡ cond (eqb n 0) (text_with v l nm) l.text
  pub ends_left : ends ≡ cond (eqb n 0) (ends_with v l nm) l.ends
  pub entry : IfOk r (Enters v l nm into)

-- for the code: that answer from `enter_over`'s, which is of a register where one opens but enters nothing; the container is one more then
abbrev pub deeper : Bool → Entered → Entered
deeper alone e =
    record {
      counts = with_counts e.counts e.counts.value e.counts.entries e.counts.undo (one_more alone e.counts.depth) e.counts.dictionary;
      elements = e.elements;
      id = e.id;
      offset = e.offset;
      put = e.put;
      unique = e.unique;
    }

abbrev pub said : Bool → Result Entered Refusal → Result Entered ℕ
said alone (Ok e) = Ok (deeper alone e)
said alone (Err r) = Err (refusal_number r)

abbrev pub moved_by : Entered → Moved
moved_by e = record { counts = e.counts; elements = e.elements }

-- the container that opens, of the counts before and what was entered
abbrev pub child_of : Counts → Entered → Optional Entry → Bool → Container
child_of c e p object =
    record { value = c.value; names = field_names c.dictionary; text = text_size c.dictionary; entries = e.counts.entries; undo = e.counts.undo; parent = p; object = object; unique = e.unique; marks = 0 }

-- ---- the innermost's header put before its data

-- an object's frame
abbrev pub frame_of : View → Frame
frame_of v = record { start = v.inner.value; used = v.counts.value; from = v.inner.entries; to = v.counts.entries; floor = v.counts.floor }

-- damage that is found as the header is put: an object's marks and counts, a list's and its data
abbrev pub damaged_front : View → Storage → Bool
damaged_front v l =
    cond v.inner.object (outside (frame_of v) (length l.value) (length l.entries))
    (damaged_list v.inner.value v.counts.value v.elements l.value)

pub record Fronts (v : View) (l : Storage) (r : Closed) (value entries : List ℕ) : Type 0 where
  pub front : Closes (damaged_front v l) v.inner.value v.counts.value (header v l) l.value r value
  pub entries_left : entries ≡ cond (eqb (closed_number r) 0) (entries_closed v l) l.entries

-- ---- a parent's entry undone: the former offset, at its place
abbrev pub entries_undone : List ℕ → Optional ℕ → Optional Entry → List ℕ
entries_undone es None p = es
entries_undone es (Some place) None = es
entries_undone es (Some place) (Some former) = set es (2 * place + 1) former.offset

-- ---- a return: the counts of the mark, and its entries, as the code has them for any mark
abbrev pub counts_at : Counts → Mark → Counts
counts_at c p = with_counts c p.value p.entries p.undo c.depth (from_parts p.names p.text)

abbrev pub entries_at : View → Storage → Mark → List ℕ
entries_at v l p = cond v.inner.object (undone_in l.entries v.inner.entries p.entries l.undo p.undo v.counts.undo) l.entries

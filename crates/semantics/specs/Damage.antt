-- Number 1 of document 01's table, clause by clause.
use Rattle.std.specs.Prelude.{Bool, true, false, cond, not, ◌&&◌, ◌||◌, List, ℕ, eqb, leb, ltb, length, take, Option as Optional, Some, None}
use Rattle.std.proofs.Math.Option.{Option, none, some}
use Rattle.encoding.specs.Slices.{counted}
use Rattle.metadata.specs.Names.{Name, exceeds, risen, field_names, text_size}
use Rattle.container.specs.Entries.{misplaced, room_for, seek}
use Rattle.container.specs.declared.Entry.{Entry}
use Rattle.measure.specs.Measure.{whole_values}
use Rattle.semantics.specs.declared.Container.{Container}
use Rattle.semantics.specs.declared.View.{View}
use Rattle.semantics.specs.Record.{Storage, Call, register, append, open_in, close, roll_back, uniqueness, set_mark, return_to, finish, good_floor, countable, in_object, in_list, inner_size, inner_data, parent_size, inner_entries, parent_entries}

-- "a used count exceeds its lent buffer"; document 02, A9, of the undo records: "Number 1 covers the used count"
unfoldable pub over_used : View → Storage → Bool
over_used v l =
    let c = v.counts in
    ltb (counted (length l.value)) c.value
    || (exceeds c.dictionary (length l.text) (length l.ends)
    || (ltb (room_for (length l.entries)) c.entries || ltb (room_for (length l.undo)) c.undo))

-- the innermost's starting marks lie within the used counts, and a list, with no child open in it, counts no more than its data bytes
abbrev pub grown : View → Bool
grown v =
    let k = v.inner in
    let c = v.counts in
    leb k.value c.value
    && (leb k.names (field_names c.dictionary)
    && (leb k.text (text_size c.dictionary)
    && (leb k.entries c.entries && (leb k.undo c.undo && countable k v.elements (inner_size v)))))

-- "over 64 containers are open, or their starting marks fall or exceed the used counts"; document 02, A8, "a count above the list's data bytes, plus
-- one for a child open in it, is 1 at every call"; and the marks (`marks_fit`)
unfoldable pub unchained : View → Bool
unchained v = not (v.chain && grown v)

-- document 02, A10: "a builder found holding another is 1 at every call"
unfoldable pub bad_floor : View → Bool
bad_floor v = not (good_floor v.counts.floor)

-- "a name end that the call reads falls, or the last one (0 without names) isn't the used name bytes"
unfoldable pub fallen_ends : View → Storage → Bool
fallen_ends v l = not (risen 0 (take (field_names v.counts.dictionary) l.ends) (text_size v.counts.dictionary))

-- "an entry that it reads has an offset beyond its container's data .. or, in an object, an id not below the name count":
-- the innermost's entries, and the parent's. Document 02, A8, "List elements shall take no entries": a list has none.
unfoldable pub misplaced_inner : View → Storage → Bool
misplaced_inner v l = in_object v && misplaced true (field_names v.counts.dictionary) (inner_size v) (inner_entries v l)

unfoldable pub misplaced_parent : View → Storage → Bool
misplaced_parent v l = v.parent.object && misplaced true (field_names v.counts.dictionary) (parent_size v) (parent_entries v l)

-- A8, "the data is not as many whole values as the list counts"
unfoldable pub uncounted : View → Storage → Bool
uncounted v l = in_list v && not (whole_values v.elements (inner_data v l))

-- "a "new" child's parent has no entry, or a "replaced" child's parent is no object, has no entry of that id or has less
-- data than the former offset"; A8, "a list's count stands for its entries": n is that count
abbrev pub orphaned : Optional Entry → Bool → ℕ → ℕ → List Entry → Bool
orphaned None object n size es = eqb (cond object (length es) n) 0
orphaned (Some former) object n size es = not object || (not (ltb (seek former.id es) (length es)) || ltb size former.offset)

-- A9, "a replacing child under a mark": it took an undo record
abbrev pub replacing : Optional Entry → Bool
replacing None = false
replacing (Some former) = true

abbrev pub recorded_child : Container → Container → Bool
recorded_child k parent = replacing k.parent && ltb 0 parent.marks

-- A9, "at roll back, a replacing child under a mark whose starting undo count is its parent's"
abbrev pub unrecorded : Container → Container → Bool
unrecorded k parent = recorded_child k parent && eqb k.undo parent.undo

-- "at roll back below the top level": two or more are open
unfoldable pub damaged_parent : View → Storage → Bool
damaged_parent v l =
    ltb 1 v.counts.depth
    && (misplaced_parent v l
    || (orphaned v.inner.parent v.parent.object v.siblings (parent_size v) (parent_entries v l) || unrecorded v.inner v.parent))

-- "Named calls, register and finish read all name ends; named calls also the innermost entries; close reads the innermost
-- entries and all name ends; roll back reads the parent's entries"; A8, "Where storage was altered and the data is not as many whole values as the
-- list counts, close refuses with 1"; A9, "For number 1 a return reads the innermost entries"
abbrev pub misread_by : View → Storage → Option Name → Bool
misread_by v l none = false
misread_by v l (some n) = fallen_ends v l || misplaced_inner v l

abbrev pub misread : View → Storage → Call → Bool
misread v l (register n) = fallen_ends v l
misread v l (append nm x) = misread_by v l nm
misread v l (open_in nm k) = misread_by v l nm
misread v l close = fallen_ends v l || (misplaced_inner v l || uncounted v l)
misread v l roll_back = damaged_parent v l
misread v l (uniqueness u) = false
misread v l set_mark = false
misread v l (return_to j) = misplaced_inner v l
misread v l (finish out) = fallen_ends v l

-- number 1
abbrev pub damaged : View → Storage → Bool → Bool
damaged v l misread = over_used v l || (unchained v || (bad_floor v || misread))

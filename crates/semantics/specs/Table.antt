-- Document 01's table of refused calls: for each call its rows, in the table's order, which is the order of checking.
use Rattle.std.specs.Prelude.{Bool, false, cond, not, ◌&&◌, ◌||◌, List, [], ◌∷◌, ◌++◌, ℕ, eqb, leb, ltb, length}
use Rattle.std.proofs.Math.Option.{Option, none, some}
use Rattle.encoding.specs.Rows.{Row, row, first}
use Rattle.encoding.specs.Slices.{counted, fits}
use Rattle.encoding.specs.Utf8.{utf8}
use Rattle.value.specs.Decimal.{out_of_range}
use Rattle.value.specs.Scalar.{ill_formed, scalar_bytes}
use Rattle.calendar.specs.Answers.{civil_rows}
use Rattle.packed_decimal.specs.Calls.{packed_rows}
use Rattle.metadata.specs.Names.{Name, place, field_names, text_size}
use Rattle.metadata.specs.Bytes.{size_of}
use Rattle.metadata.specs.Calls.{has_room}
use Rattle.container.specs.Entries.{ids_of, offsets_of, room_for, seek}
use Rattle.container.specs.Layout.{list_header, object_header}
use Rattle.container.specs.Sort.{sort}
use Rattle.measure.specs.Measure.{starts_in}
use Rattle.semantics.specs.declared.View.{View}
use Rattle.semantics.specs.Record.{Storage, Scalars, fixed, civil, packed, bytes, uuid, Call, register, append, open_in, close, roll_back, uniqueness, set_mark, return_to, finish, scalar_of, good_floor, is_open, in_object, inner_size, inner_data, inner_entries, names_held, unique_now}
use Rattle.semantics.specs.Damage.{misread_by, misread, damaged}

-- ---- the rows' tests

-- 5, "named where no object is innermost (top level too), or unnamed in an object"
abbrev pub misnamed : Option Name → View → Bool
misnamed none v = in_object v
misnamed (some n) v = not (in_object v)

-- 6, "no container is open, and value bytes are used"
abbrev pub second_top : View → Bool
second_top v = not (is_open v) && ltb 0 v.counts.value

-- a scalar's own: 7, "decimal or time outside its range"; of a date 17 (document 02, A2), "directly after 7", "in 7's stead" for its time; of packed
-- decimal 18 (A4), "directly before 7", and 7; and 8, "text not UTF-8, or an explicit short text over 63 bytes"
abbrev pub scalar_rows : Scalars → List Row
scalar_rows (fixed x) = row 7 (out_of_range x) ∷ []
scalar_rows (civil x) = civil_rows x
scalar_rows (packed scale bs) = packed_rows bs scale
scalar_rows (bytes k bs) = row 8 (ill_formed k bs) ∷ []
scalar_rows (uuid bs) = []

-- a name's id: the first place that holds it, or how many names are held
abbrev pub id_of : View → Storage → Name → ℕ
id_of v l n = place n (names_held v l)

abbrev pub held : View → Storage → Name → Bool
held v l n = ltb (id_of v l n) (field_names v.counts.dictionary)

-- "the name is live in this object"
abbrev pub live : View → Storage → Name → Bool
live v l n = held v l n && ltb (seek (id_of v l n) (inner_entries v l)) (length (inner_entries v l))

abbrev pub live_under : View → Storage → Option Name → Bool
live_under v l none = false
live_under v l (some n) = is_open v && live v l n

-- 9, 10 and 12, of a name that is given
abbrev pub bad_name : Option Name → Bool
bad_name none = false
bad_name (some n) = not (utf8 n)

abbrev pub taken : View → Storage → Option Name → Bool
taken v l nm = unique_now v && live_under v l nm

-- "a new name, and the name table or name bytes are full for it"
abbrev pub names_full : View → Storage → Option Name → Bool
names_full v l none = false
names_full v l (some n) = not (held v l n) && not (has_room v.counts.dictionary l.text l.ends n)

-- 13, "a new entry in an open container, and no entry is free"; document 02, A8, "List elements shall take no entries; number 13 is then left for
-- objects"
abbrev pub new_entry : View → Storage → Option Name → Bool
new_entry v l nm = in_object v && not (live_under v l nm)

abbrev pub entries_full : View → Storage → Option Name → Bool
entries_full v l nm = new_entry v l nm && leb (room_for (length l.entries)) v.counts.entries

-- 23, document 02, A9, "a replacement under a mark that finds the undo storage full": "Each replacement in an object with a mark takes one undo
-- record"
abbrev pub recorded : View → Storage → Option Name → Bool
recorded v l nm = live_under v l nm && ltb 0 v.inner.marks

abbrev pub undo_full : View → Storage → Option Name → Bool
undo_full v l nm = recorded v l nm && leb (room_for (length l.undo)) v.counts.undo

-- 22, A9, "a seventeenth mark, a mark outside any container or a return to one that isn't set"
abbrev pub no_mark_free : View → Bool
no_mark_free v = not (is_open v) || leb 16 v.inner.marks

abbrev pub not_set : View → ℕ → Bool
not_set v j = not (is_open v) || (eqb j 0 || ltb v.inner.marks j)

-- 14, "the scalar or header doesn't fit after the used bytes"
abbrev pub too_long : View → Storage → ℕ → Bool
too_long v l size = not (fits v.counts.value size (length l.value))

-- the innermost's header; of a list, A8, "its offsets can be had again by walking it at close"
unfoldable pub header : View → Storage → List ℕ
header v l =
    let es = inner_entries v l in
    let sorted = sort (names_held v l) es in
    let floor = v.counts.floor in
    cond v.inner.object (object_header floor (ids_of sorted) (offsets_of sorted) (inner_size v))
    (list_header floor (starts_in v.elements 0 (inner_data v l)) (inner_size v))

-- ---- the table

-- append's: before the scalar's own rows, behind them, and all; the scalar gives its own and the bytes that it takes
abbrev pub front_rows : View → Storage → Option Name → List Row
front_rows v l nm =
    row 1 (damaged v l (misread_by v l nm)) ∷ (row 2 v.counts.finished ∷ (row 5 (misnamed nm v) ∷ (row 6 (second_top v) ∷ [])))

abbrev pub back_rows : View → Storage → Option Name → ℕ → List Row
back_rows v l nm size =
    row 9 (bad_name nm)
    ∷ (row 10 (taken v l nm)
    ∷ (row 12 (names_full v l nm) ∷ (row 13 (entries_full v l nm) ∷ (row 23 (undo_full v l nm) ∷ (row 14 (too_long v l size) ∷ [])))))

abbrev pub append_rows : View → Storage → Option Name → List Row → ℕ → List Row
append_rows v l nm own size = front_rows v l nm ++ (own ++ back_rows v l nm size)

-- register's: document 02, A1, "Registering becomes allowed with containers open", "number 4 remains for finish"
abbrev pub rows : View → Storage → Call → List Row
rows v l (register n) =
    row 1 (damaged v l (misread v l (register n)))
    ∷ (row 2 v.counts.finished ∷ (row 9 (bad_name (some n)) ∷ (row 12 (names_full v l (some n)) ∷ [])))
rows v l (append nm x) = append_rows v l nm (scalar_rows x) (length (scalar_bytes (scalar_of x)))
rows v l (open_in nm k) =
    row 1 (damaged v l (misread v l (open_in nm k)))
    ∷ (row 2 v.counts.finished
    ∷ (row 5 (misnamed nm v)
    ∷ (row 6 (second_top v)
    ∷ (row 9 (bad_name nm)
    ∷ (row 10 (taken v l nm)
    ∷ (row 11 (leb 64 v.counts.depth)
    ∷ (row 12 (names_full v l nm) ∷ (row 13 (entries_full v l nm) ∷ (row 23 (undo_full v l nm) ∷ [])))))))))
rows v l close =
    row 1 (damaged v l (misread v l close))
    ∷ (row 2 v.counts.finished ∷ (row 3 (not (is_open v)) ∷ (row 14 (too_long v l (length (header v l))) ∷ [])))
rows v l roll_back =
    row 1 (damaged v l (misread v l roll_back)) ∷ (row 2 v.counts.finished ∷ (row 3 (not (is_open v)) ∷ []))
rows v l (uniqueness u) =
    row 1 (damaged v l (misread v l (uniqueness u))) ∷ (row 2 v.counts.finished ∷ (row 3 (not (in_object v)) ∷ []))
rows v l set_mark = row 1 (damaged v l (misread v l set_mark)) ∷ (row 2 v.counts.finished ∷ (row 22 (no_mark_free v) ∷ []))
rows v l (return_to j) =
    row 1 (damaged v l (misread v l (return_to j))) ∷ (row 2 v.counts.finished ∷ (row 22 (not_set v j) ∷ []))
rows v l (finish out) =
    row 1 (damaged v l (misread v l (finish out)))
    ∷ (row 2 v.counts.finished
    ∷ (row 4 (is_open v)
    ∷ (row 15 (eqb v.counts.value 0)
    ∷ (row 16 (not (leb (size_of v.counts.floor (field_names v.counts.dictionary) (text_size v.counts.dictionary)) (counted (length out)))) ∷ []))))

-- document 02, A10, when a builder is made: "It refuses, with 24 .., any other floor"
abbrev pub make_rows : ℕ → List Row
make_rows floor = row 24 (not (good_floor floor)) ∷ []

-- a call's number
unfoldable pub number_of : View → Storage → Call → ℕ
number_of v l c = first (rows v l c)

-- What each call's decision answers: a call's number by the rows of `semantics`, and then what its name means.
use Rattle.std.specs.Prelude.{◌≡◌, Bool, true, false, cond, not, ◌&&◌, ◌||◌, List, [], ◌∷◌, ℕ, ◌+◌, eqb, leb, ltb, drop, length, take, is_some, Option as Optional, Some, None, Result, Ok, Err}
use Rattle.std.specs.Borrow.{Bor}
use Rattle.std.proofs.Math.Option.{Option, none, some}
use Rattle.encoding.specs.Rows.{Row, row, first}
use Rattle.encoding.specs.Slices.{fits}
use Rattle.metadata.specs.Names.{Name, intact}
use Rattle.metadata.specs.declared.FieldName.{FieldName}
use Rattle.metadata.specs.declared.FieldName.TheVariants.{Found, New}
use Rattle.metadata.specs.declared.NameError.{NameError}
use Rattle.container.specs.declared.Entry.{Entry}
use Rattle.container.specs.declared.Search.{Search}
use Rattle.container.specs.Layout.{largest}
use Rattle.container.specs.Entries.{ids_of, room_for, seek}
use Rattle.semantics.specs.declared.View.{View}
use Rattle.semantics.specs.declared.refusal.Refusal.{Refusal}
use Rattle.semantics.specs.declared.refusal.Refusal.TheVariants as refusal
use Rattle.semantics.specs.Refusal.{name_refusal, number_told, refusal_number, then_or}
use Rattle.semantics.specs.Record.{Storage, storage_of, close, finish, is_open, in_object, inner_entries, parent_size, parent_entries, unique_now}
use Rattle.semantics.specs.Damage.{damaged, fallen_ends, misplaced_inner, over_used, unchained, bad_floor, damaged_parent, uncounted}
use Rattle.semantics.specs.Table.{rows, held, id_of, live_under, bad_name, misnamed, names_full, second_top, too_long}
use Rattle.semantics.specs.Step.{place_for}
use Rattle.refusals.specs.declared.Entering.{Entering}
use Rattle.refusals.specs.declared.Entering.TheVariants as entering
use Rattle.refusals.specs.declared.Field.{Field}
use Rattle.refusals.specs.declared.Field.TheVariants.{Unnamed, Fresh, Held}
use Rattle.refusals.specs.declared.Seen.{Seen}

-- document 01, "with or without a field name"
unfoldable pub name_of : Bool → Name → Option Name
name_of named name = cond named (some name) none

abbrev pub name_in : Optional (Bor Name) → Option Name
name_in None = none
name_in (Some n) = some n.now

-- the lent slices that a call sees
abbrev pub storage_in : Seen → Storage
storage_in s = storage_of s.value.now s.text.now s.ends.now s.entries.now s.undo.now

-- ---- what a name means to a call

abbrev pub is_new : View → Storage → Option Name → Bool
is_new v l none = false
is_new v l (some n) = not (held v l n)

-- live where the call enters a value: a register, of which `into` is false, enters none
abbrev pub live_into : Bool → View → Storage → Option Name → Bool
live_into into v l nm = into && live_under v l nm

unfoldable pub field_of : Bool → View → Storage → Option Name → Field
field_of into v l none = Unnamed
field_of into v l (some n) =
    cond (held v l n) (Held (id_of v l n) (cond (live_into into v l (some n)) (Some (place_for v l (some n))) None)) (Fresh (id_of v l n))

-- its id, the place of its entry where it is live, and whether it is new
abbrev pub field_id : Field → ℕ
field_id Unnamed = 0
field_id (Fresh id) = id
field_id (Held id place) = id

abbrev pub field_place : Field → Optional ℕ
field_place Unnamed = None
field_place (Fresh id) = None
field_place (Held id place) = place

abbrev pub field_fresh : Field → Bool
field_fresh Unnamed = false
field_fresh (Fresh id) = true
field_fresh (Held id place) = false

-- ---- which call it is: all but a register enter a value, and an open opens a container

abbrev pub into_of : Entering → Bool
into_of entering.Register = false
into_of entering.Append = true
into_of entering.Open = true

abbrev pub opens_of : Entering → Bool
opens_of entering.Register = false
opens_of entering.Append = false
opens_of entering.Open = true

-- ---- the answers: a number n and, where it is 0, what the call then needs; else none of that

abbrev pub no_field : Field
no_field = Unnamed

pub record Decides (n : ℕ) (into : Bool) (v : View) (l : Storage) (nm : Option Name) (r : Result Field Refusal) : Type 0 where
  pub number : number_told r ≡ n
  pub field : then_or no_field r ≡ cond (eqb n 0) (field_of into v l nm) no_field

-- a call of number n, by that number: the field where it is 0
abbrev pub field_or_number : ℕ → Field → Result Field ℕ
field_or_number n f = cond (eqb n 0) (Ok f) (Err n)

-- the place of the parent's entry that gets its former offset again, if one does
abbrev pub place_back : View → Storage → Optional Entry → Optional ℕ
place_back v l None = None
place_back v l (Some former) = Some (v.parent.entries + seek former.id (parent_entries v l))

pub record Backs (n : ℕ) (v : View) (l : Storage) (r : Result (Optional ℕ) Refusal) : Type 0 where
  pub number : number_told r ≡ n
  pub place : then_or None r ≡ cond (eqb n 0) (cond (ltb 1 v.counts.depth) (place_back v l v.inner.parent) None) None

-- number 1's part that every call asks
abbrev pub broken_of : View → Storage → Bool
broken_of v l = over_used v l || (unchained v || bad_floor v)

-- a close's, by rows 1 to 3; where neither 2 nor 3 holds it is number 1 only by what is asked besides the walk of a list's data, which closing
-- the list walks itself before anything is written
abbrev pub close_by : View → Storage → ℕ
close_by v l =
    let three = take 3 (rows v l close) in
    cond (eqb (first (drop 1 three)) 0) (cond (damaged v l (fallen_ends v l || misplaced_inner v l)) 1 0) (first three)

-- and the largest id of the innermost's entries
pub record ClosesBy (v : View) (l : Storage) (r : Result ℕ Refusal) : Type 0 where
  pub number : number_told r ≡ close_by v l
  pub largest_id : then_or 0 r ≡ cond (eqb (close_by v l) 0) (largest (ids_of (inner_entries v l))) 0

-- a finish's, by rows 1, 2, 4 and 15; where none of 2, 4 and 15 holds it is number 1 only by what every call asks: the
-- dictionary asks the name ends itself before it is written
abbrev pub finish_by : View → Storage → List ℕ → ℕ
finish_by v l out =
    let four = take 4 (rows v l (finish out)) in
    cond (eqb (first (drop 1 four)) 0) (cond (broken_of v l) 1 0) (first four)

-- ---- For the code.

abbrev pub misnamed_by : Bool → View → Bool
misnamed_by named v = cond named (not (in_object v)) (in_object v)

-- the id to be sought
abbrev pub known_id : Result FieldName NameError → ℕ
known_id (Ok (Found id)) = id
known_id (Ok (New id)) = id
known_id (Err e) = 0

-- the place of a held name's entry, where it is live, of what the pass over the entries finds of it
abbrev pub live_by : Bool → View → Search → Optional ℕ
live_by into v s = cond (into && (is_open v && ltb s.place v.counts.entries)) (Some s.place) None

-- the field of a name
abbrev pub field_by : Bool → View → Search → Result FieldName NameError → Result Field Refusal
field_by into v s (Ok (Found id)) = Ok (Held id (live_by into v s))
field_by into v s (Ok (New id)) = Ok (Fresh id)
field_by into v s (Err e) = Err (name_refusal e)

abbrev pub named_by : Bool → View → Result FieldName NameError → Search → Result Field Refusal
named_by into v k s = cond (into && (in_object v && s.misplaced)) (Err refusal.Damaged) (field_by into v s k)

-- is the name live, of what is known of it
abbrev pub live_told : Result Field Refusal → Bool
live_told (Ok f) = is_some (field_place f)
live_told (Err r) = false

-- the scalar's bytes, of what it gives: these or its own refusal
abbrev pub size_told : Result ℕ Refusal → ℕ
size_told (Ok n) = n
size_told (Err r) = 0

-- 2, 4 and 15
abbrev pub late_of : View → ℕ
late_of v = cond v.counts.finished 2 (cond (is_open v) 4 (cond (eqb v.counts.value 0) 15 0))

-- 13, from whether the name is live
abbrev pub full_by : Bool → View → Bool → ℕ → Bool
full_by into v live lent = ((into && in_object v) && not live) && leb (room_for lent) v.counts.entries

-- 23, from whether the name is live
abbrev pub unkept_by : View → Bool → ℕ → Bool
unkept_by v live lent = (live && ltb 0 v.inner.marks) && leb (room_for lent) v.counts.undo

-- the rows of a name, an entry, its undo record and room, from 9 on
abbrev pub late_rows : View → Storage → Option Name → Bool → Bool → ℕ → List Row
late_rows v l nm into opens size =
    row 9 (bad_name nm)
    ∷ (row 10 (unique_now v && live_into into v l nm)
    ∷ (row 11 (opens && leb 64 v.counts.depth)
    ∷ (row 12 (names_full v l nm)
    ∷ (row 13 (full_by into v (live_into into v l nm) (length l.entries))
    ∷ (row 23 (unkept_by v (live_into into v l nm) (length l.undo)) ∷ (row 14 (too_long v l size) ∷ []))))))

-- number 1's own part of a call that gives a name
abbrev pub misread_into : Bool → View → Storage → Option Name → Bool
misread_into into v l none = false
misread_into into v l (some n) = fallen_ends v l || (into && misplaced_inner v l)

-- the rows of a register, an append and an open: `own` is the scalar's own number, 0 where it has none; `opens` is true of an open
abbrev pub enter_rows : View → Storage → Option Name → Bool → Bool → ℕ → ℕ → List Row
enter_rows v l nm into opens own size =
    row 1 (damaged v l (misread_into into v l nm))
    ∷ (row 2 v.counts.finished
    ∷ (row 5 (into && misnamed nm v) ∷ (row 6 (into && second_top v) ∷ (row own (not (eqb own 0)) ∷ late_rows v l nm into opens size))))

-- what is known of a name: the first of rows 1 (the call's own part), 9 and 12 that holds, and its field
pub record Sees (into : Bool) (v : View) (l : Storage) (nm : Option Name) (r : Result Field Refusal) : Type 0 where
  pub number : number_told r ≡ cond (misread_into into v l nm) 1 (cond (bad_name nm) 9 (cond (names_full v l nm) 12 0))
  pub live : misread_into into v l nm ≡ false → bad_name nm ≡ false → live_told r ≡ live_into into v l nm
  pub field : number_told r ≡ 0 → r ≡ Ok (field_of into v l nm)

-- a parent that is damaged for its child, or the place
pub record ParentOf (v : View) (l : Storage) (r : Result (Optional ℕ) Refusal) : Type 0 where
  pub number : number_told r ≡ cond (damaged_parent v l) 1 0
  pub place : number_told r ≡ 0 → r ≡ Ok (cond (ltb 1 v.counts.depth) (place_back v l v.inner.parent) None)

-- number n, and where it is 0 what is known
pub record Passes (n : ℕ) (known r : Result Field Refusal) : Type 0 where
  pub number : number_told r ≡ n
  pub field : n ≡ 0 → r ≡ known

-- a close's own part of number 1, from what the pass over the innermost entries finds
abbrev pub misread_by : View → Storage → Search → Bool
misread_by v l s = not (intact v.counts.dictionary l.text l.ends) || ((in_object v && s.misplaced) || (v.counts.finished && uncounted v l))

-- the parent of a new child, and of one that replaced another, from what the pass over its entries finds
abbrev pub childless_by : View → Search → Bool
childless_by v s = (v.parent.object && (s.misplaced || leb v.inner.entries v.parent.entries)) || (not v.parent.object && eqb v.siblings 0)

abbrev pub unlike_by : View → Search → ℕ → Bool
unlike_by v s offset =
    not v.parent.object || (s.misplaced || ((leb v.inner.entries s.place || ltb (parent_size v) offset) || (ltb 0 v.parent.marks && eqb v.inner.undo v.parent.undo)))

-- those rows, from what is known of the name
abbrev pub rows_by : ℕ → ℕ → Bool → Bool → Bool → Bool → Bool → Bool → Bool → Bool → ℕ
rows_by number own finished wrong second taken deep full unkept fit =
    cond (eqb number 1) 1
    (cond finished 2
    (cond wrong 5
    (cond second 6
    (cond (not (eqb own 0)) own
    (cond (eqb number 9) 9 (cond taken 10 (cond deep 11 (cond (not (eqb number 0)) number (cond full 13 (cond unkept 23 (cond (not fit) 14 0)))))))))))

abbrev pub enter_by : View → Result Field Refusal → Bool → Bool → Bool → Result ℕ Refusal → ℕ → ℕ → ℕ → ℕ
enter_by v f named into opens size room lent undo =
    rows_by (number_told f) (number_told size) v.counts.finished (into && misnamed_by named v) (into && second_top v) (unique_now v && live_told f)
    (opens && leb 64 v.counts.depth) (full_by into v (live_told f) lent) (unkept_by v (live_told f) undo) (fits v.counts.value (size_told size) room)

-- row 12 or one behind it, or none
abbrev pub late_told : Result Field Refusal → Bool
late_told (Ok f) = true
late_told (Err r) = leb 12 (refusal_number r)

-- the answer by number, where 7 stands for the scalar's own
abbrev pub own_told : ℕ → Result Field Refusal → Result Field ℕ
own_told own (Ok f) = Ok f
own_told own (Err r) = Err (cond (eqb (refusal_number r) 7) own (refusal_number r))

-- What follows from the accepted calls alone, without storage and without `step`: the used value bytes (the ledger), and the
-- number of each call of a run from a fresh builder (refusalOf).
use Rattle.std.specs.Prelude.{Bool, true, false, cond, not, ◌&&◌, ◌||◌, List, [], ◌∷◌, ◌++◌, ℕ, ◌+◌, eqb, leb, ltb, length}
use Rattle.std.proofs.Math.Option.{Option, none, some}
use Rattle.encoding.specs.Rows.{Row, row, first}
use Rattle.encoding.specs.Slices.{counted, fits}
use Rattle.value.specs.Scalar.{scalar_bytes}
use Rattle.metadata.specs.Names.{Name, same, place}
use Rattle.metadata.specs.Bytes.{joined, size_of}
use Rattle.container.specs.Layout.{largest, list_header_size, object_header_size}
use Rattle.container.specs.Entries.{room_for}
use Rattle.semantics.specs.Record.{Call, register, append, open_in, close, roll_back, uniqueness, set_mark, return_to, finish, scalar_of}
use Rattle.semantics.specs.Table.{scalar_rows, bad_name}
use Rattle.semantics.specs.Tree.{element, live, replaced, Items, empty, item}
use Rattle.semantics.specs.History.{Level, History, first_marks}

-- ---- a level's items

unfoldable pub item_count : Items → ℕ
item_count empty = 0
item_count (item m t is) = 1 + item_count is

-- the ids of the live items
unfoldable pub live_ids : List Name → Items → List ℕ
live_ids ns empty = []
live_ids ns (item element t is) = live_ids ns is
live_ids ns (item (live n) t is) = place n ns ∷ live_ids ns is
live_ids ns (item replaced t is) = live_ids ns is

unfoldable pub is_live : Name → Items → Bool
is_live n empty = false
is_live n (item element t is) = is_live n is
is_live n (item (live m) t is) = same m n || is_live n is
is_live n (item replaced t is) = is_live n is

-- ---- the innermost level

abbrev pub any_open : List Level → Bool
any_open [] = false
any_open (l ∷ ls) = true

abbrev pub object_inner : List Level → Bool
object_inner [] = false
object_inner (l ∷ ls) = l.object

abbrev pub live_in : Option Name → List Level → Bool
live_in none ls = false
live_in (some n) [] = false
live_in (some n) (l ∷ ls) = is_live n l.items

-- how many marks are set
abbrev pub marks_in : List Level → ℕ
marks_in [] = 0
marks_in (l ∷ ls) = length l.marks

-- document 02, A9, "Each replacement in an object with a mark takes one undo record"
abbrev pub recorded_in : Option Name → List Level → Bool
recorded_in nm ls = live_in nm ls && ltb 0 (marks_in ls)

-- ---- the ledger: "the bytes of the scalars kept plus the headers closed, summed over the calls; replaced ones count,
-- struck-out scalars and headers don't". A tally for each open container, the innermost first, and one for the top level.

-- the bytes; the uniqueness mark in force; and the undo records taken, an open child's own not yet among them
pub record Tally : Type 0 where
  pub bytes : ℕ
  pub unique : Bool
  pub undo : ℕ

-- the tally as it is, and as it was at each mark, the latest first
pub record Tallied : Type 0 where
  pub now : Tally
  pub marks : List Tally

abbrev pub start_tally : Bool → Tallied
start_tally unique = record { now = record { bytes = 0; unique = unique; undo = 0 }; marks = [] }

unfoldable pub no_ledger : Bool → List Tallied
no_ledger unique = start_tally unique ∷ []

-- so many bytes and undo records more
unfoldable pub add_to : ℕ → ℕ → List Tallied → List Tallied
add_to n u [] = []
add_to n u (x ∷ xs) =
    let t : Tally = record { bytes = n + x.now.bytes; unique = x.now.unique; undo = u + x.now.undo } in
    record { now = t; marks = x.marks } ∷ xs

unfoldable pub total : List Tallied → ℕ
total [] = 0
total (x ∷ xs) = x.now.bytes + total xs

-- the size of the header that closing the innermost puts before `size` bytes
unfoldable pub header_size : ℕ → List Name → List Level → ℕ → ℕ
header_size floor ns [] size = 0
header_size floor ns (l ∷ ls) size =
    let ids = live_ids ns l.items in
    cond l.object (object_header_size floor (length ids) (largest ids) size) (list_header_size floor (item_count l.items) size)

abbrev pub inner_sum : List Tallied → ℕ
inner_sum [] = 0
inner_sum (x ∷ xs) = x.now.bytes

abbrev pub unique_in : List Tallied → Bool
unique_in [] = false
unique_in (x ∷ xs) = x.now.unique

abbrev pub outer_tallies : List Tallied → List Tallied
outer_tallies [] = []
outer_tallies (x ∷ xs) = xs

unfoldable pub set_unique : Bool → List Tallied → List Tallied
set_unique u [] = []
set_unique u (x ∷ xs) = record { now = record { bytes = x.now.bytes; unique = u; undo = x.now.undo }; marks = x.marks } ∷ xs

-- the undo records that a value entered under that name takes
unfoldable pub own_undo : Option Name → List Level → ℕ
own_undo nm ls = cond (recorded_in nm ls) 1 0

-- that the innermost takes when it is closed
abbrev pub close_undo : List Level → ℕ
close_undo [] = 0
close_undo (l ∷ ls) = own_undo l.own ls

-- A9, a mark set
unfoldable pub tally_mark : List Tallied → List Tallied
tally_mark [] = []
tally_mark (x ∷ xs) = record { now = x.now; marks = x.now ∷ x.marks } ∷ xs

-- A9, a return
unfoldable pub tally_at : Tallied → List Tally → Tallied
tally_at x [] = x
tally_at x (t ∷ ts) = record { now = t; marks = t ∷ ts }

unfoldable pub tally_return : ℕ → List Tallied → List Tallied
tally_return j [] = []
tally_return j (x ∷ xs) = tally_at x (first_marks j x.marks) ∷ xs

-- the tallies after an accepted call, h being the history before it
unfoldable pub tallies_entered : ℕ → History → List Tallied → Call → List Tallied
tallies_entered floor h ts (register n) = ts
tallies_entered floor h ts (append nm v) = add_to (length (scalar_bytes (scalar_of v))) (own_undo nm h.levels) ts
tallies_entered floor h ts (open_in nm k) = start_tally (unique_in ts) ∷ ts
tallies_entered floor h ts close =
    add_to (inner_sum ts + header_size floor h.names h.levels (inner_sum ts)) (close_undo h.levels) (outer_tallies ts)
tallies_entered floor h ts roll_back = outer_tallies ts
tallies_entered floor h ts (uniqueness u) = set_unique u ts
tallies_entered floor h ts set_mark = tally_mark ts
tallies_entered floor h ts (return_to j) = tally_return j ts
tallies_entered floor h ts (finish out) = ts

unfoldable pub ledger_after : ℕ → History → List Tallied → Call → Bool → List Tallied
ledger_after floor h ts c refused = cond refused ts (tallies_entered floor h ts c)

-- ---- the numbers of a run from a fresh builder: the rows behind 1

-- what is lent: bytes, and numbers
pub record Lent : Type 0 where
  pub value : ℕ
  pub text : ℕ
  pub ends : ℕ
  pub entries : ℕ
  pub undo : ℕ

-- what has come of the calls so far, and the floor, which no call changes
pub record Account : Type 0 where
  pub history : History
  pub tallies : List Tallied
  pub finished : Bool
  pub floor : ℕ

abbrev pub misnamed_in : Option Name → List Level → Bool
misnamed_in none ls = object_inner ls
misnamed_in (some n) ls = not (object_inner ls)

-- "a new name, and the name table or name bytes are full for it"
abbrev pub full_for : Lent → List Name → Option Name → Bool
full_for lent ns none = false
full_for lent ns (some n) =
    leb (length ns) (place n ns) && not (ltb (length ns) lent.ends && fits (length (joined ns)) (length n) lent.text)

-- a level's entries, and an open child's own among its parent's, unless it replaces one; document 02, A8, "List elements shall take no entries"
abbrev pub entry_count : List Name → Level → ℕ
entry_count ns l = cond l.object (length (live_ids ns l.items)) 0

abbrev pub own_entry : Option Name → Items → ℕ
own_entry none is = 0
own_entry (some n) is = cond (is_live n is) 0 1

unfoldable pub entries_used : List Name → List Level → ℕ
entries_used ns [] = 0
entries_used ns (l ∷ []) = entry_count ns l
entries_used ns (l ∷ (p ∷ ls)) = entry_count ns l + (own_entry l.own p.items + entries_used ns (p ∷ ls))

-- A8, "number 13 is then left for objects"
abbrev pub no_entry_free : Lent → History → Option Name → Bool
no_entry_free lent h nm = (object_inner h.levels && not (live_in nm h.levels)) && leb (room_for lent.entries) (entries_used h.names h.levels)

-- the undo records in use: a container's own, and an open child's among its parent's
unfoldable pub undos_used : List Tallied → List Level → ℕ
undos_used [] ls = 0
undos_used (x ∷ xs) [] = 0
undos_used (x ∷ xs) (l ∷ ls) = x.now.undo + (own_undo l.own ls + undos_used xs ls)

-- A9, "a replacement under a mark that finds the undo storage full"
abbrev pub no_undo_free : Lent → List Tallied → List Level → Option Name → Bool
no_undo_free lent ts ls nm = recorded_in nm ls && leb (room_for lent.undo) (undos_used ts ls)

abbrev pub no_bytes_free : Lent → List Tallied → ℕ → Bool
no_bytes_free lent ts size = not (fits (total ts) size lent.value)

abbrev pub refusal_rows : Account → Lent → Call → List Row
refusal_rows a lent (register n) =
    row 2 a.finished ∷ (row 9 (bad_name (some n)) ∷ (row 12 (full_for lent a.history.names (some n)) ∷ []))
refusal_rows a lent (append nm v) =
    row 2 a.finished
    ∷ (row 5 (misnamed_in nm a.history.levels)
    ∷ (row 6 (not (any_open a.history.levels) && ltb 0 (total a.tallies))
    ∷ (scalar_rows v
    ++ (row 9 (bad_name nm)
    ∷ (row 10 (unique_in a.tallies && live_in nm a.history.levels)
    ∷ (row 12 (full_for lent a.history.names nm)
    ∷ (row 13 (no_entry_free lent a.history nm)
    ∷ (row 23 (no_undo_free lent a.tallies a.history.levels nm)
    ∷ (row 14 (no_bytes_free lent a.tallies (length (scalar_bytes (scalar_of v)))) ∷ [])))))))))
refusal_rows a lent (open_in nm k) =
    row 2 a.finished
    ∷ (row 5 (misnamed_in nm a.history.levels)
    ∷ (row 6 (not (any_open a.history.levels) && ltb 0 (total a.tallies))
    ∷ (row 9 (bad_name nm)
    ∷ (row 10 (unique_in a.tallies && live_in nm a.history.levels)
    ∷ (row 11 (leb 64 (length a.history.levels))
    ∷ (row 12 (full_for lent a.history.names nm)
    ∷ (row 13 (no_entry_free lent a.history nm) ∷ (row 23 (no_undo_free lent a.tallies a.history.levels nm) ∷ []))))))))
refusal_rows a lent close =
    row 2 a.finished
    ∷ (row 3 (not (any_open a.history.levels))
    ∷ (row 14 (no_bytes_free lent a.tallies (header_size a.floor a.history.names a.history.levels (inner_sum a.tallies))) ∷ []))
refusal_rows a lent roll_back = row 2 a.finished ∷ (row 3 (not (any_open a.history.levels)) ∷ [])
refusal_rows a lent (uniqueness u) = row 2 a.finished ∷ (row 3 (not (object_inner a.history.levels)) ∷ [])
refusal_rows a lent set_mark =
    row 2 a.finished ∷ (row 22 (not (any_open a.history.levels) || leb 16 (marks_in a.history.levels)) ∷ [])
refusal_rows a lent (return_to j) =
    row 2 a.finished ∷ (row 22 (not (any_open a.history.levels) || (eqb j 0 || ltb (marks_in a.history.levels) j)) ∷ [])
refusal_rows a lent (finish out) =
    row 2 a.finished
    ∷ (row 4 (any_open a.history.levels)
    ∷ (row 15 (eqb (total a.tallies) 0)
    ∷ (row 16 (not (leb (size_of a.floor (length a.history.names) (length (joined a.history.names))) (counted (length out)))) ∷ [])))

unfoldable pub refusal_of : Account → Lent → Call → ℕ
refusal_of a lent c = first (refusal_rows a lent c)

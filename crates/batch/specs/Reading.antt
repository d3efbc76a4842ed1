-- Document 02, A7: what reading gives, of any bytes.
use Rattle.std.specs.Prelude.{Bool, true, false, cond, ◌||◌, List, [], ◌∷◌, ℕ, zero, suc, ◌+◌, ◌-◌, max, leb, ltb, length, take, drop}
use Rattle.std.specs.Prelude.{Result, Ok, Err}
use Rattle.encoding.specs.Rows.{Row, row}
use Rattle.batch.specs.declared.NoBatch.{NoBatch}
use Rattle.batch.specs.declared.Step.{Step}
use Rattle.batch.specs.declared.Step.TheVariants as step
use Rattle.batch.specs.Layout.{Record, record_of, big_number}
use Rattle.batch.specs.Writing.{no_batch}

-- ---- a record at the front of bytes

-- its count
abbrev pub count_at : List ℕ → ℕ
count_at bs = big_number (take 4 bs)

-- "a record wholly present": the count's four bytes, and as many as it says
abbrev pub present : List ℕ → Bool
present bs = leb (4 + count_at bs) (length bs)

-- "what follows" the count
abbrev pub body_of : List ℕ → List ℕ
body_of bs = take (count_at bs) (drop 4 bs)

-- the dictionary's length, by the body's first four bytes
abbrev pub size_in : List ℕ → ℕ
size_in body = big_number (take 4 body)

-- 19: "a count below four, or a dictionary length that does not fit it"
abbrev pub misfit : List ℕ → Bool
misfit body = ltb (length body) 4 || ltb (length body - 4) (size_in body)

-- a record as it comes out: its two parts, or 19
pub data Item : Type 0 where
  whole : Record → Item
  bad : Item

-- of a body: the dictionary of the length that it says, and all the rest as the value
unfoldable pub item_of : List ℕ → Item
item_of body = cond (misfit body) bad
    (whole (record_of (take (size_in body) (drop 4 body)) (drop (4 + size_in body) body)))

-- ---- all records

-- the records wholly present, in order, and the byte count of the rest, the partial tail
pub record Contents : Type 0 where
  pub items : List Item
  pub tail : ℕ

abbrev pub tail_only : ℕ → Contents
tail_only n = record { items = []; tail = n }

abbrev pub item_then : Item → Contents → Contents
item_then i c = record { items = i ∷ c.items; tail = c.tail }

-- of bytes whose first `passed` ones belong to a record that has come out: "reading goes on behind it". Of the 4 + count bytes of the record
-- that stands next, b is the first.
unfoldable pub contents_behind : ℕ → List ℕ → Contents
contents_behind passed [] = tail_only 0
contents_behind (suc passed) (b ∷ bs) = contents_behind passed bs
contents_behind zero (b ∷ bs) =
    cond (present (b ∷ bs))
    (item_then (item_of (body_of (b ∷ bs))) (contents_behind (3 + count_at (b ∷ bs)) bs))
    (tail_only (length (b ∷ bs)))

-- of a file: 21, or what stands behind the version byte
pub data Outcome : Type 0 where
  refused : ℕ → Outcome
  batch : Contents → Outcome

unfoldable pub read_batch : List ℕ → Outcome
read_batch file = cond (no_batch file) (refused 21) (batch (contents_behind 0 (drop 1 file)))

-- ---- one step, by places

-- 21, as the call answers it
abbrev pub refusal : NoBatch
refusal = record {}

-- what stands at a place: 21; a tail; a bad record, and the place behind it; or a whole record, its dictionary up to its value, its value up
-- to the place behind it. A place below 1 counts as 1.
unfoldable pub step_from : List ℕ → ℕ → Step
step_from file at =
    let bs = drop at file in
    let behind = at + (4 + count_at bs) in
    cond (present bs)
    (cond (misfit (body_of bs)) (step.Bad behind) (step.Whole (at + 8) (at + (8 + size_in (body_of bs))) behind))
    (step.Tail (length bs))

unfoldable pub step_at : List ℕ → ℕ → Result Step NoBatch
step_at file place = cond (no_batch file) (Err refusal) (Ok (step_from file (max place 1)))

-- a step's number in the table, 0 without one: 19 is the record's
abbrev pub step_number : Result Step NoBatch → ℕ
step_number (Err e) = 21
step_number (Ok (step.Bad next)) = 19
step_number (Ok (step.Whole dictionary value next)) = 0
step_number (Ok (step.Tail size)) = 0

-- that of the call itself: 19 is "for that record", and reading is carried out
abbrev pub read_number : Result Step NoBatch → ℕ
read_number (Err e) = 21
read_number (Ok s) = 0

-- their rows
abbrev pub read_rows : List ℕ → List Row
read_rows file = row 21 (no_batch file) ∷ []

abbrev pub bad_at : List ℕ → Bool
bad_at bs = cond (present bs) (misfit (body_of bs)) false

abbrev pub step_rows : List ℕ → ℕ → List Row
step_rows file place = row 21 (no_batch file) ∷ (row 19 (bad_at (drop (max place 1) file)) ∷ [])

-- the parts of the file that a step names; no bytes where it names none
abbrev pub part : ℕ → ℕ → List ℕ → List ℕ
part from to file = take (to - from) (drop from file)

abbrev pub dictionary_in : List ℕ → Result Step NoBatch → List ℕ
dictionary_in file (Ok (step.Whole dictionary value next)) = part dictionary value file
dictionary_in file (Ok (step.Bad next)) = []
dictionary_in file (Ok (step.Tail size)) = []
dictionary_in file (Err e) = []

abbrev pub value_in : List ℕ → Result Step NoBatch → List ℕ
value_in file (Ok (step.Whole dictionary value next)) = part value next file
value_in file (Ok (step.Bad next)) = []
value_in file (Ok (step.Tail size)) = []
value_in file (Err e) = []

-- a step names parts where a whole record stands
abbrev pub is_whole : Result Step NoBatch → Bool
is_whole (Ok (step.Whole dictionary value next)) = true
is_whole (Ok (step.Bad next)) = false
is_whole (Ok (step.Tail size)) = false
is_whole (Err e) = false

-- ---- steps, one after the other

abbrev pub outcome_then : Item → Outcome → Outcome
outcome_then i (refused n) = refused n
outcome_then i (batch c) = batch (item_then i c)

-- a step's item, then what comes from the place that it names; a tail or 21 is the end
abbrev pub step_then : List ℕ → Result Step NoBatch → (ℕ → Outcome) → Outcome
step_then file (Err e) from = refused 21
step_then file (Ok (step.Tail size)) from = batch (tail_only size)
step_then file (Ok (step.Bad next)) from = outcome_then bad (from next)
step_then file (Ok (step.Whole dictionary value next)) from = outcome_then (whole (record_of (part dictionary value file) (part value next file))) (from next)

-- at most n steps, from a place on
unfoldable pub walk : ℕ → List ℕ → ℕ → Outcome
walk zero file place = batch (tail_only 0)
walk (suc n) file place = step_then file (step_at file place) (walk n file)

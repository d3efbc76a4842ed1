-- Undo records: two numbers each in lent numbers, as an entry's; the id, then the former offset; the newest last. Document 02, A9.
use Rattle.std.specs.Prelude.{cond, ◌&&◌, List, [], ◌∷◌, ℕ, ◌+◌, ◌-◌, ◌*◌, eqb, leb, ltb, length, set}
use Rattle.container.specs.declared.Entry.{Entry}
use Rattle.container.specs.Entries.{entries_of, put_entries, room_for, seek}

-- the first entry of the record's id gets the record's offset; "passing over an id without an entry"
unfoldable pub restore : Entry → List Entry → List Entry
restore u [] = []
restore u (e ∷ es) = cond (eqb e.id u.id) (record { id = e.id; offset = u.offset } ∷ es) (e ∷ restore u es)

-- "undoes records newest first"
unfoldable pub replay : List Entry → List Entry → List Entry
replay [] es = es
replay (u ∷ us) es = restore u (replay us es)

-- the records from `low` up to `high` undone among the entries from `from` up to `to`
abbrev pub undone_from : List ℕ → ℕ → ℕ → List ℕ → ℕ → ℕ → List ℕ
undone_from l from to undo low high = put_entries from (replay (entries_of undo low (high - low)) (entries_of l from (to - from))) l

-- For the code: the same; where the entries fall, or they or the records exceed what is lent, nothing is undone.
unfoldable pub undone_in : List ℕ → ℕ → ℕ → List ℕ → ℕ → ℕ → List ℕ
undone_in l from to undo low high =
    cond (leb from to && (leb to (room_for (length l)) && leb high (room_for (length undo)))) (undone_from l from to undo low high) l

-- For the code: one record undone among n entries from entry k on.
unfoldable pub undone_once : List ℕ → ℕ → ℕ → Entry → List ℕ
undone_once l k n u =
    let at = seek u.id (entries_of l k n) in
    cond (ltb at n) (set l (2 * (k + at) + 1) u.offset) l

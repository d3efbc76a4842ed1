-- Small files, computed: what reading them gives, and what adding to them is refused with.
use mathlib.Core.Path.{◌≡◌, refl}
use mathlib.Core.List.{List, [], ◌∷◌}
use Prim.Native.Nat.{ℕ}
use Rattle.encoding.specs.Packed.{le, number}
use Rattle.encoding.specs.Rows.{first}
use Rattle.batch.specs.Layout.{record_of, big_endian, big_number, record_bytes, records_bytes, batch_bytes}
use Rattle.batch.specs.Writing.{add_rows}
use Rattle.batch.specs.Reading.{Item, whole, bad, item_of, contents_behind, Outcome, refused, batch, read_batch}

abbrev gives : List Item → ℕ → Outcome
gives items tail = batch (record { items = items; tail = tail })

-- a record with neither dictionary nor value, and one of both
one_record : batch_bytes (record_of [] [] ∷ []) ≡ 1 ∷ 0 ∷ 0 ∷ 0 ∷ 4 ∷ 0 ∷ 0 ∷ 0 ∷ 0 ∷ []
unfolding batch_bytes records_bytes record_bytes big_endian le
one_record = refl

a_pair : record_bytes (record_of (7 ∷ 8 ∷ []) (9 ∷ [])) ≡ 0 ∷ 0 ∷ 0 ∷ 7 ∷ 0 ∷ 0 ∷ 0 ∷ 2 ∷ 7 ∷ 8 ∷ 9 ∷ []
unfolding record_bytes big_endian le
a_pair = refl

-- no file, another version, an empty batch
nothing : read_batch [] ≡ refused 21
unfolding read_batch
nothing = refl

second_version : read_batch (2 ∷ []) ≡ refused 21
unfolding read_batch
second_version = refl

empty : read_batch (1 ∷ []) ≡ gives [] 0
unfolding read_batch contents_behind
empty = refl

-- a count of three is bad where its three bytes are there, and a tail where one is missing
count_three : read_batch (1 ∷ 0 ∷ 0 ∷ 0 ∷ 3 ∷ 0 ∷ 0 ∷ 0 ∷ []) ≡ gives (bad ∷ []) 0
unfolding read_batch contents_behind item_of big_number number
count_three = refl

three_cut : read_batch (1 ∷ 0 ∷ 0 ∷ 0 ∷ 3 ∷ 0 ∷ 0 ∷ []) ≡ gives [] 6
unfolding read_batch contents_behind item_of big_number number
three_cut = refl

-- a count of none is passed over, and the record behind it comes out
behind_bad : read_batch (1 ∷ 0 ∷ 0 ∷ 0 ∷ 0 ∷ 0 ∷ 0 ∷ 0 ∷ 5 ∷ 0 ∷ 0 ∷ 0 ∷ 0 ∷ 4 ∷ []) ≡ gives (bad ∷ whole (record_of [] (4 ∷ [])) ∷ []) 0
unfolding read_batch contents_behind item_of big_number number
behind_bad = refl

-- a dictionary length one above what the count leaves
long_dictionary : read_batch (1 ∷ 0 ∷ 0 ∷ 0 ∷ 5 ∷ 0 ∷ 0 ∷ 0 ∷ 2 ∷ 4 ∷ []) ≡ gives (bad ∷ []) 0
unfolding read_batch contents_behind item_of big_number number
long_dictionary = refl

-- a count beyond the file
far_count : read_batch (1 ∷ 255 ∷ 255 ∷ 255 ∷ 255 ∷ []) ≡ gives [] 4
unfolding read_batch contents_behind item_of big_number number
far_count = refl

-- 1, then 21, then 14
add_one : first (add_rows [] 1 (record_of [] [])) ≡ 1
unfolding first
add_one = refl

add_version : first (add_rows (2 ∷ []) 1 (record_of [] [])) ≡ 21
unfolding first
add_version = refl

add_unused : first (add_rows (1 ∷ []) 0 (record_of [] [])) ≡ 21
unfolding first
add_unused = refl

add_no_room : first (add_rows (1 ∷ []) 1 (record_of [] [])) ≡ 14
unfolding first record_bytes big_endian le
add_no_room = refl

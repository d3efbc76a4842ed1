-- The refusals of the writer's calls, by document 01's and 02's numbers.
use Rattle.std.specs.Prelude.{ℕ, Result, Ok, Err}
use Rattle.metadata.specs.declared.NameError.{NameError}
use Rattle.metadata.specs.declared.NameError.TheVariants as name
use Rattle.metadata.specs.declared.FinishError.{FinishError}
use Rattle.metadata.specs.declared.FinishError.TheVariants as finish
use Rattle.container.specs.declared.CloseError.{CloseError}
use Rattle.container.specs.declared.CloseError.TheVariants as close
use Rattle.packed_decimal.specs.declared.read.PackedError.{PackedError}
use Rattle.packed_decimal.specs.declared.read.PackedError.TheVariants as packed
use Rattle.semantics.specs.declared.refusal.Refusal.{Refusal}
use Rattle.semantics.specs.declared.refusal.Refusal.TheVariants as refusal

-- the table's "No."; of document 02, A2: "refuses, with 17", A4: "with 18", A9: "with 22" and "with 23", A10: "with 24"
abbrev pub refusal_number : Refusal → ℕ
refusal_number refusal.Damaged = 1
refusal_number refusal.Finished = 2
refusal_number refusal.NotOpen = 3
refusal_number refusal.StillOpen = 4
refusal_number refusal.Misnamed = 5
refusal_number refusal.SecondTop = 6
refusal_number refusal.OutOfRange = 7
refusal_number refusal.IllFormed = 8
refusal_number refusal.BadName = 9
refusal_number refusal.Taken = 10
refusal_number refusal.TooDeep = 11
refusal_number refusal.NamesFull = 12
refusal_number refusal.EntriesFull = 13
refusal_number refusal.NoRoom = 14
refusal_number refusal.NoValue = 15
refusal_number refusal.OutputFull = 16
refusal_number refusal.OutOfCalendar = 17
refusal_number refusal.NotPacked = 18
refusal_number refusal.NoMark = 22
refusal_number refusal.UndoFull = 23
refusal_number refusal.BadFloor = 24

-- "Every refusal returns its number only"; 0 where the call is carried out
abbrev pub number_told : {A : Type 0} → Result A Refusal → ℕ
number_told (Ok x) = 0
number_told (Err r) = refusal_number r

-- what a call gives; of one that is refused, which gives nothing back, what its caller has
abbrev pub then_or : {A : Type 0} → A → Result A Refusal → A
then_or d (Ok x) = x
then_or d (Err r) = d

-- ---- the refusals of what a call rests on, each the row of its own number

-- of a name's look-up
abbrev pub name_refusal : NameError → Refusal
name_refusal name.Damaged = refusal.Damaged
name_refusal name.NotUtf8 = refusal.BadName
name_refusal name.Full = refusal.NamesFull

-- of a container's header
abbrev pub close_refusal : CloseError → Refusal
close_refusal close.Damaged = refusal.Damaged
close_refusal close.NoRoom = refusal.NoRoom

-- of the dictionary
abbrev pub finish_refusal : FinishError → Refusal
finish_refusal finish.Damaged = refusal.Damaged
finish_refusal finish.NoRoom = refusal.OutputFull

-- of packed decimal
abbrev pub packed_refusal : PackedError → Refusal
packed_refusal packed.NotPacked = refusal.NotPacked
packed_refusal packed.OutOfRange = refusal.OutOfRange

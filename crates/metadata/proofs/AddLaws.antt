-- What adding a name answers, in document 01's numbers.
use mathlib.Core.Path.{◌≡◌, refl, ◌∙◌, ap}
use mathlib.Core.Bool.{Bool, true, false, cond}
use mathlib.Core.List.{List}
use Prim.Native.Nat.{ℕ}
use Rattle.std.specs.Prelude.{Result, Ok, Err}
use Rattle.metadata.specs.declared.MetadataBuilder.{MetadataBuilder}
use Rattle.metadata.specs.declared.FieldName.TheVariants.{New}
use Rattle.metadata.specs.declared.Full.{Full as NoPlace}
use Rattle.metadata.specs.Names.{Name}
use Rattle.metadata.specs.Calls.{Adds, added_told, has_room, told, told_refused}

told_by : (t : Bool) (id : ℕ) (e : NoPlace) → added_told (cond t (Ok id) (Err e)) ≡ cond t (told (Ok (New id))) (told_refused 12)
told_by true id e = refl
told_by false id e = refl

-- the new id, or 12 where there is no room
pub adds_told : {m : MetadataBuilder} {text ends : List ℕ} {name : Name} {r : Result ℕ NoPlace} {after : MetadataBuilder} {textAfter endsAfter : List ℕ}
    → Adds m text ends name r after textAfter endsAfter → added_told r ≡ cond (has_room m text ends name) (told (Ok (New m.names))) (told_refused 12)
adds_told {m} {text} {ends} {name} a = ap added_told a.answer ∙ told_by (has_room m text ends name) m.names (record {})

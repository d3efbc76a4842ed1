-- A call's answer, and the record, the table of marks and the storage behind the builder's references at exit; and the call that a value asks for.
use Rattle.std.specs.Prelude.{◌≡◌, Result, Ok, Err, true, false, List, ℕ}
use Rattle.std.proofs.Math.Option.{Option}
use Rattle.metadata.specs.Names.{Name}
use Rattle.semantics.specs.declared.Builder.{Builder}
use Rattle.semantics.specs.declared.refusal.Refusal.{Refusal}
use Rattle.semantics.specs.Refusal.{number_told}
use Rattle.semantics.specs.Record.{Storage, State, Call}
use Rattle.semantics.specs.Record.{storage_of}
use Rattle.semantics.specs.Record.{register, append, open_in, close, roll_back, uniqueness, set_mark, return_to, finish, fixed, civil, packed, bytes, uuid}
use Rattle.semantics.specs.Step.{Outcome, step}
use Rattle.actions.specs.Actions.{given}
use Rattle.builder_mut.specs.declared.VariantBuilder.{VariantBuilder}
use Rattle.builder_mut.specs.declared.Call.{Call as Asked}
use Rattle.builder_mut.specs.declared.Call.TheVariants as asked

-- its answer's number, and the record, the storage and the table of marks at exit, are those of the step from the state at entry
abbrev pub DoesThin : Result (Unit {0}) Refusal → Builder → List ℕ → Storage → State → Call → Type 0
DoesThin r b ms after s k =
    (number_told r ≡ (step s k).number) × (b ≡ (step s k).state.builder) × (after ≡ (step s k).state.storage) × (ms ≡ (step s k).state.marks)

-- the bytes that a finish says it wrote; 0 where it is refused
abbrev pub bytes_told : Result ℕ Refusal → ℕ
bytes_told (Ok w) = w
bytes_told (Err e) = 0

-- finish: the answer's bytes too, and its output at exit
abbrev pub FinishesThin : Result ℕ Refusal → Builder → List ℕ → Storage → List ℕ → State → Call → Type 0
FinishesThin r b ms after out s k =
    (number_told r ≡ (step s k).number) × (bytes_told r ≡ (step s k).written) × (b ≡ (step s k).state.builder)
    × (after ≡ (step s k).state.storage)
    × (ms ≡ (step s k).state.marks)
    × (out ≡ (step s k).output)

-- ---- by the method of a builder with its storage

-- the five slices behind its references
abbrev pub storage_behind : VariantBuilder → Storage
storage_behind v = storage_of v.value.now v.text.now v.ends.now v.entries.now v.undo.now

-- all that its call sees
abbrev pub state_behind : VariantBuilder → State
state_behind v = record { builder = v.builder.now; marks = v.marks.now; storage = storage_behind v }

-- the call, from what stood behind the references at entry to what stands there at exit
abbrev pub DoesBehind : Result (Unit {0}) Refusal → VariantBuilder → VariantBuilder → Call → Type 0
DoesBehind r before after k = DoesThin r after.builder.now after.marks.now (storage_behind after) (state_behind before) k

-- the finish, with its output at exit
abbrev pub FinishesBehind : Result ℕ Refusal → VariantBuilder → VariantBuilder → List ℕ → Call → Type 0
FinishesBehind r before after out k = FinishesThin r after.builder.now after.marks.now (storage_behind after) out (state_behind before) k

-- the references are those that it was made with, so that what stands behind them is what its maker lent
pub record SameSlices (before after : VariantBuilder) : Type 0 where
  pub builder : after.builder.ghost_name ≡ before.builder.ghost_name
  pub marks : after.marks.ghost_name ≡ before.marks.ghost_name
  pub value : after.value.ghost_name ≡ before.value.ghost_name
  pub text : after.text.ghost_name ≡ before.text.ghost_name
  pub ends : after.ends.ghost_name ≡ before.ends.ghost_name
  pub entries : after.entries.ghost_name ≡ before.entries.ghost_name
  pub undo : after.undo.ghost_name ≡ before.undo.ghost_name

-- ---- `lend`

-- the call of `semantics` that is asked for, of what stands beside it: a name or none, bytes, a UUID, the output
abbrev pub call_of : Asked → Option Name → List ℕ → List ℕ → List ℕ → Call
call_of asked.AddFieldName nm bs id out = register (given nm)
call_of (asked.AppendValue x) nm bs id out = append nm (fixed x)
call_of (asked.AppendBytes kind) nm bs id out = append nm (bytes kind bs)
call_of asked.AppendUuid nm bs id out = append nm (uuid id)
call_of asked.NewList nm bs id out = open_in nm false
call_of asked.NewObject nm bs id out = open_in nm true
call_of asked.Close nm bs id out = close
call_of asked.Rollback nm bs id out = roll_back
call_of (asked.WithValidateUniqueFields u) nm bs id out = uniqueness u
call_of asked.Finish nm bs id out = finish out
call_of (asked.AppendCivil x) nm bs id out = append nm (civil x)
call_of (asked.AppendPacked scale) nm bs id out = append nm (packed scale bs)
call_of asked.Mark nm bs id out = set_mark
call_of (asked.ReturnTo j) nm bs id out = return_to j

-- the output then: finish's is the step's, any other call leaves it as it was
abbrev pub output_after : Call → List ℕ → List ℕ → List ℕ
output_after (register n) was out = was
output_after (append nm x) was out = was
output_after (open_in nm k) was out = was
output_after close was out = was
output_after roll_back was out = was
output_after (uniqueness u) was out = was
output_after set_mark was out = was
output_after (return_to j) was out = was
output_after (finish o) was out = out

-- the outcome of a step that is lent an output
abbrev pub lent_step : State → Call → List ℕ → Outcome
lent_step s k was = record { number = (step s k).number; state = (step s k).state; output = output_after k was (step s k).output; written = (step s k).written }

-- its answer, what stands behind the references then, and the output then
abbrev pub outcome_of : Result ℕ Refusal → VariantBuilder → List ℕ → Outcome
outcome_of r after out = record { number = number_told r; state = state_behind after; output = out; written = bytes_told r }

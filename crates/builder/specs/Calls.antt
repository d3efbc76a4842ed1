-- What a call gives back, and the record, the table of marks and the storage then.
use Rattle.std.specs.Prelude.{◌≡◌, Result, Ok, Err, Bool, true, false, cond, List, [], ◌∷◌, ℕ, eqb, replicate, take}
use Rattle.encoding.specs.Rows.{first}
use Rattle.semantics.specs.declared.Builder.{Builder}
use Rattle.semantics.specs.declared.refusal.Refusal.{Refusal}
use Rattle.semantics.specs.Refusal.{refusal_number, number_told}
use Rattle.semantics.specs.Record.{Storage, State, Call, finish, no_container}
use Rattle.semantics.specs.Table.{make_rows}
use Rattle.semantics.specs.Step.{step}
use Rattle.semantics.specs.Run.{Fresh, fresh_counts, is_finish}
use Rattle.builder.specs.declared.BadFloor.{BadFloor}
use Rattle.builder.specs.declared.Finished.{Finished}

-- the builder then: the one that is given back; of a refused call, document 01, "Every refusal returns its number only", the one that the
-- caller has
abbrev pub builder_then : Builder → Result Builder Refusal → Builder
builder_then b (Ok then) = then
builder_then b (Err e) = b

abbrev pub state : Builder → List ℕ → Storage → State
state b ms l = record { builder = b; marks = ms; storage = l }

-- the number of what a call gives back, 0 where it is carried out, the builder then, the storage then and the table of marks then are those of
-- the step from the state at entry
abbrev pub Does : Result Builder Refusal → List ℕ → Storage → State → Call → Type 0
Does r ms after s k =
    (number_told r ≡ (step s k).number)
    × (builder_then s.builder r ≡ (step s k).state.builder)
    × (after ≡ (step s k).state.storage)
    × (ms ≡ (step s k).state.marks)

-- ---- finish, which also says how many bytes it wrote

-- the bytes of the dictionary in its output; 0 where it is refused, "its number only"
abbrev pub bytes_written : Result Finished Refusal → ℕ
bytes_written (Ok f) = f.written
bytes_written (Err e) = 0

-- the builder then
abbrev pub finished_then : Builder → Result Finished Refusal → Builder
finished_then b (Ok f) = f.builder
finished_then b (Err e) = b

-- its number, its bytes, the builder, the storage and the table then, and its output then, document 01's "each call's own", are those of the step
abbrev pub Finishes : Result Finished Refusal → List ℕ → Storage → List ℕ → State → Call → Type 0
Finishes r ms after out s k =
    (number_told r ≡ (step s k).number)
    × (bytes_written r ≡ (step s k).written)
    × (finished_then s.builder r ≡ (step s k).state.builder)
    × (after ≡ (step s k).state.storage)
    × (ms ≡ (step s k).state.marks)
    × (out ≡ (step s k).output)

-- document 01, "A fresh builder: nothing used or open, .. no finish accepted, either uniqueness mark". Its containers and their elements,
-- which are left free, are all empty.
unfoldable pub fresh_of : Bool → ℕ → Builder
fresh_of u floor =
    record { containers = replicate 64 no_container; elements = replicate 64 0; counts = fresh_counts u floor }

-- the number of a builder made with a floor, 0 where the floor is taken, and the builder made
abbrev pub floor_number : Result Builder BadFloor → ℕ
floor_number (Ok b) = 0
floor_number (Err e) = refusal_number e.refused

abbrev pub builder_made : Result Builder BadFloor → Builder
builder_made (Ok b) = b
builder_made (Err e) = e.builder

-- document 02, A10, a builder made with a floor: its one row's number, and either way the builder that holds that floor
abbrev pub Makes : Result Builder BadFloor → Bool → ℕ → Type 0
Makes r u floor = (floor_number r ≡ first (make_rows floor)) × (builder_made r ≡ fresh_of u floor)

-- ---- calls made one after the other

-- document 01, "Each call gets the builder that the last one returned or left, and the same storage as it was left": calls made
-- so, each with its contract, from a builder over its table of marks and its storage; the builder that the last one returned or left, over the
-- table and the storage that it left; and the dictionary in the output of the accepted finish
pub data Chain : State → List Call → State → List ℕ → Type 0 where
  no_call : {s : State} → Chain s [] s []
  a_call : {s u : State} {c : Call} (r : Result Builder Refusal) {ms : List ℕ} {after : Storage} {cs : List Call} {d : List ℕ} → is_finish c ≡ false
      → Does r ms after s c → Chain (state (builder_then s.builder r) ms after) cs u d → Chain s (c ∷ cs) u d
  a_finish : {s u : State} {out left : List ℕ} (r : Result Finished Refusal) {ms : List ℕ} {after : Storage} {cs : List Call} {d : List ℕ}
      → Finishes r ms after left s (finish out) → Chain (state (finished_then s.builder r) ms after) cs u d
      → Chain s (finish out ∷ cs) u (cond (eqb (number_told r) 0) (take (bytes_written r) left) d)

-- document 01, "A finished run, here and in demand 2, is a list of calls so run from a fresh builder, with an accepted finish"
pub record FinishedChain (s : State) (cs : List Call) (u : State) (d : List ℕ) : Type 0 where
  pub fresh : Fresh s
  pub calls : Chain s cs u d
  pub finished : u.builder.counts.finished ≡ true

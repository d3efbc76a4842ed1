-- What a call by value says is what the thin call over it says, and the other way round.
use mathlib.Core.Path.{◌≡◌, refl, sym, ◌∙◌}
use mathlib.Core.Bool.{Bool, true, false, cond, true≢false}
use mathlib.Core.List.{List}
use Prim.Native.Nat.{ℕ}
use lib.Dec.{eqb}
use borrow.Author.Tests.{ne_eqb}
use Rattle.std.specs.Prelude.{Result, Ok, Err}
use Rattle.semantics.specs.declared.Builder.{Builder}
use Rattle.semantics.specs.declared.refusal.Refusal.{Refusal}
use Rattle.semantics.specs.Refusal.{refusal_number}
use Rattle.semantics.proofs.RefusalLaws.{number_some}
use Rattle.semantics.specs.Record.{Storage, State, Call, view_at}
use Rattle.semantics.specs.Table.{number_of}
use Rattle.semantics.specs.Step.{Outcome, step}
use Rattle.builder.specs.declared.Finished.{Finished}
use Rattle.builder.specs.Calls.{builder_then, finished_then, Does, Finishes}
use Rattle.builder_mut.specs.Calls.{DoesThin, FinishesThin}

-- what a thin call gives back of it
abbrev pub told : Result Builder Refusal → Result (Unit {0}) Refusal
told (Ok b) = Ok tt
told (Err e) = Err e

pub does_thin : (r : Result Builder Refusal) (ms : List ℕ) (after : Storage) (s : State) (k : Call) → Does r ms after s k
    → DoesThin (told r) (builder_then s.builder r) ms after s k
does_thin (Ok b) ms after s k h = h
does_thin (Err e) ms after s k h = h

abbrev pub finish_told : Result Finished Refusal → Result ℕ Refusal
finish_told (Ok f) = Ok f.written
finish_told (Err e) = Err e

pub finishes_thin : (r : Result Finished Refusal) (ms : List ℕ) (after : Storage) (out : List ℕ) (s : State) (k : Call) → Finishes r ms after out s k
    → FinishesThin (finish_told r) (finished_then s.builder r) ms after out s k
finishes_thin (Ok f) ms after out s k h = h
finishes_thin (Err e) ms after out s k h = h

-- a refused step leaves the builder
kept : (s : State) (k : Call) (e : Refusal) → refusal_number e ≡ (step s k).number → s.builder ≡ (step s k).state.builder
unfolding step
kept s k e h = go (eqb (number_of (view_at s) s.storage k) 0) _ _ (ne_eqb _ 0 (λ z. number_some e (h ∙ z))) refl refl
  where
    go : (t : Bool) (o p : Outcome) → eqb (cond t o p).number 0 ≡ false → o.number ≡ 0 → p.state.builder ≡ s.builder → s.builder ≡ (cond t o p).state.builder
    go true o p e z f = absurd (true≢false (rw z at e))
    go false o p e z f = sym f

-- the call by value that a thin one stands for, which left that record
abbrev pub by_value : Builder → Result (Unit {0}) Refusal → Result Builder Refusal
by_value b (Ok x) = Ok b
by_value b (Err e) = Err e

pub thin_does : (a : Result (Unit {0}) Refusal) {b : Builder} {ms : List ℕ} {after : Storage} (s : State) (k : Call) → DoesThin a b ms after s k
    → Does (by_value b a) ms after s k
thin_does (Ok x) s k h = h
thin_does (Err e) s k h = (h.0, kept s k e h.0, h.2, h.3)

abbrev pub finish_by_value : Builder → Result ℕ Refusal → Result Finished Refusal
finish_by_value b (Ok w) = Ok (record { written = w; builder = b })
finish_by_value b (Err e) = Err e

pub thin_finishes : (a : Result ℕ Refusal) {b : Builder} {ms : List ℕ} {after : Storage} {out : List ℕ} (s : State) (k : Call)
    → FinishesThin a b ms after out s k → Finishes (finish_by_value b a) ms after out s k
thin_finishes (Ok w) s k h = h
thin_finishes (Err e) s k h = (h.0, h.1, kept s k e h.0, h.3, h.4, h.5)

-- The answers of the calls on a batch file, from the crate's own.
use mathlib.Core.Path.{◌≡◌, refl, sym, ◌∙◌, ap}
use mathlib.Core.List.{List}
use Prim.Native.Nat.{ℕ}
use borrow.Author.Tests.{ne_eqb}
use Rattle.encoding.specs.Slices.{Placed, placed_number}
use Rattle.std.specs.Prelude.{Result, Ok, Err}
use Rattle.batch.specs.declared.AddError.{AddError}
use Rattle.batch.specs.declared.NoBatch.{NoBatch}
use Rattle.batch.specs.declared.Step.{Step}
use Rattle.batch.specs.Layout.{Record}
use Rattle.batch.specs.Writing.{Adds, Starts, added_number}
use Rattle.batch.specs.Reading.{read_number, step_at}
use Rattle.batch.proofs.ReadingLaws.{step_numbers}
use Rattle.ffi.specs.BatchFile.{AddsWords, StartsWords, StepWords, TellsStep, step_over}

pub starts : {n : ℕ} {file after : List ℕ} {r : Placed} → Starts file r after → placed_number r ≡ n → StartsWords n file after
starts w e = let k = sym w.number ∙ e in record { number = sym k; bytes = rw k at w.bytes }

module _ {x : Record} {file after : List ℕ} {used : ℕ} where
  pub adds : {n : ℕ} → Adds file used x (Ok n) after → AddsWords 0 x file after used n
  adds w = let k = sym w.number in record { number = sym k; bytes = rw k at w.bytes; used_then = rw k at w.used_then }

  pub adds_refused : {n : ℕ} {e : AddError} → Adds file used x (Err e) after → added_number (Err e) ≡ n → (n ≡ 0 → ⊥) → AddsWords n x file after used used
  adds_refused {n} w e q = let k = sym w.number ∙ e in record { number = sym k; bytes = rw (ne_eqb n 0 q) (rw (k, ne_eqb n 0 q) at w.bytes); used_then = rw (ne_eqb n 0 q) refl }

module _ {file : List ℕ} {place : ℕ} {before : StepWords} where
  pub tells : {n : ℕ} {s : Result Step NoBatch} {after : StepWords} → s ≡ step_at file place → read_number s ≡ n → step_over before s ≡ after → TellsStep n file place before after
  tells e k w = record { number = sym k ∙ (ap read_number e ∙ (step_numbers file place).1); words = sym w ∙ ap (step_over before) e }

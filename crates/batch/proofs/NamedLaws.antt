-- A law that the documents name: where a step is no whole record, it names no bytes of the file, as `parts_at` then gives none.
use mathlib.Core.Path.{◌≡◌, refl}
use mathlib.Core.List.{List, []}
use Prim.Native.Nat.{ℕ}
use Rattle.std.specs.Prelude.{Result, Ok, Err}
use Rattle.batch.specs.declared.NoBatch.{NoBatch}
use Rattle.batch.specs.declared.Step.{Step}
use Rattle.batch.specs.declared.Step.TheVariants.{Whole, Bad, Tail}
use Rattle.batch.specs.Reading.{dictionary_in, value_in}

pub no_parts : (file : List ℕ) (s : Result Step NoBatch) → ((d v n : ℕ) → s ≡ Ok (Whole d v n) → ⊥)
    → (◌≡◌ {A = List ℕ} [] (dictionary_in file s)) × (◌≡◌ {A = List ℕ} [] (value_in file s))
no_parts file (Ok (Whole d v n)) h = absurd (h d v n refl)
no_parts file (Ok (Bad n)) h = (refl, refl)
no_parts file (Ok (Tail n)) h = (refl, refl)
no_parts file (Err e) h = (refl, refl)

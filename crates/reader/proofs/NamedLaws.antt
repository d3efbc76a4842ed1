-- A law that the documents name: an answer that is no part takes no bytes of the value.
use mathlib.Core.Path.{◌≡◌, refl}
use mathlib.Core.List.{List, []}
use Prim.Native.Nat.{ℕ}
use Rattle.std.specs.Prelude.{Option, Some, None}
use Rattle.reader.specs.declared.Part.{Part}
use Rattle.reader.specs.Answers.{part_of}

pub no_part : (v : List ℕ) (p : Option Part) → ((q : Part) → p ≡ Some q → ⊥) → [] ≡ part_of v p
unfolding part_of
no_part v (Some q) h = absurd (h q refl)
no_part v None h = refl

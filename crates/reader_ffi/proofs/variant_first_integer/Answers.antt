-- Each arm by the reader's own answer.
use native.Mathlib.Omega.{arith}
use mathlib.Core.Path.{refl, sym, ◌∙◌, ap}
use Rattle.std.specs.Prelude.{Ok}
use mir.Syntax.{w64}
use mir.ValLaws.{to_z-of_z}
use Rattle.reader_ffi.proofs.WordLaws.{tells_integer}
use Rattle.reader_ffi.proofs.variant_first_integer.Goals as goal

pub returns-in-Ok-Some : goal.returns-in-Ok-Some
returns-in-Ok-Some c =
    let n = c.in-Ok-Some.field.number in
    rw (to_z-of_z w64 n (record { sfits = omega arith })) (tells_integer c.first_integer.ensures (c.in-Ok-Some.is ∙ ap Ok c.in-Ok-Some.field-0-is) refl refl)

pub returns-in-Ok-None : goal.returns-in-Ok-None
returns-in-Ok-None c = tells_integer c.first_integer.ensures (c.in-Ok-None.is ∙ ap Ok c.in-Ok-None.field-0-is) refl refl

pub returns-in-Err : goal.returns-in-Err
returns-in-Err c = tells_integer c.first_integer.ensures c.in-Err.is (sym c.number.ensures) refl

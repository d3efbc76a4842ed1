-- Each arm by the reader's own answer.
use mathlib.Core.Path.{refl, sym, ◌∙◌, ap}
use Rattle.std.specs.Prelude.{Ok}
use Rattle.reader_ffi.proofs.WordLaws.{tells_field}
use Rattle.reader_ffi.proofs.variant_field.Goals as goal

pub returns-in-Ok-Some : goal.returns-in-Ok-Some
returns-in-Ok-Some c = tells_field c.find_field.ensures (c.in-Ok-Some.is ∙ ap Ok c.in-Ok-Some.field-0-is) refl refl

pub returns-in-Ok-None : goal.returns-in-Ok-None
returns-in-Ok-None c = tells_field c.find_field.ensures (c.in-Ok-None.is ∙ ap Ok c.in-Ok-None.field-0-is) refl refl

pub returns-in-Err : goal.returns-in-Err
returns-in-Err c = tells_field c.find_field.ensures c.in-Err.is (sym c.number.ensures) refl

-- What is read is a value, whose first byte tells its kind.
use native.Mathlib.Omega.{arith}
use mathlib.Core.Path.{refl, sym}
use Rattle.header_reader.proofs.KindLaws.{first_object, first_other}
use Rattle.reader.proofs.ValueLaws.{value_headed}
use Rattle.reader.proofs.PairLaws.{pair_valid}
use Rattle.reader.proofs.FieldLaws.{offsets_inside}
use Rattle.reader.proofs.Pair.object.Goals as goal

pub returns-in-Object : goal.returns-in-Object
returns-in-Object c =
    let a = c.args.self in
    let e = c.of_object.ensures in
    let k = first_object a.value.now c.kind_of.ensures c.in-Object.is in
    let headed = value_headed _ _ _ (pair_valid a.dictionary.now a.value.now (sym a.read) refl) (λ z. absurd (omega arith)) k in
    record { object = k; count = e.count; ids = e.ids; offsets = e.offsets; from = e.from; inside = offsets_inside _ _ headed }

pub returns-in_default : goal.returns-in_default
returns-in_default c = first_other c.args.self.value.now c.kind_of.ensures c.in_default.not-Object

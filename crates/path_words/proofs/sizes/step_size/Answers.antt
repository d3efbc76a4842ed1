-- The words of a field with its name.
use native.Mathlib.Omega.{arith}
use Prim.Native.Nat.{◌<◌}
use lib.ListN.{length}
use Rattle.path_words.proofs.NameLaws.{name_short}
use Rattle.path_words.proofs.WordLaws.{length_field}
use Rattle.path_words.proofs.sizes.step_size.Goals as goal

pub returns-in-Field : goal.returns-in-Field
returns-in-Field c =
    let d = c.decimal_size-in-Field.ensures in
    let short : length c.name_at-n.result.now < 4294967296 = rw c.name_at-n.ensures (name_short c.args.d.now c.in-Field.id (λ i. (c.type_inv.d i).fits)) in
    (rw (c.in-Field.is, ← c.name_at-n.ensures) (omega (arith, length_field c.name_at-n.result.now, d.0)), omega (arith, d.1))

-- The number stored for x, in the bytes asked for.
use mathlib.Core.Path.{◌∙◌}
use mir.Syntax.{w64}
use mir.ValLaws.{to_z-of_z}
use Rattle.value.proofs.scalar.Parts.integer.Goals as goal

pub returns : goal.returns
returns c =
    c.number.ensures ∙ (rw (c.twos_complement.ensures, to_z-of_z w64 c.args.x c.ranges.x))

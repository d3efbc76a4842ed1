use mathlib.Core.Path.{◌≡◌}
use Prim.Native.Nat.{◌-◌}
use Rattle.measure.specs.Measure.{whole_values}
use Rattle.measure.proofs.walk.are_values.Given as goal

-- what the values still to be met say of the bytes left is what all of them say of all
abbrev pub invariant-loop : goal.invariant-loop
invariant-loop l = whole_values (l.count - l.counter) l.rest ≡ whole_values l.count l.v

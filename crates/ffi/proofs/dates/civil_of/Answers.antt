use native.Mathlib.Omega.{arith}
use mathlib.Core.Path.{refl}
use mir.Syntax.{w64}
use mir.ValLaws.{to_z-of_z}
use Rattle.ffi.proofs.dates.civil_of.Goals as goal

pub returns-in-11 : goal.returns-in-11
returns-in-11 c = rw c.in-11.is (omega arith, omega arith, refl)

pub returns-in-12 : goal.returns-in-12
returns-in-12 c = rw (c.in-12.is, to_z-of_z w64 c.args.time c.ranges.time) (omega arith, omega arith, refl)

pub returns-in-13 : goal.returns-in-13
returns-in-13 c = rw (c.in-13.is, to_z-of_z w64 c.args.time c.ranges.time) (omega arith, omega arith, refl)

pub returns-in_default : goal.returns-in_default
returns-in_default c h = let m = c.in_default.in_default-own.rest in omega (arith, h, m)

-- Each size is counted in the definition.
use mathlib.Core.Path.{◌≡◌, sym}
use native.Mathlib.Omega.{arith}
use Rattle.small_values.proofs.CountLaws.{size_one, size_two, size_three}
use Rattle.small_values.proofs.writing.Length.file_size.Goals as goal

pub returns-in-1 : goal.returns-in-1
returns-in-1 c = rw c.in-1.is (sym size_one)

pub returns-in-2 : goal.returns-in-2
returns-in-2 c = rw c.in-2.is (sym size_two)

pub returns-in_default : goal.returns-in_default
returns-in_default c = let e : c.args.self.bytes ≡ 3 = omega (arith, c.args.self.short) in rw e (sym size_three)

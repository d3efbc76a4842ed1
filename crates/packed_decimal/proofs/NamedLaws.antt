-- Laws that the documents name, of a form that the code had: what a test "is it 0?" says of the number.
-- No proof here needs them now; a proof of code in this form does.
use mathlib.Core.Path.{◌≡◌, sym, ◌∙◌}
use mathlib.Core.Bool.{Bool, true, false}
use Prim.Native.Nat.{ℕ, ◌<◌}
use native.Mathlib.Omega.{arith}
use lib.Dec.{eqb}
use borrow.Author.Tests.{eqb-true, eqb-false}

pub not_zero : {t : Bool} (n : ℕ) → t ≡ eqb n 0 → t ≡ false → 0 < n
not_zero {t} n e h = let z = eqb-false n 0 (sym e ∙ h) in omega arith

pub zero_left : {t : Bool} (n : ℕ) → t ≡ eqb n 0 → t ≡ true → n ≡ 0
zero_left {t} n e h = eqb-true n 0 (sym e ∙ h)

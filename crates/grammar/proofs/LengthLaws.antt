-- A value's length, as `measure` hands it out: none for 0.
use mathlib.Core.Path.{◌≡◌, refl, ◌∙◌}
use mathlib.Core.Bool.{Bool}
use Prim.Native.Nat.{ℕ, zero, suc, ◌<◌}
use native.Mathlib.Omega.{arith}
use lib.Dec.{eqb}
use borrow.Author.Tests.{ne_eqb}
use Rattle.std.specs.Prelude.{Option, Some, None}
use Rattle.std.specs.Option.{option_eq}
use Rattle.measure.specs.Measure.{some_length}

pub length_is : (m : ℕ) {n : ℕ} → Some n ≡ some_length m → (n ≡ m) × (0 < n)
length_is zero e = absurd (cc)
length_is (suc m) {n} e = let f : n ≡ suc m = cc in (f, omega arith)

pub length_none : (m : ℕ) → None ≡ some_length m → m ≡ 0
length_none zero e = refl
length_none (suc m) e = absurd (cc)

-- whether it is n, which is not 0
pub length_same : (m n : ℕ) {o : Option ℕ} {t : Bool} → 0 < n → o ≡ some_length m → t ≡ option_eq eqb o (Some n) → t ≡ eqb m n
length_same zero n h e f = f ∙ (rw (e, ne_eqb 0 n (omega arith)) refl)
length_same (suc m) n h e f = f ∙ (rw e refl)

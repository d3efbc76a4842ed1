-- What `contains` answers of a range of signed numbers.
use mathlib.Core.Path.{◌≡◌, refl, ◌∙◌}
use mathlib.Core.Bool.{Bool, false}
use native.Mathlib.Omega.{arith}
use lib.IntN.{ℤ}
use lib.Signed.{le_z}
use Rattle.std.proofs.Common.{Some}
use Rattle.std.specs.Ordering.{is_le, int_cmp}
use Rattle.std.specs.Range.{range_inclusive_contains, range_inclusive_start, range_inclusive_end, range_inclusive_exhausted}
use Rattle.std.specs.declared.ops.RangeInclusive.{RangeInclusive}
use Rattle.std.proofs.lemmas.Int.{ints}
use Rattle.calendar.specs.Gregorian.{within}

pub le_cmp : (a b : ℤ) → is_le (int_cmp a b) ≡ le_z a b
le_cmp a b = grind (arith, ints)

pub holds : {r : Bool} (s : RangeInclusive ℤ) (a x b : ℤ) → r ≡ range_inclusive_contains (λ x y. Some (int_cmp x y)) s x
    → range_inclusive_start s ≡ a → range_inclusive_end s ≡ b → range_inclusive_exhausted s ≡ false → r ≡ within a x b
holds s a x b h f t e = h ∙ rw (f, t, e, le_cmp a x, le_cmp x b) refl

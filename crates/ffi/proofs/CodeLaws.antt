-- The type codes of the word calls are those of `value`.
use mathlib.Core.Path.{◌≡◌, refl, sym, ap}
use mathlib.Core.Logic.{◌⊎◌, inl, inr}
use mathlib.Core.Bool.{Bool, true, false, cond}
use Prim.Native.Nat.{ℕ}
use lib.Dec.{eqb, ltb}
use lib.IntN.{ℤ}
use lib.Signed.{mag}
use borrow.Author.Tests.{eqb-true}
use Rattle.value.specs.Decimal.{out_of_range}
use Rattle.value.specs.Scalar.{primitive, stored_variant}
use Rattle.value.specs.declared.variant.Variant.{Variant}
use Rattle.value.specs.declared.variant.Variant.TheVariants.{Null, Int8, Int16, Int32, Int64, Date, TimestampMicros, TimestampNtzMicros, TimestampNanos, TimestampNtzNanos, Decimal4, Decimal8, Decimal16, Float, Double, BooleanTrue, BooleanFalse, Time}
use Rattle.ffi.specs.Scalars.{no_scalar, variant_of}

-- what holds of either holds of the choice by a code
pick : (P : Variant → Type 0) (c k : ℕ) (x y : Variant) → (k ≡ c → P x) → P y → P (cond (eqb c k) x y)
pick P c k x y a b = go (eqb c k) refl
  where
    go : (t : Bool) → eqb c k ≡ t → P (cond t x y)
    go true p = a (sym (eqb-true c k p))
    go false p = b

-- no scalar, or one that is stored under the code that it was asked by
abbrev Coded : ℕ → Variant → Type 0
Coded c v = (v ≡ no_scalar) ⊎ ((stored_variant v).stored_type ≡ primitive c)

held : (c : ℕ) (b : Bool) (x : Variant) → (stored_variant x).stored_type ≡ primitive c → Coded c (cond b x no_scalar)
held c true x e = inr e
held c false x e = inl refl

pub code_stored : (c : ℕ) (z : ℤ) (low scale : ℕ) → (variant_of c z low scale ≡ no_scalar) ⊎ ((stored_variant (variant_of c z low scale)).stored_type ≡ primitive c)
unfolding variant_of
code_stored c z low scale =
    pick (Coded c) c 0 Null _ (λ e. inr (ap primitive e))
    (pick (Coded c) c 1 BooleanTrue _ (λ e. inr (ap primitive e))
    (pick (Coded c) c 2 BooleanFalse _ (λ e. inr (ap primitive e))
    (pick (Coded c) c 3 _ _ (λ e. held c (ltb (mag z) 128) (Int8 z) (ap primitive e))
    (pick (Coded c) c 4 _ _ (λ e. held c (ltb (mag z) 32768) (Int16 z) (ap primitive e))
    (pick (Coded c) c 5 _ _ (λ e. held c (ltb (mag z) 2147483648) (Int32 z) (ap primitive e))
    (pick (Coded c) c 6 (Int64 z) _ (λ e. inr (ap primitive e))
    (pick (Coded c) c 7 (Double low) _ (λ e. inr (ap primitive e))
    (pick (Coded c) c 8 _ _ (λ e. held c (ltb (mag z) 2147483648) (Decimal4 (record { integer = z; scale = scale })) (ap primitive e))
    (pick (Coded c) c 9 (Decimal8 (record { integer = z; scale = scale })) _ (λ e. inr (ap primitive e))
    (pick (Coded c) c 10 (Decimal16 (record { high = z; low = low; scale = scale })) _ (λ e. inr (ap primitive e))
    (pick (Coded c) c 11 _ _ (λ e. held c (ltb (mag z) 2147483648) (Date z) (ap primitive e))
    (pick (Coded c) c 12 (TimestampMicros z) _ (λ e. inr (ap primitive e))
    (pick (Coded c) c 13 (TimestampNtzMicros z) _ (λ e. inr (ap primitive e))
    (pick (Coded c) c 14 _ _ (λ e. held c (ltb low 4294967296) (Float low) (ap primitive e))
    (pick (Coded c) c 17 (Time z) _ (λ e. inr (ap primitive e))
    (pick (Coded c) c 18 (TimestampNanos z) _ (λ e. inr (ap primitive e)) (pick (Coded c) c 19 (TimestampNtzNanos z) _ (λ e. inr (ap primitive e)) (inl refl))))))))))))))))))

-- what is none is refused with 7
pub none_refused : out_of_range no_scalar ≡ true
none_refused = refl

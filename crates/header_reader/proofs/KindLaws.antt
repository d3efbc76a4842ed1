-- What a kind says of the first byte.
use mathlib.Core.Path.{◌≡◌, refl, sym, ◌∙◌}
use mathlib.Core.Bool.{Bool, true, false, cond}
use mathlib.Core.List.{List}
use Prim.Native.Nat.{ℕ, ◌%◌}
use native.Mathlib.Omega.{arith}
use lib.ListN.{get_or}
use borrow.Author.Tests.{eq-eqb, ne_eqb, eqb-true, eqb-false}
use Rattle.header_reader.specs.declared.kinds.Kind.{Kind}
use Rattle.header_reader.specs.declared.kinds.Kind.TheVariants as kind
use Rattle.header_reader.specs.Kinds.{is_list, is_object, kind_of}

module _ (v : List ℕ) {t : Kind} (e : t ≡ kind_of v) where
  pub kind_list : t ≡ kind.List → is_list v ≡ true
  kind_list q = go (is_list v) (is_object v) (sym q ∙ e)
    where
      go : (a b : Bool) → kind.List ≡ cond a kind.List (cond b kind.Object kind.Scalar) → a ≡ true
      go true b h = refl
      go false true h = absurd (cc)
      go false false h = absurd (cc)

  pub kind_object : t ≡ kind.Object → is_object v ≡ true
  kind_object q = go (is_list v) (is_object v) (sym q ∙ e)
    where
      go : (a b : Bool) → kind.Object ≡ cond a kind.List (cond b kind.Object kind.Scalar) → b ≡ true
      go true b h = absurd (cc)
      go false true h = refl
      go false false h = absurd (cc)

  pub kind_scalar : t ≡ kind.Scalar → (is_list v ≡ false) × (is_object v ≡ false)
  kind_scalar q = go (is_list v) (is_object v) (sym q ∙ e)
    where
      go : (a b : Bool) → kind.Scalar ≡ cond a kind.List (cond b kind.Object kind.Scalar) → (a ≡ false) × (b ≡ false)
      go true b h = absurd (cc)
      go false true h = absurd (cc)
      go false false h = (refl, refl)

  -- as numbers
  pub first_list : t ≡ kind.List → get_or v 0 0 % 4 ≡ 3
  first_list q = eqb-true (get_or v 0 0 % 4) 3 (kind_list q)

  pub first_object : t ≡ kind.Object → get_or v 0 0 % 4 ≡ 2
  first_object q = eqb-true (get_or v 0 0 % 4) 2 (kind_object q)

  pub first_other : (t ≡ kind.Object → ⊥) → get_or v 0 0 % 4 ≡ 2 → ⊥
  first_other n q = n (e ∙ (rw (ne_eqb (get_or v 0 0 % 4) 3 (omega arith), eq-eqb (get_or v 0 0 % 4) 2 q)))

  pub first_scalar : t ≡ kind.Scalar → (get_or v 0 0 % 4 ≡ 3 → ⊥) × (get_or v 0 0 % 4 ≡ 2 → ⊥)
  first_scalar q = let k = kind_scalar q in (eqb-false (get_or v 0 0 % 4) 3 k.0, eqb-false (get_or v 0 0 % 4) 2 k.1)

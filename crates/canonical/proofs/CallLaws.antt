-- The numbers of the whole call, and both promises of calls that were carried out.
use mathlib.Core.Path.{◌≡◌, refl, sym, ◌∙◌}
use mathlib.Core.Logic.{◌↔◌}
use mathlib.Core.Bool.{Bool, true, false, cond, not}
use mathlib.Core.List.{List, [], ◌∷◌}
use Prim.Native.Nat.{ℕ, ◌≤◌}
use native.Mathlib.Omega.{arith}
use lib.Dec.{eqb}
use lib.ListN.{length}
use borrow.Author.Tests.{ne_eqb, not-false}
use Rattle.encoding.specs.Rows.{row, first, order, in_order}
use Rattle.encoding.specs.Slices.{counted, fits}
use Rattle.encoding.proofs.RowsLaws.{first_none, clear_at, first_own}
use Rattle.encoding.proofs.SliceLaws.{fits_counted}
use Rattle.metadata.specs.Names.{Name}
use Rattle.lexicon.specs.Dictionary.{most_bytes}
use Rattle.grammar.specs.Grammar.{Shape, ReadsPair}
use Rattle.grammar.specs.Tests.{pair_rows}
use Rattle.grammar.proofs.TestLaws.{reads_pair}
use Rattle.live.specs.Live.{Live}
use Rattle.canonical.specs.Canonical.{one_value, one_dictionary}
use Rattle.canonical.specs.OneForm.{held, canon_rows}
use Rattle.canonical.proofs.OneFormLaws.{one_accepted, one_form}

module _ (d v : List ℕ) (l : Live) (valueRoom dictionaryRoom : ℕ) where
  pub rows_ordered : in_order order (canon_rows d v l valueRoom dictionaryRoom) ≡ true
  rows_ordered = refl

  -- the number of the two rows of its own
  abbrev pub own_number : ℕ
  own_number = cond (fits 0 (length (one_value l)) valueRoom) (cond (fits 0 (length (one_dictionary l)) dictionaryRoom) 0 16) 14

  number_by : first (canon_rows d v l valueRoom dictionaryRoom) ≡ cond (eqb (first (pair_rows d v)) 0) own_number (first (pair_rows d v))
  unfolding first
  number_by =
      let a = fits 0 (length (one_value l)) valueRoom in
      let b = fits 0 (length (one_dictionary l)) dictionaryRoom in
      first_own order [] (pair_rows d v) (row 14 (not a) ∷ row 16 (not b) ∷ []) refl ∙ go (eqb (first (pair_rows d v)) 0) a b
    where
      go : (s t u : Bool) → let n = first (pair_rows d v) in cond (not s) n (cond (not t) 14 (cond (not u) 16 0)) ≡ cond s (cond t (cond u 0 16) 14) n
      go true true true = refl
      go true true false = refl
      go true false u = refl
      go false t u = refl

  -- "A pair that the reader refuses gives 19 or 20"
  pub number_refused : (first (pair_rows d v) ≡ 0 → ⊥) → first (canon_rows d v l valueRoom dictionaryRoom) ≡ first (pair_rows d v)
  number_refused h = number_by ∙ rw (ne_eqb (first (pair_rows d v)) 0 h) refl

  -- "then it is 14 exactly if the new value is longer than its output, and then 16 exactly if the new dictionary is"
  pub number_accepted : first (pair_rows d v) ≡ 0 → first (canon_rows d v l valueRoom dictionaryRoom) ≡ own_number
  number_accepted h = number_by ∙ rw h refl

  -- where the outputs suffice
  pub record Suffices : Type 0 where
    pub accepted : first (pair_rows d v) ≡ 0
    pub value : length (one_value l) ≤ counted valueRoom
    pub dictionary : length (one_dictionary l) ≤ counted dictionaryRoom

  pub number_none : first (canon_rows d v l valueRoom dictionaryRoom) ≡ 0 → Suffices
  number_none h =
      let rows = canon_rows d v l valueRoom dictionaryRoom in
      let c = (first_none order rows refl).0 h in
      let a = fits_counted 0 (length (one_value l)) valueRoom refl (not-false _ (clear_at 14 rows c)) in
      let b = fits_counted 0 (length (one_dictionary l)) dictionaryRoom refl (not-false _ (clear_at 16 rows c)) in
      record { accepted = (first_none order (pair_rows d v) refl).1 (c.0, (c.1.0, tt)); value = omega arith; dictionary = omega arith }

-- ---- calls that were carried out

module _ {d v : List ℕ} {w : ℕ} {mark : Bool} {names : List Name} {t : Shape} (x : ReadsPair d v w mark names t) where
  -- then four bytes count the new value
  pub called_counted : (valueRoom dictionaryRoom : ℕ) → first (canon_rows d v (held x) valueRoom dictionaryRoom) ≡ 0 → length (one_value (held x)) ≤ most_bytes
  called_counted valueRoom dictionaryRoom h = let s = (number_none d v (held x) valueRoom dictionaryRoom h).value in omega arith

  -- a call on the new pair, with outputs of any size, has the number that it had on the old pair
  pub called_again : length (one_value (held x)) ≤ most_bytes → (valueRoom dictionaryRoom : ℕ)
      → first (canon_rows (one_dictionary (held x)) (one_value (held x)) (held x) valueRoom dictionaryRoom)
      ≡ first (canon_rows d v (held x) valueRoom dictionaryRoom)
  called_again h valueRoom dictionaryRoom =
      number_accepted (one_dictionary (held x)) (one_value (held x)) (held x) valueRoom dictionaryRoom (one_accepted x h)
      ∙ sym (number_accepted d v (held x) valueRoom dictionaryRoom (reads_pair x))

-- "Two accepted pairs, where the outputs suffice, give equal bytes exactly when they hold the same live tree"
pub called_form : {d e v u : List ℕ} {w x : ℕ} {mark other : Bool} {names others : List Name} {s t : Shape}
    (a : ReadsPair d v w mark names s) (b : ReadsPair e u x other others t) (i j m n : ℕ)
    → first (canon_rows d v (held a) i j) ≡ 0 → first (canon_rows e u (held b) m n) ≡ 0
    → ((one_value (held a) ≡ one_value (held b)) × (one_dictionary (held a) ≡ one_dictionary (held b))) ↔ (held a ≡ held b)
called_form a b i j m n h k = one_form a b (called_counted a i j h) (called_counted b m n k)

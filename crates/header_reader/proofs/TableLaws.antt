-- Numbers in a row: each as it is read, and those that are left decide as all of them do.
use mathlib.Core.Path.{◌≡◌, refl, sym, ◌∙◌, ap}
use mathlib.Core.Bool.{Bool, true, false, not, ◌&&◌, false≢true}
use mathlib.Core.List.{List, [], ◌∷◌, map}
use Prim.Native.Nat.{ℕ, suc, ◌+◌, ◌-◌, ◌*◌, ◌≤◌, ◌<◌, min}
use native.Mathlib.Nat.{mul-le-mul_right}
use native.Mathlib.Omega.{arith}
use lib.Dec.{eqb, ltb}
use lib.ListN.{length, take, drop, get_or, get_or-eq_default}
use lib.Seq.{drop-drop}
use borrow.Author.Tests.{eq-eqb, ne_eqb, eqb-true, eqb-false}
use Rattle.metadata.specs.Names.{Name, same, below, ascending}
use Rattle.metadata.specs.Bytes.{numbers}
use Rattle.container.specs.Sort.{name_at}
use Rattle.std.specs.Prelude.{Option, Some, None}
use Rattle.std.specs.List.{list_all}
use Rattle.std.specs.Option.{is_some}
use Rattle.measure.specs.Measure.{measured, number_at, Numbered, some_length}
use Rattle.lexicon.proofs.ByteLaws.{length_numbers}
use Rattle.lexicon.proofs.NameLaws.{end_at, numbered}
use Rattle.lexicon.specs.Dictionary.{each_below}
use Rattle.grammar.specs.Tests.{starts_of}
use Rattle.header_reader.specs.Windows.{starts_at}
use Rattle.header_reader.proofs.StartLaws.{starts_none, starts_more, walked, walked_none, walked_within}

-- no place overflows
pub row_small : {w n : ℕ} → w ≤ 4 → n ≤ 4294967296 → w * n ≤ 17179869184
row_small {w} {n} h k = omega (arith, mul-le-mul_right n h)

-- number k of n numbers of w bytes from a place on, and none behind them
module _ (w n at k : ℕ) (bytes : List ℕ) where
  pub number_in : {r : ℕ} → w ≤ 4 → k < n → Numbered bytes (at + w * k) (min w 4) r → (r ≡ get_or (numbers w n (drop at bytes)) k 0) × (r < 4294967296)
  number_in h l e =
      let c : get_or (numbers w n (drop at bytes)) k 0 ≡ number_at bytes (at + w * k) w = end_at w n k (drop at bytes) l ∙ (rw (drop-drop (w * k) at bytes)) in
      (numbered h e ∙ sym c, e.small)

  pub none_in : n ≤ k → (0 ≡ get_or (numbers w n (drop at bytes)) k 0) × (0 < 4294967296)
  none_in h = (sym (get_or-eq_default (numbers w n (drop at bytes)) 0 {n = k} (rw (length_numbers w n (drop at bytes)) h)), omega arith)

-- the first of them
pub numbers_next : (w n at : ℕ) (bytes : List ℕ) {r : ℕ} → w ≤ 4 → (n ≡ 0 → ⊥) → Numbered bytes at (min w 4) r → numbers w n (drop at bytes) ≡ r ∷ numbers w (n - 1) (drop (at + w) bytes)
unfolding numbers
numbers_next w n at bytes h z e =
    let k : n ≡ suc (n - 1) = omega arith in
    rw (numbered h e) (ap (λ m. numbers w m (drop at bytes)) k ∙ ap (λ l. number_at bytes at w ∷ numbers w (n - 1) l) (drop-drop w at bytes))

-- ---- each below a bound

pub all_below : (b : ℕ) (ns : List ℕ) → list_all (λ n. ltb n b) ns ≡ each_below b ns
unfolding each_below
all_below b [] = refl
all_below b (n ∷ ns) = ap (λ t. ltb n b && t) (all_below b ns)

-- ---- the starts of values, one by one

pub record Beside (r : Bool) (vs : List ℕ) (at : ℕ) (ns : List ℕ) : Type 0 where
  pub alike : same ns (starts_at vs at) ≡ r
  pub high : at ≤ length vs

pub beside_start : (vs ns : List ℕ) → Beside (same ns (starts_of vs)) vs 0 ns
unfolding starts_at starts_of
beside_start vs ns = record { alike = refl; high = omega arith }

module _ {r : Bool} {vs : List ℕ} {at : ℕ} {all : List ℕ} (i : Beside r vs at all) where
  pub beside_within : {n : ℕ} → Some n ≡ some_length (measured (take (length vs - at) (drop at vs))) → at + n ≤ length vs
  beside_within e = walked_within vs at _ i.high (walked vs at e).0

  module _ {e : ℕ} {ns : List ℕ} (f : all ≡ e ∷ ns) where
    beside_stop : measured (drop at vs) ≡ 0 → false ≡ r
    unfolding same
    beside_stop z = rw (f, starts_none vs at z) at i.alike

    pub beside_none : None ≡ some_length (measured (take (length vs - at) (drop at vs))) → false ≡ r
    beside_none e = beside_stop (walked_none vs at e)

    beside_next : {n : ℕ} → n ≡ measured (drop at vs) → 0 < n → (eqb e at && same ns (starts_at vs (at + n))) ≡ r
    unfolding same
    beside_next {n} g k = rw (f, starts_more vs at n g k) at i.alike

    pub beside_other : (e ≡ at → ⊥) → false ≡ r
    beside_other g = go (eqb (measured (drop at vs)) 0) refl
      where
        go : (t : Bool) → eqb (measured (drop at vs)) 0 ≡ t → false ≡ r
        go true z = beside_stop (eqb-true (measured (drop at vs)) 0 z)
        go false z =
            let y = eqb-false (measured (drop at vs)) 0 z in
            rw (ne_eqb e at g) at (beside_next {n = measured (drop at vs)} refl (omega arith))

    pub beside_again : {n : ℕ} → Some n ≡ some_length (measured (take (length vs - at) (drop at vs))) → e ≡ at → Beside r vs (at + n) ns
    beside_again {n} s q = let g = (walked vs at s).0 in let k = (walked vs at s).1 in record { alike = rw (eq-eqb e at q) at (beside_next {n = n} g k); high = walked_within vs at n i.high g }

  -- whether a value is left
  pub beside_end : {o : Option ℕ} {t : Bool} → all ≡ [] → o ≡ some_length (measured (take (length vs - at) (drop at vs))) → is_some o ≡ not t → t ≡ r
  unfolding same
  beside_end {o} {t} f g q = go o t g q
    where
      go : (o : Option ℕ) (t : Bool) → o ≡ some_length (measured (take (length vs - at) (drop at vs))) → is_some o ≡ not t → t ≡ r
      go None true e z = rw (f, starts_none vs at (walked_none vs at e)) at i.alike
      go (Some n) false e z = let w = walked vs at e in rw (f, starts_more vs at n w.0 w.1) at i.alike
      go None false e z = absurd (false≢true z)
      go (Some n) true e z = absurd (false≢true (sym z))

-- ---- ids of ascending names

pub record Names (r : Bool) (names : List Name) (id : ℕ) (ids : List ℕ) : Type 0 where
  pub order : ascending (map (name_at names) (id ∷ ids)) ≡ r

pub names_none : (names : List Name) {ids : List ℕ} → ids ≡ [] → true ≡ ascending (map (name_at names) ids)
unfolding ascending
names_none names e = rw e

module _ {r : Bool} {names : List Name} {id next : ℕ} {all ids : List ℕ} (i : Names r names id all) (f : all ≡ next ∷ ids) where
  names_next : (below (name_at names id) (name_at names next) && ascending (map (name_at names) (next ∷ ids))) ≡ r
  unfolding ascending
  names_next = rw f at i.order

  pub names_fall : below (name_at names id) (name_at names next) ≡ false → false ≡ r
  names_fall b = rw b at names_next

  pub names_again : below (name_at names id) (name_at names next) ≡ true → Names r names next ids
  names_again b = record { order = rw b at names_next }

pub names_end : {r : Bool} {names : List Name} {id : ℕ} {all : List ℕ} → Names r names id all → all ≡ [] → true ≡ r
unfolding ascending
names_end i f = rw f at i.order

-- Laws that the documents name: whether the names ascend, in the form of a loop over places. The code asks it of an iterator today (`sorted_as_found`,
-- by `rises` of FinishLaws); a proof of code in the form of a loop needs these.
use mathlib.Core.Path.{◌≡◌, refl, sym, ◌∙◌}
use mathlib.Core.Bool.{Bool, true, false, ◌&&◌}
use mathlib.Core.List.{List, [], ◌∷◌}
use Prim.Native.Nat.{ℕ, zero, suc, ◌+◌, ◌≤◌, ◌<◌}
use native.Mathlib.Numerals.{add-one}
use native.Mathlib.Omega.{arith}
use lib.ListN.{length, drop, get_or}
use Rattle.metadata.specs.Names.{Name, below, ascending, sorted}

-- of those from the i-th on, each below the next decides
pub record Ascends (t : Bool) (ns : List Name) (i : ℕ) : Type 0 where
  pub same : ascending (drop i ns) ≡ t
  pub low : i < length ns

ascending_next : (i : ℕ) (ns : List Name) → suc i < length ns → ascending (drop i ns) ≡ (below (get_or ns i []) (get_or ns (suc i) []) && ascending (drop (suc i) ns))
unfolding ascending
ascending_next i [] h = absurd (omega arith)
ascending_next i (x ∷ []) h = absurd (omega arith)
ascending_next zero (x ∷ (y ∷ ns)) h = refl
ascending_next (suc i) (x ∷ (y ∷ ns)) h = ascending_next i (y ∷ ns) (omega arith)

ascending_last : (i : ℕ) (ns : List Name) → i < length ns → length ns ≤ suc i → ascending (drop i ns) ≡ true
unfolding ascending
ascending_last i [] h k = absurd (omega arith)
ascending_last zero (x ∷ []) h k = refl
ascending_last zero (x ∷ (y ∷ ns)) h k = absurd (omega arith)
ascending_last (suc i) (x ∷ ns) h k = ascending_last i ns (omega arith) (omega arith)

pub ascends_start : (ns : List Name) → 0 < length ns → Ascends (sorted ns) ns 0
unfolding sorted
ascends_start [] h = absurd (omega arith)
ascends_start (n ∷ ns) h = record { same = refl; low = omega arith }

pub ascends_none : (ns : List Name) → length ns ≡ 0 → false ≡ sorted ns
unfolding sorted
ascends_none [] e = refl
ascends_none (n ∷ ns) e = absurd (omega arith)

module _ {t : Bool} {ns : List Name} {i : ℕ} (a : Ascends t ns i) where
  pub ascends_again : i + 1 < length ns → below (get_or ns i []) (get_or ns (i + 1) []) ≡ true → Ascends t ns (i + 1)
  ascends_again h b =
      let e = rw add-one at b in
      record { same = rw add-one (sym (rw e at (ascending_next i ns (omega arith))) ∙ a.same); low = h }

  pub ascends_fall : i + 1 < length ns → below (get_or ns i []) (get_or ns (i + 1) []) ≡ false → false ≡ t
  ascends_fall h b = let e = rw add-one at b in sym (rw e at (ascending_next i ns (omega arith))) ∙ a.same

  pub ascends_end : length ns ≤ i + 1 → true ≡ t
  ascends_end h = sym (ascending_last i ns a.low (omega arith)) ∙ a.same

-- One step of the path, and its words before those of the others.
use mathlib.Core.Path.{◌≡◌, refl, ◌∙◌, ap}
use mathlib.Core.List.{List, [], ◌++◌}
use Prim.Native.Nat.{ℕ, zero, suc, ◌+◌, ◌-◌, ◌≤◌}
use native.Mathlib.Omega.{arith}
use lib.ListN.{length, length-append}
use Rattle.std.specs.Prelude.{Option, Some, None}
use Rattle.metadata.specs.Names.{Name}
use Rattle.header_reader.specs.Heads.{value_from}
use Rattle.live.specs.Words.{steps_words}
use Rattle.path_words.specs.declared.Child.{Child}
use Rattle.path_words.specs.Descent.{child_over, path_in, step_of}
use Rattle.path_words.specs.Writing.{step_words}
use Rattle.path_words.proofs.WalkLaws.{child_low}
use Rattle.path_words.proofs.WordLaws.{steps_step}

-- ---- all words t are those of a step, a, and the others, b

pub record Splits (t a b : List ℕ) : Type 0 where
  pub joined : t ≡ a ++ b

module _ {t a b : List ℕ} (e : Splits t a b) where
  pub parts : length t ≡ length a + length b
  parts = ap length e.joined ∙ length-append a b

-- ---- by the child that the place is within

pub steps_none : (names : List Name) (depth p : ℕ) (v : List ℕ) → depth ≡ 0 → steps_words (path_in depth names p v) ≡ []
unfolding path_in steps_words
steps_none names zero p v h = refl
steps_none names (suc d) p v h = absurd (omega arith)

module _ (p : ℕ) (v : List ℕ) {o : Option Child} (e : o ≡ child_over v p) where
  pub child_start : {c : Child} → o ≡ Some c → c.start ≤ p
  child_start q = rw (← e, q) at (child_low v p)

  module _ (names : List Name) (depth : ℕ) where
    pub steps_nothing : o ≡ None → steps_words (path_in depth names p v) ≡ []
    unfolding path_in steps_words
    steps_nothing q = go depth
      where
        go : (d : ℕ) → steps_words (path_in d names p v) ≡ []
        go zero = refl
        go (suc d) = rw (← e, q)

    pub child_steps : {c : Child} → o ≡ Some c → {w : List ℕ} {n : ℕ} → w ≡ value_from c.start v → n ≡ p - c.start → (depth ≡ 0 → ⊥)
        → Splits (steps_words (path_in depth names p v)) (step_words (step_of names c.step)) (steps_words (path_in (depth - 1) names n w))
    unfolding path_in
    child_steps {c} q {w} {n} r m h = record { joined = go depth h }
      where
        go : (d : ℕ) → (d ≡ 0 → ⊥) → steps_words (path_in d names p v) ≡ step_words (step_of names c.step) ++ steps_words (path_in (d - 1) names n w)
        go zero h = absurd (h refl)
        go (suc d) h =
            let z : suc d - 1 ≡ d = omega arith in
            rw (z, r, m, ← e, q) (steps_step (step_of names c.step) (path_in d names (p - c.start) (value_from c.start v)))

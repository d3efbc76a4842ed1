-- Containers in which no mark is set.
use mathlib.Core.Path.{◌≡◌, refl}
use mathlib.Core.Bool.{Bool, true, ◌&&◌}
use mathlib.Core.List.{List}
use Prim.Native.Nat.{ℕ, zero, suc, ◌-◌, ◌<◌}
use native.Mathlib.Omega.{arith}
use lib.Dec.{eqb}
use Rattle.semantics.specs.declared.Container.{Container}
use Rattle.semantics.specs.declared.Counts.{Counts}
use Rattle.semantics.specs.Record.{container_at, marks_hold}
use Rattle.semantics.proofs.ViewLaws.{both}

-- none is set in the first d containers from depth i on: what is left decides
pub record Unmarked (ks : List Container) (ns : List ℕ) (c : Counts) (d : ℕ) (none : Bool) (i : ℕ) : Type 0 where
  pub rest : none ≡ true → (ms : List ℕ) → marks_hold ks ns ms c i ≡ true → marks_hold ks ns ms c d ≡ true

pub unmarked_again : {ks : List Container} {ns : List ℕ} {c : Counts} {d : ℕ} {none : Bool} {i : ℕ} → Unmarked ks ns c d none i → 0 < i
    → Unmarked ks ns c d (none && eqb (container_at ks (i - 1)).marks 0) (i - 1)
unfolding marks_hold
unmarked_again {ks} {ns} {c} {d} {none} {i} u h = go i u h
  where
    go : (i : ℕ) → Unmarked ks ns c d none i → 0 < i → Unmarked ks ns c d (none && eqb (container_at ks (i - 1)).marks 0) (i - 1)
    go zero u h = absurd (omega arith)
    go (suc i) u h =
        let p : suc i - 1 ≡ i = omega arith in
        rw p
        (record { rest = λ t ms r. let b = both none (eqb (container_at ks i).marks 0) t in u.rest b.0 ms (rw (b.1, r)) })

pub unmarked_end : {ks : List Container} {ns : List ℕ} {c : Counts} {d : ℕ} {none : Bool} {i : ℕ} → Unmarked ks ns c d none i → i ≡ 0
    → none ≡ true → (ms : List ℕ) → marks_hold ks ns ms c d ≡ true
unfolding marks_hold
unmarked_end {ks} {ns} {c} {d} u z t ms = rw z at (u.rest t ms) refl

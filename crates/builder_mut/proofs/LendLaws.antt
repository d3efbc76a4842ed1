-- What `lend` leaves is the step, from what the method that it calls says.
use mathlib.Core.Path.{◌≡◌, refl}
use mathlib.Core.Bool.{Bool, true, false, cond}
use lib.Dec.{eqb}
use Rattle.semantics.specs.Record.{State, Call, view_at}
use Rattle.semantics.specs.Table.{number_of}
use Rattle.semantics.specs.Step.{Outcome, step, written_by}

-- a step writes no bytes of the output where its call writes none
pub written_none : (s : State) (k : Call) → written_by (view_at s) s.storage k ≡ 0 → (step s k).written ≡ 0
unfolding step
written_none s k z = go (eqb (number_of (view_at s) s.storage k) 0) _ _ z refl
  where
    go : (t : Bool) (o p : Outcome) → o.written ≡ 0 → p.written ≡ 0 → (cond t o p).written ≡ 0
    go true o p e f = e
    go false o p e f = f

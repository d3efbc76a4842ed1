-- By the first byte's low two bits.
use native.Mathlib.Omega.{arith}
use mathlib.Core.Path.{refl, ◌∙◌, ◌≡◌}
use Prim.Native.Nat.{◌*◌, ◌/◌, ◌≤◌, ◌%◌}
use lib.Bits.{and_mask}
use Rattle.measure.proofs.MeasureLaws.{known_says, list_says, none_empty, none_told, object_says, short_known, some_told}
use Rattle.measure.proofs.length.value_length.Goals as goal
use Rattle.measure.proofs.length.value_length.Goals.{in-0+in_ok-n-in-0, in-1, in-2+in_ok-n-in-2, in_default-2+in_ok-n-in_default-2}

pub returns-in_default : goal.returns-in_default
returns-in_default c = none_empty _ (omega arith)

pub returns-in_err-n-in-0 : goal.returns-in_err-n-in-0
returns-in_err-n-in-0 c =
    let b = c.from-b in
    let m = and_mask b.result 2 in
    let h : b.result % 4 ≤ 1 = omega arith in
    let e : 4 * (b.result / 4) ≡ b.result = omega arith in
    rw c.from_residual.ensures
    (none_told _ _ (known_says b.result c.args.v.now b.ensures (omega arith) h) (rw e at c.in_err-n-in-0.ensures))

pub returns-in_err-n-in-2 : goal.returns-in_err-n-in-2
returns-in_err-n-in-2 c =
    let b = c.from-b in
    let m = and_mask b.result 2 in
    rw c.from_residual-in_err-n-in-2.ensures
    (none_told _ _ (object_says b.result c.args.v.now b.ensures (omega arith) (omega arith)) c.in_err-n-in-2.ensures)

pub returns-in_err-n-in_default-2 : goal.returns-in_err-n-in_default-2
returns-in_err-n-in_default-2 c =
    let b = c.from-b in
    let m = and_mask b.result 2 in
    rw c.from_residual-in_err-n-in_default-2.ensures
    (none_told _ _ (list_says b.result c.args.v.now b.ensures (omega arith) (omega arith)) c.in_err-n-in_default-2.ensures)

pub returns : goal.returns
returns c =
    let v = c.args.v.now in
    let b = c.from-b in
    let m = and_mask b.result 2 in
    rw c.then_some.ensures
    (elim c.match-b-and3.branch [
      | in-0+in_ok-n-in-0 w ↦
          let e : 4 * (b.result / 4) ≡ b.result = omega arith in
          rw w.n-is (some_told _ _ v (known_says b.result v b.ensures (omega arith) (omega arith)) (rw e at w.in_ok-n-in-0.ensures))
      | in-1 w ↦
          let s = short_known b.result v b.ensures (omega arith) (omega arith) in
          rw w.n-is (some_told _ _ v (known_says b.result v b.ensures (omega arith) (omega arith) ∙ s) (refl, omega arith))
      | in-2+in_ok-n-in-2 w ↦ rw w.n-is (some_told _ _ v (object_says b.result v b.ensures (omega arith) (omega arith)) (w.in_ok-n-in-2.ensures))
      | in_default-2+in_ok-n-in_default-2 w ↦ rw w.n-is (some_told _ _ v (list_says b.result v b.ensures (omega arith) (omega arith)) (w.in_ok-n-in_default-2.ensures))
    ])

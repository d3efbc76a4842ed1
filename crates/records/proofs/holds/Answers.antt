-- At most 64 are open and the chain holds; else the chain decides.
use Rattle.std.proofs.Common.{◌≡◌, ◌≤◌, ◌<◌, ◌∙◌, ◌-◌, Bool, true, false, List, ℕ, sym}
use borrow.Author.Tests.{lt-leb}
use Rattle.semantics.specs.declared.Container.{Container}
use Rattle.semantics.specs.Record.{chained, rising}
use Rattle.semantics.proofs.ViewLaws.{chain_far, chain_some}
use Rattle.records.proofs.holds.Goals as goal
use Rattle.records.proofs.holds.Goals.{then-d-le64, else-d-le64}

-- what the chain says decides, where it does not hold
module _ (ks : List Container) (ns : List ℕ) (d : ℕ) where
  some : {v t : Bool} → d ≤ 64 → v ≡ rising ks ns (d - 1) → v ≡ t → chained ks ns d ≡ t
  some h e z = sym (chain_some ks ns d h) ∙ (sym e ∙ z)

  far : 64 < d → chained ks ns d ≡ false
  far h = sym (chain_far ks ns d h)

pub returns-then-rises : goal.returns-then-rises
returns-then-rises g c =
    let b = g.R.Record.builder c.args.r.now in
    let e : chained b.containers b.elements c.args.d ≡ true
    = elim c.if-d-le64.branch [
      | then-d-le64 w ↦ some b.containers b.elements c.args.d w.if-d-le64.true (w.value-is ∙ w.rises.ensures) c.if-rises.true
      | else-d-le64 w ↦ absurd (let t : true ≡ false = sym c.if-rises.true ∙ (w.value-is ∙ lt-leb c.args.d 64 w.if-d-le64.false) in cc)
    ] in
    rw e c.marks_hold.ensures

pub returns-else-rises : goal.returns-else-rises
returns-else-rises g c =
    let b = g.R.Record.builder c.args.r.now in
    let e : chained b.containers b.elements c.args.d ≡ false
    = elim c.if-d-le64.branch [
      | then-d-le64 w ↦ some b.containers b.elements c.args.d w.if-d-le64.true (w.value-is ∙ w.rises.ensures) c.if-rises.false
      | else-d-le64 w ↦ far b.containers b.elements c.args.d w.if-d-le64.false
    ] in
    rw e c.if-rises.false

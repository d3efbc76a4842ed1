-- The uniqueness mark of an innermost container.
use mathlib.Core.Path.{◌≡◌}
use mathlib.Core.List.{List}
use mathlib.Core.Bool.{Bool, false, ◌&&◌, ◌||◌, and-eq-true_iff}
use Prim.Native.Nat.{ℕ, ◌-◌, ◌≤◌, ◌<◌}
use lib.Dec.{leb, ltb}
use borrow.Author.Tests.{leb-true, ltb-true, not-false}
use Rattle.semantics.specs.declared.Builder.{Builder}
use Rattle.semantics.specs.Record.{Storage, uniqueness, view_of, innermost, in_object, rising, chained, marks_hold}
use Rattle.semantics.specs.Damage.{over_used, grown, unchained, bad_floor}
use Rattle.semantics.specs.Table.{number_of}
use Rattle.semantics.proofs.Demand1.{none_at}
use Rattle.refusals.proofs.ViewLaws.{neither}
use Rattle.std.specs.Prelude.{Result, Ok}
use Rattle.semantics.specs.declared.Container.{Container}
use Rattle.semantics.specs.declared.View.{View}
use Rattle.semantics.specs.declared.refusal.Refusal.{Refusal}
use Rattle.semantics.specs.Step.{with_unique}
use Rattle.semantics.proofs.RefusalLaws.{then_ok}
use Rattle.actions.specs.Actions.{SetsUnique}

-- carried out, it gives what the definition says
pub container_ok : {v : View} {l : Storage} {u : Bool} {r : Result Container Refusal} → SetsUnique v l u r → number_of v l (uniqueness u) ≡ 0 → r ≡ Ok (with_unique v.inner u)
container_ok {r = r} w = then_ok _ r w.number w.container

-- carried out, the innermost is one of the 64
pub unique_open : (b : Builder) (ms : List ℕ) (l : Storage) (u : Bool) → number_of (view_of b ms) l (uniqueness u) ≡ 0 → (0 < b.counts.depth) × (b.counts.depth ≤ 64)
unfolding unchained chained
unique_open b ms l u e =
    let k = none_at (view_of b ms) l (uniqueness u) e in
    let d = b.counts.depth in
    let i = (and-eq-true_iff (ltb 0 d) (innermost b.containers d).object).0 (not-false (in_object (view_of b ms)) (k 3)) in
    let rest = bad_floor (view_of b ms) || false in
    let g = neither (over_used (view_of b ms) l) (unchained (view_of b ms) || rest) (k 1) in
    let f = neither (unchained (view_of b ms)) rest g.1 in
    let m = marks_hold b.containers b.elements ms b.counts d in
    let w = (and-eq-true_iff (view_of b ms).chain (grown (view_of b ms))).0 (not-false ((view_of b ms).chain && grown (view_of b ms)) f.0) in
    let c = (and-eq-true_iff (chained b.containers b.elements d) m).0 w.0 in
    (ltb-true 0 d i.0, leb-true d 64 ((and-eq-true_iff (leb d 64) (rising b.containers b.elements (d - 1))).0 c.0).0)

-- A mark set, and the return to one.
use mathlib.Core.Path.{◌≡◌, sym, ◌∙◌}
use mathlib.Core.Bool.{true, false, not, true≢false}
use mathlib.Core.List.{List}
use Prim.Native.Nat.{ℕ, zero, suc, ◌-◌, ◌<◌}
use native.Mathlib.Omega.{arith}
use lib.Dec.{eqb, leb}
use lib.ListN.{length}
use borrow.Author.Tests.{eq-eqb, leb-true, leb-false, le-leb, ltb-true, ltb-false, not-false}
use Rattle.container.specs.Entries.{room_for}
use Rattle.container.specs.Undo.{undone_in}
use Rattle.semantics.specs.declared.Builder.{Builder}
use Rattle.semantics.specs.declared.Container.{Container}
use Rattle.semantics.specs.declared.Counts.{Counts}
use Rattle.semantics.specs.declared.Mark.{Mark}
use Rattle.semantics.specs.declared.View.{View}
use Rattle.std.specs.Prelude.{Result, Ok}
use Rattle.semantics.specs.declared.refusal.Refusal.{Refusal}
use Rattle.semantics.proofs.RefusalLaws.{then_ok}
use Rattle.semantics.specs.Record.{Storage, set_mark, return_to, chained, container_at, is_open, mark_at, slot_of, storage_of, view_of}
use Rattle.semantics.specs.Damage.{misplaced_inner, over_used, unchained}
use Rattle.semantics.specs.Table.{number_of}
use Rattle.semantics.specs.Step.{entries_returned, mark_to, returned, with_marks, with_unique}
use Rattle.semantics.proofs.Demand1.{none_at}
use Rattle.refusals.proofs.ViewLaws.{Within, neither, undamaged_unbroken, within}
use Rattle.semantics.proofs.ViewLaws.{both, inner_at, mark_between}
use Rattle.actions.specs.declared.Marked.{Marked}
use Rattle.actions.specs.declared.Returned.{Returned}
use Rattle.actions.specs.Actions.{Returns, SetsMark, counts_at, entries_at, marked_to, reachable, returned_to}

-- ---- a mark

-- one that is set is one of 16
pub marks_few : (v : View) (l : Storage) {n : ℕ} → n ≡ number_of v l set_mark → n ≡ 0 → v.inner.marks < 16
marks_few v l q h = leb-false 16 v.inner.marks (neither (not (is_open v)) _ (none_at v l set_mark (sym q ∙ h) 22)).1

-- it is what the definition says
pub marked_ok : {v : View} {l : Storage} {r : Result Marked Refusal} → SetsMark v l r → number_of v l set_mark ≡ 0 → r ≡ Ok (marked_to v)
marked_ok {r = r} w = then_ok _ r w.number w.marked

-- ---- a return

pub returned_ok : {v : View} {l : Storage} {p : Mark} {j : ℕ} {r : Result Returned Refusal} {after : Storage} → Returns v l p j r after → number_of v l (return_to j) ≡ 0 → r ≡ Ok (returned_to v l p j)
returned_ok {r = r} w = then_ok _ r w.number w.returned

-- the records undone are those of the definition
entries_returned_lem : (v : View) (l : Storage) (p : Mark) → Within v l → reachable v p ≡ true → entries_at v l p ≡ entries_returned v l p
unfolding entries_returned undone_in
entries_returned_lem v l p w e =
    let b = both (leb v.inner.entries p.entries) (leb p.entries v.counts.entries) e in
    let h = leb-true p.entries v.counts.entries b.1 in
    let k = w.entries in
    rw (b.0, le-leb p.entries (room_for (length l.entries)) (omega arith), le-leb v.counts.undo (room_for (length l.undo)) w.undo)

pub return_done : {v : View} {l : Storage} {p : Mark} {j : ℕ} {c : Counts} {k : Container} {es : List ℕ} → 0 ≡ number_of v l (return_to j)
    → es ≡ entries_at v l p → c ≡ counts_at v.counts p → k ≡ with_marks (with_unique v.inner p.unique) j
    → Returns v l p j (Ok (record { counts = c; elements = p.count; container = k })) (storage_of l.value l.text l.ends es l.undo)
unfolding returned
return_done {v} {l} {p} {j} q e c k =
    let z = sym q in
    let z' = eq-eqb (number_of v l (return_to j)) 0 z in
    let w = within v l (undamaged_unbroken v l (misplaced_inner v l) (none_at v l (return_to j) z 1)) in
    record { number = q; returned = rw (z', c, k); storage = λ r. rw (z', e, entries_returned_lem v l p w (r z)) }

-- a mark that a return of number 0 goes to lies between its container's start and the present
pub return_reachable : (b : Builder) (ms : List ℕ) (l : Storage) (j : ℕ) → number_of (view_of b ms) l (return_to j) ≡ 0
    → reachable (view_of b ms) (mark_to (view_of b ms) ms (return_to j)) ≡ true
unfolding unchained
return_reachable b ms l j z =
    let v = view_of b ms in
    let d = b.counts.depth in
    let k = container_at b.containers (d - 1) in
    let set = neither (not (is_open v)) _ (none_at v l (return_to j) z 22) in
    let inside = ltb-true 0 d (not-false (is_open v) set.0) in
    let low = neither (eqb j 0) _ set.1 in
    let chain = (both v.chain _ (not-false _ (neither (unchained v) _ (neither (over_used v l) _ (none_at v l (return_to j) z 1)).1).0)).0 in
    let held = (both (chained b.containers b.elements d) _ chain).1 in
    let s : suc (d - 1) ≡ d = omega arith in
    let i = inner_at b.containers d inside in
    let p = mark_at ms (slot_of (d - 1) j) in
    let m = mark_between b.containers b.elements ms b.counts (d - 1) j (rw s held) (positive j low.0) (rw i (ltb-false _ j low.1)) in
    rw (← i) (rw (le-leb k.entries p.entries m.0, le-leb p.entries b.counts.entries m.1))
  where
    positive : (j : ℕ) → eqb j 0 ≡ false → 0 < j
    positive zero e = absurd (true≢false e)
    positive (suc j) e = omega arith

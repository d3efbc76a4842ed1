-- A roll back that is carried out.
use mathlib.Core.Path.{◌≡◌, refl, sym, ◌∙◌, ap}
use mathlib.Core.Bool.{Bool, true, false, cond, not}
use mathlib.Core.List.{List}
use Prim.Native.Nat.{ℕ, ◌-◌, ◌≤◌}
use native.Mathlib.Omega.{arith}
use lib.Dec.{ltb}
use borrow.Author.Tests.{ltb-true, not-false}
use Rattle.encoding.specs.Rows.{first}
use Rattle.metadata.specs.declared.MetadataBuilder.{MetadataBuilder}
use Rattle.metadata.specs.Calls.{from_parts}
use Rattle.container.specs.declared.Entry.{Entry}
use Rattle.semantics.specs.declared.View.{View}
use Rattle.semantics.specs.Record.{Storage, roll_back, is_open, storage_of}
use Rattle.semantics.specs.Damage.{damaged, misread}
use Rattle.semantics.specs.Table.{number_of}
use Rattle.semantics.specs.Step.{count_back, entries_back, rolled_back, undo_back, with_counts}
use Rattle.std.specs.Prelude.{Option as Optional, None, Result, Ok, Err, Some}
use Rattle.semantics.specs.declared.refusal.Refusal.{Refusal}
use Rattle.refusals.specs.Decide.{Backs, place_back}
use Rattle.refusals.proofs.NumberLaws.{place_ok}
use Rattle.refusals.proofs.ViewLaws.{past}
use Rattle.actions.specs.Actions.{Leaves, entries_undone, siblings_back}

-- a roll back that is carried out has a container
pub rollback_open : (v : View) (l : Storage) {n : ℕ} → n ≡ number_of v l roll_back → n ≡ 0 → 1 ≤ v.counts.depth
unfolding first number_of
rollback_open v l {n} e q =
    let o = is_open v in
    let a = past (damaged v l (misread v l roll_back)) 0 _ (sym e ∙ q) in
    let b = past v.counts.finished 1 _ a.1 in
    omega (arith, ltb-true 0 v.counts.depth (not-false o (past (not o) 2 _ b.1).0))

undone_back : (v : View) (l : Storage) (p : Optional Entry) → entries_undone l.entries (place_back v l p) p ≡ entries_back v l p
undone_back v l None = refl
undone_back v l (Some former) = refl

place_told : Result (Optional ℕ) Refusal → Optional ℕ
place_told (Ok p) = p
place_told (Err e) = None

-- what it leaves
pub leaves_undone : {v : View} {l : Storage} {place : Optional ℕ} {count records siblings : ℕ} {cut : MetadataBuilder} {es : List ℕ} → Backs (number_of v l roll_back) v l (Ok place)
    → count ≡ cond (ltb 1 v.counts.depth) (count_back v.parent.object v.inner.entries v.inner.parent) v.inner.entries
    → records ≡ cond (ltb 1 v.counts.depth) (undo_back v.inner v.parent) v.inner.undo
    → es ≡ entries_undone l.entries place v.inner.parent
    → cut ≡ from_parts v.inner.names v.inner.text → siblings ≡ siblings_back v.parent.object v.siblings v.inner.parent
    → Leaves v l roll_back (Ok (record { counts = with_counts v.counts v.inner.value count records (v.counts.depth - 1) cut; elements = siblings })) (storage_of l.value l.text l.ends es l.undo)
unfolding rolled_back place_told
leaves_undone {v} {l} {place} {es = es} u p r q t s =
    let e : number_of v l roll_back ≡ 0 = sym u.number in
    record { number = u.number; moved = rw (e, p, r, t, s); storage = rw (e, q) (go (ltb 1 v.counts.depth) (ap place_told (place_ok u e))) }
  where
    go : (b : Bool) → place ≡ cond b (place_back v l v.inner.parent) None
        → storage_of l.value l.text l.ends (entries_undone l.entries place v.inner.parent) l.undo
        ≡ storage_of l.value l.text l.ends (cond b (entries_back v l v.inner.parent) l.entries) l.undo
    go true h = rw (h, undone_back v l v.inner.parent)
    go false h = rw h

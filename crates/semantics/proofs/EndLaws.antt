-- What a call writes of the value bytes and of finish's output, for every state.
use mathlib.Core.Path.{◌≡◌, refl, sym, ◌∙◌}
use mathlib.Core.Bool.{Bool, true, false, not, ◌||◌, and-eq-true_iff, true≢false}
use mathlib.Core.List.{List}
use mathlib.Core.Option.{Option}
use Prim.Native.Nat.{ℕ, ◌+◌, ◌≤◌}
use native.Mathlib.Nat.{zero-add}
use native.Mathlib.Omega.{arith}
use lib.Dec.{eqb, leb}
use lib.ListN.{drop, length}
use borrow.Author.Tests.{eqb-true, eqb-false, leb-true, not-false}
use Rattle.encoding.specs.Slices.{counted, fits}
use Rattle.value.specs.Scalar.{scalar_bytes}
use Rattle.metadata.specs.Names.{Name}
use Rattle.container.proofs.EntryLaws.{fronted_behind}
use Rattle.semantics.specs.declared.View.{View}
use Rattle.semantics.specs.Record.{Storage, State, Scalars, scalar_of, Call, register, append, open_in, close, roll_back, uniqueness, set_mark, return_to, finish, view_at}
use Rattle.semantics.specs.Damage.{misread, bad_floor, over_used, unchained, grown}
use Rattle.semantics.specs.Table.{header, number_of}
use Rattle.semantics.specs.Step.{step, after, registered, appended, opened, closed, rolled_back, returned, finished, dictionary_of}
use Rattle.semantics.proofs.Demand1.{append_at, none_at, number_leaves, step_number_lem}
use Rattle.semantics.proofs.StorageLaws.{drop_write}
use Rattle.semantics.proofs.RunLaws.{step_done}

-- ---- what the rows of a call that is carried out say

room : (at n size : ℕ) → not (fits at n size) ≡ false → at + n ≤ size
room at n size e = let h = leb-true (at + n) (counted size) (not-false _ e) in omega arith

module _ (v : View) (l : Storage) where
  append_room : (nm : Option Name) (x : Scalars) → number_of v l (append nm x) ≡ 0 → v.counts.value + length (scalar_bytes (scalar_of x)) ≤ length l.value
  append_room nm x z = room v.counts.value (length (scalar_bytes (scalar_of x))) (length l.value) (append_at v l nm x z 14)

  close_room : number_of v l close ≡ 0 → v.counts.value + length (header v l) ≤ length l.value
  close_room z = room v.counts.value (length (header v l)) (length l.value) (none_at v l close z 14)

  -- the innermost container starts at or below the used end
  close_inside : number_of v l close ≡ 0 → v.inner.value ≤ v.counts.value
  unfolding unchained
  close_inside z =
      let rest = bad_floor v || misread v l close in
      let u = (neither (unchained v) rest (neither (over_used v l) (unchained v || rest) (none_at v l close z 1)).1).0 in
      let g = ((and-eq-true_iff v.chain (grown v)).0 (not-false _ u)).1 in
      leb-true v.inner.value v.counts.value ((and-eq-true_iff (leb v.inner.value v.counts.value) _).0 g).0
    where
      neither : (a b : Bool) → (a || b) ≡ false → (a ≡ false) × (b ≡ false)
      neither true b e = absurd (true≢false e)
      neither false b e = (refl, e)

-- ---- the value bytes past the new end

-- they are those of before
abbrev KeepsPast : State → State → Type 0
KeepsPast t s = drop t.builder.counts.value t.storage.value ≡ drop t.builder.counts.value s.storage.value

after_past : (s : State) (c : Call) → number_of (view_at s) s.storage c ≡ 0 → KeepsPast (after s c) s
unfolding after registered appended opened closed rolled_back returned finished
after_past s (register n) k = refl
after_past s (append nm x) k =
    drop_write s.builder.counts.value (scalar_bytes (scalar_of x)) s.storage.value (omega (arith, append_room (view_at s) s.storage nm x k))
after_past s (open_in nm b) k = refl
after_past s close k =
    let v = view_at s in
    let l = s.storage in
    fronted_behind v.inner.value v.counts.value (header v l) l.value (close_inside v l k) (close_room v l k)
after_past s roll_back k = refl
after_past s (uniqueness u) k = refl
after_past s set_mark k = refl
after_past s (return_to j) k = refl
after_past s (finish out) k = refl

pub past_end : (s : State) (c : Call) → KeepsPast (step s c).state s
past_end s c = go (eqb (step s c).number 0) refl
  where
    go : (t : Bool) → eqb (step s c).number 0 ≡ t → KeepsPast (step s c).state s
    go true p =
        let e = eqb-true (step s c).number 0 p in
        rw (step_done s c e) (after_past s c (sym (step_number_lem s c) ∙ e))
    go false p = rw (number_leaves s c (eqb-false (step s c).number 0 p)).0

-- ---- finish's output past the bytes that it wrote

pub past_written : (s : State) (out : List ℕ) → drop (step s (finish out)).written (step s (finish out)).output ≡ drop (step s (finish out)).written out
past_written s out = go (eqb (step s (finish out)).number 0) refl
  where
    go : (t : Bool) → eqb (step s (finish out)).number 0 ≡ t → drop (step s (finish out)).written (step s (finish out)).output ≡ drop (step s (finish out)).written out
    go true p =
        rw (step_done s (finish out) (eqb-true (step s (finish out)).number 0 p))
        (rw zero-add at (drop_write 0 (dictionary_of (view_at s) s.storage) out (omega arith)))
    go false p = rw (number_leaves s (finish out) (eqb-false (step s (finish out)).number 0 p)).1

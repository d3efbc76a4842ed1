-- A container closed: its header, and then the call.
use mathlib.Core.Path.{◌≡◌, refl, sym, ◌∙◌, ap}
use mathlib.Core.Bool.{Bool, true, false, cond, not, ◌&&◌, ◌||◌}
use mathlib.Core.List.{List}
use Prim.Native.Nat.{ℕ, ◌+◌, ◌-◌, ◌≤◌}
use native.Mathlib.Omega.{arith}
use lib.Dec.{eqb, ltb}
use lib.ListN.{length}
use borrow.Author.Tests.{ltb-true, ltb-false, le-leb, ne_eqb}
use Rattle.encoding.specs.Rows.{first}
use Rattle.encoding.specs.Slices.{counted, fits}
use Rattle.container.specs.Layout.{largest}
use Rattle.container.specs.Entries.{ids_of, room_for}
use Rattle.container.specs.Close.{Closed, ClosesObject, closed_number, freed}
use Rattle.container.proofs.ObjectLaws.{front_largest}
use Rattle.list.specs.Close.{ClosesList}
use Rattle.semantics.specs.declared.View.{View}
use Rattle.semantics.specs.Record.{Storage, close, inner_entries, is_open, names_held, storage_of}
use Rattle.semantics.specs.Damage.{bad_floor, damaged, fallen_ends, misplaced_inner, misread, over_used, unchained, uncounted}
use Rattle.semantics.specs.Table.{header, number_of, too_long}
use Rattle.semantics.specs.Step.{closed, entries_closed, with_counts}
use Rattle.std.specs.Prelude.{Result, Ok, Err}
use Rattle.semantics.specs.declared.refusal.Refusal.{Refusal}
use Rattle.semantics.specs.Refusal.{refusal_number}
use Rattle.semantics.proofs.RefusalLaws.{number_some}
use Rattle.actions.specs.declared.Moved.{Moved}
use Rattle.refusals.specs.Decide.{ClosesBy, broken_of}
use Rattle.refusals.proofs.NumberLaws.{largest_ok}
use Rattle.refusals.proofs.ViewLaws.{broken_none, damaged_none, entries_within, grown_within, neither, past, undamaged_unbroken}
use Rattle.actions.specs.Actions.{Fronts, Leaves, damaged_front, frame_of}
use Rattle.actions.proofs.EnterLaws.{refuses}

-- ---- the header put before the data

-- of an object
pub fronts_object : {v : View} {l : Storage} {most : ℕ} {r : Closed} {value entries : List ℕ} → v.inner.object ≡ true → most ≡ largest (ids_of (inner_entries v l))
    → ClosesObject (frame_of v) most (names_held v l) l.value l.entries r value entries → Fronts v l r value entries
unfolding header entries_closed freed
fronts_object {v} {l} {most} e h q =
    let f = front_largest (frame_of v) most (names_held v l) l.entries h in
    record { front = rw e (rw f at q.header); entries_left = rw e q.entries_left }

-- of a list
pub fronts_list : {v : View} {l : Storage} {r : Closed} {value : List ℕ} → v.inner.object ≡ false
    → ClosesList v.inner.value v.counts.value v.elements v.counts.floor l.value r value → Fronts v l r value l.entries
unfolding header entries_closed
fronts_list {l = l} {r = r} e q = record { front = rw e q; entries_left = rw e (same (eqb (closed_number r) 0)) }
  where
    same : (b : Bool) → l.entries ≡ cond b l.entries l.entries
    same true = refl
    same false = refl

-- ---- the first three rows

-- one of them holds: it is the number
pub closes_early : {v : View} {l : Storage} {e f : Refusal} {r : Result Moved Refusal} → ClosesBy v l (Err e) → r ≡ Err f → f ≡ e → Leaves v l close r l
unfolding first number_of
closes_early {v} {l} {e} a p i =
    refuses (go (over_used v l) (unchained v) (bad_floor v) (fallen_ends v l) (misplaced_inner v l) (uncounted v l) v.counts.finished (not (is_open v)) _ a.number) p i
  where
    go : (a b c f m w x y : Bool) (z : ℕ)
        → refusal_number e ≡ cond (eqb (cond x 2 (cond y 3 0)) 0) (cond (a || (b || (c || (f || m)))) 1 0) (cond (a || (b || (c || (f || (m || w))))) 1 (cond x 2 (cond y 3 0)))
        → refusal_number e ≡ cond (a || (b || (c || (f || (m || w))))) 1 (cond x 2 (cond y 3 z))
    go a b c f m w true y z h = h
    go a b c f m w false true z h = h
    go true b c f m w false false z h = h
    go false true c f m w false false z h = h
    go false false true f m w false false z h = h
    go false false false true m w false false z h = h
    go false false false false true w false false z h = h
    go false false false false false w false false z h = absurd (number_some e h)

-- none of them holds but by a list's data, and m is the largest id
pub record Closable (v : View) (l : Storage) (m : ℕ) : Type 0 where
  pub depth : 1 ≤ v.counts.depth
  pub damage : damaged_front v l ≡ uncounted v l
  pub most : m ≡ largest (ids_of (inner_entries v l))
  pub number : number_of v l close ≡ cond (uncounted v l) 1 (cond (too_long v l (length (header v l))) 14 0)

-- what is not damaged lies within its marks and its lent slices: all that is left to find is in a list's data
front_damage : (v : View) (l : Storage) → broken_of v l ≡ false → is_open v ≡ true → damaged_front v l ≡ uncounted v l
unfolding uncounted over_used
front_damage v l e i =
    let g = grown_within v l e in
    let u = le-leb v.counts.value (counted (length l.value)) (ltb-false _ _ (neither (ltb (counted (length l.value)) v.counts.value) _ (broken_none v l e).0).0) in
    let w = le-leb v.counts.entries (room_for (length l.entries)) (entries_within v l e) in
    rw (i, g.value, g.entries, u, w) (go v.inner.object _)
  where
    go : (o w : Bool) → cond o false w ≡ (not o && w)
    go true w = refl
    go false w = refl

most_told : Result ℕ Refusal → ℕ
most_told (Ok m) = m
most_told (Err e) = 0

-- as the code finds it
pub closable : {v : View} {l : Storage} {m : ℕ} → ClosesBy v l (Ok m) → Closable v l m
unfolding first number_of most_told
closable {v} {l} e =
    let c = go v.counts.finished (is_open v) (damaged v l (misread v l close)) (damaged v l (fallen_ends v l || misplaced_inner v l)) (sym e.number) in
    let b = undamaged_unbroken v l (fallen_ends v l || misplaced_inner v l) c.2 in
    let n = neither (fallen_ends v l) (misplaced_inner v l) (sym (damaged_none v l (fallen_ends v l || misplaced_inner v l) b) ∙ c.2) in
    record {
      depth = omega (arith, ltb-true 0 v.counts.depth c.1);
      damage = front_damage v l b c.1;
      most = ap most_told (largest_ok e (sym e.number));
      number = rw (damaged_none v l (misread v l close) b, n.0, n.1, c.0, c.1);
    }
  where
    go : (f o d t : Bool) → ◌≡◌ {A = ℕ} (cond (eqb (cond f 2 (cond (not o) 3 0)) 0) (cond t 1 0) (cond d 1 (cond f 2 (cond (not o) 3 0)))) 0 → (f ≡ false) × (o ≡ true) × (t ≡ false)
    go true o d t h = let k = (past d 0 2 h).1 in absurd (omega arith)
    go false false d t h = let k = (past d 0 3 h).1 in absurd (omega arith)
    go false true d t h = (refl, refl, (past t 0 0 h).0)

-- ---- the last row, and a list's data: by the header's answer

fronts_number : {v : View} {l : Storage} {m : ℕ} {r : Closed} {value entries : List ℕ} → Closable v l m → Fronts v l r value entries → closed_number r ≡ number_of v l close
fronts_number {v} {l} k f =
    f.front.number ∙ (rw (k.damage, k.number) (ap (λ z. cond (uncounted v l) 1 z) (go (fits v.counts.value (length (header v l)) (length l.value)))))
  where
    go : (b : Bool) → ◌≡◌ {A = ℕ} (cond b 0 14) (cond (not b) 14 0)
    go true = refl
    go false = refl

-- carried out
pub leaves_closed : {v : View} {l : Storage} {m : ℕ} {r : Closed} {value entries : List ℕ} {used : ℕ} → Closable v l m → Fronts v l r value entries → r ≡ Ok used
    → Leaves v l close (Ok (record { counts = with_counts v.counts used v.inner.entries v.inner.undo (v.counts.depth - 1) v.counts.dictionary; elements = v.siblings }))
    (storage_of value l.text l.ends entries l.undo)
unfolding closed
leaves_closed {v} {l} {used = used} k f e =
    let z : number_of v l close ≡ 0 = sym (fronts_number k f) ∙ ap closed_number e in
    let u : used ≡ v.counts.value + length (header v l) = rw e at f.front.used in
    record { number = sym z; moved = rw (z, u); storage = rw (z, f.front.bytes, f.entries_left, e) }

-- refused: no room, or a list's data that is not as many values as it counts
pub leaves_refused : {v : View} {l : Storage} {m : ℕ} (n : Refusal) {r : Closed} {value entries : List ℕ} → Closable v l m → Fronts v l r value entries → closed_number r ≡ refusal_number n
    → Leaves v l close (Err n) (storage_of value l.text l.ends entries l.undo)
leaves_refused n {r = r} k f e =
    rw (f.front.bytes, f.entries_left, ne_eqb (closed_number r) 0 (λ h. number_some n (sym e ∙ h))) (refuses (sym e ∙ fronts_number k f) refl refl)

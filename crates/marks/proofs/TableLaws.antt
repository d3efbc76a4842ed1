-- The table beyond its end; and the marks of a container, from the latest to its start.
use mathlib.Core.Path.{◌≡◌, refl, sym}
use mathlib.Core.Bool.{Bool, true, false, cond, ◌&&◌}
use mathlib.Core.List.{List}
use Prim.Native.Nat.{ℕ, zero, suc, ◌+◌, ◌-◌, ◌≤◌, ◌<◌}
use native.Mathlib.Omega.{arith}
use lib.ListN.{length, get_or, set, get_or-eq_default}
use lib.Seq.{set_out}
use mir.Val.{bool_byte}
use Rattle.semantics.specs.declared.Mark.{Mark}
use Rattle.semantics.specs.Record.{falling, mark_at, marks_of, no_mark, not_above, slot_of}
use Rattle.semantics.specs.Step.{put_mark}

-- nothing stands there
pub mark_beyond : (ms : List ℕ) (at : ℕ) → length ms ≤ at → no_mark ≡ mark_at ms at
unfolding mark_at
mark_beyond ms at h = sym (rw (none at h, none (at + 1) (omega arith), none (at + 2) (omega arith), none (at + 3) (omega arith), none (at + 4) (omega arith), none (at + 5) (omega arith), none (at + 6) (omega arith)))
  where
    none : (i : ℕ) → length ms ≤ i → get_or ms i 0 ≡ 0
    none i h = get_or-eq_default ms 0 {n = i} h

-- nor is anything put there
pub put_beyond : (ms : List ℕ) (at : ℕ) (m : Mark) → length ms ≤ at → ms ≡ put_mark ms at m
unfolding put_mark
put_beyond ms at m h =
    sym
    (rw (out at m.value h, out (at + 1) m.names (omega arith), out (at + 2) m.text (omega arith), out (at + 3) m.entries (omega arith), out (at + 4) m.undo (omega arith), out (at + 5) m.count (omega arith), out (at + 6) (cond m.unique 1 0) (omega arith)))
  where
    out : (i n : ℕ) → length ms ≤ i → set ms i n ≡ ms
    out i n h = set_out ms i n h

-- a uniqueness mark as a number
pub byte_is : (b : Bool) → bool_byte b ≡ cond b 1 0
byte_is true = refl
byte_is false = refl

-- ---- the marks in order: what the rest gives is the answer

pub record InOrder (t object : Bool) (start : Mark) (ms : List ℕ) (d : ℕ) (later : Mark) (j : ℕ) : Type 0 where
  pub same : falling object start (marks_of ms d j) later ≡ t

module _ {t object : Bool} {start : Mark} {ms : List ℕ} {d : ℕ} {later : Mark} where
  module _ {j : ℕ} (x : InOrder t object start ms d later j) {below : Bool} {m : Mark} (h : 0 < j) (e : m ≡ mark_at ms (slot_of d j))
      (f : below ≡ not_above object m later) where
    order_next : (below && falling object start (marks_of ms d (j - 1)) m) ≡ t
    unfolding falling marks_of
    order_next = go j h e x.same
      where
        go : (j : ℕ) → 0 < j → m ≡ mark_at ms (slot_of d j) → falling object start (marks_of ms d j) later ≡ t
            → (below && falling object start (marks_of ms d (j - 1)) m) ≡ t
        go zero h e s = absurd (omega arith)
        go (suc j) h e s = let p : suc j - 1 ≡ j = omega arith in rw p (rw (← e, ← f) at s)

    pub order_again : below ≡ true → InOrder t object start ms d m (j - 1)
    order_again q = record { same = rw q at order_next }

    -- one that is above the one after it
    pub order_fails : below ≡ false → false ≡ t
    order_fails q = rw q at order_next

  pub order_end : {j : ℕ} → InOrder t object start ms d later j → j ≡ 0 → not_above object start later ≡ t
  unfolding falling marks_of
  order_end x e = rw e at x.same

-- The machine beside the history with its ledger: each call that no row refuses keeps them linked, and both give one number.
use mathlib.Core.Path.{◌≡◌, refl, sym, ◌∙◌, ap, subst}
use mathlib.Core.Bool.{Bool, true, false, cond, not, ◌&&◌, ◌||◌, true≢false}
use mathlib.Core.List.{List, [], ◌∷◌, ◌++◌, append-nil}
use mathlib.Core.Option.{Option, none, some}
use Prim.Native.Nat.{ℕ, zero, suc, ◌+◌, ◌-◌, ◌^◌, ◌≤◌, ◌<◌}
use native.Mathlib.Omega.{arith}
use lib.Dec.{eqb, leb, ltb}
use lib.ListN.{drop, length, length-append, length-take, take, take-append-drop}
use borrow.Author.Tests.{ltb-false, leb-true, leb-false, not-false}
use Rattle.encoding.specs.Rows.{Row, first, test_of, Clear}
use Rattle.encoding.specs.Slices.{counted, fits}
use Rattle.encoding.proofs.RowsLaws.{clear_at, clear_around}
use Rattle.value.specs.Scalar.{scalar_bytes}
use Rattle.measure.proofs.ValueLaws.{Plain}
use Rattle.metadata.specs.Names.{Name}
use Rattle.metadata.specs.Bytes.{joined}
use Rattle.metadata.proofs.DictionaryLaws.{Distinct}
use Rattle.container.specs.Entries.{room_for}
use Rattle.semantics.specs.declared.Container.{Container}
use Rattle.semantics.specs.declared.Mark.{Mark}
use Rattle.semantics.specs.Record.{Scalars, Call, register, append, open_in, close, roll_back, uniqueness, set_mark, return_to, finish, scalar_of, good_floor}
use Rattle.semantics.specs.Table.{scalar_rows}
use Rattle.semantics.specs.Step.{with_unique}
use Rattle.semantics.specs.Tree.{Tree, scalar, encode}
use Rattle.semantics.specs.History.{Copy, Level, History, first_marks, with_name, close_level, drop_level, mark_level, brought, return_level, accepted, fed}
use Rattle.semantics.specs.Ledger.{Lent, Account, Tally, Tallied, start_tally, no_ledger, total, inner_sum, header_size, ledger_after, set_unique, tally_mark, tally_at, tally_return, unique_in, refusal_of, refusal_rows, tallies_entered as summed}
use Rattle.semantics.specs.Ledger as ledger
use Rattle.semantics.specs.Run.{is_finish, no_account, account_after}
use Rattle.semantics.proofs.TreeLaws.{encode_some}
use Rattle.semantics.proofs.HistoryLaws.{extends_same, with_extends, with_held, Named, Chained, WellFormed, FormedLevels, Suits, inner_object, scalar_plain, orderly_none, accepted_orderly, formed_none, accepted_formed, enter_names, close_names, chained_grows}
use Rattle.semantics.proofs.HistoryLaws as history
use Rattle.semantics.proofs.Machine.{Machine, note, logged, first_of, apply, close_at, roll_at, set_unique_at, mark_of, set_at, back_to, return_at, marks_at, unique_at, any_open, object_inner, misnamed_at, live_at, header_at, no_entry_free, no_undo_free, front_at, back_at, rows_at, number_at, Orderly}
use Rattle.semantics.proofs.LayerLaws.{layer_new}
use Rattle.semantics.proofs.MarkLaws.{Stand, stand_of, Marks, marks_lengths, marks_drop}
use Rattle.semantics.proofs.LevelLaws.{Used, Ground, Topped, Levels, start_of, tally_of, levels_grow, levels_enter, levels_close, levels_roll, names_roll, levels_mark, levels_back, names_back}
use Rattle.semantics.proofs.LevelFacts.{used_by, levels_total, levels_used, levels_open, levels_object, levels_depth, levels_unique, levels_live, levels_header, levels_inner, levels_counting, levels_rising, levels_falling, levels_texts, levels_parent, levels_marks, levels_undos}

-- ---- what a clear row gives

none_at : (m : Machine) (lent : Lent) (c : Call) → Clear (rows_at m lent c) → (n : ℕ) → test_of n (rows_at m lent c) ≡ false
none_at m lent c k n = clear_at n (rows_at m lent c) k

-- of an append, whatever rows the scalar has
append_at : (m : Machine) (lent : Lent) (nm : Option Name) (x : Scalars) → Clear (rows_at m lent (append nm x))
    → (n : ℕ) → test_of n (front_at m nm ++ back_at m lent nm (length (scalar_bytes (scalar_of x)))) ≡ false
append_at m lent nm x k n =
    let a = front_at m nm in
    let b = back_at m lent nm (length (scalar_bytes (scalar_of x))) in
    clear_at n (a ++ b) (clear_around a (scalar_rows x) b k)

-- 5: a name is given exactly in an object
named_at : (floor : ℕ) (top : Option Tree) (u : Bool) (ls : List Level) (ks : List Container) (ns : List Name) (s : Used) (nm : Option Name) → Levels floor top u ls ks ns s → misnamed_at nm ks ≡ false
    → Named (inner_object ls) nm
named_at floor top u [] [] ns s none x e = tt
named_at floor top u [] [] ns s (some n) x e = true≢false e
named_at floor top u [] (k ∷ ks) ns s nm x e = absurd x
named_at floor top u (l ∷ ls) [] ns s nm x e = absurd x
named_at floor top u (l ∷ ls) (k ∷ ks) ns s nm x e = go nm l.object x.opened.object e
  where
    go : (nm : Option Name) (t : Bool) → k.object ≡ t → misnamed_at nm (k ∷ ks) ≡ false → Named t nm
    go none true p e = true≢false (sym p ∙ e)
    go none false p e = tt
    go (some n) true p e = tt
    go (some n) false p e = true≢false (ap not (sym p) ∙ e)

-- 6: there is no top value
topless_at : (floor : ℕ) (top : Option Tree) (u : Bool) (ls : List Level) (ks : List Container) (ns : List Name) (s : Used) → Levels floor top u ls ks ns s → (not (any_open ks) && ltb 0 (length s.bytes)) ≡ false
    → top ≡ none
topless_at floor none u [] [] ns s x e = refl
topless_at floor (some t) u [] [] ns s x e = absurd (omega (arith, ltb-false 0 (length s.bytes) e, encode_some floor ns t, ap length x.value))
topless_at floor top u [] (k ∷ ks) ns s x e = absurd x
topless_at floor top u (l ∷ ls) [] ns s x e = absurd x
topless_at floor top u (l ∷ ls) (k ∷ ks) ns s x e = x.topless

-- 14: what fits ends where four bytes count, so that a scalar is whole
fits_few : (at n size : ℕ) → not (fits at n size) ≡ false → at + n < 256 ^ 4
fits_few at n size e = omega (arith, leb-true (at + n) (counted size) (not-false (fits at n size) e))

plain_at : (v : Scalars) (at size : ℕ) → not (fits at (length (scalar_bytes (scalar_of v))) size) ≡ false → Plain (scalar_of v)
plain_at v at size e = scalar_plain v (omega (arith, fits_few at (length (scalar_bytes (scalar_of v))) size e))

-- ---- the levels after each call

-- the machine after a call beside the history and the tallies after it
pub record Next (m : Machine) (h : History) (ts : List Tallied) : Type 0 where
  pub names : m.names ≡ h.names
  pub levels : Levels m.floor h.top m.unique h.levels m.conts m.names (used_by m ts)

module _ (m : Machine) (top : Option Tree) (ts : List Tallied) where
  abbrev history_at : List Level → History
  history_at ls = record { names = m.names; top = top; levels = ls }

  abbrev LevelsAt : List Level → List Container → Type 0
  LevelsAt ls ks = Levels m.floor top m.unique ls ks m.names (used_by m ts)

  next_register : (ls : List Level) (n : Name) → Chained m.names top ls → LevelsAt ls m.conts
      → Next (apply m (register n)) (accepted (history_at ls) (register n)) (summed m.floor (history_at ls) ts (register n))
  unfolding apply accepted summed
  next_register ls n c x =
      record { names = refl; levels = levels_grow m.floor top m.unique ls m.conts (used_by m ts) (with_extends m.names (some n)) c x }

  next_append : (ls : List Level) (nm : Option Name) (v : Scalars) → Chained m.names top ls → Named (inner_object ls) nm → top ≡ none → LevelsAt ls m.conts
      → Next (apply m (append nm v)) (accepted (history_at ls) (append nm v)) (summed m.floor (history_at ls) ts (append nm v))
  unfolding apply accepted summed encode
  next_append ls nm v c n t x =
      let ns = with_name m.names nm in
      let e = with_extends m.names nm in
      record {
        names = sym (enter_names ns top ls nm (scalar (scalar_of v)));
        levels =
            levels_enter m.floor top m.unique ls m.conts ns (used_by m ts) nm (scalar (scalar_of v)) t (chained_grows top ls e c) n
            (with_held m.names nm)
            (levels_grow m.floor top m.unique ls m.conts (used_by m ts) e c x);
      }

  next_open : (ls : List Level) (nm : Option Name) (object : Bool) → top ≡ none → LevelsAt ls m.conts
      → Next (apply m (open_in nm object)) (accepted (history_at ls) (open_in nm object)) (summed m.floor (history_at ls) ts (open_in nm object))
  unfolding apply accepted summed
  next_open ls nm object t x =
      let ns = with_name m.names nm in
      record {
        names = refl;
        levels = record {
          outer = used_by m ts;
          body = [];
          seg = [];
          count = 0;
          own = [];
          chain = [];
          told = [];
          bytes_are = sym (append-nil m.bytes);
          entries_are = sym (append-nil (note ns m.conts nm (length m.bytes) m.entries));
          elements_are = refl;
          undos_are = sym (append-nil (logged ns m.conts nm m.entries m.undos));
          chains_are = refl;
          tallies_are = ap (λ u. start_tally u ∷ ts) (sym (levels_unique m ts m.floor top ls m.conts x));
          marks_are = refl;
          few = omega arith;
          opened = record { value = refl; names = refl; text = refl; entries = refl; undo = refl; object = refl; parent = refl };
          topless = t;
          grows = extends_same ns;
          layer = layer_new m.floor ns object;
          marks = tt;
          under = x;
        };
      }

  next_close : (ls : List Level) (ks : List Container) → any_open ks ≡ true → Distinct m.names → FormedLevels ls → Chained m.names top ls → length m.bytes < 256 ^ 4 → LevelsAt ls ks
      → Next (close_at m ks) (close_level m.names top ls) (summed m.floor (history_at ls) ts close)
  unfolding summed
  next_close [] [] o d f c small x = absurd (true≢false (sym o))
  next_close [] (k ∷ ks) o d f c small x = absurd x
  next_close (l ∷ ls) [] o d f c small x = absurd x
  next_close (l ∷ ls) (k ∷ ks) o d f c small x =
      record {
        names = sym (close_names m.names top (l ∷ ls));
        levels = levels_close m.floor top m.unique l ls k ks m.names (used_by m ts) d c f small x;
      }

  next_roll : (ls : List Level) (ks : List Container) → any_open ks ≡ true → FormedLevels ls → LevelsAt ls ks
      → Next (roll_at m ks) (drop_level m.names top ls) (summed m.floor (history_at ls) ts roll_back)
  unfolding summed drop_level
  next_roll [] [] o f x = absurd (true≢false (sym o))
  next_roll [] (k ∷ ks) o f x = absurd x
  next_roll (l ∷ ls) [] o f x = absurd x
  next_roll (l ∷ ls) (k ∷ ks) o f x =
      let e = names_roll x in
      record { names = e; levels = rw e (levels_roll m.floor top m.unique l ls k ks m.names (used_by m ts) f x) }

  next_unique : (ls : List Level) (ks : List Container) (u : Bool) → object_inner ks ≡ true → LevelsAt ls ks
      → Levels m.floor top m.unique ls (set_unique_at u ks) m.names (used_by m (set_unique u ts))
  unfolding with_unique set_unique
  next_unique [] [] u o x = absurd (true≢false (sym o))
  next_unique [] (k ∷ ks) u o x = absurd x
  next_unique (l ∷ ls) [] u o x = absurd x
  next_unique (l ∷ ls) (k ∷ ks) u o x =
      record {
        outer = x.outer;
        body = x.body;
        seg = x.seg;
        count = x.count;
        own = x.own;
        chain = x.chain;
        told = x.told;
        bytes_are = x.bytes_are;
        entries_are = x.entries_are;
        elements_are = x.elements_are;
        undos_are = x.undos_are;
        chains_are = x.chains_are;
        tallies_are = ap (set_unique u) x.tallies_are;
        marks_are = x.marks_are;
        few = x.few;
        opened = record {
          value = x.opened.value;
          names = x.opened.names;
          text = x.opened.text;
          entries = x.opened.entries;
          undo = x.opened.undo;
          object = x.opened.object;
          parent = x.opened.parent;
        };
        topless = x.topless;
        grows = x.grows;
        layer = x.layer;
        marks = x.marks;
        under = x.under;
      }

-- ---- a mark is set, and returned to

drop_fewer : (n : ℕ) (ps : List Mark) → length (drop n ps) ≤ length ps
drop_fewer zero ps = omega arith
drop_fewer (suc n) [] = omega arith
drop_fewer (suc n) (p ∷ ps) = omega (arith, drop_fewer n ps)

module _ (m : Machine) (top : Option Tree) (ts : List Tallied) where
  -- 22: a mark
  next_mark : (ls : List Level) (ks : List Container) → (not (any_open ks) || leb 16 (marks_at ks)) ≡ false → LevelsAt m top ts ls ks
      → Next (set_at m ks m.chains) (mark_level m.names top ls) (tally_mark ts)
  unfolding mark_level
  next_mark [] [] o x = absurd (true≢false o)
  next_mark [] (k ∷ ks) o x = absurd x
  next_mark (l ∷ ls) [] o x = absurd x
  next_mark (l ∷ ls) (k ∷ ks) o x =
      let y = levels_mark m.floor top m.unique l ls k ks m.names (used_by m ts) x (leb-false 16 k.marks o) in
      let e : first_of 0 m.elements ≡ x.count = ap (first_of 0) x.elements_are in
      subst (λ (z : List (List Mark)). Next (set_at m (k ∷ ks) z) (mark_level m.names top (l ∷ ls)) (tally_mark ts)) (sym x.chains_are)
      (record { names = refl; levels = rw e y })

  -- a return to the first of some marks of the innermost, or to none
  next_back : (l : Level) (ls : List Level) (k : Container) (ks : List Container) (x : LevelsAt m top ts (l ∷ ls) (k ∷ ks)) (cs : List Copy)
      (ps : List Mark) (qs : List Tally)
      → m.conts ≡ k ∷ ks
      → Marks m.floor l.object (start_of l k) cs ps qs (stand_of m.names x.seg x.body x.own x.count) → length ps ≤ 16
      → Next (back_to m k ks x.outer.chains ps) (brought m.names top l ls cs)
      (tally_at (record { now = tally_of x.body k.unique x.own; marks = x.told }) qs ∷ x.outer.tallies)
  unfolding brought tally_at
  next_back l ls k ks x [] [] [] e y few =
      record { names = refl; levels = subst (λ (z : List Tallied). LevelsAt m top z (l ∷ ls) m.conts) x.tallies_are (rw e x) }
  next_back l ls k ks x (c ∷ cs) (p ∷ ps) (q ∷ qs) e y few =
      let n = names_back y in
      record { names = n ∙ y.copied; levels = rw n (levels_back m.floor top m.unique l ls k ks m.names (used_by m ts) x c cs p ps q qs y few) }
  next_back l ls k ks x [] [] (q ∷ qs) e y few = absurd y
  next_back l ls k ks x [] (p ∷ ps) [] e y few = absurd y
  next_back l ls k ks x [] (p ∷ ps) (q ∷ qs) e y few = absurd y
  next_back l ls k ks x (c ∷ cs) [] [] e y few = absurd y
  next_back l ls k ks x (c ∷ cs) [] (q ∷ qs) e y few = absurd y
  next_back l ls k ks x (c ∷ cs) (p ∷ ps) [] e y few = absurd y

  -- THE RETURN
  next_return : (ls : List Level) (ks : List Container) (j : ℕ) → (not (any_open ks) || (eqb j 0 || ltb (marks_at ks) j)) ≡ false → m.conts ≡ ks
      → LevelsAt m top ts ls ks
      → Next (return_at m ks m.chains j) (return_level m.names top ls j) (tally_return j ts)
  unfolding return_level tally_return
  next_return [] [] j o e x = absurd (true≢false o)
  next_return [] (k ∷ ks) j o e x = absurd x
  next_return (l ∷ ls) [] j o e x = absurd x
  next_return (l ∷ ls) (k ∷ ks) j o e x =
      let now : Stand = stand_of m.names x.seg x.body x.own x.count in
      let c = marks_lengths m.floor l.object (start_of l k) l.marks x.chain x.told now x.marks in
      let n = length x.chain - j in
      let y = marks_drop m.floor l.object (start_of l k) n l.marks x.chain x.told now x.marks in
      let r = next_back l ls k ks x (drop n l.marks) (drop n x.chain) (drop n x.told) e y (omega (arith, x.few, drop_fewer n x.chain)) in
      let w : Tallied = record { now = tally_of x.body k.unique x.own; marks = x.told } in
      let t : tally_return j ts ≡ tally_at w (drop n x.told) ∷ x.outer.tallies =
      ap (tally_return j) x.tallies_are ∙ ap (λ z. tally_at w (drop (z - j) x.told) ∷ x.outer.tallies) c.1 in
      let d : Next (return_at m (k ∷ ks) (x.chain ∷ x.outer.chains) j) (brought m.names top l ls (first_marks j l.marks)) (tally_return j ts) =
      rw (c.0, t) r in
      subst (λ (z : List (List Mark)). Next (return_at m (k ∷ ks) z j) (brought m.names top l ls (first_marks j l.marks)) (tally_return j ts))
      (sym x.chains_are) d

-- ---- the relation

-- a machine beside an account: the same names and floor, bytes that four bytes count, the open containers level by level with their tallies, and
-- below them either no top value and no bytes or the top value's bytes
pub record Linked (m : Machine) (a : Account) : Type 0 where
  pub names : m.names ≡ a.history.names
  pub finished : m.finished ≡ a.finished
  pub floor : m.floor ≡ a.floor
  pub good : good_floor m.floor ≡ true
  pub small : length m.bytes < 256 ^ 4
  pub depth : length m.conts ≤ 64
  pub orderly : history.Orderly a.history
  pub formed : WellFormed a.history
  pub levels : Levels m.floor a.history.top m.unique a.history.levels m.conts m.names (used_by m a.tallies)

-- A FRESH BUILDER
pub linked_fresh : (unique : Bool) (floor : ℕ) → good_floor floor ≡ true
    → Linked (record {
      bytes = [];
      names = [];
      entries = [];
      undos = [];
      conts = [];
      elements = [];
      chains = [];
      unique = unique;
      finished = false;
      floor = floor;
    }) (no_account unique floor)
unfolding no_ledger
linked_fresh unique floor g =
    record {
      names = refl;
      finished = refl;
      floor = refl;
      good = g;
      small = omega arith;
      depth = omega arith;
      orderly = orderly_none;
      formed = formed_none;
      levels = record { value = refl; entries_are = refl; elements_are = refl; undos_are = refl; chains_are = refl; tallies_are = refl };
    }

-- ---- a call that is carried out

module _ (m : Machine) (top : Option Tree) (ts : List Tallied) (ls : List Level) (o : history.Orderly (history_at m top ts ls))
    (w : WellFormed (history_at m top ts ls))
    (small : length m.bytes < 256 ^ 4) (x : LevelsAt m top ts ls m.conts) where
  abbrev here : History
  here = history_at m top ts ls

  suits : (lent : Lent) (c : Call) → Clear (rows_at m lent c) → Suits here c
  suits lent (register n) k = tt
  suits lent (append nm v) k =
      let named = named_at m.floor top m.unique ls m.conts m.names (used_by m ts) nm x (append_at m lent nm v k 5) in
      (named, plain_at v (length m.bytes) lent.value (append_at m lent nm v k 14))
  suits lent (open_in nm object) k = named_at m.floor top m.unique ls m.conts m.names (used_by m ts) nm x (none_at m lent (open_in nm object) k 5)
  suits lent close k = tt
  suits lent roll_back k = tt
  suits lent (uniqueness u) k = tt
  suits lent set_mark k = tt
  suits lent (return_to j) k = tt
  suits lent (finish out) k = tt

  next : (lent : Lent) (c : Call) → Clear (rows_at m lent c) → Next (apply m c) (accepted here c) (summed m.floor here ts c)
  unfolding apply accepted summed
  next lent (register n) k = next_register m top ts ls n o.chained x
  next lent (append nm v) k =
      next_append m top ts ls nm v o.chained (suits lent (append nm v) k).0
      (topless_at m.floor top m.unique ls m.conts m.names (used_by m ts) x (append_at m lent nm v k 6)) x
  next lent (open_in nm object) k =
      next_open m top ts ls nm object
      (topless_at m.floor top m.unique ls m.conts m.names (used_by m ts) x (none_at m lent (open_in nm object) k 6)) x
  next lent close k =
      next_close m top ts ls m.conts (not-false (any_open m.conts) (none_at m lent close k 3)) o.distinct w.formed_levels
      o.chained small x
  next lent roll_back k = next_roll m top ts ls m.conts (not-false (any_open m.conts) (none_at m lent roll_back k 3)) w.formed_levels x
  next lent (uniqueness u) k =
      record {
        names = refl;
        levels = next_unique m top ts ls m.conts u (not-false (object_inner m.conts) (none_at m lent (uniqueness u) k 3)) x;
      }
  next lent set_mark k = next_mark m top ts ls m.conts (none_at m lent set_mark k 22) x
  next lent (return_to j) k = next_return m top ts ls m.conts j (none_at m lent (return_to j) k 22) refl x
  next lent (finish out) k = record { names = refl; levels = x }

-- what a return leaves behind, where there is such a mark and where there is none
return_cases : (P : Machine → Type 0) (m : Machine) (j : ℕ) → P m
    → ((k : Container) (ks : List Container) (pss : List (List Mark)) (p : Mark) (ps : List Mark) → length (k ∷ ks) ≡ length m.conts
    → P (back_to m k ks pss (p ∷ ps)))
    → P (return_at m m.conts m.chains j)
return_cases P m j a b = go m.conts m.chains refl
  where
    back : (k : Container) (ks : List Container) (pss : List (List Mark)) (ps : List Mark) → length (k ∷ ks) ≡ length m.conts → P (back_to m k ks pss ps)
    back k ks pss [] e = a
    back k ks pss (p ∷ ps) e = b k ks pss p ps e

    go : (ks : List Container) (pss : List (List Mark)) → length ks ≡ length m.conts → P (return_at m ks pss j)
    go [] pss e = a
    go (k ∷ ks) [] e = a
    go (k ∷ ks) (ps ∷ pss) e = back k ks pss (first_marks j ps) e

-- and a mark set
set_cases : (P : Machine → Type 0) (m : Machine) → P m
    → ((k : Container) (ks : List Container) (ps : List Mark) (pss : List (List Mark)) → length (k ∷ ks) ≡ length m.conts
    → P (set_at m (k ∷ ks) (ps ∷ pss)))
    → P (set_at m m.conts m.chains)
set_cases P m a b = go m.conts m.chains refl
  where
    go : (ks : List Container) (pss : List (List Mark)) → length ks ≡ length m.conts → P (set_at m ks pss)
    go [] pss e = a
    go (k ∷ ks) [] e = a
    go (k ∷ ks) (ps ∷ pss) e = b k ks ps pss e

-- at most 64 stay open
depth_after : (m : Machine) (lent : Lent) (c : Call) → Clear (rows_at m lent c) → length m.conts ≤ 64 → length (apply m c).conts ≤ 64
unfolding apply
depth_after m lent (register n) k h = h
depth_after m lent (append nm v) k h = h
depth_after m lent (open_in nm object) k h = omega (arith, leb-false 64 (length m.conts) (none_at m lent (open_in nm object) k 11))
depth_after m lent close k h = go m.conts h
  where
    go : (ks : List Container) → length ks ≤ 64 → length (close_at m ks).conts ≤ 64
    go [] g = h
    go (k ∷ ks) g = omega arith
depth_after m lent roll_back k h = go m.conts h
  where
    go : (ks : List Container) → length ks ≤ 64 → length (roll_at m ks).conts ≤ 64
    go [] g = h
    go (k ∷ ks) g = omega arith
depth_after m lent (uniqueness u) k h = go m.conts h
  where
    go : (ks : List Container) → length ks ≤ 64 → length (set_unique_at u ks) ≤ 64
    go [] g = g
    go (k ∷ ks) g = g
depth_after m lent set_mark k h = set_cases (λ n. length n.conts ≤ 64) m h (λ k ks ps pss e. omega (arith, e))
depth_after m lent (return_to j) k h = return_cases (λ n. length n.conts ≤ 64) m j h (λ k ks pss p ps e. omega (arith, e))
depth_after m lent (finish out) k h = h

-- the bytes stay as few as four bytes count
small_after : (m : Machine) (lent : Lent) (c : Call) → Clear (rows_at m lent c) → length m.bytes < 256 ^ 4 → length (apply m c).bytes < 256 ^ 4
unfolding apply
small_after m lent (register n) k h = h
small_after m lent (append nm v) k h =
    let bs = scalar_bytes (scalar_of v) in
    omega (arith, length-append m.bytes bs, fits_few (length m.bytes) (length bs) lent.value (append_at m lent nm v k 14))
small_after m lent (open_in nm object) k h = h
small_after m lent close k h = go m.conts (fits_few (length m.bytes) (length (header_at m m.conts)) lent.value (none_at m lent close k 14))
  where
    go : (ks : List Container) → length m.bytes + length (header_at m ks) < 256 ^ 4 → length (close_at m ks).bytes < 256 ^ 4
    go [] f = h
    go (k ∷ ks) f =
        let a = take k.value m.bytes in
        let b = drop k.value m.bytes in
        let n = header_at m (k ∷ ks) in
        let e : length a + length b ≡ length m.bytes = sym (length-append a b) ∙ ap length (take-append-drop k.value m.bytes) in
        omega (arith, length-append a (n ++ b), length-append n b)
small_after m lent roll_back k h = go m.conts
  where
    go : (ks : List Container) → length (roll_at m ks).bytes < 256 ^ 4
    go [] = h
    go (k ∷ ks) = simp length-take (omega arith)
small_after m lent (uniqueness u) k h = h
small_after m lent set_mark k h = set_cases (λ n. length n.bytes < 256 ^ 4) m h (λ k ks ps pss e. h)
small_after m lent (return_to j) k h = return_cases (λ n. length n.bytes < 256 ^ 4) m j h (λ k ks pss p ps e. simp length-take (omega arith))
small_after m lent (finish out) k h = h

finished_after : (m : Machine) (t : Bool) (c : Call) → m.finished ≡ t → (apply m c).finished ≡ (t || (is_finish c && true))
unfolding apply
finished_after m t c e = go c ∙ ap (λ z. z || (is_finish c && true)) e
  where
    same : (b : Bool) → b ≡ (b || false)
    same true = refl
    same false = refl

    over : (b : Bool) → true ≡ (b || true)
    over true = refl
    over false = refl

    closed : (ks : List Container) → (close_at m ks).finished ≡ m.finished
    closed [] = refl
    closed (k ∷ ks) = refl

    rolled : (ks : List Container) → (roll_at m ks).finished ≡ m.finished
    rolled [] = refl
    rolled (k ∷ ks) = refl

    go : (c : Call) → (apply m c).finished ≡ (m.finished || (is_finish c && true))
    go (register n) = same m.finished
    go (append nm v) = same m.finished
    go (open_in nm object) = same m.finished
    go close = closed m.conts ∙ same m.finished
    go roll_back = rolled m.conts ∙ same m.finished
    go (uniqueness u) = same m.finished
    go set_mark = set_cases (λ n. n.finished ≡ m.finished) m refl (λ k ks ps pss e. refl) ∙ same m.finished
    go (return_to j) = return_cases (λ n. n.finished ≡ m.finished) m j refl (λ k ks pss p ps e. refl) ∙ same m.finished
    go (finish out) = over m.finished

-- no call changes the floor
floor_after : (m : Machine) (c : Call) → (apply m c).floor ≡ m.floor
unfolding apply
floor_after m (register n) = refl
floor_after m (append nm v) = refl
floor_after m (open_in nm object) = refl
floor_after m close = go m.conts
  where
    go : (ks : List Container) → (close_at m ks).floor ≡ m.floor
    go [] = refl
    go (k ∷ ks) = refl
floor_after m roll_back = go m.conts
  where
    go : (ks : List Container) → (roll_at m ks).floor ≡ m.floor
    go [] = refl
    go (k ∷ ks) = refl
floor_after m (uniqueness u) = refl
floor_after m set_mark = set_cases (λ n. n.floor ≡ m.floor) m refl (λ k ks ps pss e. refl)
floor_after m (return_to j) = return_cases (λ n. n.floor ≡ m.floor) m j refl (λ k ks pss p ps e. refl)
floor_after m (finish out) = refl

-- the account as it stands, with the machine's own list of names and floor
abbrev named : Machine → Account → Account
named m a =
    record {
      history = record { names = m.names; top = a.history.top; levels = a.history.levels };
      tallies = a.tallies;
      finished = a.finished;
      floor = m.floor;
    }

named_same : {m : Machine} {a : Account} → Linked m a → named m a ≡ a
named_same {a} x =
    λ i. record {
      history = record { names = x.names i; top = a.history.top; levels = a.history.levels };
      tallies = a.tallies;
      finished = a.finished;
      floor = x.floor i;
    }

-- THE STEP: a call that no row refuses keeps machine and account linked.
pub linked_step : {m : Machine} {a : Account} → Linked m a → (lent : Lent) (c : Call) → Clear (rows_at m lent c) → Linked (apply m c) (account_after a c false)
unfolding account_after fed ledger_after
linked_step {m} {a} x lent c k =
    let p = named_same x in
    let o = subst (λ (z : Account). history.Orderly z.history) (sym p) x.orderly in
    let w = subst (λ (z : Account). WellFormed z.history) (sym p) x.formed in
    let top = a.history.top in
    let ls = a.history.levels in
    let n = next m top a.tallies ls o w x.small x.levels lent c k in
    let y : Linked (apply m c) (account_after (named m a) c false) = record {
      names = n.names;
      finished = finished_after m a.finished c x.finished;
      floor = floor_after m c;
      good = ap good_floor (floor_after m c) ∙ x.good;
      small = small_after m lent c k x.small;
      depth = depth_after m lent c k x.depth;
      orderly = accepted_orderly (named m a).history c o;
      formed = accepted_formed (named m a).history c (suits m top a.tallies ls o w x.small x.levels lent c k) w;
      levels = n.levels;
    } in
    subst (λ (z : Account). Linked (apply m c) (account_after z c false)) p y

-- ---- the number

-- rows that agree, each as long as those before it do not hold
abbrev Agree : List Row → List Row → Type 0
Agree [] [] = Unit {0}
Agree [] (s ∷ ss) = ⊥
Agree (r ∷ rs) [] = ⊥
Agree (r ∷ rs) (s ∷ ss) = (r.number ≡ s.number) × (r.test ≡ s.test) × (r.test ≡ false → Agree rs ss)

agree_first : (rs ss : List Row) → Agree rs ss → first rs ≡ first ss
unfolding first
agree_first [] [] h = refl
agree_first [] (s ∷ ss) h = absurd h
agree_first (r ∷ rs) [] h = absurd h
agree_first (r ∷ rs) (s ∷ ss) h = go (λ p. agree_first rs ss (h.2 p)) r.test s.test h.1 refl
  where
    go : (r.test ≡ false → first rs ≡ first ss) → (t u : Bool) → t ≡ u → r.test ≡ t → cond t r.number (first rs) ≡ cond u s.number (first ss)
    go f true true e p = h.0
    go f true false e p = absurd (true≢false e)
    go f false true e p = absurd (true≢false (sym e))
    go f false false e p = f p

-- one row more that agrees: those behind it may use that its test does not hold
infixr 20 ◌then◌
◌then◌ : {n : ℕ} {t u : Bool} {Behind : Type 0} → t ≡ u → (t ≡ false → Behind) → (n ≡ n) × (t ≡ u) × (t ≡ false → Behind)
e then f = (refl, e, f)

-- the same rows before both
agree_own : (own rs ss : List Row) → Agree rs ss → Agree (own ++ rs) (own ++ ss)
agree_own [] rs ss h = h
agree_own (r ∷ own) rs ss h = (refl, refl, λ _. agree_own own rs ss h)

module _ (m : Machine) (a : Account) (x : Linked m a) where
  chained : Chained m.names a.history.top a.history.levels
  chained = rw x.names x.orderly.chained

  distinct : Distinct m.names
  distinct = rw x.names x.orderly.distinct

  bytes_agree : length m.bytes ≡ total a.tallies
  bytes_agree = levels_total m.floor a.history.top m.unique a.history.levels m.conts m.names (used_by m a.tallies) x.levels

  open_agree : any_open m.conts ≡ ledger.any_open a.history.levels
  open_agree = levels_open m.floor a.history.top m.unique a.history.levels m.conts m.names (used_by m a.tallies) x.levels

  object_agree : object_inner m.conts ≡ ledger.object_inner a.history.levels
  object_agree = levels_object m.floor a.history.top m.unique a.history.levels m.conts m.names (used_by m a.tallies) x.levels

  depth_agree : length m.conts ≡ length a.history.levels
  depth_agree = levels_depth m.floor a.history.top m.unique a.history.levels m.conts m.names (used_by m a.tallies) x.levels

  entries_agree : length m.entries ≡ ledger.entries_used m.names a.history.levels
  entries_agree =
      levels_used m.floor a.history.top m.unique a.history.levels m.conts m.names (used_by m a.tallies) distinct
      x.formed.formed_levels chained x.levels

  misnamed_agree : (nm : Option Name) → misnamed_at nm m.conts ≡ ledger.misnamed_in nm a.history.levels
  misnamed_agree none = object_agree
  misnamed_agree (some n) = ap not object_agree

  unique_agree : unique_at m m.conts ≡ unique_in a.tallies
  unique_agree = levels_unique m a.tallies m.floor a.history.top a.history.levels m.conts x.levels

  -- row 5 holds for a name in a list, so that row 10 need not agree there
  live_agree : (nm : Option Name) → misnamed_at nm m.conts ≡ false → live_at m nm m.conts ≡ ledger.live_in nm a.history.levels
  live_agree nm e =
      levels_live m a.tallies m.floor a.history.top m.unique a.history.levels m.conts nm
      (named_at m.floor a.history.top m.unique a.history.levels m.conts m.names (used_by m a.tallies) nm x.levels e) chained
      x.levels

  header_agree : length (header_at m m.conts) ≡ header_size m.floor m.names a.history.levels (inner_sum a.tallies)
  header_agree = levels_header m a.tallies a.history.top m.unique a.history.levels m.conts distinct chained x.levels

  second_agree : (not (any_open m.conts) && ltb 0 (length m.bytes)) ≡ (not (ledger.any_open a.history.levels) && ltb 0 (total a.tallies))
  second_agree = λ i. not (open_agree i) && ltb 0 (bytes_agree i)

  free_agree : (lent : Lent) (nm : Option Name) → misnamed_at nm m.conts ≡ false → no_entry_free m lent nm ≡ ledger.no_entry_free lent (named m a).history nm
  free_agree lent nm e i = (object_agree i && not (live_agree nm e i)) && leb (room_for lent.entries) (entries_agree i)

  marks_agree : marks_at m.conts ≡ ledger.marks_in a.history.levels
  marks_agree = levels_marks m.floor a.history.top m.unique a.history.levels m.conts m.names (used_by m a.tallies) x.levels

  undos_agree : length m.undos ≡ ledger.undos_used a.tallies a.history.levels
  undos_agree =
      levels_undos m.floor a.history.top m.unique a.history.levels m.conts m.names (used_by m a.tallies)
      x.formed.formed_levels chained x.levels

  undo_agree : (lent : Lent) (nm : Option Name) → misnamed_at nm m.conts ≡ false
      → no_undo_free m lent nm ≡ ledger.no_undo_free lent a.tallies a.history.levels nm
  undo_agree lent nm e i = (live_agree nm e i && ltb 0 (marks_agree i)) && leb (room_for lent.undo) (undos_agree i)

  taken_agree : (nm : Option Name) → misnamed_at nm m.conts ≡ false
      → (unique_at m m.conts && live_at m nm m.conts) ≡ (unique_in a.tallies && ledger.live_in nm a.history.levels)
  taken_agree nm e i = unique_agree i && live_agree nm e i

  rows_agree : (lent : Lent) (c : Call) → Agree (rows_at m lent c) (refusal_rows (named m a) lent c)
  rows_agree lent (register n) =
      x.finished
      then λ _. refl
      then λ _. refl
      then λ _. tt
  rows_agree lent (append nm v) =
      x.finished
      then λ _. misnamed_agree nm
      then λ e. second_agree
      then λ _. agree_own (scalar_rows v) _ _ (refl
      then λ _. taken_agree nm e
      then λ _. refl
      then λ _. free_agree lent nm e
      then λ _. undo_agree lent nm e
      then λ _. (λ i. not (fits (bytes_agree i) (length (scalar_bytes (scalar_of v))) lent.value))
      then λ _. tt)
  rows_agree lent (open_in nm object) =
      x.finished
      then λ _. misnamed_agree nm
      then λ e. second_agree
      then λ _. refl
      then λ _. taken_agree nm e
      then λ _. (λ i. leb 64 (depth_agree i))
      then λ _. refl
      then λ _. free_agree lent nm e
      then λ _. undo_agree lent nm e
      then λ _. tt
  rows_agree lent close =
      x.finished
      then λ _. (λ i. not (open_agree i))
      then λ _. (λ i. not (fits (bytes_agree i) (header_agree i) lent.value))
      then λ _. tt
  rows_agree lent roll_back = x.finished then λ _. (λ i. not (open_agree i)) then λ _. tt
  rows_agree lent (uniqueness u) = x.finished then λ _. (λ i. not (object_agree i)) then λ _. tt
  rows_agree lent set_mark = x.finished then λ _. (λ i. not (open_agree i) || leb 16 (marks_agree i)) then λ _. tt
  rows_agree lent (return_to j) = x.finished then λ _. (λ i. not (open_agree i) || (eqb j 0 || ltb (marks_agree i) j)) then λ _. tt
  rows_agree lent (finish out) =
      x.finished
      then λ _. open_agree
      then λ _. (λ i. eqb (bytes_agree i) 0)
      then λ _. refl
      then λ _. tt

-- THE NUMBER: the machine's rows and those of the account give the same one.
pub linked_number : {m : Machine} {a : Account} → Linked m a → (lent : Lent) (c : Call) → number_at m lent c ≡ refusal_of a lent c
unfolding number_at refusal_of
linked_number {m} {a} x lent c =
    agree_first (rows_at m lent c) (refusal_rows (named m a) lent c) (rows_agree m a x lent c) ∙ ap (λ (z : Account). first (refusal_rows z lent c)) (named_same x)

-- ---- what linked machines are like

-- number 1 never comes
pub linked_orderly : {m : Machine} {a : Account} → Linked m a → Orderly m
linked_orderly {m} {a} x =
    let top = a.history.top in
    let ls = a.history.levels in
    let c = chained m a x in
    let f = x.formed.formed_levels in
    record {
      rising =
          levels_rising m.floor top m.unique ls m.conts m.names (used_by m a.tallies) (length m.bytes) (length m.names)
          (length (joined m.names))
          (length m.entries) (length m.undos) (omega arith) (omega arith) (omega arith) (omega arith) (omega arith) f c x.levels;
      falling =
          levels_falling m.floor top m.unique ls m.conts m.names (used_by m a.tallies) false (mark_of m 0 false)
          (record { value = omega arith; names = omega arith; text = omega arith; entries = omega arith; undo = omega arith }) f c x.levels;
      counting = levels_counting m.floor top m.unique ls m.conts m.names (used_by m a.tallies) c x.levels;
      depth = x.depth;
      inner = levels_inner m a.tallies m.floor top m.unique ls m.conts f c x.small x.levels;
      texts = levels_texts m.floor top m.unique ls m.conts m.names (used_by m a.tallies) x.levels;
      parent = levels_parent m.floor top m.unique ls m m.conts a.tallies f c x.levels;
      distinct = distinct m a x;
      floor = x.good;
    }

-- the used value bytes are the ledger's
pub linked_account : {m : Machine} {a : Account} → Linked m a → length m.bytes ≡ total a.tallies
linked_account {m} {a} x = bytes_agree m a x

-- no level is open exactly where no container is
shut : (floor : ℕ) (top : Option Tree) (u : Bool) (ls : List Level) (ks : List Container) (ns : List Name) (s : Used) → Levels floor top u ls ks ns s → ks ≡ [] → (ls ≡ []) × Ground floor top u ns s
shut floor top u [] [] ns s x e = (refl, x)
shut floor top u [] (k ∷ ks) ns s x e = absurd x
shut floor top u (l ∷ ls) [] ns s x e = absurd x
shut floor top u (l ∷ ls) (k ∷ ks) ns s x e = absurd (omega (arith, ap length e))

-- where no container is open: no level, no entries, and the top value's bytes or none
pub linked_shut : {m : Machine} {a : Account} → Linked m a → m.conts ≡ []
    → (a.history.levels ≡ []) × Ground m.floor a.history.top m.unique m.names (used_by m a.tallies)
linked_shut {m} {a} x e = shut m.floor a.history.top m.unique a.history.levels m.conts m.names (used_by m a.tallies) x.levels e

-- where no container is open, the used value bytes are those of the top value
pub linked_value : {m : Machine} {a : Account} → Linked m a → m.conts ≡ [] → (t : Tree) → a.history.top ≡ some t → m.bytes ≡ encode a.floor a.history.names t
linked_value {m} {a} x e t p = rw p at (linked_shut x e).1.value ∙ (λ i. encode (x.floor i) (x.names i) t)

-- then no level is open either, and where value bytes are used there is a top value
pub linked_top : {m : Machine} {a : Account} → Linked m a → m.conts ≡ [] → (a.history.levels ≡ []) × (0 < length m.bytes → (t : Tree) × (a.history.top ≡ some t))
linked_top {m} {a} x e = ((linked_shut x e).0, λ h. go a.history.top (linked_shut x e).1.value h)
  where
    go : (top : Option Tree) → Topped m.floor top m.names m.bytes → 0 < length m.bytes → (t : Tree) × (top ≡ some t)
    go none v h = absurd (omega (arith, ap length v))
    go (some t) v h = (t, refl)

-- the trees are well formed
pub linked_formed : {m : Machine} {a : Account} → Linked m a → WellFormed a.history
linked_formed x = x.formed

-- a refused call changes no account
pub account_refused : (a : Account) (c : Call) → account_after a c true ≡ a
unfolding account_after fed ledger_after
account_refused a c = λ i. record { history = a.history; tallies = a.tallies; finished = stays (is_finish c) a.finished i; floor = a.floor }
  where
    stays : (b t : Bool) → (t || (b && false)) ≡ t
    stays true true = refl
    stays true false = refl
    stays false true = refl
    stays false false = refl

-- so that they stay linked
pub linked_refused : {m : Machine} {a : Account} → Linked m a → (c : Call) → Linked m (account_after a c true)
linked_refused {a} x c = rw (account_refused a c) x

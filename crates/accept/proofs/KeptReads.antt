-- What a run keeps can be read: by rows 7 and 8 its scalars are in range (dates and timestamps have none in the grammar), by row 9 its names are
-- UTF-8, by row 11 at most 64 containers lie one in another. So it is of every mark's copy, and stays so by every call.
use mathlib.Core.Path.{◌≡◌, refl, sym, ◌∙◌}
use mathlib.Core.Bool.{Bool, true, false, cond}
use mathlib.Core.List.{List, [], ◌∷◌, ◌++◌}
use mathlib.Core.Option.{Option, none, some}
use Prim.Native.Nat.{ℕ, zero, suc, ◌-◌, ◌≤◌, ◌<◌}
use native.Mathlib.Omega.{arith}
use lib.Dec.{eqb, ltb}
use lib.ListN.{drop, length}
use borrow.Author.Tests.{eqb-true, leb-true, leb-false, not-false}
use Rattle.encoding.specs.Rows.{test_of, order, behind, in_order}
use Rattle.encoding.specs.Slices.{counted}
use Rattle.encoding.specs.Utf8.{utf8}
use Rattle.encoding.proofs.RowsLaws.{first_none, clear_at}
use Rattle.calendar.specs.declared.civil.Civil.{Civil}
use Rattle.calendar.specs.declared.civil.Civil.TheVariants.{Date, TimestampMicros, TimestampNtzMicros}
use Rattle.packed_decimal.specs.PackedDecimal.{packed_variant, packed_value}
use Rattle.packed_decimal.proofs.PackedDecimalLaws.{smallest_in_range}
use Rattle.metadata.specs.Names.{Name, place}
use Rattle.metadata.specs.Bytes.{joined, size_of}
use Rattle.metadata.proofs.BytesLaws.{dictionary_size}
use Rattle.semantics.specs.Record.{State, Scalars, fixed, civil, packed, bytes, uuid, Call, register, append, open_in, close, roll_back, uniqueness, set_mark, return_to, finish, scalar_of}
use Rattle.semantics.specs.Step.{step}
use Rattle.semantics.specs.Table.{bad_name}
use Rattle.semantics.specs.Tree.{Label, element, live, Tree, scalar, nest, Items, empty, item}
use Rattle.semantics.specs.History.{Copy, Level, History, with_name, replace, snoc, entered, enter, close_level, drop_level, mark_level, brought, return_level, accepted, fed}
use Rattle.semantics.specs.Ledger.{Lent, Account, refusal_of, refusal_rows}
use Rattle.semantics.specs.Run.{Fresh, FinishedRun, floor_of, refused, history_from, history_of, kept, kept_dictionary, account_after, account_of, lent_by}
use Rattle.semantics.proofs.RunLaws.{Follows, follows_fresh, follows_number, follows_step, account_floor, run_ends, run_history}
use Rattle.semantics.proofs.Demand2.{numbers}
use Rattle.lexicon.specs.Dictionary.{each_utf8, most_bytes}
use Rattle.lexicon.proofs.DictionaryLaws.{both, with_both}
use Rattle.grammar.proofs.ScalarLaws.{variant_inside, bytes_inside}
use Rattle.accept.specs.Shape.{Within, WithinItems}

-- ---- THE PREDICATE: of items with room for d containers one in another, and of names. It holds of an open container with the names before its
-- open, and of a mark's copy.

pub record Readable (d : ℕ) (is : Items) (names : List Name) : Type 0 where
  pub within : WithinItems d is
  pub text : each_utf8 names ≡ true

abbrev pub ReadableCopies : ℕ → List Copy → Type 0
ReadableCopies d [] = Unit {0}
ReadableCopies d (c ∷ cs) = Readable d c.items c.names × ReadableCopies d cs

-- the room inside these open containers
abbrev pub room_in : List Level → ℕ
room_in ls = 64 - length ls

abbrev pub ReadableLevels : List Level → Type 0
ReadableLevels [] = Unit {0}
ReadableLevels (l ∷ ls) =
    (0 < room_in ls) × Readable (room_in (l ∷ ls)) l.items l.before × ReadableCopies (room_in (l ∷ ls)) l.marks × ReadableLevels ls

abbrev pub ReadableTop : Option Tree → Type 0
ReadableTop none = Unit {0}
ReadableTop (some t) = Within 64 t

pub record ReadableHistory (h : History) : Type 0 where
  pub names : each_utf8 h.names ≡ true
  pub top : ReadableTop h.top
  pub levels : ReadableLevels h.levels

-- ---- names

abbrev pub TextName : Option Name → Type 0
TextName none = Unit {0}
TextName (some n) = utf8 n ≡ true

each_added : (ns : List Name) (n : Name) → each_utf8 ns ≡ true → utf8 n ≡ true → each_utf8 (ns ++ (n ∷ [])) ≡ true
unfolding each_utf8
each_added [] n h k = with_both k refl
each_added (m ∷ ns) n h k = let p = both {a = utf8 m} {b = each_utf8 ns} h in with_both p.0 (each_added ns n p.1 k)

with_text : (ns : List Name) (nm : Option Name) → TextName nm → each_utf8 ns ≡ true → each_utf8 (with_name ns nm) ≡ true
unfolding with_name
with_text ns none k h = h
with_text ns (some n) k h = go (ltb (place n ns) (length ns))
  where
    go : (t : Bool) → each_utf8 (cond t ns (ns ++ (n ∷ []))) ≡ true
    go true = h
    go false = each_added ns n h k

-- ---- items

replace_within : (d : ℕ) (n : Name) (is : Items) → WithinItems d is → WithinItems d (replace n is)
unfolding replace
replace_within d n empty h = tt
replace_within d n (item m t is) h = (h.0, replace_within d n is h.1)

snoc_within : (d : ℕ) (is : Items) (m : Label) (t : Tree) → Within d t → WithinItems d is → WithinItems d (snoc is m t)
unfolding snoc
snoc_within d empty m t k h = (k, tt)
snoc_within d (item j u is) m t k h = (h.0, snoc_within d is m t k h.1)

entered_within : (d : ℕ) (nm : Option Name) (t : Tree) (is : Items) → Within d t → WithinItems d is → WithinItems d (entered nm t is)
unfolding entered
entered_within d none t is k h = snoc_within d is element t k h
entered_within d (some n) t is k h = snoc_within d (replace n is) (live n) t k (replace_within d n is h)

copies_drop : (d n : ℕ) (cs : List Copy) → ReadableCopies d cs → ReadableCopies d (drop n cs)
copies_drop d zero cs h = h
copies_drop d (suc n) [] h = tt
copies_drop d (suc n) (c ∷ cs) h = copies_drop d n cs h.1

-- ---- kept by every call

module _ (ns : List Name) (top : Option Tree) (e : each_utf8 ns ≡ true) (g : ReadableTop top) where
  enter_readable : (ls : List Level) (nm : Option Name) (t : Tree) → Within (room_in ls) t → ReadableLevels ls → ReadableHistory (enter ns top ls nm t)
  unfolding enter
  enter_readable [] nm t k h = record { names = e; top = k; levels = tt }
  enter_readable (l ∷ ls) nm t k h =
      let r = h.1 in
      let is = entered_within (room_in (l ∷ ls)) nm t l.items k r.within in
      record { names = e; top = g; levels = (h.0, record { within = is; text = r.text }, h.2, h.3) }

  close_readable : (ls : List Level) → ReadableLevels ls → ReadableHistory (close_level ns top ls)
  unfolding close_level
  close_readable [] h = record { names = e; top = g; levels = tt }
  close_readable (l ∷ ls) h =
      let one : room_in ls - 1 ≡ room_in (l ∷ ls) = omega arith in
      enter_readable ls l.own (nest l.object l.items) (h.0, rw one h.1.within) h.3

  drop_readable : (ls : List Level) → ReadableLevels ls → ReadableHistory (drop_level ns top ls)
  unfolding drop_level
  drop_readable [] h = record { names = e; top = g; levels = tt }
  drop_readable (l ∷ ls) h = record { names = h.1.text; top = g; levels = h.3 }

  mark_readable : (ls : List Level) → ReadableLevels ls → ReadableHistory (mark_level ns top ls)
  unfolding mark_level
  mark_readable [] h = record { names = e; top = g; levels = tt }
  mark_readable (l ∷ ls) h = record { names = e; top = g; levels = (h.0, h.1, (record { within = h.1.within; text = e }, h.2), h.3) }

  brought_readable : (l : Level) (ls : List Level) (cs : List Copy) → ReadableCopies (room_in (l ∷ ls)) cs → ReadableLevels (l ∷ ls)
      → ReadableHistory (brought ns top l ls cs)
  unfolding brought
  brought_readable l ls [] k h = record { names = e; top = g; levels = h }
  brought_readable l ls (c ∷ cs) k h =
      record { names = k.0.text; top = g; levels = (h.0, record { within = k.0.within; text = h.1.text }, k, h.3) }

  return_readable : (ls : List Level) (j : ℕ) → ReadableLevels ls → ReadableHistory (return_level ns top ls j)
  unfolding return_level
  return_readable [] j h = record { names = e; top = g; levels = tt }
  return_readable (l ∷ ls) j h =
      let n = length l.marks - j in
      brought_readable l ls (drop n l.marks) (copies_drop (room_in (l ∷ ls)) n l.marks h.2) h

-- what the rows leave
abbrev pub Admits : History → Call → Type 0
Admits h (register n) = TextName (some n)
Admits h (append nm v) = TextName nm × Within 0 (scalar (scalar_of v))
Admits h (open_in nm k) = TextName nm × (0 < room_in h.levels)
Admits h close = Unit {0}
Admits h roll_back = Unit {0}
Admits h (uniqueness u) = Unit {0}
Admits h set_mark = Unit {0}
Admits h (return_to j) = Unit {0}
Admits h (finish out) = Unit {0}

pub accepted_readable : (h : History) (c : Call) → Admits h c → ReadableHistory h → ReadableHistory (accepted h c)
unfolding accepted
accepted_readable h (register n) a r = record { names = with_text h.names (some n) a r.names; top = r.top; levels = r.levels }
accepted_readable h (append nm v) a r =
    enter_readable (with_name h.names nm) h.top (with_text h.names nm a.0 r.names) r.top h.levels nm (scalar (scalar_of v)) a.1 r.levels
accepted_readable h (open_in nm k) a r =
    record {
      names = with_text h.names nm a.0 r.names;
      top = r.top;
      levels = (a.1, record { within = tt; text = r.names }, tt, r.levels);
    }
accepted_readable h close a r = close_readable h.names h.top r.names r.top h.levels r.levels
accepted_readable h roll_back a r = drop_readable h.names h.top r.names r.top h.levels r.levels
accepted_readable h (uniqueness u) a r = r
accepted_readable h set_mark a r = mark_readable h.names h.top r.names r.top h.levels r.levels
accepted_readable h (return_to j) a r = return_readable h.names h.top r.names r.top h.levels j r.levels
accepted_readable h (finish out) a r = r

pub fed_readable : (h : History) (c : Call) (refused : Bool) → (refused ≡ false → Admits h c) → ReadableHistory h → ReadableHistory (fed h c refused)
unfolding fed
fed_readable h c true a r = r
fed_readable h c false a r = accepted_readable h c (a refl) r

-- ---- the rows

named : (nm : Option Name) → bad_name nm ≡ false → TextName nm
named none h = tt
named (some n) h = not-false (utf8 n) h

civil_inside : (x : Civil) → Within 0 (scalar (scalar_of (civil x)))
civil_inside (Date d) = refl
civil_inside (TimestampMicros d time) = refl
civil_inside (TimestampNtzMicros d time) = refl

module _ (a : Account) (lent : Lent) where
  -- the test of row n does not hold
  untrue : (c : Call) → in_order (behind 1 order) (refusal_rows a lent c) ≡ true → refusal_of a lent c ≡ 0 → (n : ℕ) → test_of n (refusal_rows a lent c) ≡ false
  unfolding refusal_of
  untrue c o e n = clear_at n (refusal_rows a lent c) ((first_none (behind 1 order) (refusal_rows a lent c) o).0 e)

  append_admits : (nm : Option Name) (v : Scalars) → refusal_of a lent (append nm v) ≡ 0 → Admits a.history (append nm v)
  append_admits nm (fixed x) e = let u = untrue (append nm (fixed x)) refl e in (named nm (u 9), variant_inside x (u 7))
  append_admits nm (civil x) e = let u = untrue (append nm (civil x)) refl e in (named nm (u 9), civil_inside x)
  append_admits nm (packed scale bs) e =
      let u = untrue (append nm (packed scale bs)) refl e in
      (named nm (u 9), variant_inside (packed_variant bs scale) (smallest_in_range scale (packed_value bs) (u 7)))
  append_admits nm (bytes k bs) e = let u = untrue (append nm (bytes k bs)) refl e in (named nm (u 9), bytes_inside k bs (u 8))
  append_admits nm (uuid bs) e = let u = untrue (append nm (uuid bs)) refl e in (named nm (u 9), refl)

  pub admits : (c : Call) → refusal_of a lent c ≡ 0 → Admits a.history c
  admits (register n) e = named (some n) (untrue (register n) refl e 9)
  admits (append nm v) e = append_admits nm v e
  admits (open_in nm k) e =
      let u = untrue (open_in nm k) refl e in
      let few = leb-false 64 (length a.history.levels) (u 11) in
      (named nm (u 9), omega arith)
  admits close e = tt
  admits roll_back e = tt
  admits (uniqueness u) e = tt
  admits set_mark e = tt
  admits (return_to j) e = tt
  admits (finish out) e = tt

  -- an accepted finish has room for its dictionary
  pub finish_room : (out : List ℕ) → refusal_of a lent (finish out) ≡ 0
      → size_of a.floor (length a.history.names) (length (joined a.history.names)) ≤ counted (length out)
  finish_room out e = leb-true _ _ (not-false _ (untrue (finish out) refl e 16))

-- ---- every run

step_admits : {lent : Lent} {s : State} {a : Account} → Follows lent s a → (c : Call) → refused s c ≡ false → Admits a.history c
unfolding refused
step_admits {lent} {s} {a} x c e =
    admits a lent c (sym (follows_number x c) ∙ eqb-true (step s c).number 0 (not-false (eqb (step s c).number 0) e))

from_readable : {lent : Lent} {s : State} {a : Account} → Follows lent s a → (cs : List Call) → ReadableHistory a.history
    → ReadableHistory (history_from a.history s cs)
unfolding history_from account_after
from_readable x [] r = r
from_readable {s = s} {a = a} x (c ∷ cs) r = from_readable {s = (step s c).state} {a = account_after a c (refused s c)} (follows_step x c) cs (fed_readable a.history c (refused s c) (step_admits x c) r)

pub history_readable : (s : State) (cs : List Call) → Fresh s → ReadableHistory (history_of s cs)
unfolding history_of each_utf8
history_readable s cs f = from_readable (follows_fresh s f) cs (record { names = refl; top = tt; levels = tt })

-- the kept top value and the kept names
pub kept_within : {t : Tree} (s : State) (cs : List Call) → Fresh s → (kept s cs).top ≡ some t → Within 64 t
unfolding kept
kept_within s cs f e = rw e at (history_readable s cs f).top

pub kept_text : (s : State) (cs : List Call) → Fresh s → each_utf8 (kept s cs).names ≡ true
unfolding kept
kept_text s cs f = (history_readable s cs f).names

-- the dictionary that was written is within the cap
pub kept_small : (s : State) (cs : List Call) → FinishedRun s cs → length (kept_dictionary s cs) ≤ most_bytes
unfolding kept
kept_small s cs r =
    let e = run_ends r in
    let a = account_of s e.before in
    let n = sym (numbers s e.before (finish e.out) r.fresh) ∙ e.number in
    let h = finish_room a (lent_by s.storage) e.out n in
    let p = sym (run_history r) in
    let q : size_of a.floor (length a.history.names) (length (joined a.history.names)) ≡ length (kept_dictionary s cs) =
    (λ i. size_of (account_floor s e.before i) (length (p i).names) (length (joined (p i).names))) ∙ sym (dictionary_size (floor_of s) (kept s cs).names) in
    omega arith

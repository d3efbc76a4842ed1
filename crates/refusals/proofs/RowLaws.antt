-- The rows of a register, an append and an open, from what is known of a name; and what they are for each of these calls.
use mathlib.Core.Path.{◌≡◌, refl, sym, ◌∙◌, ap}
use mathlib.Core.Bool.{Bool, true, false, cond, not, ◌&&◌, and-false, or-false}
use mathlib.Core.List.{List, [], ◌∷◌, ◌++◌}
use mathlib.Core.Option.{Option, none, some}
use Rattle.std.specs.Prelude.{is_some, Option as Optional, Some, None, Result, Ok, Err}
use Rattle.std.specs.Borrow.{Bor}
use Prim.Native.Nat.{ℕ, zero, suc, ◌+◌}
use native.Mathlib.Omega.{arith}
use lib.Dec.{eqb, leb, ltb}
use lib.ListN.{length}
use borrow.Author.Tests.{eqb-true, ne_eqb, ltb-false, le-leb}
use Rattle.encoding.specs.Rows.{Row, row, first, test_of, order, behind, in_order}
use Rattle.encoding.proofs.RowsLaws.{first_none, first_own, clear_at}
use Rattle.encoding.specs.Slices.{counted, fits}
use Rattle.metadata.specs.Names.{Name}
use Rattle.semantics.specs.declared.View.{View}
use Rattle.semantics.specs.Record.{Storage, open_in, register, unique_now}
use Rattle.semantics.specs.Damage.{damaged, fallen_ends, misread_by, over_used}
use Rattle.semantics.specs.Table.{front_rows, back_rows, append_rows, number_of, bad_name, misnamed, names_full, second_top, taken, too_long}
use Rattle.refusals.specs.declared.Field.{Field}
use Rattle.semantics.specs.declared.refusal.Refusal.{Refusal}
use Rattle.semantics.specs.declared.refusal.Refusal.TheVariants as refusal
use Rattle.semantics.specs.Refusal.{number_told}
use Rattle.semantics.proofs.RefusalLaws.{then_by, then_ok}
use Rattle.refusals.specs.Decide.{field_of, name_in, live_into, live_told, size_told, Decides, Passes, broken_of, misnamed_by, misread_into, Sees, full_by, unkept_by, rows_by, enter_by, enter_rows, late_rows}
use Rattle.refusals.proofs.ViewLaws.{neither, past, undamaged_unbroken}
pub use Rattle.refusals.proofs.ViewLaws.{broken_none, damaged_broken}

-- ---- the rows, from what is known of the name

-- what is known of a name, in cases
known_front : (into : Bool) (v : View) (l : Storage) (nm : Option Name) (f : Result Field Refusal) → Sees into v l nm f → (P : ℕ → Bool → Type 0) → (misread_into into v l nm ≡ true → P 1 (live_told f))
    → (misread_into into v l nm ≡ false → bad_name nm ≡ true → P 9 (live_told f))
    → (misread_into into v l nm ≡ false → bad_name nm ≡ false → names_full v l nm ≡ true → P 12 (live_into into v l nm))
    → (misread_into into v l nm ≡ false → bad_name nm ≡ false → names_full v l nm ≡ false → P 0 (live_into into v l nm)) → P (number_told f) (live_told f)
known_front into v l nm f s P a b c d = go (misread_into into v l nm) (bad_name nm) (names_full v l nm) refl refl refl
  where
    go : (x y z : Bool) → misread_into into v l nm ≡ x → bad_name nm ≡ y → names_full v l nm ≡ z → P (number_told f) (live_told f)
    go true y z p q r = rw (s.number, p) (a p)
    go false true z p q r = rw (s.number, p, q) (b p q)
    go false false true p q r = rw (s.number, p, q, r, s.live p q) (c p q r)
    go false false false p q r = rw (s.number, p, q, r, s.live p q) (d p q r)

-- row 5, of a name that is given or not
misnamed_by_lem : (name : Optional (Bor Name)) (v : View) → misnamed_by (is_some name) v ≡ misnamed (name_in name) v
misnamed_by_lem (Some n) v = refl
misnamed_by_lem None v = refl

-- the rows, by the number and the live mark that are known of the name
enter_rows_lem : (v : View) (l : Storage) (name : Optional (Bor Name)) (f : Result Field Refusal) (into opens : Bool) (own size : ℕ) → broken_of v l ≡ false → Sees into v l (name_in name) f
    → rows_by (number_told f) own v.counts.finished (into && misnamed_by (is_some name) v) (into && second_top v) (unique_now v && live_told f) (opens && leb 64 v.counts.depth)
    (full_by into v (live_told f) (length l.entries)) (unkept_by v (live_told f) (length l.undo)) (fits v.counts.value size (length l.value))
    ≡ first (enter_rows v l (name_in name) into opens own size)
unfolding first
enter_rows_lem v l name f into opens own size e s =
    let b = broken_none v l e in
    let nm = name_in name in
    let m = misnamed_by_lem name v in
    known_front into v l nm f s
    (λ n live. rows_by n own v.counts.finished (into && misnamed_by (is_some name) v) (into && second_top v) (unique_now v && live) (opens && leb 64 v.counts.depth)
    (full_by into v live (length l.entries)) (unkept_by v live (length l.undo)) (fits v.counts.value size (length l.value)) ≡ first (enter_rows v l nm into opens own size))
    (λ p. rw (b.0, b.1, b.2, p))
    (λ p q. rw (b.0, b.1, b.2, p, q, m))
    (λ p q r. rw (b.0, b.1, b.2, p, q, r, m))
    (λ p q r. rw (b.0, b.1, b.2, p, q, r, m))

-- ---- a number 0: the name has none

-- no number of the scalar's own
past_own : (own rest : ℕ) → cond (not (eqb own 0)) own rest ≡ 0 → rest ≡ 0
past_own zero rest e = e
past_own (suc n) rest e = let z : suc n ≡ 0 = rw (ne_eqb (suc n) 0 (λ p. omega arith)) at e in absurd (omega arith)

own_number_zero : (own rest : ℕ) → cond (not (eqb own 0)) own rest ≡ 0 → own ≡ 0
own_number_zero zero rest e = refl
own_number_zero (suc n) rest e = let z : suc n ≡ 0 = rw (ne_eqb (suc n) 0 (λ p. omega arith)) at e in absurd (omega arith)

rows_zero : (number own : ℕ) (finished wrong second taken deep full unkept fit : Bool) → rows_by number own finished wrong second taken deep full unkept fit ≡ 0 → number ≡ 0
rows_zero number own finished wrong second taken deep full unkept fit e =
    let a = past (eqb number 1) 0 _ e in
    let b = past finished 1 _ a.1 in
    let d = past wrong 4 _ b.1 in
    let f = past second 5 _ d.1 in
    let i = past (eqb number 9) 8 _ (past_own own _ f.1) in
    let j = past taken 9 _ i.1 in
    own_number_zero number _ (past deep 10 _ j.1).1

-- the rows of its name, its entry and its room are clear: row i's test does not hold
pub enter_late : (v : View) (l : Storage) (nm : Option Name) (into opens : Bool) (own size : ℕ) → first (enter_rows v l nm into opens own size) ≡ 0
    → (i : ℕ) → test_of i (late_rows v l nm into opens size) ≡ false
unfolding first
enter_late v l nm into opens own size e i =
    let a = past (damaged v l (misread_into into v l nm)) 0 _ e in
    let b = past v.counts.finished 1 _ a.1 in
    let d = past (into && misnamed nm v) 4 _ b.1 in
    let k = (first_none (behind 8 order) (late_rows v l nm into opens size) refl).0 (past_own own _ (past (into && second_top v) 5 _ d.1).1) in
    clear_at i (late_rows v l nm into opens size) k

-- so is number 1
pub enter_unbroken : (v : View) (l : Storage) (nm : Option Name) (into opens : Bool) (own size : ℕ) → first (enter_rows v l nm into opens own size) ≡ 0 → broken_of v l ≡ false
unfolding first
enter_unbroken v l nm into opens own size e = undamaged_unbroken v l _ (past (damaged v l (misread_into into v l nm)) 0 _ e).0

-- number 0 leaves the scalar without a number of its own
pub own_zero : (v : View) (l : Storage) (nm : Option Name) (into opens : Bool) (own size : ℕ) → first (enter_rows v l nm into opens own size) ≡ 0 → own ≡ 0
unfolding first
own_zero v l nm into opens own size e =
    let a = past (damaged v l (misread_into into v l nm)) 0 _ e in
    let b = past v.counts.finished 1 _ a.1 in
    let d = past (into && misnamed nm v) 4 _ b.1 in
    go (eqb own 0) refl _ (past (into && second_top v) 5 _ d.1).1
  where
    go : (t : Bool) → eqb own 0 ≡ t → (rest : ℕ) → cond (not t) own rest ≡ 0 → own ≡ 0
    go true p rest h = eqb-true own 0 p
    go false p rest h = h

-- which is asked before its room is
pub own_before : (v : View) (l : Storage) (nm : Option Name) (into opens : Bool) (own size other : ℕ) → (own ≡ 0 → ⊥)
    → first (enter_rows v l nm into opens own size) ≡ first (enter_rows v l nm into opens own other)
unfolding first
own_before v l nm into opens own size other z = rw (ne_eqb own 0 z) refl

-- ---- the answer

-- where number 1's part that every call asks holds
pub decides_broken : {into : Bool} {v : View} {l : Storage} {nm : Option Name} (m : Bool) (rs : List Row) → broken_of v l ≡ true
    → Decides (first (row 1 (damaged v l m) ∷ rs)) into v l nm (Err refusal.Damaged)
unfolding first
decides_broken {v = v} {l = l} m rs e = let z = damaged_broken v l m e in record { number = rw z; field = rw z }

-- where it does not, the field where the number is 0
pub enter_decides : (v : View) (l : Storage) (name : Optional (Bor Name)) {f r : Result Field Refusal} {into : Bool} (opens : Bool) (size : Result ℕ Refusal) → broken_of v l ≡ false → Sees into v l (name_in name) f
    → Passes (enter_by v f (is_some name) into opens size (length l.value) (length l.entries) (length l.undo)) f r
    → Decides (first (enter_rows v l (name_in name) into opens (number_told size) (size_told size))) into v l (name_in name) r
enter_decides v l name {f} {r} {into} opens size e s p =
    let q = enter_rows_lem v l name f into opens (number_told size) (size_told size) e s in
    record {
      number = p.number ∙ q;
      field = then_by _ r (p.number ∙ q)
          (λ z. p.field (q ∙ z)
          ∙ s.field
          (rows_zero (number_told f) (number_told size) v.counts.finished (into && misnamed_by (is_some name) v) (into && second_top v) (unique_now v && live_told f)
          (opens && leb 64 v.counts.depth) (full_by into v (live_told f) (length l.entries)) (unkept_by v (live_told f) (length l.undo))
          (fits v.counts.value (size_told size) (length l.value)) (q ∙ z)));
    }

-- and so what is in it
pub field_ok : {n : ℕ} {into : Bool} {v : View} {l : Storage} {nm : Option Name} {r : Result Field Refusal} → Decides n into v l nm r → n ≡ 0 → r ≡ Ok (field_of into v l nm)
field_ok {r = r} a = then_ok _ r a.number a.field

-- ---- each call's rows

misread_into_lem : (v : View) (l : Storage) (nm : Option Name) → misread_into true v l nm ≡ misread_by v l nm
misread_into_lem v l none = refl
misread_into_lem v l (some n) = refl

-- nothing is too long where the used bytes fit
none_long : (v : View) (l : Storage) → over_used v l ≡ false → too_long v l 0 ≡ false
unfolding over_used
none_long v l e =
    let u = ltb-false (counted (length l.value)) v.counts.value (neither (ltb (counted (length l.value)) v.counts.value) _ e).0 in
    ap not (le-leb (v.counts.value + 0) (counted (length l.value)) (omega arith))

-- an append's: the number that the scalar's own rows give stands for them
one_own : (v : View) (l : Storage) (nm : Option Name) (own size : ℕ)
    → first (enter_rows v l nm true false own size) ≡ first (front_rows v l nm ++ (row own (not (eqb own 0)) ∷ back_rows v l nm size))
unfolding first
one_own v l nm own size = rw (misread_into_lem v l nm)

pub append_number : (v : View) (l : Storage) (nm : Option Name) (own : List Row) (size : ℕ) → in_order order own ≡ true
    → first (enter_rows v l nm true false (first own) size) ≡ first (append_rows v l nm own size)
append_number v l nm own size o = one_own v l nm (first own) size ∙ sym (first_own order (front_rows v l nm) own (back_rows v l nm size) o)

-- of no row, and of one from its test
pub own_none : 0 ≡ first []
unfolding first
own_none = refl

pub own_row : (k : ℕ) {n : ℕ} {t u : Bool} → n ≡ cond t k 0 → t ≡ u → n ≡ first (row k u ∷ [])
unfolding first
own_row k e p = e ∙ ap (λ t. cond t k 0) p

-- an open's
pub open_number : (v : View) (l : Storage) (nm : Option Name) (object : Bool) → first (enter_rows v l nm true true 0 0) ≡ number_of v l (open_in nm object)
unfolding first number_of
open_number v l nm object = go (over_used v l) refl
  where
    go : (o : Bool) → over_used v l ≡ o → first (enter_rows v l nm true true 0 0) ≡ number_of v l (open_in nm object)
    go true p = rw p
    go false p = rw (p, misread_into_lem v l nm, none_long v l p)

-- a register's: it enters nothing into a container, whatever is open
pub register_number : (v : View) (l : Storage) (n : Name) → first (enter_rows v l (some n) false false 0 0) ≡ number_of v l (register n)
unfolding first number_of
register_number v l n = go (over_used v l) refl
  where
    go : (o : Bool) → over_used v l ≡ o → first (enter_rows v l (some n) false false 0 0) ≡ number_of v l (register n)
    go true p = rw p
    go false p = rw (p, or-false (fallen_ends v l), and-false (unique_now v), none_long v l p)

-- Demand 1 over the definitions, for every state and every call: a number is one of the table's, leaves everything as it was,
-- and comes exactly under its row where no earlier row's test holds.
use mathlib.Core.Path.{◌≡◌, refl, sym}
use mathlib.Core.Logic.{◌↔◌, ◌⊎◌}
use mathlib.Core.Bool.{Bool, true, false, ◌||◌}
use mathlib.Core.List.{[]}
use mathlib.Core.Option.{Option}
use Prim.Native.Nat.{ℕ}
use lib.Dec.{eqb}
use lib.ListN.{length}
use borrow.Author.Tests.{eqb-true}
use Rattle.encoding.specs.Rows.{first, test_of, FirstHolds, Clear, order, listed, in_order}
use Rattle.encoding.proofs.RowsLaws.{first_exact, first_listed, first_none, clear_at, clear_around}
use Rattle.value.specs.Scalar.{scalar_bytes}
use Rattle.metadata.specs.Names.{Name}
use Rattle.semantics.specs.declared.View.{View}
use Rattle.semantics.specs.Record.{Storage, State, view_at, Scalars, fixed, civil, packed, bytes, uuid, Call, register, append, open_in, close, roll_back, uniqueness, set_mark, return_to, finish, scalar_of, good_floor}
use Rattle.semantics.specs.Damage.{over_used, unchained, bad_floor, misread, damaged}
use Rattle.semantics.specs.Table.{scalar_rows, front_rows, back_rows, append_rows, rows, make_rows, number_of}
use Rattle.semantics.specs.Step.{step, lent_output}

-- the rows of each call are in the table's order
pub in_order_lem : (v : View) (l : Storage) (c : Call) → in_order order (rows v l c) ≡ true
in_order_lem v l (register n) = refl
in_order_lem v l (append nm (fixed x)) = refl
in_order_lem v l (append nm (civil x)) = refl
in_order_lem v l (append nm (packed scale bs)) = refl
in_order_lem v l (append nm (bytes k bs)) = refl
in_order_lem v l (append nm (uuid bs)) = refl
in_order_lem v l (open_in nm k) = refl
in_order_lem v l close = refl
in_order_lem v l roll_back = refl
in_order_lem v l (uniqueness u) = refl
in_order_lem v l set_mark = refl
in_order_lem v l (return_to j) = refl
in_order_lem v l (finish out) = refl

-- so is that of a builder being made
pub make_order : (floor : ℕ) → in_order order (make_rows floor) ≡ true
make_order floor = refl

-- so are a scalar's own
pub scalar_order : (x : Scalars) → in_order order (scalar_rows x) ≡ true
scalar_order (fixed x) = refl
scalar_order (civil x) = refl
scalar_order (packed scale bs) = refl
scalar_order (bytes k bs) = refl
scalar_order (uuid bs) = refl

-- a number is one of the table's
pub number_known : (v : View) (l : Storage) (c : Call) → (number_of v l c ≡ 0) ⊎ (listed (number_of v l c) order ≡ true)
unfolding number_of
number_known v l c = first_listed order (rows v l c) (in_order_lem v l c)

-- each number comes exactly under its row where no earlier row's test holds
pub number_exact : (v : View) (l : Storage) (c : Call) (n : ℕ) → (n ≡ 0 → ⊥) → (number_of v l c ≡ n) ↔ FirstHolds n (rows v l c)
unfolding number_of
number_exact v l c n z = first_exact n (rows v l c) z

-- a call is carried out exactly when no row's test holds
pub number_none : (v : View) (l : Storage) (c : Call) → (number_of v l c ≡ 0) ↔ Clear (rows v l c)
unfolding number_of
number_none v l c = first_none order (rows v l c) (in_order_lem v l c)

-- then row n's does not
pub none_at : (v : View) (l : Storage) (c : Call) → number_of v l c ≡ 0 → (n : ℕ) → test_of n (rows v l c) ≡ false
none_at v l c h n = clear_at n (rows v l c) ((number_none v l c).0 h)

-- of an append, whatever rows the scalar has
pub append_at : (v : View) (l : Storage) (nm : Option Name) (x : Scalars) → number_of v l (append nm x) ≡ 0
    → (n : ℕ) → test_of n (append_rows v l nm [] (length (scalar_bytes (scalar_of x)))) ≡ false
append_at v l nm x h n =
    let size = length (scalar_bytes (scalar_of x)) in
    clear_at n (append_rows v l nm [] size) (clear_around (front_rows v l nm) (scalar_rows x) (back_rows v l nm size) ((number_none v l (append nm x)).0 h))

-- number 1 comes first
pub damaged_number : (v : View) (l : Storage) (c : Call) → damaged v l (misread v l c) ≡ true → number_of v l c ≡ 1
unfolding first number_of
damaged_number v l (register n) e = rw e
damaged_number v l (append nm x) e = rw e
damaged_number v l (open_in nm k) e = rw e
damaged_number v l close e = rw e
damaged_number v l roll_back e = rw e
damaged_number v l (uniqueness u) e = rw e
damaged_number v l set_mark e = rw e
damaged_number v l (return_to j) e = rw e
damaged_number v l (finish out) e = rw e

-- so that a builder which holds another floor than 1 to 4 has it at every call
pub floor_number : (v : View) (l : Storage) (c : Call) → good_floor v.counts.floor ≡ false → number_of v l c ≡ 1
unfolding bad_floor
floor_number v l c e = damaged_number v l c (rw e (late (over_used v l) (unchained v)))
  where
    late : (a b : Bool) → (a || (b || true)) ≡ true
    late true b = refl
    late false true = refl
    late false false = refl

-- "after a number the builder and all the storage are as before", the output of a finish too
pub number_leaves : (s : State) (c : Call) → ((step s c).number ≡ 0 → ⊥) → ((step s c).state ≡ s) × ((step s c).output ≡ lent_output c) × ((step s c).written ≡ 0)
unfolding step
number_leaves s c = go (eqb (number_of (view_at s) s.storage c) 0) refl
  where
    go : (t : Bool) → eqb (number_of (view_at s) s.storage c) 0 ≡ t → ((step s c).number ≡ 0 → ⊥)
        → ((step s c).state ≡ s) × ((step s c).output ≡ lent_output c) × ((step s c).written ≡ 0)
    go true p h = absurd (h (rw p))
    go false p h = rw p (refl, refl, refl)

-- `step` answers that number
pub step_number_lem : (s : State) (c : Call) → (step s c).number ≡ number_of (view_at s) s.storage c
unfolding step
step_number_lem s c = go (eqb (number_of (view_at s) s.storage c) 0) refl
  where
    go : (t : Bool) → eqb (number_of (view_at s) s.storage c) 0 ≡ t → (step s c).number ≡ number_of (view_at s) s.storage c
    go true p = rw p (sym (eqb-true (number_of (view_at s) s.storage c) 0 p))
    go false p = rw p

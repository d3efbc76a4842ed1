-- Refusals and their numbers.
use mathlib.Core.Path.{◌≡◌, refl, sym, ◌∙◌, ap}
use mathlib.Core.Bool.{true, cond}
use Prim.Native.Nat.{ℕ}
use native.Mathlib.Omega.{arith}
use lib.Dec.{eqb}
use borrow.Author.Tests.{eq-eqb, ne_eqb}
use Rattle.std.specs.Prelude.{Result, Ok, Err}
use Rattle.encoding.specs.Rows.{listed, order}
use Rattle.metadata.specs.declared.NameError.{NameError}
use Rattle.metadata.specs.declared.NameError.TheVariants as name
use Rattle.metadata.specs.declared.FinishError.{FinishError}
use Rattle.metadata.specs.declared.FinishError.TheVariants as finish
use Rattle.metadata.specs.Calls.{finish_number, told}
use Rattle.container.specs.declared.CloseError.{CloseError}
use Rattle.container.specs.declared.CloseError.TheVariants as close
use Rattle.container.specs.Close.{closed_number}
use Rattle.packed_decimal.specs.declared.read.PackedError.{PackedError}
use Rattle.packed_decimal.specs.declared.read.PackedError.TheVariants as packed
use Rattle.packed_decimal.specs.Calls.{read_answer}
use Rattle.semantics.specs.declared.refusal.Refusal.{Refusal}
use Rattle.semantics.specs.declared.refusal.Refusal.TheVariants as refusal
use Rattle.semantics.specs.Refusal.{close_refusal, finish_refusal, name_refusal, number_told, packed_refusal, refusal_number, then_or}

-- a number's refusal, if it is one of a call of the writer
refusal_of : ℕ → Refusal
refusal_of n =
    cond (eqb n 1) refusal.Damaged
    (cond (eqb n 2) refusal.Finished
    (cond (eqb n 3) refusal.NotOpen
    (cond (eqb n 4) refusal.StillOpen
    (cond (eqb n 5) refusal.Misnamed
    (cond (eqb n 6) refusal.SecondTop
    (cond (eqb n 7) refusal.OutOfRange
    (cond (eqb n 8) refusal.IllFormed
    (cond (eqb n 9) refusal.BadName
    (cond (eqb n 10) refusal.Taken
    (cond (eqb n 11) refusal.TooDeep
    (cond (eqb n 12) refusal.NamesFull
    (cond (eqb n 13) refusal.EntriesFull
    (cond (eqb n 14) refusal.NoRoom
    (cond (eqb n 15) refusal.NoValue
    (cond (eqb n 16) refusal.OutputFull
    (cond (eqb n 17) refusal.OutOfCalendar
    (cond (eqb n 18) refusal.NotPacked
    (cond (eqb n 22) refusal.NoMark
    (cond (eqb n 23) refusal.UndoFull
    refusal.BadFloor)))))))))))))))))))

number_back : (r : Refusal) → refusal_of (refusal_number r) ≡ r
unfolding refusal_of
number_back refusal.Damaged = refl
number_back refusal.Finished = refl
number_back refusal.NotOpen = refl
number_back refusal.StillOpen = refl
number_back refusal.Misnamed = refl
number_back refusal.SecondTop = refl
number_back refusal.OutOfRange = refl
number_back refusal.IllFormed = refl
number_back refusal.BadName = refl
number_back refusal.Taken = refl
number_back refusal.TooDeep = refl
number_back refusal.NamesFull = refl
number_back refusal.EntriesFull = refl
number_back refusal.NoRoom = refl
number_back refusal.NoValue = refl
number_back refusal.OutputFull = refl
number_back refusal.OutOfCalendar = refl
number_back refusal.NotPacked = refl
number_back refusal.NoMark = refl
number_back refusal.UndoFull = refl
number_back refusal.BadFloor = refl

-- two refusals of one number are one
pub number_same : (r q : Refusal) → refusal_number r ≡ refusal_number q → r ≡ q
number_same r q e = sym (number_back r) ∙ (ap refusal_of e ∙ number_back q)

-- each has a number of the table, and 0 is none
pub number_listed : (r : Refusal) → listed (refusal_number r) order ≡ true
number_listed refusal.Damaged = refl
number_listed refusal.Finished = refl
number_listed refusal.NotOpen = refl
number_listed refusal.StillOpen = refl
number_listed refusal.Misnamed = refl
number_listed refusal.SecondTop = refl
number_listed refusal.OutOfRange = refl
number_listed refusal.IllFormed = refl
number_listed refusal.BadName = refl
number_listed refusal.Taken = refl
number_listed refusal.TooDeep = refl
number_listed refusal.NamesFull = refl
number_listed refusal.EntriesFull = refl
number_listed refusal.NoRoom = refl
number_listed refusal.NoValue = refl
number_listed refusal.OutputFull = refl
number_listed refusal.OutOfCalendar = refl
number_listed refusal.NotPacked = refl
number_listed refusal.NoMark = refl
number_listed refusal.UndoFull = refl
number_listed refusal.BadFloor = refl

pub number_some : (r : Refusal) → refusal_number r ≡ 0 → ⊥
number_some refusal.Damaged e = omega arith
number_some refusal.Finished e = omega arith
number_some refusal.NotOpen e = omega arith
number_some refusal.StillOpen e = omega arith
number_some refusal.Misnamed e = omega arith
number_some refusal.SecondTop e = omega arith
number_some refusal.OutOfRange e = omega arith
number_some refusal.IllFormed e = omega arith
number_some refusal.BadName e = omega arith
number_some refusal.Taken e = omega arith
number_some refusal.TooDeep e = omega arith
number_some refusal.NamesFull e = omega arith
number_some refusal.EntriesFull e = omega arith
number_some refusal.NoRoom e = omega arith
number_some refusal.NoValue e = omega arith
number_some refusal.OutputFull e = omega arith
number_some refusal.OutOfCalendar e = omega arith
number_some refusal.NotPacked e = omega arith
number_some refusal.NoMark e = omega arith
number_some refusal.UndoFull e = omega arith
number_some refusal.BadFloor e = omega arith

-- ---- what a call gives, or its caller has: by the call's number n and what it gives where that is 0; and back

pub then_by : {A : Type 0} (d : A) {x : A} {n : ℕ} (r : Result A Refusal) → number_told r ≡ n → (n ≡ 0 → r ≡ Ok x) → then_or d r ≡ cond (eqb n 0) x d
then_by d {n = n} (Ok y) e h = rw (eq-eqb n 0 (sym e)) (ap (then_or y) (h (sym e)))
then_by d {n = n} (Err f) e h = rw (ne_eqb n 0 (λ p. number_some f (e ∙ p)))

pub then_none : {A : Type 0} {d : A} (x : A) {n : ℕ} (f : Refusal) → refusal_number f ≡ n → d ≡ cond (eqb n 0) x d
then_none {d = d} x f e = then_by d {x = x} (Err f) e (λ p. absurd (number_some f (e ∙ p)))

pub then_ok : {A : Type 0} (d : A) {x : A} {n : ℕ} (r : Result A Refusal) → number_told r ≡ n → then_or d r ≡ cond (eqb n 0) x d → n ≡ 0 → r ≡ Ok x
then_ok d {n = n} (Ok y) e h z = ap Ok (rw (eq-eqb n 0 z) at h)
then_ok d (Err f) e h z = absurd (number_some f (e ∙ z))

-- ---- the refusal of what a call rests on has its number

pub name_number : (e : NameError) → (told (Err e)).number ≡ refusal_number (name_refusal e)
name_number name.Damaged = refl
name_number name.NotUtf8 = refl
name_number name.Full = refl

pub close_number : (e : CloseError) → closed_number (Err e) ≡ refusal_number (close_refusal e)
close_number close.Damaged = refl
close_number close.NoRoom = refl

pub finish_refused : (e : FinishError) → finish_number (Err e) ≡ refusal_number (finish_refusal e)
finish_refused finish.Damaged = refl
finish_refused finish.NoRoom = refl

pub packed_number : (e : PackedError) → (read_answer (Err e)).number ≡ refusal_number (packed_refusal e)
packed_number packed.NotPacked = refl
packed_number packed.OutOfRange = refl

-- Answers: from a row to the answer, and back.
use mathlib.Core.Path.{◌≡◌, refl, sym, ◌∙◌, ap}
use mathlib.Core.Bool.{Bool, true, false, cond, false≢true}
use mathlib.Core.List.{List, [], ◌∷◌}
use mathlib.Core.Option.{some}
use Prim.Native.Nat.{ℕ}
use lib.Dec.{eqb}
use native.Mathlib.Omega.{arith}
use borrow.Author.Tests.{eqb-true}
use Rattle.encoding.specs.Rows.{Row, row, first}
use Rattle.std.specs.Prelude.{Result, Ok, Err}
use Rattle.std.specs.Result.{IsErr}
use Rattle.calendar.specs.declared.date.OutOfCalendar.{OutOfCalendar}
use Rattle.calendar.specs.Answers.{answer, done, refused, told}

-- ---- by its one row

pub answer_done : {A : Type 0} (x : A) {t : Bool} → t ≡ false → answer (row 17 t ∷ []) x ≡ done x
unfolding answer first
answer_done x e = rw e

pub answer_refused : {A : Type 0} (x : A) {t : Bool} → t ≡ true → answer (row 17 t ∷ []) x ≡ refused 17
unfolding answer first
answer_refused x e = rw e

-- ---- of a result

pub told_value : {A : Type 0} {v : A} (x : A) {t : Bool} → v ≡ x → t ≡ false → done v ≡ answer (row 17 t ∷ []) x
told_value x e q = ap done e ∙ sym (answer_done x q)

-- an error that is handed on
pub told_exit : {A : Type 0} (r : Result A OutOfCalendar) (x : A) {t : Bool} → IsErr r → t ≡ true → told r ≡ answer (row 17 t ∷ []) x
told_exit (Ok v) x h q = absurd (false≢true h)
told_exit (Err e) x h q = sym (answer_refused x q)

-- ---- what an answer says, for the crates above

pub answer_number_lem : {A : Type 0} (rows : List Row) (x : A) → (answer rows x).number ≡ first rows
unfolding answer
answer_number_lem {A} rows x = go (eqb (first rows) 0) refl
  where
    go : (t : Bool) → eqb (first rows) 0 ≡ t → (cond t (done x) (refused (first rows))).number ≡ first rows
    go true e = sym (eqb-true (first rows) 0 e)
    go false e = refl

-- a refusal is the rows' number
pub told_refused_lem : {A : Type 0} (n : ℕ) (rows : List Row) (x : A) → refused n ≡ answer rows x → first rows ≡ n
told_refused_lem n rows x e = sym (ap (λ t. t.number) e ∙ answer_number_lem rows x)

-- a value that is given is the one that is to be, and no row's test holds
pub told_done : {A : Type 0} (v : A) (rows : List Row) (x : A) → done v ≡ answer rows x → (first rows ≡ 0) × (v ≡ x)
unfolding answer
told_done v rows x e =
    let z : first rows ≡ 0 = sym (ap (λ t. t.number) e ∙ answer_number_lem rows x) in
    let p : some v ≡ some x = ap (λ t. t.value) (rw z at e) in
    (z, cc)

-- ---- and what follows of the same row's answer with another value

pub told_as : {A B : Type 0} (f : A → B) (v x : A) (t : Bool) → done v ≡ answer (row 17 t ∷ []) x → done (f v) ≡ answer (row 17 t ∷ []) (f x)
unfolding first
told_as f v x false e = told_value (f x) (ap f (told_done v (row 17 false ∷ []) x e).1) refl
told_as f v x true e = absurd (omega (arith, (told_done v (row 17 true ∷ []) x e).0))

pub exit_as : {A B : Type 0} (r : Result B OutOfCalendar) (y : B) (x : A) (t : Bool) → IsErr r → refused 17 ≡ answer (row 17 t ∷ []) x
    → told r ≡ answer (row 17 t ∷ []) y
unfolding first
exit_as r y x false h e = absurd (omega (arith, told_refused_lem 17 (row 17 false ∷ []) x e))
exit_as r y x true h e = told_exit r y h refl

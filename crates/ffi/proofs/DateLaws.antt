-- A date by the code of its type, and the answers of the calls that turn it into a day number and back.
use mathlib.Core.Path.{◌≡◌, refl, sym}
use mathlib.Core.Bool.{Bool, true, false}
use Prim.Native.Nat.{ℕ, ◌≤◌}
use native.Mathlib.Omega.{arith}
use lib.Dec.{eqb}
use lib.IntN.{ℤ}
use borrow.Author.Tests.{eq-eqb, ne_eqb, eqb-false}
use Rattle.encoding.specs.Rows.{first}
use Rattle.value.specs.declared.variant.Variant.{Variant}
use Rattle.value.specs.Scalar.{scalar_bytes, stored_variant}
use Rattle.calendar.specs.declared.date.Date.{Date}
use Rattle.calendar.specs.Gregorian.{day_number, date_of_day}
use Rattle.calendar.specs.Answers.{answer, done, refused, date_rows, day_rows}
use Rattle.calendar.proofs.AnswerLaws.{told_done, told_refused_lem}
use Rattle.semantics.specs.Record.{Scalars, civil, fixed}
use Rattle.std.specs.Prelude.{Result, Err}
use Rattle.semantics.specs.declared.refusal.Refusal.{Refusal}
use Rattle.semantics.specs.declared.refusal.Refusal.TheVariants as refusal
use Rattle.actions.specs.Append.{OwnBytes}
use Rattle.actions.proofs.AppendLaws.{own_refuses}
use Rattle.ffi.specs.Scalars.{no_scalar}
use Rattle.ffi.specs.Dates.{date_of, civil_of, civil_by, TellsDays, TellsDate}

abbrev OwnVariant : Scalars → Result Variant Refusal → Type 0
OwnVariant s r = OwnBytes (λ x. scalar_bytes (stored_variant x)) s r

-- a code that is none of the three
pub no_civil : (code : ℕ) (d : Date) (time : ℤ) → ¬ ((11 ≤ code) × (code ≤ 13)) → OwnVariant (civil_by code d time) (Err refusal.OutOfRange)
unfolding civil_by first
no_civil code d time h = rw (ne_eqb code 11 (λ e. h (omega arith, omega arith)), ne_eqb code 12 (λ e. h (omega arith, omega arith)), ne_eqb code 13 (λ e. h (omega arith, omega arith))) (own_refuses (λ x. scalar_bytes (stored_variant x)) (fixed no_scalar) refusal.OutOfRange refl)

-- and one that is
pub some_civil : (code : ℕ) (d : Date) (time : ℤ) {r : Result Variant Refusal} → 11 ≤ code → code ≤ 13 → OwnVariant (civil (civil_of code d time)) r → OwnVariant (civil_by code d time) r
unfolding civil_by
some_civil code d time {r} low high s = go (eqb code 11) (eqb code 12) refl refl
  where
    go : (a b : Bool) → eqb code 11 ≡ a → eqb code 12 ≡ b → OwnVariant (civil_by code d time) r
    go true b p q = rw p (rw p at s)
    go false true p q = rw (p, q) (rw (p, q) at s)
    go false false p q =
        let k = eqb-false code 11 p in
        let l = eqb-false code 12 q in
        rw (p, q, eq-eqb code 13 (omega arith)) (rw (p, q) at s)

-- ---- a date to its day number

module _ (d : Date) (was : ℤ) where
  pub tells_days : (n : ℤ) → done n ≡ answer (date_rows d) (day_number d) → TellsDays 0 d was n
  tells_days n e = let t = told_done n (date_rows d) (day_number d) e in record { number = sym t.0; days = t.1 }

  pub tells_no_days : refused 17 ≡ answer (date_rows d) (day_number d) → TellsDays 17 d was was
  tells_no_days e = record { number = sym (told_refused_lem 17 (date_rows d) (day_number d) e); days = refl }

-- ---- a day number to its date

module _ (days : ℤ) (was : Date) where
  pub tells_date : (d : Date) → done d ≡ answer (day_rows days) (date_of_day days) → TellsDate 0 days was (date_of d.year d.month d.day)
  tells_date d e = let t = told_done d (day_rows days) (date_of_day days) e in record { number = sym t.0; date = t.1 }

  pub tells_no_date : refused 17 ≡ answer (day_rows days) (date_of_day days) → TellsDate 17 days was was
  tells_no_date e = record { number = sym (told_refused_lem 17 (day_rows days) (date_of_day days) e); date = refl }

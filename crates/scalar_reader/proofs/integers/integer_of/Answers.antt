-- By the first byte.
use native.Mathlib.Omega.{arith}
use mathlib.Core.Path.{refl, ◌∙◌, ap}
use mir.Syntax.{w8, w16, w32, w64}
use Rattle.std.specs.Prelude.{Some}
use Rattle.value.specs.Scalar.{scalar_length}
use Rattle.measure.specs.Measure.{value_length}
use Rattle.scalar_reader.proofs.NumberLaws.{read_back, widened}
use Rattle.scalar_reader.proofs.IntegerLaws.{integer_empty, integer_there, integer_cut, integer_none}
use Rattle.scalar_reader.proofs.integers.integer_of.Goals as goal

pub returns-in_err-first : goal.returns-in_err-first
returns-in_err-first c = c.from_residual.ensures ∙ integer_empty _ c.in_err-first.ensures.cases

pub returns-in_err-as_array-in-12 : goal.returns-in_err-as_array-in-12
unfolding value_length scalar_length
returns-in_err-as_array-in-12 c = c.from_residual-in_err-as_array-in-12.ensures ∙ integer_cut 12 1 (rw c.in-12.is at c.in_ok-first.ensures.cases.0) c.in_err-as_array-in-12.ensures.cases refl refl

pub returns-in_ok-as_array-in-12 : goal.returns-in_ok-as_array-in-12
unfolding value_length scalar_length
returns-in_ok-as_array-in-12 c =
    let k = c.in_ok-as_array-in-12.ensures.cases in
    integer_there 12 1 (rw c.in-12.is at c.in_ok-first.ensures.cases.0) k.long refl refl
    (ap Some (widened w8 w64 (record { sfits = c.from.type_inv }) c.from.ensures (record { sfits = c.from_le_bytes.type_inv }) c.from_le_bytes.ensures k.same k.long))

pub returns-in_err-as_array-in-16 : goal.returns-in_err-as_array-in-16
unfolding value_length scalar_length
returns-in_err-as_array-in-16 c = c.from_residual-in_err-as_array-in-16.ensures ∙ integer_cut 16 2 (rw c.in-16.is at c.in_ok-first.ensures.cases.0) c.in_err-as_array-in-16.ensures.cases refl refl

pub returns-in_ok-as_array-in-16 : goal.returns-in_ok-as_array-in-16
unfolding value_length scalar_length
returns-in_ok-as_array-in-16 c =
    let k = c.in_ok-as_array-in-16.ensures.cases in
    integer_there 16 2 (rw c.in-16.is at c.in_ok-first.ensures.cases.0) k.long refl refl
    (ap Some (widened w16 w64 (record { sfits = c.from-in-16.type_inv }) c.from-in-16.ensures (record { sfits = c.from_le_bytes-in-16.type_inv }) c.from_le_bytes-in-16.ensures k.same k.long))

pub returns-in_err-as_array-in-20 : goal.returns-in_err-as_array-in-20
unfolding value_length scalar_length
returns-in_err-as_array-in-20 c = c.from_residual-in_err-as_array-in-20.ensures ∙ integer_cut 20 4 (rw c.in-20.is at c.in_ok-first.ensures.cases.0) c.in_err-as_array-in-20.ensures.cases refl refl

pub returns-in_ok-as_array-in-20 : goal.returns-in_ok-as_array-in-20
unfolding value_length scalar_length
returns-in_ok-as_array-in-20 c =
    let k = c.in_ok-as_array-in-20.ensures.cases in
    integer_there 20 4 (rw c.in-20.is at c.in_ok-first.ensures.cases.0) k.long refl refl
    (ap Some (widened w32 w64 (record { sfits = c.from-in-20.type_inv }) c.from-in-20.ensures (record { sfits = c.from_le_bytes-in-20.type_inv }) c.from_le_bytes-in-20.ensures k.same k.long))

pub returns-in_err-as_array-in-24 : goal.returns-in_err-as_array-in-24
unfolding value_length scalar_length
returns-in_err-as_array-in-24 c = c.from_residual-in_err-as_array-in-24.ensures ∙ integer_cut 24 8 (rw c.in-24.is at c.in_ok-first.ensures.cases.0) c.in_err-as_array-in-24.ensures.cases refl refl

pub returns-in_ok-as_array-in-24 : goal.returns-in_ok-as_array-in-24
unfolding value_length scalar_length
returns-in_ok-as_array-in-24 c =
    let k = c.in_ok-as_array-in-24.ensures.cases in
    integer_there 24 8 (rw c.in-24.is at c.in_ok-first.ensures.cases.0) k.long refl refl
    (ap Some (read_back w64 (record { sfits = c.from_le_bytes-in-24.type_inv }) c.from_le_bytes-in-24.ensures k.same k.long))

pub returns-in_default : goal.returns-in_default
returns-in_default c = integer_none c.in_ok-first.first.now _ (rw c.in_ok-first.ensures.cases.0) (λ e. omega arith) (λ e. omega arith) (λ e. omega arith) (λ e. omega arith)

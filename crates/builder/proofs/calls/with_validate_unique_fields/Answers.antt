use Rattle.std.proofs.lemmas.Result.{err_from_is_err_and}
use mathlib.Core.Path.{refl}
use native.Mathlib.Omega.{arith}
use Rattle.semantics.specs.Record.{uniqueness, storage_of}
use Rattle.builder.proofs.CallLaws.{Inside, does_refused, unique_done, unique_inside}
use Rattle.builder.proofs.calls.with_validate_unique_fields.Goals as goal
use Rattle.builder.proofs.calls.with_validate_unique_fields.Goals.{In_ok-k}

-- the innermost is one of the 64
inside : (c : In_ok-k) → Inside c.args.b
inside c =
    let a = c.args in
    let l = storage_of a.value.now a.text.now a.ends.now a.entries.now a.undo.now in
    unique_inside a.b a.marks.now l c.view_of-v.ensures c.in_ok-k.ensures

pub returns-in_err-k : goal.returns-in_err-k
returns-in_err-k c =
    let a = c.args in
    let l = storage_of a.value.now a.text.now a.ends.now a.entries.now a.undo.now in
    let x = err_from_is_err_and c.from_residual.result c.from_residual.ensures.1 in
    does_refused a.b a.marks.now l c.view_of-v.ensures (uniqueness a.unique) c.in_err-k.ensures.number (λ z. refl) x.1 x.2

pub with_container-requires : goal.with_container-requires
with_container-requires c = omega (arith, inside (goal.at.with_container-requires c).In_ok-k)

pub returns : goal.returns
returns c =
    let a = c.args in
    let l = storage_of a.value.now a.text.now a.ends.now a.entries.now a.undo.now in
    unique_done a.b a.marks.now l c.view_of-v.ensures c.in_ok-k.ensures c.with_container.ensures

pub overflow_sub-at : goal.overflow_sub-at
overflow_sub-at c = (inside (goal.at.overflow_sub-at c).In_ok-k).0

use mathlib.Core.Path.{◌∙◌}
use Rattle.std.proofs.lemmas.Result.{err_from_is_err_and}
use Prim.Native.Nat.{◌<◌}
use native.Mathlib.Omega.{arith}
use Rattle.semantics.specs.Record.{open_in, storage_of}
use Rattle.refusals.specs.Decide.{name_in}
use Rattle.builder.proofs.CallLaws.{does_refused, does_opened, opened_deep}
use Rattle.builder.proofs.calls.new_container.Goals as goal
use Rattle.builder.proofs.calls.new_container.Goals.{In_ok-r}

-- there is room for the container
deep : (c : In_ok-r) → c.args.b.counts.depth < 64
deep c =
    let a = c.args in
    let l = storage_of a.value.now a.text.now a.ends.now a.entries.now a.undo.now in
    opened_deep a.b a.marks.now l c.view_of-v.ensures c.in_ok-r.ensures

pub returns-in_err-r : goal.returns-in_err-r
returns-in_err-r c =
    let a = c.args in
    let l = storage_of a.value.now a.text.now a.ends.now a.entries.now a.undo.now in
    let x = err_from_is_err_and c.from_residual.result c.from_residual.ensures.1 in
    let q = c.in_err-r.ensures in
    does_refused a.b a.marks.now l c.view_of-v.ensures (open_in (name_in a.name) a.object) q.number (λ z. q.storage ∙ rw z) x.1 x.2

pub with_container-requires : goal.with_container-requires
with_container-requires c = deep (goal.at.with_container-requires c).In_ok-r

pub returns : goal.returns
returns c =
    let a = c.args in
    let l = storage_of a.value.now a.text.now a.ends.now a.entries.now a.undo.now in
    does_opened a.b a.marks.now l c.view_of-v.ensures c.in_ok-r.ensures c.with_elements-outer.ensures
    c.with_elements-all.ensures c.with_container.ensures

pub overflow_add-d : goal.overflow_add-d
overflow_add-d c = record { fits = let h = deep (goal.at.overflow_add-d c).In_ok-r in omega arith }

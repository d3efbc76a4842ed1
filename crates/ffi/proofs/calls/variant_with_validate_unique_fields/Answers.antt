use native.Mathlib.Omega.{arith}
use Rattle.semantics.specs.Record.{storage_of, uniqueness}
use Rattle.ffi.proofs.CallLaws.{stays_refused, unique_inside, unique_done}
use Rattle.ffi.proofs.calls.variant_with_validate_unique_fields.Goals as goal

pub returns-in-Err : goal.returns-in-Err
returns-in-Err c =
    let a = c.args in
    rw c.number.ensures (stays_refused a.words.now a.marks.now (storage_of a.value.now a.text.now a.ends.now a.entries.now a.undo.now) (uniqueness a.unique) _ c.view_of-v.ensures c.in-Err.ensures.number)

pub overflow_sub-v : goal.overflow_sub-v
overflow_sub-v c = let a = c.args in (unique_inside a.words.now a.marks.now (storage_of a.value.now a.text.now a.ends.now a.entries.now a.undo.now) a.unique c.view_of-v.ensures c.in-Ok.ensures).0

pub put_container-requires : goal.put_container-requires
put_container-requires c = let a = c.args in omega (arith, unique_inside a.words.now a.marks.now (storage_of a.value.now a.text.now a.ends.now a.entries.now a.undo.now) a.unique c.view_of-v.ensures c.in-Ok.ensures)

pub returns : goal.returns
returns c = let a = c.args in unique_done a.words.now a.marks.now (storage_of a.value.now a.text.now a.ends.now a.entries.now a.undo.now) a.unique c.view_of-v.ensures c.in-Ok.ensures c.put_container.ensures

-- Refused, the record stays; else the name, the counts and what is put are those of the definition.
use mathlib.Core.Path.{sym, ◌∙◌, ap}
use native.Mathlib.Omega.{arith}
use Rattle.semantics.specs.Record.{storage_of}
use Rattle.semantics.specs.Refusal.{number_told}
use Rattle.refusals.specs.Decide.{into_of, name_in, opens_of, size_told}
use Rattle.actions.specs.Actions.{fresh_put, recorded_put}
use Rattle.actions.proofs.EnterLaws.{depth_bound, elements_bound, entry_bound, enters, record_bound, size_whole, used_bound}
use Rattle.actions.proofs.enter.enter_over.Goals as goal

pub returns-in_err-size : goal.returns-in_err-size
returns-in_err-size c =
    let a = c.args in
    let l = storage_of a.value.now a.text.now a.ends.now a.entries.now a.undo.now in
    size_whole a.v l (name_in a.name) (into_of a.call) (opens_of a.call) (number_told a.size) (size_told a.size) c.in_err-size.field-0.0 c.in_ok-f.ensures (ap number_told c.in_err-size.was)

pub counts_with-requires-clause-size_bound : goal.counts_with-requires-clause-size_bound
counts_with-requires-clause-size_bound c =
    let a = c.args in
    let l = storage_of a.value.now a.text.now a.ends.now a.entries.now a.undo.now in
    rw (ap size_told c.in_ok-size.was) at (used_bound a.v l (name_in a.name) (into_of a.call) (opens_of a.call) (number_told a.size) (size_told a.size) c.in_ok-f.ensures)

pub counts_with-requires-clause-entries_bound : goal.counts_with-requires-clause-entries_bound
counts_with-requires-clause-entries_bound c e =
    let a = c.args in
    let l = storage_of a.value.now a.text.now a.ends.now a.entries.now a.undo.now in
    let g = c.well_formed.1.1.1.1.0 in
    entry_bound a.v l (name_in a.name) (into_of a.call) (opens_of a.call) (number_told a.size) (size_told a.size) c.in_ok-f.ensures (omega arith) (ap fresh_put (sym c.put_of-put.ensures) ∙ e)

pub counts_with-requires-clause-undo_bound : goal.counts_with-requires-clause-undo_bound
counts_with-requires-clause-undo_bound c e =
    let a = c.args in
    let l = storage_of a.value.now a.text.now a.ends.now a.entries.now a.undo.now in
    let g = c.well_formed.1.1.1.1.1.0 in
    record_bound a.v l (name_in a.name) (into_of a.call) (opens_of a.call) (number_told a.size) (size_told a.size) c.in_ok-f.ensures (omega arith) (ap recorded_put (sym c.put_of-put.ensures) ∙ e)

pub counts_with-requires-clause-depth_bound : goal.counts_with-requires-clause-depth_bound
counts_with-requires-clause-depth_bound c =
    let a = c.args in
    let l = storage_of a.value.now a.text.now a.ends.now a.entries.now a.undo.now in
    depth_bound a.v l (name_in a.name) (into_of a.call) (opens_of a.call) (number_told a.size) (size_told a.size) c.in_ok-f.ensures

pub one_more-requires : goal.one_more-requires
one_more-requires c e =
    let a = c.args in
    let l = storage_of a.value.now a.text.now a.ends.now a.entries.now a.undo.now in
    elements_bound a.v l (name_in a.name) (into_of a.call) (opens_of a.call) (number_told a.size) (size_told a.size) c.in_ok-f.ensures (sym c.takes_element.ensures ∙ e)

pub returns : goal.returns
returns c =
    let a = c.args in
    let l = storage_of a.value.now a.text.now a.ends.now a.entries.now a.undo.now in
    enters a.v l (name_in a.name) (into_of a.call) (opens_of a.call) (number_told a.size) (size_told a.size) c.in_ok-f.ensures c.put_of-put.ensures c.with_name-next.ensures c.saturating_sub.ensures
    (rw (ap size_told c.in_ok-size.was) c.counts_with.ensures) (rw c.takes_element.ensures at c.one_more.ensures) c.id.ensures c.unique_now-unique.ensures

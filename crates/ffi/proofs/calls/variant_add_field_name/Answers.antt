use Rattle.std.proofs.Common.{rules, ◌≡◌, ◌∙◌, sym}
use Rattle.semantics.specs.Record.{storage_of}
use Rattle.semantics.specs.Refusal.{number_told}
use Rattle.ffi.proofs.CallLaws.{register_told}
use Rattle.ffi.proofs.calls.variant_add_field_name.Goals as goal

pub returns : goal.returns
returns c =
    let a = c.args in
    let n : number_told c.map.result ≡ number_told c.enter-r.result = search rules in
    rw (c.number_of.ensures, n) (register_told a.words.now a.marks.now (storage_of a.value.now a.text.now a.ends.now a.entries.now a.undo.now) a.name.now c.enter-r.result c.enter-r.ensures)

use Rattle.semantics.specs.Record.{packed}
use Rattle.ffi.proofs.calls.variant_append_packed.Goals as goal

pub returns : goal.returns
returns c =
    let a = c.args in
    rw (c.number_of.ensures, ← c.name_if-given.ensures) (c.append.ensures (packed a.scale a.bytes.now) c.own-x.ensures)

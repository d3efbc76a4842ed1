use Rattle.semantics.specs.Record.{uuid}
use Rattle.ffi.proofs.calls.variant_append_uuid.Goals as goal

pub returns : goal.returns
returns c = rw (c.number_of.ensures, ← c.name_if-given.ensures) (c.append.ensures (uuid c.args.uuid.now) c.own-x.ensures)

use Rattle.ffi.specs.Scalars.{bytes_by}
use Rattle.ffi.proofs.calls.variant_append_bytes.Goals as goal

pub returns : goal.returns
returns c = rw (c.number_of.ensures, ← c.name_if-given.ensures) (c.append.ensures (bytes_by c.args.kind c.args.bytes.now) c.bytes_by-x.ensures)

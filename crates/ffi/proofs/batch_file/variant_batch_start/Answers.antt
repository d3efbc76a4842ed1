-- Each arm by the crate's own answer.
use mathlib.Core.Path.{ap}
use Rattle.encoding.specs.Slices.{placed_number}
use Rattle.ffi.proofs.BatchFileLaws.{starts}
use Rattle.ffi.proofs.batch_file.variant_batch_start.Goals as goal

pub returns-in-Ok : goal.returns-in-Ok
returns-in-Ok c = starts c.start.ensures (ap placed_number c.in-Ok.is)

pub returns-in-Err : goal.returns-in-Err
returns-in-Err c = starts c.start.ensures (ap placed_number c.in-Err.is)

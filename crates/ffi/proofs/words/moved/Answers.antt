use mathlib.Core.Path.{refl}
use Rattle.ffi.proofs.WordLaws.{puts_inner}
use Rattle.ffi.proofs.words.moved.Goals as goal

pub returns-in-Ok : goal.returns-in-Ok
returns-in-Ok c = rw c.in-Ok.is (record { number = refl; put = puts_inner c.put_counts.ensures c.put_elements.ensures; kept = tt })

pub returns-in-Err : goal.returns-in-Err
returns-in-Err c = rw c.in-Err.is (record { number = c.number.ensures; put = tt; kept = refl })

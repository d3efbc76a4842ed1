use native.Mathlib.Omega.{arith}
use Rattle.semantics.specs.Record.{slot_of}
use Rattle.marks.proofs.TableLaws.{put_beyond}
use Rattle.marks.proofs.put_mark.Goals as goal

pub returns-in_default : goal.returns-in_default
returns-in_default c =
    let a = c.args in
    put_beyond a.marks.now (slot_of a.d a.j) a.m (omega (arith, rw c.in_default.is at c.place_of.ensures))

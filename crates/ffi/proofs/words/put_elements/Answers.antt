use Rattle.std.proofs.Common.{arith}
use Rattle.ffi.proofs.WordLaws.{written_none, written_far, put_elements}
use Rattle.ffi.proofs.words.put_elements.Goals as goal
use Rattle.ffi.proofs.words.put_elements.Goals.{in_default-via-in-None-1, in_default-via-in-Some+else-i-lt64}

pub returns-then-i-lt64 : goal.returns-then-i-lt64
returns-then-i-lt64 c =
    let a = c.args in
    let e = c.in-Some.ensures in
    rw e.1 (put_elements a.words.now a.d a.n c.told-words e.0 (omega arith))

pub returns-in_default : goal.returns-in_default
returns-in_default c =
    let a = c.args in
    elim c.in_default.branch [
      | in_default-via-in-None-1 w ↦ written_none a.words.now a.d a.n (omega arith)
      | in_default-via-in-Some+else-i-lt64 w ↦ written_far a.words.now a.d a.n c.told-words (let e = w.in-Some.ensures in omega arith)
    ]

-- The four bytes at the front are the number's.
use mathlib.Core.Path.{◌≡◌, ◌∙◌, ap}
use Prim.Native.Nat.{◌≤◌}
use native.Mathlib.Omega.{arith}
use lib.ListN.{length}
use lib.Seq.{length-take-le}
use Rattle.batch.specs.Layout.{big_number}
use Rattle.batch.proofs.NumberLaws.{read_four}
use Rattle.batch.proofs.reading.number_and_rest.Goals as goal

pub returns : goal.returns
returns c =
    let k = c.in_ok-number.ensures.cases in
    let h : 4 ≤ length c.args.bytes.now = omega (arith, k.2) in
    let l : length c.in_ok-number.number.now ≡ 4 = ap length k.0 ∙ length-take-le 4 c.args.bytes.now h in
    (h, c.from_be_bytes.ensures ∙ (read_four c.in_ok-number.number.now l ∙ ap big_number k.0), k.1)

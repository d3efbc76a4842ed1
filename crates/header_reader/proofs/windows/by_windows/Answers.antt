-- The windows that are left decide as all of them do.
use native.Mathlib.Omega.{arith}
use mathlib.Core.Path.{◌≡◌, ◌∙◌}
use Prim.Native.Nat.{◌+◌, min}
use lib.ListN.{length, length-replicate, take}
use lib.Seq.{length_front, length-take-le}
use Rattle.header_reader.proofs.WindowLaws.{windows_start, windows_bad, windows_again, windows_end}
use Rattle.header_reader.proofs.windows.by_windows.Goals as goal

pub loop-lo-init : goal.loop-lo-init
loop-lo-init g c = let z : min 0 (length c.args.values.now) ≡ 0 = omega arith in (rw z (windows_start _ _), length-replicate _ 0)

pub whole_as_front-by_window : goal.whole_as_front-by_window
whole_as_front-by_window g c = (omega (arith, c.min-n.ensures), omega (arith, c.requires.1))

pub returns-in_default : goal.returns-in_default
returns-in_default g c =
    let s : min c.loop-lo.lo (length c.args.values.now) ≡ c.loop-lo.lo = omega (arith, c.loop-lo-test.true) in
    let e : length (take c.min-n.result c.loop-lo.cells) ≡ c.min-n.result = length-take-le _ _ (omega (arith, c.min-n.ensures, c.loop-lo.invariant.1)) in
    windows_bad {hi = c.loop-lo.lo + c.min-n.result} (rw s at c.loop-lo.invariant.0) (omega arith) (omega (arith, c.min-n.ensures, c.loop-lo-test.true)) (rw e at c.by_window.ensures) c.in_default.is

pub loop-lo-preserved : goal.loop-lo-preserved
loop-lo-preserved g c =
    let s : min c.loop-lo.lo (length c.args.values.now) ≡ c.loop-lo.lo = omega (arith, c.loop-lo-test.true) in
    let z : min (c.loop-lo.lo + g.row.CELLS) (length c.args.values.now) ≡ c.loop-lo.lo + c.min-n.result = omega (arith, c.min-n.ensures, c.loop-lo-test.true) in
    let e : length (take c.min-n.result c.loop-lo.cells) ≡ c.min-n.result = length-take-le _ _ (omega (arith, c.min-n.ensures, c.loop-lo.invariant.1)) in (
      rw z (windows_again {hi = c.loop-lo.lo + c.min-n.result} (rw s at c.loop-lo.invariant.0) (omega arith) (omega (arith, c.min-n.ensures, c.loop-lo-test.true)) (rw e at c.by_window.ensures) c.in-Some.is),
      length_front c.loop-lo.cells c.by_window.new.cells c.min-n.result c.by_window.auto.cells ∙ c.loop-lo.invariant.1,
    )

pub returns : goal.returns
returns g c = windows_end c.loop-lo.invariant.0 (omega (arith, c.loop-lo-test.false))

-- `is_utf8` decides whether the text is UTF-8: the bytes from `at` on are UTF-8 just where the whole text is.
use mathlib.Core.Path.{refl, sym, ◌∙◌}
use Prim.Native.Nat.{◌≤◌}
use native.Mathlib.Omega.{arith}
use lib.ListN.{length, drop_of_length-le}
use Rattle.encoding.specs.Utf8.{rest, utf8}
use Rattle.encoding.proofs.Utf8Laws.{one_byte, utf8_ascii}
use Rattle.encoding.proofs.utf8.is_utf8.Goals as goal

pub returns-then-is_ascii : goal.returns-then-is_ascii
returns-then-is_ascii c = sym (utf8_ascii _ (rw c.if-is_ascii.true at c.is_ascii.ensures.cases))

pub loop-at-init : goal.loop-at-init
loop-at-init c = (omega arith, refl)

pub loop-at-preserved-then-text-at-lt128 : goal.loop-at-preserved-then-text-at-lt128
loop-at-preserved-then-text-at-lt128 c = let l = c.loop-at in (omega arith, sym (one_byte _ l.at (omega arith) c.if-text-at-lt128.true) ∙ l.invariant.1)

pub returns-in_default : goal.returns-in_default
returns-in_default c = sym (c.in_default.ensures.without refl) ∙ c.loop-at.invariant.1

pub loop-at-preserved : goal.loop-at-preserved
loop-at-preserved c = (omega (arith, c.in-Some.ensures.1.room), sym (c.in-Some.ensures.1.with c.in-Some.ensures.0) ∙ c.loop-at.invariant.1)

pub returns : goal.returns
unfolding utf8 rest
returns c =
    let h : length c.args.text.now ≤ c.loop-at.at = c.loop-at-test.false in
    rw (drop_of_length-le _ h) at c.loop-at.invariant.1

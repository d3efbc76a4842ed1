-- The digits that are still to be written stand before those that are.
use native.Mathlib.Omega.{arith}
use Rattle.path_words.proofs.DigitLaws.{digits_start, digits_again, digits_end}
use Rattle.path_words.proofs.writing.write_decimal.Goals as goal

pub loop-i-init : goal.loop-i-init
loop-i-init c = digits_start _ 0 _ c.decimal_size-size.ensures.0 (omega arith) (omega (arith, c.requires))

pub loop-i-preserved : goal.loop-i-preserved
loop-i-preserved c = digits_again c.loop-i.invariant c.loop-i-test.true

pub returns : goal.returns
returns c = (c.decimal_size-size.ensures.0, digits_end c.loop-i.invariant c.loop-i-test.false)

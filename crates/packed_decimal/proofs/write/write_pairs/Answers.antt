-- The pairs that are left, written before those that stand, give the whole.
use mathlib.Core.Path.{◌∙◌}
use Rattle.packed_decimal.proofs.WriteLaws.{fills_again, fills_all, splits_twice, write_whole}
use Rattle.packed_decimal.proofs.write.write_pairs.Goals as goal

pub loop-i-preserved : goal.loop-i-preserved
loop-i-preserved c = fills_again c.loop-i.invariant (splits_twice c.loop-i.rest c.tenth-left.ensures c.tenth-rest.ensures) c.loop-i-test.true

pub returns : goal.returns
returns c = fills_all c.loop-i.invariant c.loop-i-test.false ∙ write_whole _ _ c.requires

-- As many as are left.
use mathlib.Core.Path.{sym}
use lib.ListN.{drop}
use Rattle.lexicon.proofs.ByteLaws.{length_numbers}
use Rattle.header_reader.proofs.numbers.Numbers.len.Goals as goal

pub returns : goal.returns
returns c = let s = c.self.inside in rw (← c.self.view_is) (sym (length_numbers s.width s.left (drop s.at s.bytes.now)), c.self.invariant.2)

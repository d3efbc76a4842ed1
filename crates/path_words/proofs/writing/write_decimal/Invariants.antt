use mathlib.Core.List.{[]}
use lib.ListN.{length}
use Rattle.encoding.specs.Slices.{write}
use Rattle.live.specs.Words.{decimal}
use Rattle.path_words.proofs.DigitLaws.{Digits}
use Rattle.path_words.proofs.writing.write_decimal.Given as goal

abbrev pub invariant-loop-i : goal.invariant-loop-i
invariant-loop-i l = Digits (write 0 (decimal l.n []) l.initial.out) 0 (length l.initial.out) l.out l.i l.left

-- Every byte once.
use Rattle.std.proofs.Common.{take}
use Rattle.std.specs.Io.KnownBytes.{Appends}
use Rattle.print.specs.Digits.{hex_digits}
use Rattle.print.proofs.hex.Given as goal

abbrev pub invariant-loop-b : goal.invariant-loop-b
invariant-loop-b g l = Appends (g.W.Write.contents l.initial.to) (g.W.Write.contents l.to) (hex_digits (take l.b-index l.b-items))

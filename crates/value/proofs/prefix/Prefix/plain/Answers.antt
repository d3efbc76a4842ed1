-- Short to 63 bytes, String from 64.
use Rattle.encoding.specs.Packed.{le}
use mathlib.Core.Path.{◌∙◌, sym}
use Rattle.value.proofs.ScalarLaws.{plain_short, plain_long}
use Rattle.value.proofs.prefix.Prefix.plain.Goals as goal

pub returns-then-n-le63 : goal.returns-then-n-le63
unfolding le
returns-then-n-le63 c = λ bytes e. plain_short bytes e c.if-n-le63.true

pub returns : goal.returns
returns c = λ bytes e. c.long.ensures bytes ∙ sym (plain_long bytes e c.if-n-le63.false)

-- Each kind, by its case.
use mathlib.Core.Logic.{inl, inr}
use Rattle.value.proofs.ScalarLaws.{arm_bytes}
use Rattle.value.proofs.prefix.Prefix.of.Goals as goal

pub returns-in-Binary : goal.returns-in-Binary
returns-in-Binary c = λ bytes e. arm_bytes bytes c.in-Binary.is (c.long.ensures bytes)

pub returns-in-String : goal.returns-in-String
returns-in-String c = λ bytes e. arm_bytes bytes c.in-String.is (c.long-in-String.ensures bytes)

pub returns-in-ShortString : goal.returns-in-ShortString
returns-in-ShortString c bytes e =
    elim c.in-ShortString.is [ inl k ↦ arm_bytes bytes k (c.plain.ensures bytes e) | inr k ↦ arm_bytes bytes k (c.plain.ensures bytes e) ]

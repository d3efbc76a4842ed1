-- The first of them, and those behind it.
use borrow.Author.Rules.{rules}
use mathlib.Core.Path.{◌≡◌, ◌∙◌, sym}
use mathlib.Core.List.{[]}
use Rattle.metadata.specs.Bytes.{numbers}
use Rattle.header_reader.proofs.TableLaws.{numbers_next}
use Rattle.header_reader.proofs.numbers.NumbersIterator.next.Goals as goal
use Rattle.header_reader.proofs.numbers.NumbersIterator.next.Goals.{Then-self-eq0}

none : (c : Then-self-eq0) → c.args.self.now ≡ []
unfolding numbers
none c = sym c.self.view_is ∙ (rw c.if-self-eq0.true)

pub returns-then-self-eq0-clause-steps : goal.returns-then-self-eq0-clause-steps
returns-then-self-eq0-clause-steps c = (none c, none c)

pub returns-clause-steps : goal.returns-clause-steps
returns-clause-steps c =
    let s = c.self.inside in
    sym c.self.view_is ∙ numbers_next s.width s.left s.at s.bytes.now c.self.invariant.0 c.if-self-eq0.false c.read_packed-number.ensures

pub returns-clause-goes : goal.returns-clause-goes
returns-clause-goes c =
    let s = c.self.inside in
    let e = sym c.self.view_is ∙ numbers_next s.width s.left s.at s.bytes.now c.self.invariant.0 c.if-self-eq0.false c.read_packed-number.ensures in
    rw e (search rules)

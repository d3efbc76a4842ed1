-- Number k as it is read.
use Rattle.header_reader.proofs.TableLaws.{number_in, none_in}
use Rattle.header_reader.proofs.numbers.Numbers.get.Goals as goal

pub returns-then-k-self : goal.returns-then-k-self
returns-then-k-self c =
    let s = c.self.inside in
    rw (← c.self.view_is) (number_in s.width s.left s.at c.args.k s.bytes.now c.self.invariant.0 c.if-k-self.true c.read_packed.ensures)

pub returns-else-k-self : goal.returns-else-k-self
returns-else-k-self c = let s = c.self.inside in rw (← c.self.view_is) (none_in s.width s.left s.at c.args.k s.bytes.now c.if-k-self.false)

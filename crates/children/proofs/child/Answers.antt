-- The value that starts at the child's offset, where the header counts one.
use Rattle.children.proofs.PartLaws.{child_there}
use Rattle.children.proofs.child.Goals as goal

pub returns : goal.returns
returns c = child_there c.args.v.now c.in_ok-header.ensures c.count.ensures.0 c.if-count-k.false c.from.ensures.0 c.offset.ensures.0 c.value_from.ensures

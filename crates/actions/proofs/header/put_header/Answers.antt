use Rattle.actions.proofs.CloseLaws.{fronts_list, fronts_object}
use Rattle.actions.proofs.header.put_header.Goals as goal

pub returns-then-v : goal.returns-then-v
returns-then-v c undo = fronts_object c.if-v.true c.requires c.close_object.ensures

pub returns-else-v : goal.returns-else-v
returns-else-v c undo = fronts_list c.if-v.false c.close_list.ensures

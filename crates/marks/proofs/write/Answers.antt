use Rattle.semantics.specs.Step.{put_mark}
use Rattle.marks.proofs.TableLaws.{byte_is}
use Rattle.marks.proofs.write.Goals as goal

pub returns : goal.returns
unfolding put_mark
returns c = rw (c.from.ensures, byte_is c.args.m.unique)

-- Each by computing.
use Rattle.small_values.proofs.WritingLaws.{count_is}
use Rattle.small_values.proofs.writing.Length.string_count.Goals as goal

pub returns : goal.returns
returns c = count_is c.args.self.bytes c.args.self.short.0 c.args.self.short.1

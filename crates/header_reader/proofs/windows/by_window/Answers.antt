-- The marks are the starts, and the offsets take them.
use Rattle.header_reader.proofs.WindowLaws.{window_told}
use Rattle.header_reader.proofs.windows.by_window.Goals as goal

pub returns : goal.returns
returns c =
    window_told _ _ c.args.cells.now c.fill.new.self c.mark_starts-next.new.cells c.fill.auto.self c.mark_starts-next.auto.cells c.mark_starts-next.ensures c.take_marks.ensures c.then_some.ensures

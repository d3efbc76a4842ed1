-- A width is 1 to 4 bytes.
use Rattle.encoding.proofs.WidthLaws.{width_at_low, width_at_high}
use Rattle.list.proofs.close.ListFrame.header.Goals as goal

pub invariant_of-result : goal.invariant_of-result
invariant_of-result c = record { offset_width = rw c.int_size_at.ensures (width_at_low _ _, width_at_high _ _) }

-- What a whole record's step names lies within the file.
use Rattle.batch.proofs.ReadingLaws.{Within, within}
use Rattle.batch.proofs.reading.parts_at.Goals as goal
use Rattle.batch.proofs.reading.parts_at.Goals.{In-Ok-Whole}

bounds : (c : In-Ok-Whole) → let g = c.in-Ok-Whole in Within c.args.file.now g.dictionary g.value g.next
bounds c = within c.args.file.now c.args.place _ _ _ (rw c.in-Ok-Whole.field-0-is at c.in-Ok-Whole.ensures)

pub slice_bounds-result-count : goal.slice_bounds-result-count
slice_bounds-result-count c = (bounds (goal.at.slice_bounds-result-count c).In-Ok-Whole).dictionary_order

pub slice_bounds-result-start : goal.slice_bounds-result-start
slice_bounds-result-start c = (bounds (goal.at.slice_bounds-result-start c).In-Ok-Whole).dictionary_order

pub slice_bounds-result-end : goal.slice_bounds-result-end
slice_bounds-result-end c = (bounds (goal.at.slice_bounds-result-end c).In-Ok-Whole).dictionary_end

pub slice_bounds-result-count-in-Ok-Whole : goal.slice_bounds-result-count-in-Ok-Whole
slice_bounds-result-count-in-Ok-Whole c = (bounds (goal.at.slice_bounds-result-count-in-Ok-Whole c).In-Ok-Whole).value_order

pub slice_bounds-result-start-in-Ok-Whole : goal.slice_bounds-result-start-in-Ok-Whole
slice_bounds-result-start-in-Ok-Whole c = (bounds (goal.at.slice_bounds-result-start-in-Ok-Whole c).In-Ok-Whole).value_order

pub slice_bounds-result-end-in-Ok-Whole : goal.slice_bounds-result-end-in-Ok-Whole
slice_bounds-result-end-in-Ok-Whole c = (bounds (goal.at.slice_bounds-result-end-in-Ok-Whole c).In-Ok-Whole).value_end

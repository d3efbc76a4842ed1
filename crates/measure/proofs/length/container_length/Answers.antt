-- The count and the size are read where they are there.
use Rattle.measure.proofs.MeasureLaws.{count_cut, size_cut, header_told}
use Rattle.measure.proofs.length.container_length.Goals as goal

pub returns-in_err-last : goal.returns-in_err-last
returns-in_err-last c =
    let a = c.args in
    rw c.from_residual.ensures (count_cut a.w a.ids _ a.v.now c.in_err-last.ensures)

pub returns-in_err-number_at : goal.returns-in_err-number_at
returns-in_err-number_at c =
    let a = c.args in
    rw c.from_residual-in_err-number_at.ensures
    (size_cut a.w a.ids _ c.in_ok-last.field-0 a.v.now c.in_ok-last.ensures.1.value c.in_err-number_at.ensures)

pub returns : goal.returns
returns c =
    let a = c.args in
    header_told a.w a.ids _ c.in_ok-last.field-0 a.v.now c.in_ok-last.ensures.1.value c.in_ok-number_at.ensures.1.value

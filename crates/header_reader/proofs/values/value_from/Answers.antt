-- What is left from a place on begins with the value.
use native.Mathlib.Omega.{arith}
use mathlib.Core.Path.{sym}
use lib.Seq.{length-take-le}
use Rattle.measure.proofs.MeasureLaws.{length_or_zero, measured_within}
use Rattle.header_reader.proofs.StartLaws.{value_of_rest}
use Rattle.header_reader.proofs.values.value_from.Goals as goal

pub slice_bounds-result-end : goal.slice_bounds-result-end
slice_bounds-result-end c =
    let r = c.part-rest.result.now in
    sym (length-take-le _ r (omega (arith, (length_or_zero _ _ _ c.value_length.ensures c.unwrap_or.ensures), measured_within r)))

pub returns : goal.returns
returns c = let a = c.args in value_of_rest a.v.now a.at c.part-rest.ensures (length_or_zero _ _ _ c.value_length.ensures c.unwrap_or.ensures)

-- The part that is walked is the data; past the bytes there is none.
use mathlib.Core.Path.{◌∙◌, ap}
use Rattle.measure.specs.Measure.{whole_values}
use Rattle.measure.proofs.DataLaws.{data_cut, data_stop}
use Rattle.measure.proofs.walk.whole_values.Goals as goal

pub returns : goal.returns
returns c =
    c.are_values.ensures ∙ ap (whole_values _) (data_cut c.min.result c.min-stop.result _ ∙ data_stop _ _ _ _ _ c.min-stop.ensures c.min.ensures)

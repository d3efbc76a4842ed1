use mathlib.Core.Path.{◌≡◌}
use Prim.Native.Nat.{◌-◌, min}
use lib.ListN.{length}
use Rattle.header_reader.specs.Windows.{starting_in}
use Rattle.header_reader.proofs.WindowLaws.{Windows}
use Rattle.header_reader.proofs.windows.by_windows.Given as goal

abbrev pub invariant-loop-lo : goal.invariant-loop-lo
invariant-loop-lo g l = Windows (starting_in l.values l.offsets) l.values l.offsets (min l.lo (length l.values)) l.at × (length l.cells ≡ g.row.CELLS)

abbrev pub decreases-loop-lo : goal.decreases-loop-lo
decreases-loop-lo g l = length l.values - l.lo

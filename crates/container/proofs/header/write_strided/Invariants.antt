use Prim.Native.Nat.{◌+◌, ◌-◌, ◌*◌, ◌/◌}
use lib.ListN.{length}
use Rattle.encoding.specs.Packed.{les}
use Rattle.encoding.specs.Slices.{write}
use Rattle.container.specs.Entries.{strided}
use Rattle.container.proofs.HeaderLaws.{Strides}
use Rattle.container.proofs.header.write_strided.Given as goal

abbrev pub invariant-loop-k : goal.invariant-loop-k
invariant-loop-k l =
    let n = length l.entries / 2 in
    Strides (write 0 (les l.width (strided l.entries l.part n)) l.initial.value) l.entries l.width (0 + l.width * n) (length l.initial.value)
    l.value l.at (l.part + 2 * l.k) (n - l.k)

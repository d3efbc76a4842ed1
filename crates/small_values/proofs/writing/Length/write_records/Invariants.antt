use mathlib.Core.List.{map}
use lib.ListN.{length}
use Rattle.encoding.specs.Slices.{write}
use Rattle.metadata.specs.Bytes.{never_used}
use Rattle.batch.specs.Layout.{record_of, records_bytes}
use Rattle.small_values.specs.Small.{values_of}
use Rattle.small_values.proofs.WritingLaws.{Left}
use Rattle.small_values.proofs.writing.Length.write_records.Given as goal

abbrev pub invariant-loop-n : goal.invariant-loop-n
invariant-loop-n l = Left (write 1 (records_bytes (map (record_of never_used) (values_of l.self.bytes))) l.initial.out) l.self.bytes (length l.initial.out) l.out l.used l.n

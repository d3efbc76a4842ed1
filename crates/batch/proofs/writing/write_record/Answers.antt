-- Four parts filled in a row are the record's.
use mathlib.Core.Path.{◌∙◌}
use native.Mathlib.Omega.{arith}
use Rattle.batch.specs.Layout.{record_bytes}
use Rattle.batch.proofs.NumberLaws.{length_big, big_bytes}
use Rattle.batch.proofs.WritingLaws.{filled}
use Rattle.batch.proofs.writing.write_record.Goals as goal

pub returns : goal.returns
unfolding record_bytes
returns c =
    let count = c.copy_from_slice.ensures.after ∙ c.to_be_bytes.ensures ∙ big_bytes _ in
    let size = c.copy_from_slice-2.ensures.after ∙ c.to_be_bytes-2.ensures ∙ big_bytes _ in
    let dictionary = c.put_slice.ensures.room (omega (arith, c.requires.filled)) in
    let value = c.put_slice-2.ensures.room (omega (arith, c.requires.filled)) in
    rw (value, dictionary, size, count)
    (filled c.args.part.now _ _ _ _ (length_big _) (length_big _) c.requires.filled)

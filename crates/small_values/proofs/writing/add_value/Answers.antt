-- No record where a test fails; else the record, for which there is room.
use mathlib.Core.Path.{◌≡◌, refl, sym, ◌∙◌}
use Rattle.batch.specs.Layout.{record_bytes, record_of}
use Rattle.metadata.specs.Bytes.{never_used}
use Rattle.small_values.proofs.WritingLaws.{bytes_of, other_length, refusal, refused, taken, none_added, one_added}
use Rattle.small_values.proofs.writing.add_value.Goals as goal
use Rattle.small_values.proofs.writing.add_value.Goals.{In-Ok}

-- the string is a value
value : (c : In-Ok) → let v = c.args.string.now in
    bytes_of v ≡ record_bytes (record_of never_used v)
value c = taken _ c.in-Ok.ensures.number refl

pub returns-then-ne : goal.returns-then-ne
returns-then-ne c = none_added _ _ _ (other_length _ c.value_length.ensures (sym c.ne.ensures ∙ c.if-ne.true))

pub returns-in_default : goal.returns-in_default
returns-in_default c = none_added _ _ _ (refused _ c.read_pair.ensures.number (refusal _ c.in_default.not-Ok))

pub returns : goal.returns
returns c =
    let p = c.requires in
    one_added _ _ _ _ p.le_used.0 p.le_used.1 p.le_used.2 p.string_in_bounds (value (goal.at.returns c).In-Ok) c.add.ensures c.unwrap_or.ensures

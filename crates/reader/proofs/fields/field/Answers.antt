-- The part, where it lies in the bytes.
use mathlib.Core.Path.{refl}
use Rattle.reader.specs.Answers.{part_of}
use Rattle.reader.proofs.FieldLaws.{part_turned, part_over, part_there}
use Rattle.reader.proofs.fields.field.Goals as goal
use Rattle.reader.proofs.fields.field.Goals.{in_default-via-in-Some+then-start-end+else-end-v, in_default-via-in-Some+else-start-end, in_default-via-in_default}

pub returns-in-Some : goal.returns-in-Some
returns-in-Some c = rw c.in-Some.is (part_there _ c.in-Some.field-0 c.if-start-end.true c.if-end-v.true)

pub returns-in_default : goal.returns-in_default
unfolding part_of
returns-in_default c =
    elim c.in_default.branch [
      | in_default-via-in-Some+then-start-end+else-end-v w ↦ rw w.in-Some.is (part_over _ w.in-Some.field-0 w.if-end-v.false)
      | in_default-via-in-Some+else-start-end w ↦ rw w.in-Some.is (part_turned _ w.in-Some.field-0 w.if-start-end.false)
      | in_default-via-in_default w ↦ rw w.in_default.is refl
    ]

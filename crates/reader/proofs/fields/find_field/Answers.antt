-- The pair's refusal, then what an object has.
use Rattle.reader.proofs.AnswerLaws.{field_told_lem}
use Rattle.reader.proofs.fields.find_field.Goals as goal

pub returns : goal.returns
returns c =
    let a = c.args in
    let p = c.in_ok-pair.ensures in
    field_told_lem a.d.now a.v.now a.name.now p.number (rw (p.pair.0, p.pair.1) at c.field_named.ensures)

-- The pair's refusal, then what an object has.
use Rattle.reader.proofs.AnswerLaws.{integer_told_lem}
use Rattle.reader.proofs.fields.first_integer.Goals as goal

pub returns : goal.returns
returns c =
    let a = c.args in
    let p = c.in_ok-pair.ensures in
    integer_told_lem a.d.now a.v.now p.number (rw p.pair.1 at c.integer_field.ensures)

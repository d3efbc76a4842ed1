-- An id that is held has the part between two ends for its name, and any other the empty one.
use mathlib.Core.Path.{◌≡◌, ◌∙◌, ap}
use Prim.Native.Nat.{◌+◌}
use native.Mathlib.Omega.{arith}
use Rattle.measure.specs.Measure.{number_at}
use Rattle.lexicon.specs.Dictionary.{start_in}
use Rattle.lexicon.proofs.NameLaws.{name_none, name_part, start_first, start_after}
use Rattle.lexicon.proofs.stored.Stored.name.Goals as goal
use Rattle.lexicon.proofs.stored.Stored.name.Goals.{then-id-eq0, else-id-eq0}

pub returns-then-self-id : goal.returns-then-self-id
returns-then-self-id c =
    let s = c.args.self in name_none s.bytes.now s.count c.args.id (s.count_read ∙ ap (number_at s.bytes.now 1) s.width_read) c.if-self-id.true

pub returns : goal.returns
returns c =
    let s = c.args.self in
    let id = c.args.id in
    let start : c.if-id-eq0.start ≡ start_in s.bytes.now s.width id = elim c.if-id-eq0.branch [
      | then-id-eq0 w ↦ w.start-is ∙ start_first s.bytes.now s.width id w.if-id-eq0.true
      | else-id-eq0 w ↦ w.start-is ∙ (w.offset-start.ensures.value ∙ start_after s.bytes.now s.width id w.if-id-eq0.false)
    ] in
    let next : id + 1 + 1 ≡ id + 2 = omega arith in
    c.part.ensures
    ∙ name_part s.bytes.now s.width s.count id _ _ _ s.width_read (s.count_read ∙ ap (number_at s.bytes.now 1) s.width_read)
    c.if-self-id.false c.text-text.ensures start (rw next at c.offset.ensures.value)

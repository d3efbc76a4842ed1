-- By the call that is asked: row 11 of what opens but enters nothing, else its answer by number.
use mathlib.Core.Path.{sym, ◌∙◌}
use Rattle.refusals.specs.Decide.{name_in, storage_in}
use Rattle.refusals.proofs.FlagLaws.{any_deep, any_told}
use Rattle.refusals.proofs.Seen.enter_number.Goals as goal

pub returns-then-too_deep : goal.returns-then-too_deep
returns-then-too_deep c =
    let a = c.args in
    let k = c.call_of-call.ensures in
    let z = c.size_or.ensures in
    rw c.number.ensures
    (any_deep a.self.now.view.now (storage_in a.self.now) (name_in a.name) a.into a.opens a.own a.size z.0 z.1 (rw (k.0, k.1) at c.may_enter-answer.ensures) (sym c.too_deep.ensures ∙ c.if-too_deep.true))

pub returns : goal.returns
returns c =
    let a = c.args in
    let k = c.call_of-call.ensures in
    let z = c.size_or.ensures in
    rw c.own_or.ensures
    (any_told a.self.now.view.now (storage_in a.self.now) (name_in a.name) a.into a.opens a.own a.size z.0 z.1 (rw (k.0, k.1) at c.may_enter-answer.ensures) (sym c.too_deep.ensures ∙ c.if-too_deep.false))

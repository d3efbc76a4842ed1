-- The ends that are left decide as all of them do.
use mathlib.Core.Path.{sym, ◌∙◌}
use Rattle.lexicon.proofs.NameLaws.{walks_again, walks_fall, walks_broken, walks_over, walks_end, to_the_end}
use Rattle.lexicon.proofs.stored.Stored.names_good.Goals as goal
use Rattle.lexicon.proofs.stored.Stored.names_good.Goals.{then-end-at-via-then-end-at, then-end-at-via-else-end-at+then-text-end}
use Rattle.lexicon.proofs.stored.Stored.names_good.Goals.{then-end-at-via-else-end-at+else-text-end+then-not-is_utf8}

pub returns-then-end-at : goal.returns-then-end-at
returns-then-end-at c =
    let i = c.loop-id.invariant in
    let t = c.loop-id-test.true in
    let e = c.offset-end.ensures.value in
    rw (← c.text.ensures) (to_the_end c.args.self.bytes.now _ c.text.result (elim c.then-end-at.branch [
      | then-end-at-via-then-end-at w ↦ walks_fall i t e w.if-end-at.true
      | then-end-at-via-else-end-at+then-text-end w ↦ walks_over i t e w.if-text-end.true
      | then-end-at-via-else-end-at+else-text-end+then-not-is_utf8 w ↦ walks_broken i t e w.if-end-at.false (sym w.is_utf8.ensures ∙ w.if-not-is_utf8.true)
    ]))

pub loop-id-preserved : goal.loop-id-preserved
loop-id-preserved c =
    walks_again c.loop-id.invariant c.loop-id-test.true c.offset-end.ensures.value c.if-end-at.false (sym c.is_utf8.ensures ∙ c.if-not-is_utf8.false)

pub returns : goal.returns
returns c = rw (← c.text.ensures) (to_the_end c.args.self.bytes.now _ c.text.result (walks_end c.loop-id.invariant c.loop-id-test.false))

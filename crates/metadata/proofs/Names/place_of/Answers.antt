-- The ends that are still to be read decide as all of them do.
use native.Mathlib.Omega.{arith}
use mathlib.Core.Path.{sym, ◌∙◌}
use Rattle.metadata.proofs.NameLaws.{found_stays, found_now, found_not, within, seeks_start, sought_exceeds, seeks_fall, seeks_over, seeks_next, seeks_whole}
use Rattle.metadata.proofs.NameLaws.{seeks_apart}
use Rattle.metadata.proofs.Names.place_of.Goals as goal
use Rattle.metadata.proofs.Names.place_of.Goals.{then-end-at-via-then-end-at, then-end-at-via-else-end-at+then-self-end, then-is_none+then-same, else-is_none}
use Rattle.metadata.proofs.Names.place_of.Goals.{else-is_none-via-then-is_none+else-same, else-is_none-via-else-is_none}

pub returns-then-exceeds : goal.returns-then-exceeds
returns-then-exceeds c = sought_exceeds _ _ _ _ (sym c.exceeds.ensures ∙ c.if-exceeds.true)

pub loop-id-init : goal.loop-id-init
loop-id-init c = seeks_start _ _ _ _ (sym c.exceeds.ensures ∙ c.if-exceeds.false)

pub returns-then-end-at : goal.returns-then-end-at
returns-then-end-at c = elim c.then-end-at.branch [
  | then-end-at-via-then-end-at w ↦ seeks_fall c.loop-id.invariant c.loop-id-test.true w.if-end-at.true
  | then-end-at-via-else-end-at+then-self-end w ↦ seeks_over c.loop-id.invariant c.loop-id-test.true w.if-end-at.false w.if-self-end.true
]

pub slice_bounds-same-end : goal.slice_bounds-same-end
slice_bounds-same-end c = let s = c.args.self in let w = within s.counts s.text.now s.ends.now (sym c.exceeds.ensures ∙ c.if-exceeds.false) in omega arith

pub loop-id-preserved : goal.loop-id-preserved
loop-id-preserved c =
    seeks_next c.loop-id.invariant c.loop-id-test.true c.if-end-at.false c.if-self-end.false (elim c.if-is_none.branch [
      | then-is_none+then-same w ↦ w.found-is ∙ found_now _ _ c.is_none.ensures w.if-is_none.true w.same.ensures w.if-same.true
      | else-is_none w ↦ w.found-is ∙ (elim w.else-is_none.branch [
        | else-is_none-via-then-is_none+else-same v ↦ found_not _ _ c.is_none.ensures v.if-is_none.true v.same.ensures v.if-same.false
        | else-is_none-via-else-is_none v ↦ found_stays _ _ _ c.is_none.ensures v.if-is_none.false
      ])
    ])

pub returns-then-at-self : goal.returns-then-at-self
returns-then-at-self c = seeks_whole c.loop-id.invariant c.loop-id-test.false c.if-at-self.true

pub returns-else-at-self : goal.returns-else-at-self
returns-else-at-self c = seeks_apart c.loop-id.invariant c.loop-id-test.false c.if-at-self.false

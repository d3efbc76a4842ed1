-- The ids that are left, behind the last one read, decide as all of them do.
use mathlib.Core.Path.{sym, ◌∙◌}
use Rattle.metadata.specs.Bytes.{dictionary_names}
use Rattle.header_reader.proofs.TableLaws.{names_none, names_fall, names_again, names_end}
use Rattle.header_reader.proofs.objects.names_ascend.Goals as goal

pub returns-in_default : goal.returns-in_default
returns-in_default c = names_none (dictionary_names c.args.d.now) c.in_default.ensures.steps.0

pub loop-next-init : goal.loop-next-init
loop-next-init c =
    record { order = rw (c.in-Some.ensures.steps, c.into_iter-next-iterator.ensures.into_iter_gives) }

pub returns-then-not-name_below : goal.returns-then-not-name_below
returns-then-not-name_below c =
    names_fall c.loop-next.invariant c.in-Some-next.ensures.steps (sym c.name_below.ensures ∙ c.if-not-name_below.true)

pub loop-next-preserved : goal.loop-next-preserved
loop-next-preserved c =
    names_again c.loop-next.invariant c.in-Some-next.ensures.steps (sym c.name_below.ensures ∙ c.if-not-name_below.false)

pub returns : goal.returns
returns c = names_end c.loop-next.invariant c.in-None.ensures.steps.0

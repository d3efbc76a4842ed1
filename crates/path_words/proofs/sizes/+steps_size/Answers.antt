-- The words of a step, and of those behind it in the child.
use native.Mathlib.Omega.{arith}
use mathlib.Core.Path.{sym, ap}
use lib.ListN.{length}
use Rattle.metadata.specs.Bytes.{dictionary_names}
use Rattle.path_words.proofs.StepLaws.{parts, steps_none, steps_nothing, child_start, child_steps}
use Rattle.path_words.proofs.sizes.+steps_size.Goals as goal

pub returns-then-depth-eq0 : goal.returns-then-depth-eq0
returns-then-depth-eq0 t c = let e = steps_none _ _ _ _ c.if-depth-eq0.true in (sym (ap length e), omega arith)

pub returns-in_default : goal.returns-in_default
returns-in_default t c = let e = steps_nothing _ _ c.child.ensures _ _ c.in_default.is in (sym (ap length e), omega arith)

pub inside-requires : goal.inside-requires
inside-requires t c = child_start _ _ c.child.ensures c.in-Some.is

pub returns : goal.returns
returns t c =
    let e = child_steps _ _ c.child.ensures (dictionary_names c.args.d.now) _ c.in-Some.is c.inside.ensures.value c.inside.ensures.place c.if-depth-eq0.false in
    let s = c.step_size.ensures in
    let r = c.steps_size.ensures in
    (omega (arith, parts e, s.0, r.0), omega (arith, s.1, r.1))

-- The words of a step, and those behind it in the child.
use native.Mathlib.Omega.{arith}
use mathlib.Core.Path.{refl}
use Prim.Native.Nat.{◌-◌, ◌<◌}
use Rattle.path_words.proofs.FrontLaws.{none_written, length_rest, then_front}
use Rattle.metadata.specs.Bytes.{dictionary_names}
use Rattle.path_words.proofs.StepLaws.{parts, steps_none, steps_nothing, child_start, child_steps}
use Rattle.path_words.proofs.writing.+write_steps.Goals as goal

pub returns-then-depth-eq0 : goal.returns-then-depth-eq0
returns-then-depth-eq0 t c = none_written _ (steps_none _ _ _ _ c.if-depth-eq0.true)

pub write_step-n-requires : goal.write_step-n-requires
write_step-n-requires t c =
    let e = child_steps _ _ c.child.ensures (dictionary_names c.args.d.now) _ c.in-Some.is refl refl c.if-depth-eq0.false in
    omega (arith, parts e, c.requires)

pub inside-requires : goal.inside-requires
inside-requires t c = child_start _ _ c.child.ensures c.in-Some.is

pub slice_bounds-write_steps-count : goal.slice_bounds-write_steps-count
slice_bounds-write_steps-count t c =
    let e = child_steps _ _ c.child.ensures (dictionary_names c.args.d.now) _ c.in-Some.is refl refl c.if-depth-eq0.false in
    omega (arith, parts e, c.requires, c.write_step-n.ensures.0)

pub slice_bounds-write_steps-start : goal.slice_bounds-write_steps-start
slice_bounds-write_steps-start t c =
    let e = child_steps _ _ c.child.ensures (dictionary_names c.args.d.now) _ c.in-Some.is refl refl c.if-depth-eq0.false in
    omega (arith, parts e, c.requires, c.write_step-n.ensures.0)

pub write_steps-requires : goal.write_steps-requires
write_steps-requires t c =
    let less : c.args.depth - 1 < t = omega arith in
    let e = child_steps _ _ c.child.ensures (dictionary_names c.args.d.now) _ c.in-Some.is c.inside.ensures.value c.inside.ensures.place c.if-depth-eq0.false in
    (less, rw (length_rest c.write_step-n.result c.write_step-n.new.out) (omega (arith, parts e, c.requires, c.write_step-n.ensures.0)))

pub returns-in-Some : goal.returns-in-Some
returns-in-Some t c =
    let e = child_steps _ _ c.child.ensures (dictionary_names c.args.d.now) _ c.in-Some.is c.inside.ensures.value c.inside.ensures.place c.if-depth-eq0.false in
    rw e.joined (then_front _ _ _ c.write_step-n.ensures.1 c.write_step-n.ensures.0 c.write_steps.ensures)

pub returns-in_default : goal.returns-in_default
returns-in_default t c = none_written _ (steps_nothing _ _ c.child.ensures _ _ c.in_default.is)

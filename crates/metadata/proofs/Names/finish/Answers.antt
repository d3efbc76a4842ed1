-- Each return by the tests that led there: damaged, no room, and the two ways to write.
use mathlib.Core.Path.{◌≡◌, sym, ◌∙◌}
use native.Mathlib.Omega.{arith}
use Rattle.std.proofs.Common.{rules, None, Some, Err}
use Rattle.metadata.specs.declared.FinishError.TheVariants.{NoRoom}
use Rattle.metadata.proofs.BytesLaws.{size_least}
use Rattle.metadata.proofs.FinishLaws.{unused_written, finish_damaged, finish_no_room, Fitting, fits_dictionary, finish_written}
use Rattle.metadata.proofs.Names.finish.Goals as goal
use Rattle.metadata.proofs.Names.finish.Goals.{In_ok-size}

fitting : (c : In_ok-size) → let s = c.args.self in Fitting c.args.floor s.counts s.text.now s.ends.now c.args.out.now c.in_ok-size.size
fitting c =
    let n : c.size_within.result ≡ Some c.in_ok-size.size = search rules in
    fits_dictionary _ _ _ _ _ (sym c.intact.ensures ∙ c.if-not-intact.false) (rw (← c.counted.ensures) c.size_within.ensures) n

pub returns-then-not-intact : goal.returns-then-not-intact
returns-then-not-intact c = finish_damaged _ _ _ _ _ (sym c.intact.ensures ∙ c.if-not-intact.true)

pub returns-in_err-size : goal.returns-in_err-size
returns-in_err-size c =
    let n : c.size_within.result ≡ None = search rules in
    let r : c.from_residual.result ≡ Err NoRoom = search rules in
    rw r (finish_no_room _ _ _ _ _ (sym c.intact.ensures ∙ c.if-not-intact.false) (rw (← c.counted.ensures) c.size_within.ensures) n)

pub returns-then-unused : goal.returns-then-unused
returns-then-unused c =
    let m = c.args.self.counts in
    let f = fitting (goal.at.returns-then-unused c).In_ok-size in
    let written = c.put_slice.ensures.room (omega (arith, f.room, size_least c.args.floor m.names m.text)) in
    finish_written f (unused_written _ _ _ _ _ c.unused.ensures c.if-unused.true written)

pub write_dictionary-requires : goal.write_dictionary-requires
write_dictionary-requires c =
    let f = fitting (goal.at.write_dictionary-requires c).In_ok-size in
    record { ends_value = f.sound; text_bound = f.room }

pub returns-else-unused : goal.returns-else-unused
returns-else-unused c =
    let f = fitting (goal.at.returns-else-unused c).In_ok-size in
    finish_written f c.write_dictionary.ensures

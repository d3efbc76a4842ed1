-- The length, then the room; then the version byte and the records behind it.
use native.Mathlib.Omega.{arith}
use mathlib.Core.Path.{◌≡◌}
use Prim.Native.Nat.{◌≤◌}
use lib.ListN.{length}
use Rattle.std.proofs.Common.{rules, Err}
use Rattle.small_values.specs.declared.SmallError.TheVariants.{BadLength}
use Rattle.small_values.specs.Small.{file_of}
use Rattle.small_values.proofs.WritingLaws.{small_bad, small_no_room, small_written_lem, started_good, started_version, started_room, file_written}
use Rattle.small_values.proofs.writing.write_small_values.Goals as goal
use Rattle.small_values.proofs.writing.write_small_values.Goals.{Else-out-size}

-- there is room
room : (c : Else-out-size) → length (file_of c.in_ok-strings.strings.bytes) ≤ length c.args.out.now
room c = omega (arith, c.file_size-size.ensures, c.if-out-size.false)

pub returns-in_err-strings : goal.returns-in_err-strings
returns-in_err-strings c =
    let r : c.from_residual.result ≡ Err BadLength = search rules in
    rw r (small_bad _ _ c.in_err-strings.ensures.1)

pub returns-then-out-size : goal.returns-then-out-size
returns-then-out-size c =
    rw (← c.in_ok-strings.ensures) (small_no_room _ _ _ c.in_ok-strings.strings.short c.file_size-size.ensures c.if-out-size.true)

pub returns-in_err-start : goal.returns-in_err-start
returns-in_err-start c =
    let z = started_good _ _ _ (room (goal.at.returns-in_err-start c).Else-out-size) c.start.ensures in
    absurd (omega (arith, rw c.in_err-start.was at z))

pub write_records-requires : goal.write_records-requires
write_records-requires c =
    let s = c.start.ensures in
    let r = room (goal.at.write_records-requires c).Else-out-size in
    record { out_value = started_version _ _ _ r s; length_in_bounds = started_room _ _ _ r s }

pub returns : goal.returns
returns c =
    let s = c.start.ensures in
    rw (← c.in_ok-strings.ensures)
    (small_written_lem _ _ _ _ c.in_ok-strings.strings.short c.file_size-size.ensures c.if-out-size.false
    (file_written _ _ _ (room (goal.at.returns c).Else-out-size) s c.write_records.ensures))

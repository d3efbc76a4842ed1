-- Its halves, as the definition puts them together.
use Rattle.std.proofs.Common.{rules, ◌∙◌, ◌≡◌, pos, ◌+ℤ◌, ◌*ℤ◌}
use native.Mathlib.Omega.{arith}
use mir.Syntax.{w64, w128}
use mir.Val.{SFits}
use mir.ValLaws.{to_z-of_z}
use Rattle.encoding.specs.Signed.{whole}
use Rattle.value.proofs.decimal.VariantDecimal16.integer.Goals as goal

pub returns : goal.returns
unfolding whole
returns c =
    let d = c.args.self in
    let h : c.from.result ≡ d.high = c.from.ensures ∙ to_z-of_z w64 d.high (record { sfits = omega arith }) in
    let p : SFits w128 (d.high *ℤ pos 18446744073709551616) = record { sfits = search rules } in
    let s : SFits w128 ((d.high *ℤ pos 18446744073709551616) +ℤ pos d.low) = record { sfits = search rules } in
    rw (h, c.from-2.ensures, to_z-of_z w128 d.high (record { sfits = omega arith }), to_z-of_z w128 _ p, to_z-of_z w128 (pos d.low) (record { sfits = omega arith }), to_z-of_z w128 _ s)

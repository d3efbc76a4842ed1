-- Each test is the row's own, and the digits' number is whole where it is not too large.
use mathlib.Core.Path.{◌≡◌, sym, ◌∙◌}
use mir.Syntax.{w128}
use mir.ValLaws.{to_z-of_z}
use mathlib.Core.List.{[], ◌∷◌, ◌++◌}
use Rattle.packed_decimal.proofs.ReadLaws.{without_bytes, not_packed_lem, Measured, too_large_lem, stored}
use Rattle.std.proofs.Common.{rules, None, Some, Err}
use Rattle.packed_decimal.specs.declared.read.PackedError.TheVariants.{NotPacked}
use Rattle.packed_decimal.proofs.read.variant_of.Goals as goal
use Rattle.packed_decimal.proofs.read.variant_of.Goals.{After-too_large}

measured : (c : After-too_large) →
    Measured (c.in_ok-last.pairs.now ++ (c.in_ok-last.last.now ∷ [])) c.args.scale c.magnitude-n.result c.too_large.result
measured c =
    record { good = sym c.is_not_packed.ensures ∙ c.if-is_not_packed.false; is = c.magnitude-n.ensures; test = c.too_large.ensures }

pub returns-in_err-last : goal.returns-in_err-last
returns-in_err-last c =
    let n : c.split_last.result ≡ None = search rules in
    let r : c.from_residual.result ≡ Err NotPacked = search rules in
    rw r (not_packed_lem (sym (without_bytes _ (rw n at c.split_last.ensures.cases))))

pub returns-then-is_not_packed : goal.returns-then-is_not_packed
returns-then-is_not_packed c =
    let n : c.split_last.result ≡ Some (c.in_ok-last.last, c.in_ok-last.pairs) = search rules in
    let q = rw n at c.split_last.ensures.cases in
    rw q.0 (not_packed_lem (sym c.is_not_packed.ensures ∙ c.if-is_not_packed.true))

pub returns-then-too_large : goal.returns-then-too_large
returns-then-too_large c =
    let n : c.split_last.result ≡ Some (c.in_ok-last.last, c.in_ok-last.pairs) = search rules in
    let q = rw n at c.split_last.ensures.cases in
    rw q.0 (too_large_lem (measured (goal.at.returns-then-too_large c).After-too_large) c.if-too_large.true)

pub returns : goal.returns
returns c =
    let n : c.split_last.result ≡ Some (c.in_ok-last.last, c.in_ok-last.pairs) = search rules in
    let q = rw n at c.split_last.ensures.cases in
    let m = measured (goal.at.returns c).After-too_large in
    let f = to_z-of_z w128 c.signed.result (record { sfits = c.signed.type_inv }) in
    rw q.0 (stored m c.if-too_large.false (rw (f, c.signed.ensures) at c.smallest.ensures))

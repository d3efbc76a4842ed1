use mir.Syntax.{w8}
use borrow.Kind.Array.{e_int, good_length}
use Rattle.std.proofs.Common.{ap}
use Rattle.value.specs.Scalar.{scalar_bytes, stored_uuid}
use Rattle.semantics.specs.Record.{uuid}
use Rattle.refusals.proofs.RowLaws.{own_none}
use Rattle.actions.proofs.AppendLaws.{own_stores, sixteen_whole}
use Rattle.actions.proofs.own.ArrayU816Scalar.own.Goals as goal

pub returns : goal.returns
returns c =
    let u = c.args.self in
    let n = good_length (e_int w8) 16 u _ c.well_formed.0 in
    own_stores (λ x. scalar_bytes (stored_uuid x)) (uuid u) u own_none (ap (λ bs. scalar_bytes (stored_uuid bs)) (sixteen_whole u n))

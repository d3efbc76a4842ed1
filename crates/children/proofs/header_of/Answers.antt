-- The header by the kind; a scalar has no children.
use Rattle.header_reader.proofs.KindLaws.{kind_list, kind_object, kind_scalar}
use Rattle.children.proofs.PartLaws.{list_counts, object_counts, parts_none}
use mathlib.Core.List.{[]}
use Rattle.children.proofs.header_of.Goals as goal

pub returns-in-List : goal.returns-in-List
returns-in-List c =
    let v = c.args.v.now in
    let e = c.of_list.ensures in
    list_counts v (kind_list v c.kind_of.ensures c.in-List.is) e.count e.offsets e.from

pub returns-in-Object : goal.returns-in-Object
returns-in-Object c =
    let v = c.args.v.now in
    let e = c.of_object.ensures in
    object_counts v (kind_object v c.kind_of.ensures c.in-Object.is) e.count e.offsets e.from

pub returns-in-Scalar : goal.returns-in-Scalar
returns-in-Scalar c =
    let v = c.args.v.now in
    let k = kind_scalar v c.kind_of.ensures c.in-Scalar.is in
    parts_none [] v k.0 k.1

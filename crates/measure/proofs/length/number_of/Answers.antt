-- A byte that is not there counts 0.
use native.Mathlib.Omega.{arith}
use lib.ListN.{get_or-eq_default}
use Rattle.measure.proofs.NumberLaws.{four_joined}
use Rattle.measure.proofs.length.number_of.Goals as goal

pub returns-in-empty : goal.returns-in-empty
returns-in-empty c =
    let l = c.args.bytes.now in
    let d = get_or-eq_default l 0 {n = 0} (omega arith) in
    let e = get_or-eq_default l 0 {n = 1} (omega arith) in
    let f = get_or-eq_default l 0 {n = 2} (omega arith) in
    let g = get_or-eq_default l 0 {n = 3} (omega arith) in
    four_joined _ l (λ i. (c.type_inv.bytes i).fits) (omega arith)

pub returns-in-len1 : goal.returns-in-len1
returns-in-len1 c =
    let l = c.args.bytes.now in
    let e = get_or-eq_default l 0 {n = 1} (omega arith) in
    let f = get_or-eq_default l 0 {n = 2} (omega arith) in
    let g = get_or-eq_default l 0 {n = 3} (omega arith) in
    four_joined _ l (λ i. (c.type_inv.bytes i).fits) (omega arith)

pub returns-in-len2 : goal.returns-in-len2
returns-in-len2 c =
    let l = c.args.bytes.now in
    let f = get_or-eq_default l 0 {n = 2} (omega arith) in
    let g = get_or-eq_default l 0 {n = 3} (omega arith) in
    four_joined _ l (λ i. (c.type_inv.bytes i).fits) (omega arith)

pub returns-in-len3 : goal.returns-in-len3
returns-in-len3 c =
    let l = c.args.bytes.now in
    let g = get_or-eq_default l 0 {n = 3} (omega arith) in
    four_joined _ l (λ i. (c.type_inv.bytes i).fits) (omega arith)

pub returns-in-len4-up : goal.returns-in-len4-up
returns-in-len4-up c =
    let l = c.args.bytes.now in
    four_joined _ l (λ i. (c.type_inv.bytes i).fits) (omega arith)

-- `lead_of` reads each lead byte as the table does.
use mathlib.Core.Path.{refl}
use native.Mathlib.Omega.{arith}
use Rattle.encoding.specs.Utf8.{◌‥◌, table}
use Rattle.encoding.proofs.Utf8Laws.{leads}
use Rattle.encoding.proofs.utf8.lead_of.Goals as goal

pub returns-in-224 : goal.returns-in-224
unfolding table
returns-in-224 c = leads (0xE0 ‥ 0xE0) tt refl (omega arith) (omega arith)

pub returns-in-237 : goal.returns-in-237
unfolding table
returns-in-237 c = leads (0xED ‥ 0xED) tt refl (omega arith) (omega arith)

pub returns-in-240 : goal.returns-in-240
unfolding table
returns-in-240 c = leads (0xF0 ‥ 0xF0) tt refl (omega arith) (omega arith)

pub returns-in-244 : goal.returns-in-244
unfolding table
returns-in-244 c = leads (0xF4 ‥ 0xF4) tt refl (omega arith) (omega arith)

pub returns-in-0-to-127 : goal.returns-in-0-to-127
unfolding table
returns-in-0-to-127 c = leads (0x00 ‥ 0x7F) tt refl (omega arith) (omega arith)

pub returns-in-194-to-223 : goal.returns-in-194-to-223
unfolding table
returns-in-194-to-223 c = leads (0xC2 ‥ 0xDF) tt refl (omega arith) (omega arith)

pub returns-in-225-to-236 : goal.returns-in-225-to-236
unfolding table
returns-in-225-to-236 c = leads (0xE1 ‥ 0xEC) tt refl (omega arith) (omega arith)

pub returns-in-238-to-239 : goal.returns-in-238-to-239
unfolding table
returns-in-238-to-239 c = leads (0xEE ‥ 0xEF) tt refl (omega arith) (omega arith)

pub returns-in-241-to-243 : goal.returns-in-241-to-243
unfolding table
returns-in-241-to-243 c = leads (0xF1 ‥ 0xF3) tt refl (omega arith) (omega arith)

pub returns-in_default : goal.returns-in_default
unfolding table
returns-in_default c = leads (0x80 ‥ 0xC1) tt refl (omega arith) (omega arith)

pub returns-in_default-2 : goal.returns-in_default-2
unfolding table
returns-in_default-2 c = leads (0xF5 ‥ 0xFF) tt refl (omega arith) (omega arith)

-- A text by its first byte.
use Rattle.std.proofs.Common.{rules}
use native.Mathlib.Omega.{arith}
use Rattle.text_search.proofs.KindLaws.{text_none, text_short, text_long, text_cut, text_other}
use Rattle.text_search.proofs.texts.is_text.Goals as goal

pub returns-in-len1-up : goal.returns-in-len1-up
returns-in-len1-up c = text_short _ _ c.if-first-eq1.true c.eq.ensures

pub returns-in-64 : goal.returns-in-64
returns-in-64 c = text_long _ _ c.if-first-eq1.false (search rules) c.eq-in-64.ensures

pub returns-in-64-2 : goal.returns-in-64-2
returns-in-64-2 c = text_cut _ _ c.if-first-eq1.false (search rules) (omega arith) c.is_empty.ensures

pub returns-in_default : goal.returns-in_default
returns-in_default c = text_none _ _ (omega arith)

pub returns-in_default-3 : goal.returns-in_default-3
returns-in_default-3 c = text_other _ _ c.if-first-eq1.false (omega arith)

pub returns-in_default-4 : goal.returns-in_default-4
returns-in_default-4 c = text_other _ _ c.if-first-eq1.false (search rules)

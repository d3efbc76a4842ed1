-- Each test decides the next of the answer's cases.
use mathlib.Core.Path.{sym, ◌∙◌}
use Rattle.std.proofs.lemmas.Result.{err_from_is_err_and}
use Rattle.metadata.proofs.NameLaws.{passed, lookup_damaged, lookup_not_utf8, lookup_found, lookup_unknown}
use Rattle.metadata.proofs.Names.field_name.Goals as goal

pub returns-in_err-place : goal.returns-in_err-place
returns-in_err-place c =
    let p = err_from_is_err_and c.from_residual.result c.from_residual.ensures.1 in
    rw (p.1, p.2) (lookup_damaged _ _ _ _ c.place_of.ensures c.in_err-place.was)

pub returns-then-not-is_utf8 : goal.returns-then-not-is_utf8
returns-then-not-is_utf8 c = lookup_not_utf8 (passed _ _ _ _ c.place_of.ensures c.in_ok-place.was) (sym c.is_utf8.ensures ∙ c.if-not-is_utf8.true)

pub returns-in-Some : goal.returns-in-Some
returns-in-Some c = lookup_found (passed _ _ _ _ c.place_of.ensures c.in_ok-place.was) (sym c.is_utf8.ensures ∙ c.if-not-is_utf8.false) c.in-Some.is

pub returns-then-has_room : goal.returns-then-has_room
returns-then-has_room c =
    lookup_unknown (passed _ _ _ _ c.place_of.ensures c.in_ok-place.was) (sym c.is_utf8.ensures ∙ c.if-not-is_utf8.false) c.in_default.is c.has_room.ensures
    c.if-has_room.true

pub returns-else-has_room : goal.returns-else-has_room
returns-else-has_room c =
    lookup_unknown (passed _ _ _ _ c.place_of.ensures c.in_ok-place.was) (sym c.is_utf8.ensures ∙ c.if-not-is_utf8.false) c.in_default.is c.has_room.ensures
    c.if-has_room.false

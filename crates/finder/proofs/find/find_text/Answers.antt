-- Each answer in its turn.
use mathlib.Core.Path.{◌≡◌, sym, ◌∙◌}
use Rattle.std.proofs.Common.{rules, None, Some, Ok, Err}
use Rattle.finder.specs.declared.find.FindError.TheVariants.{Read, Missing, NoRoom}
use Rattle.finder.proofs.FindLaws.{find_refused, find_none, found_is, find_words, find_no_room}
use Rattle.finder.proofs.find.find_text.Goals as goal

pub returns-in_err-read_pair : goal.returns-in_err-read_pair
returns-in_err-read_pair c =
    let r : c.from_residual.result ≡ Err (Read c.in_err-read_pair.field-0.0) = search rules in
    rw r (find_refused _ _ _ _ c.in_err-read_pair.ensures.number)

pub returns-in_err-place : goal.returns-in_err-place
returns-in_err-place c =
    let n : c.least_place.result ≡ None = search rules in
    let r : c.from_residual-in_err-place.result ≡ Err Missing = search rules in
    rw r (find_none _ _ _ _ c.in_ok-read_pair.ensures.number (sym n ∙ c.least_place.ensures))

pub returns-in_err-write_path : goal.returns-in_err-write_path
returns-in_err-write_path c =
    let n : c.least_place.result ≡ Some c.in_ok-place.place = search rules in
    let f = found_is c.args.d.now c.args.v.now c.args.wanted.now c.args.out.now c.in_ok-read_pair.ensures.number (sym n ∙ c.least_place.ensures) in
    let w : c.write_path.result ≡ Err c.in_err-write_path.field-0.0 = search rules in
    let r : c.from_residual-in_err-write_path.result ≡ Err NoRoom = search rules in
    rw r (find_no_room _ _ c.args.wanted.now _ c.in_ok-read_pair.ensures.number f.1 (rw f.0 at c.write_path.ensures) w)

pub returns : goal.returns
returns c =
    let n : c.least_place.result ≡ Some c.in_ok-place.place = search rules in
    let f = found_is c.args.d.now c.args.v.now c.args.wanted.now c.args.out.now c.in_ok-read_pair.ensures.number (sym n ∙ c.least_place.ensures) in
    let w : c.write_path.result ≡ Ok c.in_ok-write_path.field-0 = search rules in
    find_words _ _ c.args.wanted.now _ c.in_ok-read_pair.ensures.number f.1 (rw f.0 at c.write_path.ensures) w

use Rattle.std.proofs.Common.{sym, ◌∙◌, arith}
use lib.ListN.{get_or-eq_default}
use Rattle.semantics.specs.Record.{no_container}
use Rattle.ffi.specs.Words.{containers_of}
use Rattle.ffi.proofs.WordLaws.{container_at_lem, containers_length}
use Rattle.ffi.proofs.words.WordsRecord.container.Goals as goal

pub returns-then-i-lt64 : goal.returns-then-i-lt64
returns-then-i-lt64 c =
    rw (c.container_from.ensures, c.place_of.ensures) (container_at_lem c.args.self.now.0.now c.args.i c.if-i-lt64.true)

pub returns-else-i-lt64 : goal.returns-else-i-lt64
returns-else-i-lt64 c =
    let l = containers_length c.args.self.now.0.now in
    c.no_container.ensures ∙ sym (get_or-eq_default (containers_of c.args.self.now.0.now) no_container {n = c.args.i} (omega arith))

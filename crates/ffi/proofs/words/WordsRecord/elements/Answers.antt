use Rattle.std.proofs.Common.{sym, arith}
use lib.ListN.{get_or-eq_default}
use Rattle.ffi.specs.Words.{elements_of}
use Rattle.ffi.proofs.WordLaws.{elements_length, elements_word_lem}
use Rattle.ffi.proofs.words.WordsRecord.elements.Goals as goal

pub returns-then-i-lt64 : goal.returns-then-i-lt64
returns-then-i-lt64 c = elements_word_lem c.args.self.now.0.now c.args.i c.if-i-lt64.true

pub returns-else-i-lt64 : goal.returns-else-i-lt64
returns-else-i-lt64 c =
    let l = elements_length c.args.self.now.0.now in
    sym (get_or-eq_default (elements_of c.args.self.now.0.now) 0 {n = c.args.i} (omega arith))

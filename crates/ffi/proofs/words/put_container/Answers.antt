use Prim.Native.Nat.{◌+◌}
use mathlib.Core.Path.{◌≡◌}
use native.Mathlib.Omega.{arith}
use Rattle.ffi.specs.Words.{container_word, put_from}
use Rattle.ffi.proofs.WordLaws.{flag_byte, put_container}
use Rattle.ffi.proofs.words.put_container.Goals as goal

pub returns : goal.returns
unfolding put_from
returns c =
    let z : container_word c.args.d + 0 ≡ container_word c.args.d = omega arith in
    rw (c.parent_words-tag.ensures, c.from.ensures, c.from-2.ensures, flag_byte c.args.k.object, flag_byte c.args.k.unique, c.place_of-p.ensures)
    (rw z at (put_container c.args.words.now c.args.d c.args.k c.told-words c.requires))

-- The size decides; then the words, one behind the other.
use native.Mathlib.Omega.{arith}
use Rattle.metadata.specs.Bytes.{dictionary_names}
use Rattle.grammar.specs.Grammar.{most_containers}
use Rattle.path_words.specs.Descent.{path_in}
use Rattle.path_words.proofs.FrontLaws.{length_rest}
use Rattle.path_words.proofs.PathLaws.{words_none, words_room, words_done}
use Rattle.path_words.proofs.writing.write_path.Goals as goal

pub returns-then-not-fits : goal.returns-then-not-fits
returns-then-not-fits c =
    words_none (path_in most_containers (dictionary_names c.args.d.now) c.args.p c.args.v.now) c.args.out.now c.steps_size-size.ensures.0 c.fits.ensures c.if-not-fits.true

pub write_steps-requires : goal.write_steps-requires
write_steps-requires c =
    rw (length_rest c.put-n.result c.put-n.new.out)
    (omega (arith, words_room (path_in most_containers (dictionary_names c.args.d.now) c.args.p c.args.v.now) c.args.out.now c.steps_size-size.ensures.0 c.fits.ensures c.if-not-fits.false, c.put-n.ensures.0))

pub returns : goal.returns
returns c =
    words_done (path_in most_containers (dictionary_names c.args.d.now) c.args.p c.args.v.now) c.args.out.now c.steps_size-size.ensures.0 c.fits.ensures c.if-not-fits.false c.put-n.ensures.1
    c.put-n.ensures.0 c.write_steps.ensures

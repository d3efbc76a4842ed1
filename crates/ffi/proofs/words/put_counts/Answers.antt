use Rattle.ffi.specs.Words.{put_from}
use Rattle.ffi.proofs.WordLaws.{flag_byte, put_counts}
use Rattle.ffi.proofs.words.put_counts.Goals as goal

pub returns : goal.returns
unfolding put_from
returns c =
    rw (c.num_field_names.ensures, c.metadata_size.ensures, c.from.ensures, c.from-2.ensures, flag_byte c.args.c.unique, flag_byte c.args.c.finished) (put_counts c.args.words.now c.args.c c.told-words)

-- The test decides.
use mathlib.Core.Path.{sym, ◌∙◌}
use Rattle.lexicon.proofs.TestLaws.{length_by, read_names, read_bad}
use Rattle.lexicon.proofs.NameLaws.{count_kept}
use Rattle.lexicon.proofs.reading.read_dictionary.Goals as goal

pub returns-then-is_dictionary : goal.returns-then-is_dictionary
returns-then-is_dictionary c =
    read_names c.args.d.now _ (sym c.is_dictionary.ensures ∙ c.if-is_dictionary.true) (count_kept c.of.result c.of.ensures ∙ sym (length_by c.args.d.now))

pub returns-else-is_dictionary : goal.returns-else-is_dictionary
returns-else-is_dictionary c = read_bad _ (sym c.is_dictionary.ensures ∙ c.if-is_dictionary.false)

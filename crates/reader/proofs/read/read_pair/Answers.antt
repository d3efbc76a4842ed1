-- Each answer in its turn.
use mathlib.Core.Path.{◌≡◌, sym, ◌∙◌}
use Rattle.std.proofs.Common.{rules, Err}
use Rattle.reader.specs.declared.errors.ReadError.TheVariants.{BadDictionary}
use Rattle.reader.proofs.PairLaws.{pair_bad, pair_long, pair_outside, pair_read}
use Rattle.reader.proofs.read.read_pair.Goals as goal
use Rattle.reader.proofs.read.read_pair.Goals.{else-v-le4294967295-via-then-v-le4294967295+else-value_ok, else-v-le4294967295-via-else-v-le4294967295}

pub returns-in_err-read_dictionary-clause-number : goal.returns-in_err-read_dictionary-clause-number
returns-in_err-read_dictionary-clause-number c =
    let r : c.from_residual.result ≡ Err BadDictionary = search rules in
    rw r (pair_bad _ c.args.v.now (sym c.in_err-read_dictionary.was ∙ c.read_dictionary.ensures))

pub returns-then-value_ok-clause-number : goal.returns-then-value_ok-clause-number
returns-then-value_ok-clause-number c = pair_read _ _ (sym c.in_ok-read_dictionary.was ∙ c.read_dictionary.ensures) c.if-v-le4294967295.true c.value_ok.ensures c.if-value_ok.true

pub returns-else-v-le4294967295-clause-number : goal.returns-else-v-le4294967295-clause-number
returns-else-v-le4294967295-clause-number c =
    elim c.else-v-le4294967295.branch [
      | else-v-le4294967295-via-then-v-le4294967295+else-value_ok w ↦ pair_outside _ _ (sym c.in_ok-read_dictionary.was ∙ c.read_dictionary.ensures) w.if-v-le4294967295.true w.value_ok.ensures w.if-value_ok.false
      | else-v-le4294967295-via-else-v-le4294967295 w ↦ pair_long _ _ (sym c.in_ok-read_dictionary.was ∙ c.read_dictionary.ensures) w.if-v-le4294967295.false
    ]

pub invariant_of-result : goal.invariant_of-result
invariant_of-result c =
    record {
      read = sym (pair_read _ _ (sym c.in_ok-read_dictionary.was ∙ c.read_dictionary.ensures) c.if-v-le4294967295.true c.value_ok.ensures c.if-value_ok.true);
    }

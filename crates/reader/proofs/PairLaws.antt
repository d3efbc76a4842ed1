-- A pair's number: the dictionary is judged first.
use mathlib.Core.Path.{◌≡◌, refl, sym, ◌∙◌, ap}
use mathlib.Core.Bool.{Bool, true, false, cond, not, ◌&&◌}
use mathlib.Core.List.{List}
use Prim.Native.Nat.{ℕ, ◌≤◌, ◌<◌}
use native.Mathlib.Omega.{arith}
use lib.Dec.{leb}
use lib.ListN.{length}
use borrow.Author.Tests.{lt-leb, le-leb}
use Rattle.encoding.specs.Rows.{first}
use Rattle.metadata.specs.Bytes.{dictionary_names}
use Rattle.std.specs.Prelude.{Result, Ok, Err}
use Rattle.lexicon.specs.declared.BadDictionary.{BadDictionary}
use Rattle.lexicon.specs.Dictionary.{is_dictionary, dictionary_number, read_dictionary, most_bytes}
use Rattle.lexicon.proofs.DictionaryLaws.{both, number_19}
use Rattle.grammar.specs.Tests.{is_value, pair_rows}

-- the test of 19, by the answer's number
refused : (d : List ℕ) (x : Result ℕ BadDictionary) → x ≡ read_dictionary d → dictionary_number x ≡ cond (not (is_dictionary d)) 19 0
unfolding first
refused d x e = ap dictionary_number e ∙ number_19 d

is_bad : (t : Bool) → ◌≡◌ {A = ℕ} 19 (cond (not t) 19 0) → t ≡ false
is_bad true e = absurd (omega arith)
is_bad false e = refl

is_good : (t : Bool) → ◌≡◌ {A = ℕ} 0 (cond (not t) 19 0) → t ≡ true
is_good true e = refl
is_good false e = absurd (omega arith)

pub pair_bad : (d v : List ℕ) {b : BadDictionary} → Err b ≡ read_dictionary d → 19 ≡ first (pair_rows d v)
unfolding first
pair_bad d v {b = b} e = rw (is_bad (is_dictionary d) (refused d (Err b) e))

module _ (d v : List ℕ) {n : ℕ} (e : Ok n ≡ read_dictionary d) where
  good : is_dictionary d ≡ true
  good = is_good (is_dictionary d) (refused d (Ok n) e)

  pub pair_long : most_bytes < length v → 20 ≡ first (pair_rows d v)
  unfolding first
  pair_long h = rw (good, lt-leb (length v) most_bytes h)

  pub pair_outside : length v ≤ most_bytes → {t : Bool} → t ≡ is_value (dictionary_names d) 64 v → t ≡ false → 20 ≡ first (pair_rows d v)
  unfolding first
  pair_outside h p q = rw (good, le-leb (length v) most_bytes h, ← p, q)

  pub pair_read : length v ≤ most_bytes → {t : Bool} → t ≡ is_value (dictionary_names d) 64 v → t ≡ true → 0 ≡ first (pair_rows d v)
  unfolding first
  pair_read h p q = rw (good, le-leb (length v) most_bytes h, ← p, q)

-- no number: the value is one
pub pair_valid : (d v : List ℕ) {n : ℕ} → n ≡ first (pair_rows d v) → n ≡ 0 → is_value (dictionary_names d) 64 v ≡ true
unfolding first
pair_valid d v e z = (both {a = leb (length v) most_bytes} (go (is_dictionary d) (leb (length v) most_bytes && is_value (dictionary_names d) 64 v) (sym z ∙ e))).1
  where
    go : (t u : Bool) → ◌≡◌ {A = ℕ} 0 (cond (not t) 19 (cond (not u) 20 0)) → u ≡ true
    go true true h = refl
    go true false h = absurd (omega arith)
    go false u h = absurd (omega arith)

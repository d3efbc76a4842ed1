-- Each answer of a search, by the pair's number, the least place and the words written.
use Rattle.std.specs.Prelude.{Some, None, Result, Ok, Err}
use mathlib.Core.Path.{◌≡◌, refl, sym, ◌∙◌}
use mathlib.Core.Bool.{Bool, true, false, cond, not, ◌&&◌}
use mathlib.Core.List.{List, [], ◌∷◌, ◌++◌}
use mathlib.Core.Option.{Option, none, some}
use Prim.Native.Nat.{ℕ, ◌≤◌, ◌<◌}
use native.Mathlib.Omega.{arith}
use lib.Dec.{leb, ltb}
use lib.ListN.{length}
use borrow.Author.Tests.{lt-ltb, le-ltb, ltb-true, ltb-false, ne_eqb}
use Rattle.encoding.specs.Rows.{Row, row, first, in_order}
use Rattle.encoding.specs.Slices.{fits, write}
use Rattle.metadata.specs.Names.{Name}
use Rattle.metadata.specs.Bytes.{dictionary_names}
use Rattle.lexicon.specs.Dictionary.{is_dictionary, most_bytes}
use Rattle.lexicon.proofs.DictionaryLaws.{reads_names}
use Rattle.grammar.specs.Grammar.{Shape, ReadsPair, most_containers}
use Rattle.grammar.specs.Tests.{is_value, pair_rows}
use Rattle.grammar.proofs.TestLaws.{reads_pair}
use Rattle.live.specs.Words.{words}
use Rattle.live.specs.Texts.{words_for}
use Rattle.text_search.specs.Search.{least_in, place_in}
use Rattle.text_search.proofs.SearchLaws.{least_read}
use Rattle.encoding.specs.declared.slices.NoRoom as room
use Rattle.path_words.specs.Descent.{path_in}
use Rattle.path_words.specs.Writing.{WritesWords}
use Rattle.path_words.proofs.DescentLaws.{words_read}
use Rattle.reader.specs.declared.errors.ReadError.{ReadError}
use Rattle.reader.specs.Answers.{error_number}
use Rattle.reader.proofs.AnswerLaws.{told}
use Rattle.finder.specs.declared.find.FindError.TheVariants.{Read, Missing, NoRoom}
use Rattle.finder.specs.Finds.{order_with_missing, find_rows, FindsText}

-- ---- the rows

pub find_order : (d v : List ℕ) (said : Option (List ℕ)) (out : List ℕ) → in_order order_with_missing (find_rows d v said out) ≡ true
find_order d v said out = refl

-- 19 and 20 before the others
pair_first : (d v : List ℕ) (rs : List Row) (n : ℕ) → n ≡ first (pair_rows d v) → (n ≡ 0 → ⊥) → n ≡ first (pair_rows d v ++ rs)
unfolding first
pair_first d v rs n = go (not (is_dictionary d)) (not (leb (length v) most_bytes && is_value (dictionary_names d) most_containers v))
  where
    go : (a b : Bool) → n ≡ first (row 19 a ∷ row 20 b ∷ []) → (n ≡ 0 → ⊥) → n ≡ first (row 19 a ∷ row 20 b ∷ rs)
    go true b e z = e
    go false true e z = e
    go false false e z = absurd (z e)

pair_passed : (d v : List ℕ) (rs : List Row) → first (pair_rows d v) ≡ 0 → first rs ≡ first (pair_rows d v ++ rs)
unfolding first
pair_passed d v rs = go (not (is_dictionary d)) (not (leb (length v) most_bytes && is_value (dictionary_names d) most_containers v))
  where
    go : (a b : Bool) → first (row 19 a ∷ row 20 b ∷ []) ≡ 0 → first rs ≡ first (row 19 a ∷ row 20 b ∷ rs)
    go true b e = absurd (omega arith)
    go false true e = absurd (omega arith)
    go false false e = refl

-- ---- the answers

module _ (d v wanted out : List ℕ) where
  pub find_refused : {x : ReadError} → error_number x ≡ first (pair_rows d v) → FindsText d v wanted out (Err (Read x)) out
  find_refused {x} e =
      let n = error_number x in
      let z = told x in
      let q = ne_eqb n 0 z in
      record {
        said = none;
        says = λ w mark names t y. absurd (z (e ∙ reads_pair y));
        number = pair_first d v _ n e z;
        written = rw q;
        bytes = rw q;
      }

  module _ (e : 0 ≡ first (pair_rows d v)) where
    -- the least place, or the value's length
    abbrev p : ℕ
    p = least_in most_containers wanted (length v) v

    -- what is said, by the least place
    abbrev ws : List ℕ
    ws = words (path_in most_containers (dictionary_names d) p v)

    abbrev said_at : Option (List ℕ)
    said_at = cond (ltb p (length v)) (some ws) none

    says_at : (w : ℕ) (mark : Bool) (names : List Name) (t : Shape) → ReadsPair d v w mark names t → said_at ≡ words_for names t wanted
    says_at w mark names t x =
        rw (reads_names x.first, least_read names v wanted t x.second) (sym (words_read names v wanted t x.second))

    find_missing : length v ≤ p → FindsText d v wanted out (Err Missing) out
    unfolding first
    find_missing h =
        let u : said_at ≡ none = rw (le-ltb p (length v) h) in
        record {
          said = none;
          says = λ w mark names t x. sym u ∙ says_at w mark names t x;
          number = pair_passed d v (row 25 true ∷ row 14 (not (fits 0 0 (length out))) ∷ []) (sym e);
          written = refl;
          bytes = refl;
        }

    pub find_none : None ≡ place_in wanted v → FindsText d v wanted out (Err Missing) out
    find_none q = go (ltb p (length v)) refl q
      where
        go : (b : Bool) → ltb p (length v) ≡ b → None ≡ cond b (Some p) None → FindsText d v wanted out (Err Missing) out
        go true f q = absurd (cc)
        go false f q = find_missing (ltb-false p (length v) f)

    -- a place that is found is the least
    pub found_is : {k : ℕ} → Some k ≡ place_in wanted v → (k ≡ p) × (p < length v)
    found_is {k} q = go (ltb p (length v)) refl q
      where
        go : (b : Bool) → ltb p (length v) ≡ b → Some k ≡ cond b (Some p) None → (k ≡ p) × (p < length v)
        go true f q = (cc, ltb-true p (length v) f)
        go false f q = absurd (cc)

    module _ (h : p < length v) {r : Result ℕ room.NoRoom} {after : List ℕ} (w : WritesWords ws out r after) where
      said_some : (u : ℕ) (mark : Bool) (names : List Name) (t : Shape) → ReadsPair d v u mark names t → some ws ≡ words_for names t wanted
      said_some u mark names t x = let k : said_at ≡ some ws = rw (lt-ltb p (length v) h) in sym k ∙ says_at u mark names t x

      -- the number where the words fit, or do not
      answered : (full : Bool) → cond full 14 0 ≡ first (pair_rows d v ++ (row 25 false ∷ row 14 full ∷ []))
      unfolding first
      answered full = pair_passed d v (row 25 false ∷ row 14 full ∷ []) (sym e)

      pub find_words : {k : ℕ} → r ≡ Ok k → FindsText d v wanted out (Ok k) after
      unfolding first
      find_words {k} i = go (fits 0 (length ws) (length out)) refl (rw i at w.number) (rw i at w.written) w.bytes
        where
          go : (b : Bool) → fits 0 (length ws) (length out) ≡ b → ◌≡◌ {A = ℕ} 0 (cond b 0 14) → k ≡ cond b (length ws) 0 → after ≡ cond b (write 0 ws out) out
              → FindsText d v wanted out (Ok k) after
          go true f n s b = record { said = some ws; says = said_some; number = rw f (answered (not true)); written = s; bytes = b }
          go false f n s b = absurd (omega arith)

      pub find_no_room : {x : room.NoRoom} → r ≡ Err x → FindsText d v wanted out (Err NoRoom) after
      unfolding first
      find_no_room {x} i = go (fits 0 (length ws) (length out)) refl (rw i at w.number) w.bytes
        where
          go : (b : Bool) → fits 0 (length ws) (length out) ≡ b → ◌≡◌ {A = ℕ} 14 (cond b 0 14) → after ≡ cond b (write 0 ws out) out → FindsText d v wanted out (Err NoRoom) after
          go true f n b = absurd (omega arith)
          go false f n b = record { said = some ws; says = said_some; number = rw f (answered (not false)); written = refl; bytes = b }

-- A finish by its rows, and by the answer of the dictionary.
use mathlib.Core.Path.{◌≡◌, refl, sym, ◌∙◌, ap}
use mathlib.Core.Bool.{Bool, true, false, cond, not}
use mathlib.Core.List.{List}
use Prim.Native.Nat.{ℕ}
use native.Mathlib.Omega.{arith}
use lib.Dec.{eqb, leb}
use lib.ListN.{length}
use borrow.Author.Tests.{ne_eqb, not-false}
use Rattle.encoding.specs.Rows.{first}
use Rattle.encoding.specs.Slices.{counted}
use Rattle.metadata.specs.declared.FinishError.{FinishError}
use Rattle.metadata.specs.Names.{intact, field_names, text_size}
use Rattle.metadata.specs.Bytes.{size_of}
use Rattle.metadata.specs.Calls.{FinishesDictionary, finish_number, finishes}
use Rattle.metadata.proofs.BytesLaws.{dictionary_size, length_names, length_joined_names}
use Rattle.semantics.specs.declared.View.{View}
use Rattle.semantics.specs.Record.{Storage, finish, is_open, names_held}
use Rattle.semantics.specs.Damage.{damaged, fallen_ends}
use Rattle.semantics.specs.Table.{number_of}
use Rattle.semantics.specs.Step.{dictionary_of, finished}
use Rattle.refusals.specs.Decide.{broken_of, finish_by}
use Rattle.refusals.proofs.ViewLaws.{broken_finish, broken_number, damaged_none, ends_read, past}
use Rattle.std.specs.Prelude.{Result, Ok, Err}
use Rattle.semantics.specs.declared.refusal.Refusal.{Refusal}
use Rattle.semantics.specs.Refusal.{refusal_number}
use Rattle.semantics.proofs.RefusalLaws.{number_some, then_none, then_ok}
use Rattle.actions.specs.declared.Ended.{Ended}
use Rattle.actions.specs.Actions.{Ends, ended_to}

-- a refused finish leaves its output
ends_refused : {v : View} {l : Storage} {out : List ℕ} {e f : Refusal} {r : Result Ended Refusal} → refusal_number e ≡ number_of v l (finish out) → r ≡ Err f → f ≡ e → Ends v l out r out
ends_refused {v} {l} {out} {e} n q i =
    let z = ne_eqb (number_of v l (finish out)) 0 (λ p. number_some e (n ∙ p)) in
    rw (q, i) (record { number = n; ended = then_none _ e n; output = rw z })

-- and one that is not gives what the definition says
pub ended_ok : {v : View} {l : Storage} {out left : List ℕ} {r : Result Ended Refusal} → Ends v l out r left → number_of v l (finish out) ≡ 0 → r ≡ Ok (ended_to v l)
ended_ok {r = r} w = then_ok _ r w.number w.ended

-- ---- by `finish_by`: rows 2, 4 and 15, with row 1 where one of them holds, else of row 1 what every call asks

-- its number where the latter does not hold is the first of the four rows'
four_rows : (m f o d : Bool) (z n : ℕ) → (let late : ℕ = cond f 2 (cond o 4 (cond d 15 0)) in n ≡ cond (eqb late 0) 0 (cond m 1 late)) → (n ≡ 0 → ⊥)
    → n ≡ cond m 1 (cond f 2 (cond o 4 (cond d 15 z)))
four_rows m true o d z n e q = e
four_rows m false true d z n e q = e
four_rows m false false true z n e q = e
four_rows m false false false z n e q = absurd (q e)

-- and so that of the call
early_number : (v : View) (l : Storage) (out : List ℕ) {n : ℕ} → n ≡ finish_by v l out → (n ≡ 0 → ⊥) → broken_of v l ≡ false → n ≡ number_of v l (finish out)
unfolding first number_of
early_number v l out {n} e q b = four_rows (damaged v l (fallen_ends v l)) v.counts.finished (is_open v) (eqb v.counts.value 0) _ n (rw b at e) q

-- one of them holds: it is the number
pub finishes_early : {v : View} {l : Storage} {out : List ℕ} {e f : Refusal} {r : Result Ended Refusal} → refusal_number e ≡ finish_by v l out → r ≡ Err f → f ≡ e → Ends v l out r out
finishes_early {v} {l} {out} {e} n q i = ends_refused (go (broken_of v l) refl) q i
  where
    go : (b : Bool) → broken_of v l ≡ b → refusal_number e ≡ number_of v l (finish out)
    go true b = n ∙ (broken_finish v l out b ∙ sym (broken_number v l (finish out) b))
    go false b = early_number v l out n (number_some e) b

-- none of them holds: the name ends and row 16 are left, which the dictionary asks
pub record Finishable (v : View) (l : Storage) (out : List ℕ) : Type 0 where
  pub number : number_of v l (finish out) ≡ finishes v.counts.floor v.counts.dictionary l.text l.ends out

-- the tests that then do not hold
none_holds : (b m f o d : Bool) → (let late : ℕ = cond f 2 (cond o 4 (cond d 15 0)) in cond (eqb late 0) (cond b 1 0) (cond m 1 late) ≡ 0)
    → (b ≡ false) × (f ≡ false) × (o ≡ false) × (d ≡ false)
none_holds b m true o d e = let z = (past m 0 2 e).1 in absurd (omega arith)
none_holds b m false true d e = let z = (past m 0 4 e).1 in absurd (omega arith)
none_holds b m false false true e = let z = (past m 0 15 e).1 in absurd (omega arith)
none_holds b m false false false e = ((past b 0 0 e).0, refl, refl, refl)

-- as the code finds it
pub finishable : {v : View} {l : Storage} {out : List ℕ} → finish_by v l out ≡ 0 → Finishable v l out
unfolding first number_of finishes fallen_ends
finishable {v} {l} {out} q =
    let c = none_holds (broken_of v l) (damaged v l (fallen_ends v l)) v.counts.finished (is_open v) (eqb v.counts.value 0) q in
    let d = damaged_none v l (fallen_ends v l) c.0 in
    record { number = rw (d, c.1, c.2, c.3, ends_read v l c.0) (go (leb (size_of v.counts.floor (field_names v.counts.dictionary) (text_size v.counts.dictionary)) (counted (length out)))) }
  where
    go : (t : Bool) → ◌≡◌ {A = ℕ} (cond (fallen_ends v l) 1 (cond (not t) 16 0)) (cond (fallen_ends v l) 1 (cond t 0 16))
    go true = refl
    go false = refl

-- ---- the name ends and row 16: by the dictionary's answer

-- the dictionary's size
dictionary_bytes_lem : (v : View) (l : Storage) → intact v.counts.dictionary l.text l.ends ≡ true → length (dictionary_of v l) ≡ size_of v.counts.floor (field_names v.counts.dictionary) (text_size v.counts.dictionary)
unfolding dictionary_of
dictionary_bytes_lem v l i =
    let m = v.counts.dictionary in
    dictionary_size v.counts.floor (names_held v l) ∙ (rw (length_names m l.text l.ends i, length_joined_names m l.text l.ends i))

-- one that is written has intact name ends
written_intact : (v : View) (l : Storage) (out : List ℕ) → finishes v.counts.floor v.counts.dictionary l.text l.ends out ≡ 0 → intact v.counts.dictionary l.text l.ends ≡ true
unfolding finishes
written_intact v l out e = not-false _ (past (not (intact v.counts.dictionary l.text l.ends)) 0 _ e).0

module _ {v : View} {l : Storage} {out : List ℕ} {r : Result ℕ FinishError} {left : List ℕ} (k : Finishable v l out) (f : FinishesDictionary v.counts.floor v.counts.dictionary l.text l.ends out r left) where
  same_number : {n : ℕ} → finish_number r ≡ n → finishes v.counts.floor v.counts.dictionary l.text l.ends out ≡ n
  same_number e = sym f.number ∙ e

  -- carried out
  pub ends_written : {size : ℕ} → r ≡ Ok size → Ends v l out (Ok (record { counts = finished v.counts; written = size })) left
  unfolding dictionary_of finished
  ends_written {size} e =
      let z = same_number (ap finish_number e) in
      let s : size ≡ size_of v.counts.floor (field_names v.counts.dictionary) (text_size v.counts.dictionary) = rw (z, e) at f.size in
      record {
        number = sym (k.number ∙ z);
        ended = rw (k.number, z, s ∙ sym (dictionary_bytes_lem v l (written_intact v l out z)));
        output = rw (k.number, z) (rw z at f.bytes);
      }

  -- refused, with the dictionary's number
  pub ends_none : (n : Refusal) → finish_number r ≡ refusal_number n → Ends v l out (Err n) left
  ends_none n e =
      let z = same_number e in
      rw (f.bytes, z, ne_eqb (refusal_number n) 0 (number_some n)) (ends_refused (sym (k.number ∙ z)) refl refl)

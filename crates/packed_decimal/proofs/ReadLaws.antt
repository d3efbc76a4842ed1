-- What reading finds: the digits passed one by one, the number that they make, and the answers.
use mathlib.Core.Path.{◌≡◌, refl, sym, ◌∙◌, ap}
use mathlib.Core.Bool.{Bool, true, false, not, ◌||◌, true≢false, or-false, or-true}
use mathlib.Core.List.{List, [], ◌∷◌, ◌++◌}
use mathlib.Core.Option.{some}
use Prim.Native.Nat.{ℕ, ◌+◌, ◌-◌, ◌*◌, ◌/◌, ◌%◌, ◌^◌, ◌≤◌, ◌<◌, min}
use native.Mathlib.Omega.{arith}
use lib.Dec.{leb, ltb, eqb, lit<}
use lib.IntN.{nat_abs}
use lib.ListN.{length, length-append}
use lib.Seq.{get_or-append_seam}
use borrow.Author.Tests.{ltb-true, ltb-false, lt-ltb, le-ltb, le-leb, eqb-false, eq-eqb, ne_eqb, not-false}
use Rattle.value.specs.declared.variant.Variant.{Variant}
use Rattle.encoding.specs.Rows.{first}
use Rattle.std.specs.List.{fold, list_any}
use Rattle.packed_decimal.specs.Capped.{limit, with_pair}
use Rattle.packed_decimal.specs.PackedDecimal.{digits, digit_above9, continued, magnitude, not_packed, packed_value}
use Rattle.packed_decimal.specs.PackedDecimal.{is_minus, is_plus, sign, signed, smallest}
use Rattle.packed_decimal.specs.Calls.{ReadsPacked, too_large}
use Rattle.std.specs.Prelude.{Ok, Err}
use Rattle.packed_decimal.specs.declared.read.PackedError.TheVariants.{NotPacked, OutOfRange}
use Rattle.packed_decimal.proofs.StoredLaws.{abs_signed}

-- ---- the last byte, and those before it

pub length_form : (ps : List ℕ) (b : ℕ) → length (ps ++ (b ∷ [])) ≡ length ps + 1
length_form ps b = length-append ps (b ∷ [])

pub last_sign : (ps : List ℕ) (b : ℕ) → b % 16 ≡ sign (ps ++ (b ∷ []))
unfolding sign
last_sign ps b = let n = length_form ps b in let e : length (ps ++ (b ∷ [])) - 1 ≡ length ps = omega arith in rw (e, get_or-append_seam)

-- a byte with a digit above 9
abbrev above : ℕ → Bool
above b = ltb 9 (b / 16) || ltb 9 (b % 16)

above_pairs : (ps : List ℕ) (b : ℕ) → (list_any above ps || ltb 9 (b / 16)) ≡ digit_above9 (digits (ps ++ (b ∷ [])))
unfolding digits digit_above9
above_pairs [] b = sym (or-false (ltb 9 (b / 16)))
above_pairs (p ∷ []) b = go (ltb 9 (p / 16)) (ltb 9 (p % 16))
  where
    go : (s t : Bool) → (((s || t) || false) || ltb 9 (b / 16)) ≡ (s || (t || (ltb 9 (b / 16) || false)))
    go true t = refl
    go false true = refl
    go false false = sym (or-false (ltb 9 (b / 16)))
above_pairs (p ∷ q ∷ ps) b = go (ltb 9 (p / 16)) (ltb 9 (p % 16)) (above_pairs (q ∷ ps) b)
  where
    go : (s t : Bool) → (list_any above (q ∷ ps) || ltb 9 (b / 16)) ≡ digit_above9 (digits (q ∷ (ps ++ (b ∷ []))))
        → (((s || t) || list_any above (q ∷ ps)) || ltb 9 (b / 16)) ≡ (s || (t || digit_above9 (digits (q ∷ (ps ++ (b ∷ []))))))
    go true t i = refl
    go false true i = refl
    go false false i = i

pub above_first : (ps : List ℕ) (b : ℕ) {t : Bool} → t ≡ list_any above ps → t ≡ true → t ≡ digit_above9 (digits (ps ++ (b ∷ [])))
above_first ps b p e = e ∙ (rw (sym p ∙ e) at (above_pairs ps b))

pub above_last : (ps : List ℕ) (b : ℕ) {t : Bool} → t ≡ list_any above ps → t ≡ false → ltb 9 (b / 16) ≡ digit_above9 (digits (ps ++ (b ∷ [])))
above_last ps b p e = rw (sym p ∙ e) at (above_pairs ps b)

-- ---- the number that the digits make

-- cut off at a limit, a number goes on as if it were not
kept : (l a d : ℕ) → min (min a l * 10 + d) l ≡ min (a * 10 + d) l
kept l a d = omega arith

pair_kept : (l a d e : ℕ) → min (min (min a l * 10 + d) l * 10 + e) l ≡ min ((a * 10 + d) * 10 + e) l
pair_kept l a d e = rw (kept l a d) (kept l (a * 10 + d) e)

pub made_of : (a : ℕ) (ps : List ℕ) (b : ℕ) → min (fold with_pair (min a limit) ps * 10 + b / 16) limit ≡ min (continued a (digits (ps ++ (b ∷ [])))) limit
unfolding digits continued
made_of a [] b = kept limit a (b / 16)
made_of a (p ∷ []) b =
    let n = (a * 10 + p / 16) * 10 + p % 16 in
    ap (λ m. min (m * 10 + b / 16) limit) (pair_kept limit a (p / 16) (p % 16)) ∙ kept limit n (b / 16)
made_of a (p ∷ q ∷ ps) b =
    let n = (a * 10 + p / 16) * 10 + p % 16 in
    ap (λ m. min (fold with_pair m (q ∷ ps) * 10 + b / 16) limit) (pair_kept limit a (p / 16) (p % 16)) ∙ made_of n (q ∷ ps) b

pub neither : (s : Bool) {t : Bool} → (s || t) ≡ false → (s ≡ false) × (t ≡ false)
neither true e = absurd (true≢false e)
neither false e = (refl, e)

-- ---- which bytes are packed decimal

pub record Packed (bs : List ℕ) : Type 0 where
  pub some : 0 < length bs
  pub few : length bs ≤ 20
  pub small : digit_above9 (digits bs) ≡ false
  pub signs : (is_plus (sign bs) || is_minus (sign bs)) ≡ true

pub packed : (bs : List ℕ) → not_packed bs ≡ false → Packed bs
unfolding not_packed
packed bs e =
    let a = neither (eqb (length bs) 0) e in
    let b = neither (ltb 20 (length bs)) a.1 in
    let c = neither (digit_above9 (digits bs)) b.1 in
    let n = eqb-false (length bs) 0 a.0 in
    record { some = omega arith; few = ltb-false 20 (length bs) b.0; small = c.0; signs = not-false _ c.1 }

pub packed_holds : {bs : List ℕ} → Packed bs → not_packed bs ≡ false
unfolding not_packed
packed_holds {bs} p =
    let n = p.some in
    rw (ne_eqb (length bs) 0 (λ z. absurd (omega arith)), le-ltb 20 (length bs) p.few, p.small, p.signs)

pub without_bytes : (bs : List ℕ) → length bs ≡ 0 → true ≡ not_packed bs
unfolding not_packed
without_bytes bs h = rw (eq-eqb (length bs) 0 h)

-- the bytes before the last, a digit or the sign tells
pub many_tell : (ps : List ℕ) (b : ℕ) → 20 ≤ length ps → leb 20 (length ps) ≡ not_packed (ps ++ (b ∷ []))
unfolding not_packed
many_tell ps b h =
    let n = length_form ps b in
    rw (le-leb 20 (length ps) h, lt-ltb 20 (length (ps ++ (b ∷ []))) (omega arith), or-true)

pub digit_tells : (ps : List ℕ) (b : ℕ) {d : Bool} → d ≡ digit_above9 (digits (ps ++ (b ∷ []))) → d ≡ true → d ≡ not_packed (ps ++ (b ∷ []))
unfolding not_packed
digit_tells ps b p e = e ∙ rw (sym p ∙ e, or-true, or-true)

pub sign_tells : (ps : List ℕ) (b : ℕ) {d s : Bool} → length ps < 20 → d ≡ digit_above9 (digits (ps ++ (b ∷ []))) → d ≡ false
    → s ≡ (is_plus (sign (ps ++ (b ∷ []))) || is_minus (sign (ps ++ (b ∷ [])))) → not s ≡ not_packed (ps ++ (b ∷ []))
unfolding not_packed
sign_tells ps b h p e q =
    let bs = ps ++ (b ∷ []) in
    let n = length_form ps b in
    rw (ne_eqb (length bs) 0 (λ z. absurd (omega arith)), le-ltb 20 (length bs) (omega arith), sym p ∙ e, q)

-- ---- the answers

-- below the limit a number that was cut off is whole
cut_test : (m l n : ℕ) → m < l → ltb m (min n l) ≡ ltb m n
cut_test m l n h = go (ltb m n) refl
  where
    go : (t : Bool) → ltb m n ≡ t → ltb m (min n l) ≡ t
    go true e = let g = ltb-true m n e in lt-ltb m (min n l) (omega arith)
    go false e = let g = ltb-false m n e in le-ltb m (min n l) (omega arith)

cut_whole : (m l n v : ℕ) → m < l → v ≡ min n l → v ≤ m → v ≡ n
cut_whole m l n v h e k = omega arith

pub abs_packed : (bs : List ℕ) → nat_abs (packed_value bs) ≡ magnitude bs
unfolding packed_value
abs_packed bs = abs_signed (is_minus (sign bs)) (magnitude bs)

pub not_packed_lem : {bs : List ℕ} {scale : ℕ} → not_packed bs ≡ true → ReadsPacked bs scale (Err NotPacked)
unfolding first
not_packed_lem e = record { number = rw e; variant = rw e }

-- bytes that are packed, their number up to the limit, and the test of 7 on it
pub record Measured (bs : List ℕ) (scale n : ℕ) (t : Bool) : Type 0 where
  pub good : not_packed bs ≡ false
  pub is : n ≡ min (magnitude bs) limit
  pub test : t ≡ (ltb 38 scale || ltb (10 ^ 38 - 1) n)

module _ {bs : List ℕ} {scale n : ℕ} {t : Bool} (m : Measured bs scale n t) where
  same_large : t ≡ too_large scale (packed_value bs)
  same_large = m.test ∙ rw (m.is, abs_packed bs, cut_test (10 ^ 38 - 1) limit (magnitude bs) (lit< tt))

  pub too_large_lem : t ≡ true → ReadsPacked bs scale (Err OutOfRange)
  unfolding first
  too_large_lem f = let g = sym same_large ∙ f in record { number = rw (m.good, g); variant = rw (m.good, g) }

  pub within : t ≡ false → n ≤ 10 ^ 38 - 1
  within f = ltb-false (10 ^ 38 - 1) n (neither (ltb 38 scale) (sym m.test ∙ f)).1

  pub stored : t ≡ false → {r : Variant} → r ≡ smallest scale (signed (is_minus (sign bs)) n) → ReadsPacked bs scale (Ok r)
  unfolding first packed_value
  stored f q =
      let g = sym same_large ∙ f in
      let e = cut_whole (10 ^ 38 - 1) limit (magnitude bs) n (lit< tt) m.is (within f) in
      record { number = rw (m.good, g); variant = rw (m.good, g) (ap some (q ∙ ap (λ k. smallest scale (signed (is_minus (sign bs)) k)) e)) }

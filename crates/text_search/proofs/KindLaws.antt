-- A value by its kind: whether it is a wanted text, and what the search in it is.
use mathlib.Core.Path.{◌≡◌, refl, sym, ◌∙◌, ap}
use mathlib.Core.Bool.{Bool, true, false, cond, ◌&&◌, true≢false}
use mathlib.Core.List.{List, [], ◌∷◌}
use Prim.Native.Nat.{ℕ, zero, suc, ◌+◌, ◌-◌, ◌*◌, ◌%◌, ◌≤◌}
use native.Mathlib.Omega.{arith}
use lib.Dec.{eqb}
use lib.Pointwise.{pointwise}
use lib.ListN.{length, take, drop, get_or, drop_of_length-le}
use borrow.Author.Tests.{eq-eqb, ne_eqb, eqb-true, eqb-false}
use Rattle.value.specs.Scalar.{Stored, primitive, short, Scalar, first_byte, scalar_bytes}
use Rattle.metadata.specs.Names.{same}
use Rattle.grammar.specs.Tests.{list_from, object_offsets}
use Rattle.grammar.proofs.ShapeLaws.{first_low}
use Rattle.header_reader.proofs.StartLaws.{rest_is}
use Rattle.header_reader.proofs.HeadLaws.{first_none}
use Rattle.live.specs.Live.{text, other, leaf_by, leaf_of}
use Rattle.live.specs.Ways.{is_wanted}
use Rattle.text_search.specs.Search.{is_text, elements_in, fields_in, least_in}

-- ---- `==` of bytes is `same`

same_pointwise : (a b : List ℕ) → pointwise eqb a b ≡ same a b
unfolding same
same_pointwise [] [] = refl
same_pointwise [] (y ∷ ys) = refl
same_pointwise (x ∷ xs) [] = refl
same_pointwise (x ∷ xs) (y ∷ ys) = ap (λ t. eqb x y && t) (same_pointwise xs ys)

same_none : (b : List ℕ) → eqb (length b) 0 ≡ same [] b
unfolding same
same_none [] = refl
same_none (y ∷ ys) = ne_eqb (length (y ∷ ys)) 0 (λ e. absurd (omega arith))

module _ (wanted v : List ℕ) where
  abbrev kind : ℕ
  kind = get_or v 0 0 % 4

  -- ---- whether it is the text

  -- behind the first byte, as the code cuts it
  pub text_short : {t : Bool} → kind ≡ 1 → t ≡ pointwise eqb (take (length v - 1) (drop 1 v)) wanted → t ≡ is_text wanted v
  unfolding is_text
  text_short k s = s ∙ (rw (eq-eqb kind 1 k, rest_is v 1) (same_pointwise (drop 1 v) wanted))

  -- behind the length
  pub text_long : {t : Bool} → (kind ≡ 1 → ⊥) → get_or v 0 0 ≡ 64 → t ≡ pointwise eqb (take (length v - 5) (drop 5 v)) wanted → t ≡ is_text wanted v
  unfolding is_text
  text_long k f s = s ∙ (rw (ne_eqb kind 1 k, eq-eqb (get_or v 0 0) 64 f, rest_is v 5) (same_pointwise (drop 5 v) wanted))

  -- no bytes behind a length that is cut off
  pub text_cut : {t : Bool} → (kind ≡ 1 → ⊥) → get_or v 0 0 ≡ 64 → length v ≤ 5 → t ≡ eqb (length wanted) 0 → t ≡ is_text wanted v
  unfolding is_text
  text_cut k f l s = s ∙ (rw (ne_eqb kind 1 k, eq-eqb (get_or v 0 0) 64 f, drop_of_length-le v {i = 5} l) (same_none wanted))

  pub text_other : (kind ≡ 1 → ⊥) → (get_or v 0 0 ≡ 64 → ⊥) → false ≡ is_text wanted v
  unfolding is_text
  text_other k f = rw (ne_eqb kind 1 k, ne_eqb (get_or v 0 0) 64 f)

  -- no bytes are none
  pub text_none : length v ≡ 0 → false ≡ is_text wanted v
  text_none e = let f = (first_none v e).0 in text_other (λ k. absurd (omega arith)) (λ k. absurd (omega arith))

  -- a list or an object is none
  text_nested : 2 ≤ kind → is_text wanted v ≡ false
  text_nested h = sym (text_other (λ e. absurd (omega arith)) (λ e. absurd (omega arith)))

  -- ---- the search in it

  module _ (depth best : ℕ) where
    least_plain : (kind ≡ 3 → ⊥) → (kind ≡ 2 → ⊥) → least_in depth wanted best v ≡ cond (is_text wanted v) 0 best
    unfolding least_in
    least_plain h k = go depth
      where
        go : (d : ℕ) → least_in d wanted best v ≡ cond (is_text wanted v) 0 best
        go zero = refl
        go (suc d) = rw (ne_eqb kind 3 h, ne_eqb kind 2 k)

    -- the answers of the code
    pub least_text : {t : Bool} → t ≡ is_text wanted v → t ≡ true → (0 ≡ least_in depth wanted best v) × (0 ≤ best)
    least_text e q =
        let i : is_text wanted v ≡ true = sym e ∙ q in
        let plain : 2 ≤ kind → ⊥ = λ h. true≢false (sym i ∙ text_nested h) in
        (rw (least_plain (λ z. plain (omega arith)) (λ z. plain (omega arith)), i) refl, omega arith)

    pub least_other : {t : Bool} → t ≡ is_text wanted v → t ≡ false → (kind ≡ 3 → ⊥) → (kind ≡ 2 → ⊥)
        → (best ≡ least_in depth wanted best v) × (best ≤ best)
    least_other e q h k = let i : is_text wanted v ≡ false = sym e ∙ q in (rw (least_plain h k, i) refl, omega arith)

    pub least_none : {t : Bool} → t ≡ is_text wanted v → t ≡ false → length v ≡ 0 → (best ≡ least_in depth wanted best v) × (best ≤ best)
    least_none e q z = let f = (first_none v z).0 in least_other e q (λ k. absurd (omega arith)) (λ k. absurd (omega arith))

    pub least_deep : 2 ≤ kind → depth ≡ 0 → (best ≡ least_in depth wanted best v) × (best ≤ best)
    unfolding least_in
    least_deep h z = (rw (z, text_nested h) refl, omega arith)

    module _ (k : depth ≡ 0 → ⊥) where
      pub least_list : kind ≡ 3 → least_in depth wanted best v ≡ elements_in (least_in (depth - 1) wanted) (length v) v (list_from v) best
      unfolding least_in
      least_list h = let z : depth ≡ suc (depth - 1) = omega arith in ap (λ d. least_in d wanted best v) z ∙ (rw (eq-eqb kind 3 h))

      pub least_object : kind ≡ 2 → least_in depth wanted best v ≡ fields_in (least_in (depth - 1) wanted) v best (object_offsets v)
      unfolding least_in
      least_object h =
          let z : depth ≡ suc (depth - 1) = omega arith in
          ap (λ d. least_in d wanted best v) z ∙ (rw (ne_eqb kind 3 (λ e. absurd (omega arith)), eq-eqb kind 2 h))

-- ---- a scalar's bytes

text_stored : (wanted : List ℕ) (k : Stored) (payload : List ℕ) → is_text wanted (first_byte k (length payload) ∷ payload) ≡ is_wanted wanted (leaf_by k payload)
unfolding is_text leaf_by
text_stored wanted short payload = rw (eq-eqb ((4 * length payload + 1) % 4) 1 (omega arith))
text_stored wanted (primitive c) payload = rw (ne_eqb (4 * c % 4) 1 (λ e. absurd (omega arith))) (go (eqb c 16) refl)
  where
    kept : Scalar
    kept = record { stored_type = primitive c; payload = payload }

    go : (t : Bool) → eqb c 16 ≡ t → (eqb (4 * c) 64 && same (drop 4 payload) wanted) ≡ is_wanted wanted (cond t (text (drop 4 payload)) (other kept))
    go true e = let z = eqb-true c 16 e in rw (eq-eqb (4 * c) 64 (omega arith))
    go false e = let z = eqb-false c 16 e in rw (ne_eqb (4 * c) 64 (λ q. z (omega arith)))

pub least_leaf_lem : (wanted : List ℕ) (d best : ℕ) (s : Scalar) → least_in d wanted best (scalar_bytes s) ≡ cond (is_wanted wanted (leaf_of s)) 0 best
unfolding scalar_bytes
least_leaf_lem wanted d best s =
    let low = first_low s.stored_type (length s.payload) in
    least_plain wanted (first_byte s.stored_type (length s.payload) ∷ s.payload) d best (λ e. absurd (omega arith)) (λ e. absurd (omega arith))
    ∙ ap (λ t. cond t 0 best) (text_stored wanted s.stored_type s.payload)

-- The starts of values, and offsets beside them.
use mathlib.Core.Path.{◌≡◌, refl, sym, ◌∙◌, ap}
use mathlib.Core.Bool.{Bool, true, false, cond, ◌||◌}
use mathlib.Core.List.{List, [], ◌∷◌}
use Prim.Native.Nat.{ℕ, zero, suc, ◌+◌, ◌-◌, ◌≤◌, ◌<◌}
use native.Mathlib.Omega.{arith}
use lib.Dec.{eqb}
use lib.ListN.{length, take, drop, length-drop}
use lib.Seq.{drop-drop, length-take-le, take_all}
use borrow.Author.Tests.{ne_eqb, eqb-false}
use Rattle.std.specs.Prelude.{Some, None}
use Rattle.measure.specs.Measure.{measured, some_length}
use Rattle.measure.proofs.MeasureLaws.{measured_within}
use Rattle.grammar.proofs.LengthLaws.{length_is, length_none}
use Rattle.grammar.specs.Grammar.{starts_from, among}
use Rattle.grammar.specs.Tests.{cut_by, starts_of}
use Rattle.header_reader.specs.Heads.{value_from}
use Rattle.header_reader.specs.Windows.{starts_at, is_start}

-- ---- values cut off the data

cut_none : (n : ℕ) (bytes : List ℕ) → measured bytes ≡ 0 → cut_by n bytes ≡ []
unfolding cut_by
cut_none zero bytes e = refl
cut_none (suc n) bytes e = rw e

-- fuel for each byte is enough
cut_fuel : (n m : ℕ) (bytes : List ℕ) → length bytes ≤ n → length bytes ≤ m → cut_by n bytes ≡ cut_by m bytes
unfolding cut_by
cut_fuel zero m bytes h k = sym (cut_none m bytes (omega (arith, measured_within bytes)))
cut_fuel (suc n) zero bytes h k = cut_none (suc n) bytes (omega (arith, measured_within bytes))
cut_fuel (suc n) (suc m) bytes h k = go (cut_fuel n m (drop (measured bytes) bytes)) (eqb (measured bytes) 0) refl
  where
    go : let rest = drop (measured bytes) bytes in (length rest ≤ n → length rest ≤ m → cut_by n rest ≡ cut_by m rest) → (t : Bool) → eqb (measured bytes) 0 ≡ t
        → cond t [] (take (measured bytes) bytes ∷ cut_by n (drop (measured bytes) bytes)) ≡ cond t [] (take (measured bytes) bytes ∷ cut_by m (drop (measured bytes) bytes))
    go f true e = refl
    go f false e =
        let z = eqb-false (measured bytes) 0 e in
        let l = length-drop (measured bytes) bytes in
        let y = measured_within bytes in
        ap (λ r. take (measured bytes) bytes ∷ r) (f (omega arith) (omega arith))

cut_more : (k : ℕ) (bytes : List ℕ) → 0 < measured bytes → length bytes ≤ k → cut_by k bytes ≡ take (measured bytes) bytes ∷ cut_by k (drop (measured bytes) bytes)
unfolding cut_by
cut_more zero bytes h k = absurd (omega (arith, measured_within bytes))
cut_more (suc n) bytes h k =
    let rest = drop (measured bytes) bytes in
    let l = length-drop (measured bytes) bytes in
    let f : cut_by n rest ≡ cut_by (suc n) rest = cut_fuel n (suc n) rest (omega arith) (omega arith) in
    rw (ne_eqb (measured bytes) 0 (omega arith)) (ap (λ r. take (measured bytes) bytes ∷ r) f)

pub starts_none : (vs : List ℕ) (at : ℕ) → measured (drop at vs) ≡ 0 → starts_at vs at ≡ []
unfolding starts_at starts_from
starts_none vs at e = rw (cut_none (length vs) (drop at vs) e)

pub starts_more : (vs : List ℕ) (at n : ℕ) → n ≡ measured (drop at vs) → 0 < n → starts_at vs at ≡ at ∷ starts_at vs (at + n)
unfolding starts_at starts_from
starts_more vs at n e h =
    let l = length-drop at vs in
    let m : length (take (measured (drop at vs)) (drop at vs)) ≡ measured (drop at vs) = length-take-le (measured (drop at vs)) (drop at vs) (measured_within (drop at vs)) in
    rw (cut_more (length vs) (drop at vs) (omega arith) (omega arith), m, ← e, drop-drop n at vs)

-- the rest of the data, as the code cuts it
pub rest_is : (vs : List ℕ) (at : ℕ) → take (length vs - at) (drop at vs) ≡ drop at vs
rest_is vs at = take_all (length vs - at) (drop at vs) (omega (arith, length-drop at vs))

pub value_of_rest : (v : List ℕ) (at : ℕ) {rest : List ℕ} {n : ℕ} → rest ≡ take (length v - at) (drop at v) → n ≡ measured rest → take n rest ≡ value_from at v
value_of_rest v at {rest} {n} e m =
    let r : rest ≡ drop at v = e ∙ rest_is v at in
    rw (m, r)

-- the next value, as the code measures it
pub walked : (vs : List ℕ) (at : ℕ) {n : ℕ} → Some n ≡ some_length (measured (take (length vs - at) (drop at vs))) → (n ≡ measured (drop at vs)) × (0 < n)
walked vs at e = let p = length_is (measured (take (length vs - at) (drop at vs))) e in (p.0 ∙ ap measured (rest_is vs at), p.1)

pub walked_none : (vs : List ℕ) (at : ℕ) → None ≡ some_length (measured (take (length vs - at) (drop at vs))) → measured (drop at vs) ≡ 0
walked_none vs at e = ap measured (sym (rest_is vs at)) ∙ length_none (measured (take (length vs - at) (drop at vs))) e

-- a value ends within the data
pub walked_within : (vs : List ℕ) (at n : ℕ) → at ≤ length vs → n ≡ measured (drop at vs) → at + n ≤ length vs
walked_within vs at n h e = omega (arith, measured_within (drop at vs), length-drop at vs)

-- ---- one of the starts

among_low : (x at : ℕ) (ps : List (List ℕ)) → x < at → among x (starts_from at ps) ≡ false
unfolding among starts_from
among_low x at [] h = refl
among_low x at (p ∷ ps) h = rw (ne_eqb x at (omega arith)) (among_low x (at + length p) ps (omega arith))

pub start_low : (vs : List ℕ) (x at : ℕ) → x < at → among x (starts_at vs at) ≡ false
unfolding starts_at
start_low vs x at h = among_low x at (cut_by (length vs) (drop at vs)) h

among_high : (k x at : ℕ) (bytes : List ℕ) → at + length bytes ≤ x → among x (starts_from at (cut_by k bytes)) ≡ false
unfolding among starts_from cut_by
among_high zero x at bytes h = refl
among_high (suc k) x at bytes h = go (eqb (measured bytes) 0) refl (among_high k x (at + length (take (measured bytes) bytes)) (drop (measured bytes) bytes))
  where
    rest : List ℕ
    rest = drop (measured bytes) bytes

    n : ℕ
    n = length (take (measured bytes) bytes)

    go : (t : Bool) → eqb (measured bytes) 0 ≡ t → (at + n + length rest ≤ x → among x (starts_from (at + n) (cut_by k rest)) ≡ false)
        → among x (starts_from at (cond t [] (take (measured bytes) bytes ∷ cut_by k rest))) ≡ false
    go true e f = refl
    go false e f =
        let z = eqb-false (measured bytes) 0 e in
        let w = measured_within bytes in
        let m = length-take-le (measured bytes) bytes w in
        let l = length-drop (measured bytes) bytes in
        rw (ne_eqb x at (omega arith)) (f (omega arith))

-- no value starts behind the data
pub start_high : (vs : List ℕ) (x : ℕ) → length vs ≤ x → is_start vs x ≡ false
unfolding starts_of
start_high vs x h = among_high (length vs) x 0 vs (omega arith)

pub among_more : (vs : List ℕ) (at n x : ℕ) → n ≡ measured (drop at vs) → 0 < n → among x (starts_at vs at) ≡ (eqb x at || among x (starts_at vs (at + n)))
unfolding among
among_more vs at n x e h = rw (starts_more vs at n e h)

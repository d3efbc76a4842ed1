-- Numbers read from one to four bytes; and from as many as are there.
use mathlib.Core.Path.{◌≡◌, refl, sym, ◌∙◌, ap}
use mathlib.Core.Bool.{Bool, true, false}
use mathlib.Core.List.{List, [], ◌∷◌}
use Prim.Native.Nat.{ℕ, zero, suc, ◌+◌, ◌-◌, ◌*◌, ◌<◌, min}
use native.Mathlib.Omega.{arith}
use lib.Dec.{leb}
use lib.ListN.{length, take, drop, get_or, length-drop, drop_of_length-le}
use lib.Seq.{drop-length, take_all, take-length}
use Rattle.std.proofs.lemmas.List.{take-take}
use borrow.Author.Tests.{leb-true, leb-false}
use Rattle.encoding.specs.Packed.{number}
use Rattle.measure.specs.Measure.{Numbered}

-- the number of four bytes at most; one that is not there counts 0
pub number_four : (bytes : List ℕ) → number (take 4 bytes) ≡ get_or bytes 0 0 + 256 * (get_or bytes 1 0 + 256 * (get_or bytes 2 0 + 256 * get_or bytes 3 0))
unfolding number
number_four [] = refl
number_four (a ∷ []) = refl
number_four (a ∷ b ∷ []) = refl
number_four (a ∷ b ∷ c ∷ []) = refl
number_four (a ∷ b ∷ c ∷ d ∷ l) = omega arith

pub four_joined : (r : ℕ) (bytes : List ℕ) → ((i : ℕ) → get_or bytes i 0 < 256)
    → r ≡ get_or bytes 0 0 + 256 * (get_or bytes 1 0 + 256 * (get_or bytes 2 0 + 256 * get_or bytes 3 0)) → (r ≡ number (take 4 bytes)) × (r < 4294967296)
four_joined r bytes s e = (e ∙ sym (number_four bytes), omega (arith, s 0, s 1, s 2, s 3))

take_there : (w : ℕ) (l : List ℕ) → take (min w (length l)) l ≡ take w l
take_there w l = go (leb w (length l)) refl
  where
    go : (t : Bool) → leb w (length l) ≡ t → take (min w (length l)) l ≡ take w l
    go true h = let k = leb-true w (length l) h in let e : min w (length l) ≡ w = omega arith in rw e
    go false h =
        let k = leb-false w (length l) h in
        let e : min w (length l) ≡ length l = omega arith in
        rw (e, take-length l) (sym (take_all w l (omega arith)))

drop_there : (at : ℕ) (v : List ℕ) → drop (min at (length v)) v ≡ drop at v
drop_there at v = go (leb at (length v)) refl
  where
    go : (t : Bool) → leb at (length v) ≡ t → drop (min at (length v)) v ≡ drop at v
    go true h = let k = leb-true at (length v) h in let e : min at (length v) ≡ at = omega arith in rw e
    go false h =
        let k = leb-false at (length v) h in
        let e : min at (length v) ≡ length v = omega arith in
        rw (e, drop-length v) (sym (drop_of_length-le v {i = at} (omega arith)))

take_fewer : (n : ℕ) (l : List ℕ) → take 4 (take n l) ≡ take (min n 4) l
take_fewer zero l = refl
take_fewer (suc zero) l = grind arith
take_fewer (suc (suc zero)) l = grind arith
take_fewer (suc (suc (suc zero))) l = grind arith
take_fewer (suc (suc (suc (suc n)))) l =
    let e : min (suc (suc (suc (suc n)))) 4 ≡ 4 = omega arith in rw e (take-take 4 (suc (suc (suc (suc n)))) l (omega arith))

-- as many bytes as are there, from a place within what is there; of them four at most
pub number_there : (v : List ℕ) (at size p k r : ℕ) → p ≡ min at (length v) → k ≡ min size (length (take (length v - p) (drop p v)))
    → (r ≡ number (take 4 (take k (take (length v - p) (drop p v))))) × (r < 4294967296) → Numbered v at (min size 4) r
number_there v at size p k r e f n =
    let rest : take (length v - p) (drop p v) ≡ drop at v = take_all (length v - p) (drop p v) (omega (arith, length-drop p v)) ∙ rw e (drop_there at v) in
    let few : take k (drop at v) ≡ take size (drop at v) = rw (f, rest) (take_there size (drop at v)) in
    record { value = n.0 ∙ (rw (rest, few) (ap number (take_fewer size (drop at v)))); small = n.1 }

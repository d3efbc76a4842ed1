-- A stored name is shorter than what four bytes count.
use mathlib.Core.List.{List, [], ◌∷◌}
use Prim.Native.Nat.{ℕ, zero, suc, ◌+◌, ◌-◌, ◌≤◌, ◌<◌}
use native.Mathlib.Omega.{arith}
use lib.ListN.{length, take, drop, get_or, length-take}
use Rattle.encoding.specs.Packed.{number}
use Rattle.encoding.proofs.PackedLaws.{Below}
use Rattle.metadata.specs.Names.{cuts}
use Rattle.metadata.specs.Bytes.{numbers}
use Rattle.lexicon.specs.Dictionary.{width_in, name_in}
use Rattle.lexicon.proofs.ByteLaws.{bytes_below, below_drop}
use Rattle.lexicon.proofs.TestLaws.{text_in, count_in, names_by}

-- the number in at most four bytes
number_four : (w : ℕ) (bytes : List ℕ) → Below 256 bytes → w ≤ 4 → number (take w bytes) < 4294967296
unfolding number
number_four zero bytes h k = omega arith
number_four (suc w) [] h k = omega arith
number_four (suc zero) (a ∷ bs) h k = omega (arith, h.0)
number_four (suc (suc w)) (a ∷ []) h k = omega (arith, h.0)
number_four (suc (suc zero)) (a ∷ (b ∷ bs)) h k = omega (arith, h.0, h.1.0)
number_four (suc (suc (suc w))) (a ∷ (b ∷ [])) h k = omega (arith, h.0, h.1.0)
number_four (suc (suc (suc zero))) (a ∷ (b ∷ (c ∷ bs))) h k = omega (arith, h.0, h.1.0, h.1.1.0)
number_four (suc (suc (suc (suc w)))) (a ∷ (b ∷ (c ∷ []))) h k = omega (arith, h.0, h.1.0, h.1.1.0)
number_four (suc (suc (suc (suc zero)))) (a ∷ (b ∷ (c ∷ (e ∷ bs)))) h k = omega (arith, h.0, h.1.0, h.1.1.0, h.1.1.1.0)
number_four (suc (suc (suc (suc (suc w))))) (a ∷ (b ∷ (c ∷ (e ∷ bs)))) h k = absurd (omega arith)

-- a part ends where a number says
cut_short : (k w at : ℕ) (bytes text : List ℕ) (id : ℕ) → Below 256 bytes → w ≤ 4 → length (get_or (cuts at (numbers w k bytes) text) id []) < 4294967296
unfolding cuts numbers
cut_short zero w at bytes text id h m = omega arith
cut_short (suc k) w at bytes text zero h m =
    let e = number (take w bytes) in
    omega (arith, number_four w bytes h m, length-take (e - at) (drop at text))
cut_short (suc k) w at bytes text (suc id) h m = cut_short k w (number (take w bytes)) (drop w bytes) text id (below_drop w bytes h) m

pub name_short : (d : List ℕ) (id : ℕ) → ((i : ℕ) → get_or d i 0 < 256) → length (name_in d id) < 4294967296
name_short d id h =
    let first = h 0 in
    let w = width_in d in
    rw (names_by d) (cut_short (count_in d) w 0 (drop (1 + w + w) d) (text_in d) id (below_drop (1 + w + w) d (bytes_below d h)) (omega arith))

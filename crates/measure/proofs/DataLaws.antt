-- The bytes from one place up to another.
use mathlib.Core.Path.{◌≡◌, refl, sym, ◌∙◌, ap}
use mathlib.Core.Bool.{Bool, true, false}
use mathlib.Core.List.{List, [], ◌∷◌}
use Prim.Native.Nat.{ℕ, zero, suc, ◌+◌, ◌-◌, min}
use native.Mathlib.Nat.{sub-zero, zero-sub, suc-sub-suc}
use native.Mathlib.Omega.{arith}
use lib.Dec.{leb}
use lib.ListN.{length, take, drop, length-take, length-drop, drop_of_length-le}
use lib.Seq.{take_all, take-nil, drop-drop}
use borrow.Author.Tests.{leb-true, leb-false}
use Rattle.measure.specs.Measure.{data_in}

pub length_data : (at end : ℕ) (l : List ℕ) → length (data_in at end l) ≡ min end (length l) - at
length_data at end l = length-drop at (take end l) ∙ ap (λ n. n - at) (length-take end l)

pub data_drop : (n at end : ℕ) (l : List ℕ) → drop n (data_in at end l) ≡ data_in (at + n) end l
data_drop n at end l = drop-drop n at (take end l)

-- as the code cuts them
pub data_cut : (at end : ℕ) (l : List ℕ) → take (end - at) (drop at l) ≡ data_in at end l
data_cut zero end l = rw (sub-zero end)
data_cut (suc at) zero l = rw (zero-sub (suc at))
data_cut (suc at) (suc end) [] = take-nil (suc end - suc at)
data_cut (suc at) (suc end) (x ∷ l) = rw (suc-sub-suc end at) (data_cut at end l)

-- past the bytes there are none
pub data_stop : (start used from stop : ℕ) (l : List ℕ) → stop ≡ min used (length l) → from ≡ min start stop → data_in from stop l ≡ data_in start used l
data_stop start used from stop l e f = go (leb used (length l)) (leb start stop) refl refl
  where
    ends : (t : Bool) → leb used (length l) ≡ t → take stop l ≡ take used l
    ends true p = let n : stop ≡ used = omega (arith, leb-true used (length l) p) in rw n
    ends false p = let h = leb-false used (length l) p in take_all stop l (omega arith) ∙ sym (take_all used l (omega arith))

    begins : (t : Bool) → leb start stop ≡ t → drop from (take used l) ≡ drop start (take used l)
    begins true p = let n : from ≡ start = omega (arith, leb-true start stop p) in rw n
    begins false p =
        let h = leb-false start stop p in
        let n = length-take used l in
        drop_of_length-le (take used l) {i = from} (omega arith) ∙ sym (drop_of_length-le (take used l) {i = start} (omega arith))

    go : (t u : Bool) → leb used (length l) ≡ t → leb start stop ≡ u → data_in from stop l ≡ data_in start used l
    go t u p q = ap (drop from) (ends t p) ∙ begins u q

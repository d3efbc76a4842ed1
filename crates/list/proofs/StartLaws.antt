-- The offsets of a list written one by one, each had from the data that is left; and the data while the header is put before it.
use mathlib.Core.Path.{◌≡◌, refl, sym, ◌∙◌, ap}
use mathlib.Core.List.{List, ◌++◌}
use Prim.Native.Nat.{ℕ, zero, suc, ◌+◌, ◌-◌, ◌*◌, ◌≤◌, ◌<◌}
use native.Mathlib.Omega.{arith}
use native.Mathlib.Nat.{mul-suc, sub_self}
use lib.ListN.{length, take, drop, length-take, length-drop, length-append, take-append-drop}
use lib.Seq.{take_all, take_at, take-append-add, drop-append-add}
use Rattle.std.proofs.lemmas.List.{drop-append-le}
use Rattle.encoding.specs.Packed.{le, les}
use Rattle.encoding.specs.Slices.{shift, write}
use Rattle.encoding.proofs.PackedLaws.{length_le, length_les}
use Rattle.encoding.proofs.SliceLaws.{length_write, write_none, write_write}
use Rattle.measure.specs.Measure.{data_in, measured, starts_in}
use Rattle.measure.proofs.MeasureLaws.{measured_within}
use Rattle.measure.proofs.WalkLaws.{length_starts}
use Rattle.measure.proofs.DataLaws.{data_cut, data_drop, length_data}

-- `left` starts are still to be written, from `a` on, of data of `all` bytes; these are the rest of it
pub record Starts (t : List ℕ) (w long all : ℕ) (l : List ℕ) (a : ℕ) (rest : List ℕ) (left : ℕ) : Type 0 where
  pub same : write a (les w (starts_in left (all - length rest) rest)) l ≡ t
  pub room : a + w * left ≤ long
  pub size : length l ≡ long
  pub low : length rest ≤ all

pub starts_start : (l values : List ℕ) (w at n : ℕ) → at + w * n ≤ length l
    → Starts (write at (les w (starts_in n 0 values)) l) w (length l) (length values) l at values n
starts_start l values w at n h = record { same = rw (sub_self (length values)); room = h; size = refl; low = omega arith }

-- there is room for one more
pub starts_room : {t : List ℕ} {w long all : ℕ} {l : List ℕ} {a : ℕ} {rest : List ℕ} {left : ℕ} → Starts t w long all l a rest left → 0 < left → a + w ≤ long
starts_room {left = zero} s h = absurd (omega arith)
starts_room {w = w} {left = suc left} s h = omega (arith, mul-suc w left)

pub starts_again : {t : List ℕ} {w long all : ℕ} {l : List ℕ} {a : ℕ} {rest : List ℕ} {left : ℕ} {m : List ℕ} (k : ℕ) → Starts t w long all l a rest left
    → 0 < left
    → m ≡ write a (le w (all - length rest)) l → k ≡ measured rest → Starts t w long all m (a + w) (take (length rest - k) (drop k rest)) (left - 1)
unfolding les starts_in
starts_again {left = zero} k s h e q = absurd (omega arith)
starts_again {w = w} {all = all} {l = l} {a = a} {rest = rest} {left = suc left} k s h e q =
    let x = le w (all - length rest) in
    let next = drop k rest in
    let r : take (length rest - k) next ≡ next = take_all (length rest - k) next (omega (arith, length-drop k rest)) in
    let i = measured_within rest in
    let b = s.low in
    let g : all - length next ≡ all - length rest + k = omega (arith, length-drop k rest) in
    let d : suc left - 1 ≡ left = omega arith in
    let n : length x ≡ w = length_le w (all - length rest) in
    let c = mul-suc w left in
    let tail = les w (starts_in left (all - length rest + k) next) in
    let v : length tail ≡ w * left =
    length_les w (starts_in left (all - length rest + k) next) ∙ ap (λ j. w * j) (length_starts left (all - length rest + k) next) in
    let y : write a (x ++ tail) l ≡ _ = rw (← q) at s.same in
    let u = s.room in
    let z = s.size in
    record {
      same = rw (d, r, g, e) (ap (λ j. write (a + j) tail (write a x l)) (sym n) ∙ (write_write l x tail a (omega arith) ∙ y));
      room = rw d (omega arith);
      size = rw e (length_write a x l (omega arith) ∙ z);
      low = rw r (omega (arith, length-drop k rest));
    }

pub starts_end : {t : List ℕ} {w long all : ℕ} {l : List ℕ} {a : ℕ} {rest : List ℕ} {left : ℕ} → Starts t w long all l a rest left → left ≤ 0 → l ≡ t
unfolding les starts_in
starts_end {left = suc left} s h = absurd (omega arith)
starts_end {l = l} {a = a} {left = zero} s h = write_none l a ∙ s.same

-- ---- the data while room is made before it

-- bytes in front, as many as are passed over
behind : (front rest : List ℕ) (q p end : ℕ) → length front ≡ q → q ≤ p → p ≤ end → data_in p end (front ++ rest) ≡ data_in (p - q) (end - q) rest
behind front rest q p end n h k =
    let e : end ≡ length front + (end - q) = omega arith in
    let f : p ≡ length front + (p - q) = omega arith in
    ap (λ i. data_in p i (front ++ rest)) e
    ∙ (ap (drop p) (take-append-add front rest (end - q)) ∙ (ap (λ i. drop i (front ++ take (end - q) rest)) f
    ∙ drop-append-add front (take (end - q) rest) (p - q)))

-- bytes moved up are the same bytes
pub data_shifted : (start used by : ℕ) (l : List ℕ) → start ≤ used → used + by ≤ length l
    → data_in (start + by) (used + by) (shift start used by l) ≡ data_in start used l
unfolding shift
data_shifted start used by l h r =
    let q = start + by in
    let n : length (take q l) ≡ q = length-take q l ∙ omega arith in
    let z : q - q ≡ 0 = omega arith in
    let m : length (data_in start used l) ≡ used + by - q = length_data start used l ∙ omega arith in
    behind (take q l) (data_in start used l ++ drop (used + by) l) q q (used + by) n (omega arith) (omega arith)
    ∙ (ap (λ i. data_in i (used + by - q) (data_in start used l ++ drop (used + by) l)) z
    ∙ take_at (data_in start used l) (drop (used + by) l) (used + by - q) m)

-- it is as it was
pub cut_shifted : (start used by : ℕ) (l : List ℕ) → start ≤ used → used + by ≤ length l
    → drop by (take (used + by - start) (drop start (shift start used by l))) ≡ data_in start used l
cut_shifted start used by l h r =
    ap (drop by) (data_cut start (used + by) (shift start used by l))
    ∙ (data_drop by start (used + by) (shift start used by l) ∙ data_shifted start used by l h r)

-- the bytes from one place on are those up to another, and those from there on
pub data_joined : (p q : ℕ) (l : List ℕ) → p ≤ q → q ≤ length l → drop p l ≡ data_in p q l ++ drop q l
data_joined p q l h r = ap (drop p) (sym (take-append-drop q l)) ∙ drop-append-le p (take q l) (drop q l) (omega (arith, length-take q l))

pub length_shift : (start used by : ℕ) (l : List ℕ) → start ≤ used → used + by ≤ length l → length (shift start used by l) ≡ length l
unfolding shift
length_shift start used by l h r = simp (length-append, length-take, length-drop) (omega arith)

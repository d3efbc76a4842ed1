-- A list's header over the starts that its data gives, and what is known of data that was tested.
use mathlib.Core.Path.{◌≡◌, refl, sym, ◌∙◌, ap}
use mathlib.Core.Bool.{Bool, true, false}
use mathlib.Core.List.{List, [], ◌∷◌, ◌++◌, append_assoc, append-nil}
use Prim.Native.Nat.{ℕ, ◌+◌, ◌-◌, ◌*◌, ◌≤◌}
use native.Mathlib.Omega.{arith}
use lib.Seq.{drop-drop}
use lib.ListN.{set, length, take, drop, length-append, drop_of_length-le}
use borrow.Author.Tests.{leb-true, not-false}
use Rattle.encoding.specs.Packed.{le, les}
use Rattle.encoding.specs.Slices.{counted, fits, write, shift}
use Rattle.encoding.specs.Width.{width_at}
use Rattle.encoding.proofs.PackedLaws.{length_le, length_les}
use Rattle.encoding.proofs.SliceLaws.{put_then, write_one, fits_counted}
use Rattle.container.specs.Layout.{count_size, large, list_byte, list_header, list_header_at, list_header_size}
use Rattle.container.specs.Close.{fronted}
use Rattle.container.proofs.LayoutLaws.{length_list}
use Rattle.container.proofs.HeaderLaws.{one_more_lem, put_part, neither, fronts}
use borrow.Rule.Slice.PartMut.{put_mid}
use Rattle.measure.specs.Measure.{data_in, starts_in}
use Rattle.measure.proofs.DataLaws.{length_data}
use Rattle.measure.proofs.WalkLaws.{length_starts, whole_count}
use Rattle.list.specs.Close.{damaged, list_front}
use Rattle.list.proofs.StartLaws.{cut_shifted, data_joined, data_shifted, length_shift}

-- ---- the header, part by part

header_parts : (w count first size : ℕ) (os : List ℕ) → count ≡ count_size (large (length os)) → first ≡ list_byte w (large (length os))
    → ((first ∷ le count (length os)) ++ les w os) ++ le w size ≡ list_header_at w (large (length os)) os size
unfolding list_header_at
header_parts w count first size os y z =
    rw (z, y)
    (ap (λ c. list_byte w (large (length os)) ∷ c) (append_assoc (le (count_size (large (length os))) (length os)) (les w os) (le w size)))

write_is : (at : ℕ) (bs l : List ℕ) → take at l ++ (bs ++ drop (at + length bs) l) ≡ write at bs l
unfolding write
write_is at bs l = refl

-- all bytes written over
write_all : (bs l : List ℕ) → length bs ≡ length l → write 0 bs l ≡ bs
unfolding write
write_all bs l e = rw (drop_of_length-le l {i = 0 + length bs} (omega arith)) (append-nil bs)

-- the starts put into the part from place a on
pub starts_part : (w a n : ℕ) (l values : List ℕ) {ys : List ℕ} → a + w * n ≤ length l
    → (let s = a + w * n - a in ys ≡ write 0 (les w (starts_in n 0 values)) (take s (drop a l)) → put_mid a s l ys ≡ write a (les w (starts_in n 0 values)) l)
starts_part w a n l values h y =
    let os = starts_in n 0 values in
    let b : length (les w os) ≡ w * n = length_les w os ∙ ap (λ i. w * i) (length_starts n 0 values) in
    put_part a (a + w * n - a) l (les w os) (omega arith) (omega arith) y

pub header_written : (w count first n size : ℕ) (l values : List ℕ) {m m' m'' : List ℕ} → count ≡ count_size (large n) → first ≡ list_byte w (large n)
    → length l ≡ 1 + count + w * n + w → m ≡ write 1 (le count n) (set l 0 first) → m' ≡ write (1 + count) (les w (starts_in n 0 values)) m
    → m'' ≡ write (1 + count + w * n) (le w size) m' → m'' ≡ list_header_at w (large n) (starts_in n 0 values) size
header_written w count first n size l values y z h e f g =
    let a = first ∷ le count n in
    let la = length_le count n in
    let s = put_then 0 1 l (first ∷ []) (le count n) (write_one l 0 first (omega arith)) e refl (omega arith) in
    let os = starts_in n 0 values in
    let k : length os ≡ n = length_starts n 0 values in
    let lb : length (les w os) ≡ w * n = length_les w os ∙ ap (λ i. w * i) k in
    let lc = length_le w size in
    let t = put_then 0 (1 + count) l a (les w os) s f (omega arith) (omega arith) in
    let ab = length-append a (les w os) in
    let abc = length-append (a ++ les w os) (le w size) in
    let q : (a ++ les w os) ++ le w size ≡ list_header_at w (large n) os size = rw k at (header_parts w count first size os (rw k y) (rw k z)) in
    put_then 0 (1 + count + w * n) l (a ++ les w os) (le w size) t g (omega arith) (omega arith)
    ∙ (write_all ((a ++ les w os) ++ le w size) l (omega arith) ∙ q)

-- as the code counts its bytes
pub header_length : (w count n : ℕ) → count ≡ count_size (large n) → 1 + count + w * n + w ≡ 1 + count_size (large n) + w * (n + 1)
header_length w count n y = rw (← y) (omega (arith, one_more_lem w n))

-- ---- data that was tested

pub record Inside (start used count size : ℕ) : Type 0 where
  pub order : start ≤ used
  pub lent : used ≤ counted size
  pub few : count ≤ used

pub inside : (start used count : ℕ) (value : List ℕ) {t : Bool} → t ≡ damaged start used count value → t ≡ false → Inside start used count (length value)
inside start used count value p e =
    let a = neither (sym p ∙ e) in
    let b = neither a.1 in
    let n = whole_count count (data_in start used value) (not-false _ b.1) in
    let d = length_data start used value in
    record { order = leb-true start used (not-false _ a.0); lent = leb-true used (counted (length value)) (not-false _ b.0); few = omega arith }

-- ---- closing

pub front_size : (start used count floor : ℕ) (value : List ℕ) → list_header_size floor count (used - start) ≡ length (list_front start used count floor value)
front_size start used count floor value =
    let bytes = data_in start used value in
    sym (length_list floor (starts_in count 0 bytes) (used - start) ∙ ap (λ n. list_header_size floor n (used - start)) (length_starts count 0 bytes))

-- the header of as many values is that of their starts
counted_header : (floor count size : ℕ) (bytes : List ℕ)
    → list_header_at (width_at floor size) (large count) (starts_in count 0 bytes) size ≡ list_header floor (starts_in count 0 bytes) size
unfolding list_header
counted_header floor count size bytes =
    ap (λ k. list_header_at (width_at floor size) (large k) (starts_in count 0 bytes) size) (sym (length_starts count 0 bytes))

-- room made, and the header of the data that was moved written into it, the data behind it
pub fronts_list : (start used count floor h : ℕ) (value m bytes : List ℕ) {t : Bool} → start ≤ used → h ≡ list_header_size floor count (used - start)
    → t ≡ fits used h (length value) → t ≡ true → m ≡ shift start used h value
    → (let values = drop (list_header_size floor count (used - start)) (take (used + h - start) (drop start m)) in
    bytes ≡ list_header_at (width_at floor (used - start)) (large count) (starts_in count 0 values) (used - start) ++ values)
    → take start m ++ (bytes ++ drop (used + h - start) (drop start m)) ≡ fronted start used (list_front start used count floor value) value
fronts_list start used count floor h value m bytes o e p q s w =
    let g = fits_counted used h (length value) p q in
    let header = list_front start used count floor value in
    let n : h ≡ length header = e ∙ front_size start used count floor value in
    let values = data_in start used value in
    let c : drop h (take (used + h - start) (drop start m)) ≡ values = rw s (cut_shifted start used h value o (omega arith)) in
    let b : bytes ≡ header ++ values = (rw (← e, c) at w) ∙ ap (λ bs. bs ++ values) (counted_header floor count (used - start) values) in
    let k : length m ≡ length value = rw s (length_shift start used h value o (omega arith)) in
    let d : drop (start + h) m ≡ values ++ drop (used + h) m =
    data_joined (start + h) (used + h) m (omega arith) (omega arith)
    ∙ ap (λ l. l ++ drop (used + h) m) (rw s (data_shifted start used h value o (omega arith))) in
    let i : drop (used + h - start) (drop start m) ≡ drop (used + h) m = drop-drop (used + h - start) start m ∙ ap (λ k. drop k m) (omega arith) in
    fronts start used header value h o n p q s (rw (b, i, append_assoc header values (drop (used + h) m), ← d, n) (write_is start header m))

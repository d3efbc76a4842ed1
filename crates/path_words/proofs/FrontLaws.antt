-- Words written at the front of bytes, and others at the front of what is left behind them.
use mathlib.Core.Path.{◌≡◌, refl, sym, ◌∙◌, ap}
use mathlib.Core.List.{List, [], ◌++◌, append_assoc, append-nil}
use Prim.Native.Nat.{ℕ, ◌-◌, ◌≤◌}
use native.Mathlib.Omega.{arith}
use native.Mathlib.Nat.{zero-add}
use borrow.Rule.Slice.PartMut.{put_mid, post_of}
use lib.ListN.{length, take, drop, length-append, length-take, length-drop, drop_of_length-le}
use lib.Seq.{take_at, drop_at, drop-drop, take_all}
use Rattle.encoding.specs.Slices.{write}
use Rattle.encoding.proofs.SliceLaws.{write_none}

pub front_is : (a l : List ℕ) → write 0 a l ≡ a ++ drop (length a) l
unfolding write
front_is a l = rw zero-add

pub none_written : {t : List ℕ} (l : List ℕ) → t ≡ [] → l ≡ write 0 t l
none_written l e = rw e (write_none l 0)

pub put_front : (a l : List ℕ) {s : List ℕ} → s ≡ a → s ++ drop (length a) l ≡ write 0 a l
put_front a l e = rw e (sym (front_is a l))

behind_is : (a r : List ℕ) → take (length (a ++ r) - length a) (drop (length a) (a ++ r)) ≡ r
behind_is a r = let k = length-append a r in rw (drop_at a r (length a) refl) (take_all (length (a ++ r) - length a) r (omega arith))

then_at : (a b r : List ℕ) → put_mid (length a) (length (a ++ r) - length a) (a ++ r) (b ++ drop (length b) r) ≡ (a ++ b) ++ drop (length b) r
then_at a b r =
    let k = length-append a r in
    let n : post_of (length a) (length (a ++ r) - length a) (a ++ r) ≡ [] = rw (drop_at a r (length a) refl) (drop_of_length-le r (omega arith)) in
    rw (n, take_at a r (length a) refl, append-nil, append_assoc)

-- what is left of m behind n bytes, and m with s in its place
abbrev pub behind : ℕ → List ℕ → List ℕ
behind n m = take (length m - n) (drop n m)

abbrev pub put_behind : ℕ → List ℕ → List ℕ → List ℕ
put_behind n m s = put_mid n (length m - n) m s

pub length_rest : (n : ℕ) (m : List ℕ) → length (behind n m) ≡ length m - n
length_rest n m = simp (length-take, length-drop) (omega arith)

pub length_put : (n : ℕ) (m s : List ℕ) → n ≤ length m → length s ≡ length (behind n m) → length (put_behind n m s) ≡ length m
length_put n m s h e = let k = e ∙ length_rest n m in simp (length-append, length-take, length-drop) (omega arith)

pub then_front : (a b l : List ℕ) {n : ℕ} {m s : List ℕ} → m ≡ write 0 a l → n ≡ length a → s ≡ write 0 b (behind n m)
    → put_behind n m s ≡ write 0 (a ++ b) l
then_front a b l {n} {m} {s} e q f =
    let r = drop (length a) l in
    let x : m ≡ a ++ r = e ∙ front_is a l in
    let y : s ≡ b ++ drop (length b) r = f ∙ rw (x, q, behind_is a r) (front_is b r) in
    let z : drop (length b) r ≡ drop (length (a ++ b)) l = drop-drop (length b) (length a) l ∙ ap (λ k. drop k l) (sym (length-append a b)) in
    rw (x, q, y) (then_at a b r ∙ (rw z (sym (front_is (a ++ b) l))))

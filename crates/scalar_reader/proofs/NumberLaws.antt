-- Numbers read: what the library reads of bytes is the number that they stand for, two's complement.
use mathlib.Core.Path.{◌≡◌, refl, sym, ◌∙◌, ap}
use mathlib.Core.Bool.{Bool, true, false, cond}
use mathlib.Core.List.{List, [], ◌∷◌}
use Prim.Native.Nat.{ℕ, zero, suc, ◌+◌, ◌-◌, ◌*◌, ◌^◌}
use native.Mathlib.Nat.{zero-add, mul-zero, mul_comm, mul_assoc, pow-suc, suc-add}
use native.Mathlib.Omega.{arith}
use Rattle.std.proofs.Common.{add-one}
use lib.Dec.{ltb}
use lib.IntN.{ℤ, pos, negsuc}
use lib.ListN.{length, take, drop, get_or}
use lib.Seq.{take_all, take-nil}
use borrow.Author.Tests.{ltb-true, ltb-false, lt-ltb, le-ltb}
use mir.Syntax.{Width, w8, w16, w32, w64, w128}
use mir.Val.{SFits, sel, of_z, to_z}
use mir.ValLaws.{to_z-of_z}
use Rattle.std.specs.Int.{byte_len, byte_worth, sum_through, from_le_bytes}
use Rattle.std.specs.List.{slice_index}
use Rattle.encoding.specs.Packed.{number}
use Rattle.grammar.specs.Scalars.{signed_in}

-- the low k bytes and those behind them, however few there are
number_add : (k m : ℕ) (l : List ℕ) → number (take (k + m) l) ≡ number (take k l) + 256 ^ k * number (take m (drop k l))
unfolding number
number_add zero m l = rw (zero-add m) (omega arith)
number_add (suc k) m [] = rw (take-nil (suc k + m), take-nil m) (omega (arith, mul-zero (256 ^ suc k)))
number_add (suc k) m (b ∷ l) =
    let e = number_add k m l in
    let f = shifted k (number (take m (drop k l))) in
    rw suc-add (omega arith)
  where
    shifted : (k x : ℕ) → 256 ^ suc k * x ≡ 256 * (256 ^ k * x)
    shifted k x = ap (λ y. y * x) (pow-suc 256 k ∙ mul_comm (256 ^ k) 256) ∙ mul_assoc 256 (256 ^ k) x

one_at : (k : ℕ) (l : List ℕ) → number (take 1 (drop k l)) ≡ get_or l k 0
unfolding number
one_at zero [] = refl
one_at zero (b ∷ l) = omega arith
one_at (suc k) [] = refl
one_at (suc k) (b ∷ l) = one_at k l

-- byte by byte, each by its worth
summed : (k : ℕ) (l : List ℕ) → sum_through (λ i. byte_worth i (slice_index l i)) k ≡ number (take (k + 1) l)
summed zero l = sym (one_at zero l)
summed (suc k) l =
    let e = number_add (suc k) 1 l in
    let g = rw add-one at (summed k l) in
    rw (mul_comm (slice_index l (suc k)) (256 ^ suc k), e, one_at (suc k) l, g)

-- the sign asked of the number, or of its double
halved : (h b n : ℕ) → h + h ≡ b → sel (ltb n h) (pos n) (negsuc (b - suc n)) ≡ cond (ltb (n + n) b) (pos n) (negsuc (b - suc n))
halved h b n e = go (ltb n h) refl
  where
    go : (t : Bool) → ltb n h ≡ t → sel t (pos n) (negsuc (b - suc n)) ≡ cond (ltb (n + n) b) (pos n) (negsuc (b - suc n))
    go true p = let q = ltb-true n h p in rw (lt-ltb (n + n) b (omega arith))
    go false p = let q = ltb-false n h p in rw (le-ltb (n + n) b (omega arith))

pub signed_read : (w : Width) (l : List ℕ) → length l ≡ byte_len w → to_z w (from_le_bytes w l) ≡ signed_in (byte_len w) l
unfolding signed_in
signed_read w8 l e = rw (summed 0 l, take_all 1 l (omega arith)) (halved (2 ^ 7) (256 ^ 1) (number l) refl)
signed_read w16 l e = rw (summed 1 l, take_all 2 l (omega arith)) (halved (2 ^ 15) (256 ^ 2) (number l) refl)
signed_read w32 l e = rw (summed 3 l, take_all 4 l (omega arith)) (halved (2 ^ 31) (256 ^ 4) (number l) refl)
signed_read w64 l e = rw (summed 7 l, take_all 8 l (omega arith)) (halved (2 ^ 63) (256 ^ 8) (number l) refl)
signed_read w128 l e = rw (summed 15 l, take_all 16 l (omega arith)) (halved (2 ^ 127) (256 ^ 16) (number l) refl)

-- bytes read as an integer of their width
pub read_back : {x : ℤ} {l p : List ℕ} (w : Width) → SFits w x → x ≡ to_z w (from_le_bytes w l) → l ≡ p → length p ≡ byte_len w → to_z w (of_z w x) ≡ signed_in (byte_len w) p
read_back {x} {p = p} w f e s n = rw (to_z-of_z w x f, e, s) (signed_read w p n)

-- and widened to t bits
pub widened : {r x : ℤ} {l p : List ℕ} (w t : Width) → SFits t r → r ≡ to_z w (of_z w x) → SFits w x → x ≡ to_z w (from_le_bytes w l) → l ≡ p → length p ≡ byte_len w
    → to_z t (of_z t r) ≡ signed_in (byte_len w) p
widened {r} w t g d f e s n = rw (to_z-of_z t r g) (d ∙ read_back w f e s n)

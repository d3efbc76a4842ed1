-- A law that the documents name, of a form that the code had: all tests seen at once, and none holds. The code asks them one by one today.
use mathlib.Core.Path.{◌≡◌, refl, sym}
use mathlib.Core.Bool.{Bool, true, false, not, ◌&&◌, ◌||◌, true≢false}
use Prim.Native.Nat.{ℕ}
use lib.Dec.{eqb}
use borrow.Author.Tests.{eqb-true}
use Rattle.semantics.proofs.ViewLaws.{both}
use Rattle.refusals.specs.Decide.{rows_by}

pub rows_none : (number own : ℕ) (finished wrong second taken deep full unkept fit : Bool)
    → ((eqb number 0 && eqb own 0) && not ((finished || (wrong || second)) || (taken || (deep || (full || (unkept || not fit)))))) ≡ true
    → 0 ≡ rows_by number own finished wrong second taken deep full unkept fit
rows_none number own finished wrong second taken deep full unkept fit e =
    let k = both (eqb number 0 && eqb own 0) _ e in
    let z = both (eqb number 0) (eqb own 0) k.0 in
    go finished wrong second taken deep full unkept fit k.1 (eqb-true number 0 z.0) (eqb-true own 0 z.1)
  where
    go : (a c d t p u k w : Bool) → not ((a || (c || d)) || (t || (p || (u || (k || not w))))) ≡ true → number ≡ 0 → own ≡ 0 → 0 ≡ rows_by number own a c d t p u k w
    go true c d t p u k w e n o = absurd (true≢false (sym e))
    go false true d t p u k w e n o = absurd (true≢false (sym e))
    go false false true t p u k w e n o = absurd (true≢false (sym e))
    go false false false true p u k w e n o = absurd (true≢false (sym e))
    go false false false false true u k w e n o = absurd (true≢false (sym e))
    go false false false false false true k w e n o = absurd (true≢false (sym e))
    go false false false false false false true w e n o = absurd (true≢false (sym e))
    go false false false false false false false false e n o = absurd (true≢false (sym e))
    go false false false false false false false true e n o = rw (n, o)

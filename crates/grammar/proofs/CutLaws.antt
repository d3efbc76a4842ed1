-- Values end to end: bytes that are shapes laid out one behind the other are cut into their layouts, and pass where each of them passes.
use mathlib.Core.Path.{◌≡◌, refl, sym, ◌∙◌, ap}
use mathlib.Core.Bool.{Bool, true, false, ◌&&◌, ◌||◌}
use mathlib.Core.List.{List, [], ◌∷◌, ◌++◌, append-nil}
use Prim.Native.Nat.{ℕ, zero, suc, ◌≤◌, ◌<◌}
use native.Mathlib.Omega.{arith}
use lib.Dec.{eqb, ltb}
use lib.ListN.{length, take, drop, length-append, length-drop, take-append-drop}
use lib.Seq.{take_at, drop_at}
use borrow.Author.Tests.{eq-eqb, ne_eqb, eqb-true, lt-ltb, ltb-true}
use Rattle.encoding.proofs.PackedLaws.{Below}
use Rattle.metadata.specs.Names.{Name}
use Rattle.metadata.specs.Bytes.{joined}
use Rattle.measure.specs.Measure.{measured}
use Rattle.measure.proofs.MeasureLaws.{measured_none, measured_within}
use Rattle.measure.proofs.ValueLaws.{value_measured}
use Rattle.lexicon.proofs.ByteLaws.{below_drop}
use Rattle.lexicon.proofs.DictionaryLaws.{both}
use Rattle.grammar.specs.Grammar.{Shape, Shapes, none, more, layout, layouts, starts_from, Fits, FitsAll, Reads}
use Rattle.grammar.specs.Tests.{cut_by, starts_of, each_value}
use Rattle.grammar.proofs.ShapeLaws.{shape_value}

-- ---- one value

pub shape_some : (names : List Name) (d : ℕ) (t : Shape) → Fits names d t → 0 < length (layout t)
shape_some names d t h = (shape_value names d t h).some

-- a shape's bytes are as long as they say, whatever comes behind them
pub shape_measured : (names : List Name) (d : ℕ) (t : Shape) (rest : List ℕ) → Fits names d t → measured (layout t ++ rest) ≡ length (layout t)
shape_measured names d t rest h = value_measured (shape_value names d t h) rest

pub shape_whole : (names : List Name) (d : ℕ) (t : Shape) → Fits names d t → measured (layout t) ≡ length (layout t)
shape_whole names d t h = ap measured (sym (append-nil (layout t))) ∙ shape_measured names d t [] h

-- ---- cuts

pub cut_nothing : (n : ℕ) → cut_by n [] ≡ []
unfolding cut_by
cut_nothing zero = refl
cut_nothing (suc n) = rw (← measured_none [] refl)

pub cut_values : (names : List Name) (d n : ℕ) (ts : Shapes) → FitsAll names d ts → length (joined (layouts ts)) ≤ n → cut_by n (joined (layouts ts)) ≡ layouts ts
unfolding layout joined cut_by
cut_values names d n none f h = cut_nothing n
cut_values names d zero (more t ts) f h = let s = shape_some names d t f.0 in absurd (omega (arith, length-append (layout t) (joined (layouts ts))))
cut_values names d (suc n) (more t ts) f h =
    let rest = joined (layouts ts) in
    let s = shape_some names d t f.0 in
    let l = length-append (layout t) rest in
    rw (
      shape_measured names d t rest f.0,
      ne_eqb (length (layout t)) 0 (omega arith),
      take_at (layout t) rest (length (layout t)) refl,
      drop_at (layout t) rest (length (layout t)) refl,
      cut_values names d n ts f.1 (omega arith),
    )

-- where the values start
pub starts_values : (names : List Name) (d : ℕ) (ts : Shapes) → FitsAll names d ts → starts_of (joined (layouts ts)) ≡ starts_from 0 (layouts ts)
unfolding starts_of
starts_values names d ts f = ap (starts_from 0) (cut_values names d (length (joined (layouts ts))) ts f (omega arith))

-- ---- a test of each value

pub each_none : (test : List ℕ → Bool) (n : ℕ) (bytes : List ℕ) → length bytes ≡ 0 → each_value test n bytes ≡ true
unfolding each_value
each_none test zero bytes e = eq-eqb (length bytes) 0 e
each_none test (suc n) bytes e = rw (eq-eqb (length bytes) 0 e)

each_same : (test : List ℕ → Bool) (n m : ℕ) (bytes : List ℕ) → length bytes ≤ n → length bytes ≤ m → each_value test n bytes ≡ each_value test m bytes
unfolding each_value
each_same test zero m bytes h k = each_none test zero bytes (omega arith) ∙ sym (each_none test m bytes (omega arith))
each_same test (suc n) zero bytes h k = each_none test (suc n) bytes (omega arith) ∙ sym (each_none test zero bytes (omega arith))
each_same test (suc n) (suc m) bytes h k = ap (λ t. eqb (length bytes) 0 || t) (go (ltb 0 (measured bytes)) refl (each_same test n m (drop (measured bytes) bytes)))
  where
    rest : List ℕ
    rest = drop (measured bytes) bytes

    go : (t : Bool) → ltb 0 (measured bytes) ≡ t → (length rest ≤ n → length rest ≤ m → each_value test n rest ≡ each_value test m rest)
        → (t && (test (take (measured bytes) bytes) && each_value test n rest)) ≡ (t && (test (take (measured bytes) bytes) && each_value test m rest))
    go false e f = refl
    go true e f =
        let l = length-drop (measured bytes) bytes in
        let p = ltb-true 0 (measured bytes) e in
        let q = measured_within bytes in
        ap (λ t. test (take (measured bytes) bytes) && t) (f (omega arith) (omega arith))

-- more values than bytes are not needed
pub each_fuel : (test : List ℕ → Bool) (n : ℕ) (bytes : List ℕ) → length bytes ≤ n → each_value test n bytes ≡ each_value test (length bytes) bytes
each_fuel test n bytes h = each_same test n (length bytes) bytes h (omega arith)

-- bytes that are whole values end to end
pub record Values (names : List Name) (d : ℕ) (bytes : List ℕ) : Type 0 where
  pub shapes : Shapes
  pub fits : FitsAll names d shapes
  pub laid : bytes ≡ joined (layouts shapes)

values_none : (names : List Name) (d : ℕ) (bytes : List ℕ) → length bytes ≡ 0 → Values names d bytes
unfolding layout joined
values_none names d [] e = record { shapes = none; fits = tt; laid = refl }
values_none names d (x ∷ bytes) e = absurd (omega arith)

values_more : (names : List Name) (d n : ℕ) (bytes : List ℕ) → Reads names d (take n bytes) → Values names d (drop n bytes) → Values names d bytes
unfolding layout joined
values_more names d n bytes x y =
    record { shapes = more x.shape y.shapes; fits = (x.fits, y.fits); laid = sym (take-append-drop n bytes) ∙ (λ i. x.laid i ++ y.laid i) }

below_take : (n : ℕ) (v : List ℕ) → Below 256 v → Below 256 (take n v)
below_take zero v h = tt
below_take (suc n) [] h = tt
below_take (suc n) (b ∷ v) h = (h.0, below_take n v h.1)

-- what passes, where each that passes has a reading
pub each_reads : (names : List Name) (d : ℕ) (test : List ℕ → Bool) → ((v : List ℕ) → Below 256 v → test v ≡ true → Reads names d v)
    → (n : ℕ) (bytes : List ℕ) → Below 256 bytes → each_value test n bytes ≡ true → Values names d bytes
unfolding each_value
each_reads names d test f zero bytes b h = values_none names d bytes (eqb-true (length bytes) 0 h)
each_reads names d test f (suc n) bytes b h = go (eqb (length bytes) 0) refl h (each_reads names d test f n (drop m bytes) (below_drop m bytes b))
  where
    m : ℕ
    m = measured bytes

    go : (t : Bool) → eqb (length bytes) 0 ≡ t → (t || (ltb 0 m && (test (take m bytes) && each_value test n (drop m bytes)))) ≡ true
        → (each_value test n (drop m bytes) ≡ true → Values names d (drop m bytes)) → Values names d bytes
    go true e h others = values_none names d bytes (eqb-true (length bytes) 0 e)
    go false e h others =
        let p = both (both {a = ltb 0 m} h).1 in
        values_more names d m bytes (f (take m bytes) (below_take m bytes b) p.0) (others p.1)

-- values end to end pass, where each that has a reading does
pub each_is : (names : List Name) (d : ℕ) (test : List ℕ → Bool) → ((v : List ℕ) → Reads names d v → test v ≡ true)
    → (n : ℕ) (ts : Shapes) → FitsAll names d ts → length (joined (layouts ts)) ≤ n → each_value test n (joined (layouts ts)) ≡ true
unfolding each_value layout joined
each_is names d test f n none h l = each_none test n [] refl
each_is names d test f zero (more t ts) h l = let s = shape_some names d t h.0 in absurd (omega (arith, length-append (layout t) (joined (layouts ts))))
each_is names d test f (suc n) (more t ts) h l =
    let rest = joined (layouts ts) in
    let s = shape_some names d t h.0 in
    let k = length-append (layout t) rest in
    let p : test (layout t) ≡ true = f (layout t) (record { shape = t; fits = h.0; laid = refl }) in
    let q : each_value test n rest ≡ true = each_is names d test f n ts h.1 (omega arith) in
    rw (
      ne_eqb (length (layout t ++ rest)) 0 (omega arith),
      shape_measured names d t rest h.0,
      lt-ltb 0 (length (layout t)) s,
      take_at (layout t) rest (length (layout t)) refl,
      drop_at (layout t) rest (length (layout t)) refl,
      p,
      q,
    )

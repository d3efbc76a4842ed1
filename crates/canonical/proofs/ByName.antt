-- "fields taken by name": two objects hold the same fields exactly if each name's field is the same.
use mathlib.Core.Path.{◌≡◌, refl, sym, ◌∙◌, ap, subst}
use mathlib.Core.Logic.{◌↔◌, ◌⊎◌, inl, inr}
use mathlib.Core.Bool.{Bool, true, false, true≢false}
use mathlib.Core.Option.{none, some}
use Prim.Native.Nat.{ℕ}
use Rattle.metadata.specs.Names.{Name, same, below}
use Rattle.metadata.proofs.DictionaryLaws.{same_equal, equal_same, differs_same, below_self, below_trans, below_total}
use Rattle.live.specs.Live.{Live, Lives, end, child}
use Rattle.live.specs.Texts.{field_at}
use Rattle.live.proofs.ListLaws.{some_inj, none_some}
use Rattle.canonical.proofs.GoodLaws.{Over, GoodAll}

over_none : (n : Name) (ls : Lives) → Over n ls → field_at n ls ≡ none
unfolding field_at
over_none n end o = refl
over_none n (child none l ls) o = over_none n ls o.1
over_none n (child (some m) l ls) o = rw (differs_same m n (λ e. true≢false (sym (rw e at o.0) ∙ below_self n))) (over_none n ls o.1)

over_trans : (k n : Name) (ls : Lives) → below k n ≡ true → Over n ls → Over k ls
over_trans k n end p o = tt
over_trans k n (child none l ls) p o = (tt, over_trans k n ls p o.1)
over_trans k n (child (some m) l ls) p o = (below_trans k n m p o.0, over_trans k n ls p o.1)

field_here : (n : Name) (l : Live) (ls : Lives) → field_at n (child (some n) l ls) ≡ some l
unfolding field_at
field_here n l ls = rw (equal_same {a = n} {b = n} refl)

field_later : (k n : Name) (l : Live) (ls : Lives) → same n k ≡ false → field_at k (child (some n) l ls) ≡ field_at k ls
unfolding field_at
field_later k n l ls p = rw p

-- an object lacks a name below its first
lacks : (n m : Name) (l x : Live) (ls ms : Lives) → below n m ≡ true → Over m ms → field_at n (child (some n) l ls) ≡ field_at n (child (some m) x ms) → ⊥
lacks n m l x ls ms p o e = none_some l (sym (over_none n (child (some m) x ms) (p, over_trans n m ms p o)) ∙ (sym e ∙ field_here n l ls))

same_fields : (d c : ℕ) (ls ms : Lives) → GoodAll d true ls → GoodAll c true ms → ((n : Name) → field_at n ls ≡ field_at n ms) → ls ≡ ms
unfolding field_at
same_fields d c end end g h e = refl
same_fields d c end (child none x ms) g h e = absurd h.0
same_fields d c end (child (some m) x ms) g h e = absurd (none_some x (e m ∙ field_here m x ms))
same_fields d c (child none l ls) ms g h e = absurd g.0
same_fields d c (child (some n) l ls) end g h e = absurd (none_some l (sym (e n) ∙ field_here n l ls))
same_fields d c (child (some n) l ls) (child none x ms) g h e = absurd h.0
same_fields d c (child (some n) l ls) (child (some m) x ms) g h e = go (below_total n m) (same_fields d c ls ms g.2 h.2)
  where
    tails : n ≡ m → (k : Name) → field_at k ls ≡ field_at k ms
    tails p k = cases (same n k) refl
      where
        cases : (t : Bool) → same n k ≡ t → field_at k ls ≡ field_at k ms
        cases true q =
            let z = same_equal n k q in
            let a : field_at k ls ≡ none = rw (← z) (over_none n ls g.0) in
            let b : field_at k ms ≡ none = rw (← z, p) (over_none m ms h.0) in
            a ∙ sym b
        cases false q = sym (field_later k n l ls q) ∙ (e k ∙ field_later k m x ms (rw p at q))

    go : (below n m ≡ true) ⊎ ((n ≡ m) ⊎ (below m n ≡ true))
        → (((k : Name) → field_at k ls ≡ field_at k ms) → ls ≡ ms) → child (some n) l ls ≡ child (some m) x ms
    go (inl p) f = absurd (lacks n m l x ls ms p h.0 (e n))
    go (inr (inl p)) f =
        let t = f (tails p) in
        let w : field_at n (child (some m) x ms) ≡ some x = subst (λ (k : Name). field_at k (child (some m) x ms) ≡ some x) (sym p) (field_here m x ms) in
        let v : l ≡ x = some_inj l x (sym (field_here n l ls) ∙ (e n ∙ w)) in
        λ i. child (some (p i)) (v i) (t i)
    go (inr (inr p)) f = absurd (lacks m n x l ms ls p g.0 (sym (e m)))

pub by_name : (d c : ℕ) (ls ms : Lives) → GoodAll d true ls → GoodAll c true ms → ((n : Name) → field_at n ls ≡ field_at n ms) ↔ (ls ≡ ms)
by_name d c ls ms g h = (same_fields d c ls ms g h, λ e n. ap (field_at n) e)

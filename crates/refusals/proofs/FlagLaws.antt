-- The rows of a register, an append and an open of any flags and any own number, from those that `may_enter` asks.
use mathlib.Core.Path.{◌≡◌, refl, sym, ◌∙◌, ap}
use mathlib.Core.Bool.{Bool, true, false, cond, not, ◌&&◌, and-false, true≢false}
use mathlib.Core.Option.{Option}
use Prim.Native.Nat.{ℕ, zero, suc}
use native.Mathlib.Omega.{arith}
use lib.Dec.{eqb, leb}
use lib.ListN.{length}
use borrow.Author.Tests.{eqb-true, eqb-false, ne_eqb}
use Rattle.std.specs.Prelude.{Result, Ok, Err}
use Rattle.encoding.specs.Rows.{first}
use Rattle.metadata.specs.Names.{Name}
use Rattle.semantics.specs.declared.View.{View}
use Rattle.semantics.specs.declared.refusal.Refusal.{Refusal}
use Rattle.semantics.specs.Refusal.{number_told, refusal_number, then_or}
use Rattle.semantics.specs.Record.{Storage, unique_now}
use Rattle.semantics.proofs.RefusalLaws.{number_some}
use Rattle.refusals.specs.declared.Field.{Field}
use Rattle.refusals.specs.Decide.{Decides, enter_rows, field_of, field_or_number, late_told, own_told}
use Rattle.refusals.proofs.RowLaws.{field_ok}

late_number : ℕ → Bool
late_number n = cond (eqb n 0) true (leb 12 n)

late_lem : (a : Result Field Refusal) → late_told a ≡ late_number (number_told a)
unfolding late_number
late_lem (Ok f) = refl
late_lem (Err r) = rw (ne_eqb (refusal_number r) 0 (number_some r))

-- no row but the scalar's own is 7
chain_seven : (d f w s b t p n u k g : Bool)
    → (let x : ℕ = cond d 1 (cond f 2 (cond w 5 (cond s 6 (cond b 9 (cond t 10 (cond p 11 (cond n 12 (cond u 13 (cond k 23 (cond g 14 0)))))))))) in x ≡ cond (eqb x 7) 0 x)
chain_seven true f w s b t p n u k g = refl
chain_seven false true w s b t p n u k g = refl
chain_seven false false true s b t p n u k g = refl
chain_seven false false false true b t p n u k g = refl
chain_seven false false false false true t p n u k g = refl
chain_seven false false false false false true p n u k g = refl
chain_seven false false false false false false true n u k g = refl
chain_seven false false false false false false false true u k g = refl
chain_seven false false false false false false false false true k g = refl
chain_seven false false false false false false false false false true g = refl
chain_seven false false false false false false false false false false true = refl
chain_seven false false false false false false false false false false false = refl

rows_seven : (v : View) (l : Storage) (nm : Option Name) (into opens : Bool) (size : ℕ) → (let x : ℕ = first (enter_rows v l nm into opens 0 size) in x ≡ cond (eqb x 7) 0 x)
unfolding first
rows_seven v l nm into opens size = chain_seven _ _ _ _ _ _ _ _ _ _ _

-- the scalar's own number where 7 stands for it
chain_own : (own : ℕ) (d f w s : Bool) → (let x : ℕ = cond d 1 (cond f 2 (cond w 5 (cond s 6 7))) in cond d 1 (cond f 2 (cond w 5 (cond s 6 own))) ≡ cond (eqb x 7) own x)
chain_own own true f w s = refl
chain_own own false true w s = refl
chain_own own false false true s = refl
chain_own own false false false true = refl
chain_own own false false false false = refl

rows_own : (v : View) (l : Storage) (nm : Option Name) (into opens : Bool) (own size y : ℕ) → (own ≡ 0 → ⊥)
    → (let x : ℕ = first (enter_rows v l nm into (into && opens) 7 y) in first (enter_rows v l nm into opens own size) ≡ cond (eqb x 7) own x)
unfolding first
rows_own v l nm into opens own size y z = rw (ne_eqb own 0 z) (chain_own own _ _ _ _)

-- row 11 of what opens but enters nothing, which a register does not ask
chain_deep : (d f b p n g : Bool)
    → (let x : ℕ = cond d 1 (cond f 2 (cond b 9 (cond n 12 (cond g 14 0)))) in cond d 1 (cond f 2 (cond b 9 (cond p 11 (cond n 12 (cond g 14 0))))) ≡ cond (p && late_number x) 11 (cond (eqb x 7) 0 x))
unfolding late_number
chain_deep true f b true n g = refl
chain_deep true f b false n g = refl
chain_deep false true b true n g = refl
chain_deep false true b false n g = refl
chain_deep false false true true n g = refl
chain_deep false false true false n g = refl
chain_deep false false false true true g = refl
chain_deep false false false true false true = refl
chain_deep false false false true false false = refl
chain_deep false false false false true g = refl
chain_deep false false false false false true = refl
chain_deep false false false false false false = refl

rows_deep : (v : View) (l : Storage) (nm : Option Name) (size : ℕ)
    → (let x : ℕ = first (enter_rows v l nm false false 0 size) in first (enter_rows v l nm false true 0 size) ≡ cond (leb 64 v.counts.depth && late_number x) 11 (cond (eqb x 7) 0 x))
unfolding first
rows_deep v l nm size = rw (and-false (unique_now v)) (chain_deep _ _ _ _ _ _)

chain_deep_own : (own : ℕ) (d f p : Bool)
    → (let x : ℕ = cond d 1 (cond f 2 7) in cond d 1 (cond f 2 own) ≡ cond (p && late_number x) 11 (cond (eqb x 7) own x))
unfolding late_number
chain_deep_own own true f true = refl
chain_deep_own own true f false = refl
chain_deep_own own false true true = refl
chain_deep_own own false true false = refl
chain_deep_own own false false true = refl
chain_deep_own own false false false = refl

rows_deep_own : (v : View) (l : Storage) (nm : Option Name) (own size y : ℕ) → (own ≡ 0 → ⊥)
    → (let x : ℕ = first (enter_rows v l nm false false 7 y) in first (enter_rows v l nm false true own size) ≡ cond (leb 64 v.counts.depth && late_number x) 11 (cond (eqb x 7) own x))
unfolding first
rows_deep_own v l nm own size y z = rw (ne_eqb own 0 z) (chain_deep_own own _ _ _)

-- the number, from that of the call that is asked
any_rows : (v : View) (l : Storage) (nm : Option Name) (into opens : Bool) (own size : ℕ) {q y : ℕ} → q ≡ cond (eqb own 0) 0 7 → y ≡ cond (eqb own 0) size 0
    → (let x : ℕ = first (enter_rows v l nm into (into && opens) q y) in
    first (enter_rows v l nm into opens own size) ≡ cond (((opens && not into) && leb 64 v.counts.depth) && late_number x) 11 (cond (eqb x 7) own x))
any_rows v l nm into opens own size {q} {y} f g = go (eqb own 0) refl into opens
  where
    go : (t : Bool) → eqb own 0 ≡ t → (i o : Bool)
        → (let x : ℕ = first (enter_rows v l nm i (i && o) q y) in first (enter_rows v l nm i o own size) ≡ cond (((o && not i) && leb 64 v.counts.depth) && late_number x) 11 (cond (eqb x 7) own x))
    go true e true true = let h : q ≡ 0 = rw e at f in let k : y ≡ size = rw e at g in rw (h, k, eqb-true own 0 e) (rows_seven v l nm true true size)
    go true e true false = let h : q ≡ 0 = rw e at f in let k : y ≡ size = rw e at g in rw (h, k, eqb-true own 0 e) (rows_seven v l nm true false size)
    go true e false true = let h : q ≡ 0 = rw e at f in let k : y ≡ size = rw e at g in rw (h, k, eqb-true own 0 e) (rows_deep v l nm size)
    go true e false false = let h : q ≡ 0 = rw e at f in let k : y ≡ size = rw e at g in rw (h, k, eqb-true own 0 e) (rows_seven v l nm false false size)
    go false e true true = let h : q ≡ 7 = rw e at f in rw h (rows_own v l nm true true own size y (eqb-false own 0 e))
    go false e true false = let h : q ≡ 7 = rw e at f in rw h (rows_own v l nm true false own size y (eqb-false own 0 e))
    go false e false true = let h : q ≡ 7 = rw e at f in rw h (rows_deep_own v l nm own size y (eqb-false own 0 e))
    go false e false false = let h : q ≡ 7 = rw e at f in rw h (rows_own v l nm false false own size y (eqb-false own 0 e))

-- ---- the answer

not_seven : (x : ℕ) → x ≡ cond (eqb x 7) 0 x → eqb x 7 ≡ false
not_seven x e = go (eqb x 7) refl
  where
    go : (t : Bool) → eqb x 7 ≡ t → eqb x 7 ≡ false
    go true p = let z : x ≡ 0 = rw p at e in absurd (true≢false (sym (rw z at p)))
    go false p = p

told_lem : (own : ℕ) (f : Field) (a : Result Field Refusal) → (number_told a ≡ 0 → a ≡ Ok f) → (own ≡ 0 → eqb (number_told a) 7 ≡ false)
    → own_told own a ≡ field_or_number (cond (eqb (number_told a) 7) own (number_told a)) f
told_lem own f (Ok x) h k = ap Ok (ap (then_or x) (h refl))
told_lem own f (Err r) h k = go (eqb (refusal_number r) 7) refl
  where
    go : (t : Bool) → eqb (refusal_number r) 7 ≡ t → own_told own (Err r) ≡ field_or_number (cond (eqb (refusal_number r) 7) own (refusal_number r)) f
    go true e = rw (e, ne_eqb own 0 (λ z. true≢false (sym e ∙ k z)))
    go false e = rw (e, ne_eqb (refusal_number r) 0 (number_some r))

module _ (v : View) (l : Storage) (nm : Option Name) (into opens : Bool) (own size : ℕ) {q y : ℕ} {a : Result Field Refusal} (f : q ≡ cond (eqb own 0) 0 7) (g : y ≡ cond (eqb own 0) size 0)
    (d : Decides (first (enter_rows v l nm into (into && opens) q y)) into v l nm a) where
  any_number : first (enter_rows v l nm into opens own size) ≡ cond (((opens && not into) && leb 64 v.counts.depth) && late_told a) 11 (cond (eqb (number_told a) 7) own (number_told a))
  any_number = rw (late_lem a, d.number) (any_rows v l nm into opens own size f g)

  pub any_deep : (((opens && not into) && leb 64 v.counts.depth) && late_told a) ≡ true → Err 11 ≡ field_or_number (first (enter_rows v l nm into opens own size)) (field_of into v l nm)
  any_deep t = rw (any_number, t)

  pub any_told : (((opens && not into) && leb 64 v.counts.depth) && late_told a) ≡ false → own_told own a ≡ field_or_number (first (enter_rows v l nm into opens own size)) (field_of into v l nm)
  any_told t =
      rw (any_number, t)
      (told_lem own (field_of into v l nm) a (λ z. field_ok d (sym d.number ∙ z))
      (λ z. let h : q ≡ 0 = rw z at f in rw d.number (rw h (not_seven _ (rows_seven v l nm into (into && opens) y)))))

-- A register, an append or an open of any flags and any own number, from the call that is carried out.
use mathlib.Core.Path.{◌≡◌, refl, sym, ◌∙◌, ap}
use mathlib.Core.Bool.{Bool, true, false, not, ◌&&◌, ◌||◌, true≢false}
use mathlib.Core.List.{List}
use mathlib.Core.Option.{Option}
use Prim.Native.Nat.{ℕ, ◌^◌, ◌<◌}
use native.Mathlib.Omega.{arith}
use lib.Dec.{eqb, leb}
use borrow.Author.Tests.{eq-eqb, eqb-true, leb-false, ne_eqb}
use Rattle.std.specs.Prelude.{Result, Ok, Err, IfOk}
use Rattle.encoding.specs.Rows.{first}
use Rattle.metadata.specs.Names.{Name}
use Rattle.semantics.specs.declared.View.{View}
use Rattle.semantics.specs.declared.refusal.Refusal.{Refusal}
use Rattle.semantics.specs.Record.{Storage}
use Rattle.semantics.proofs.RefusalLaws.{number_some}
use Rattle.refusals.specs.declared.Field.{Field}
use Rattle.refusals.specs.Decide.{enter_rows, field_of, field_or_number}
use Rattle.refusals.proofs.RowLaws.{enter_late, own_zero}
use Rattle.actions.specs.declared.enter.Entered.{Entered}
use Rattle.actions.specs.Actions.{EntersBy, EntersNumber, one_more, said}
use Rattle.actions.proofs.EnterLaws.{entered_by}

-- neither an own number nor one that opens alone too deep: by the test, and where the number is 0
abbrev pub Unrefused : View → Bool → Bool → ℕ → Type 0
Unrefused v into opens own = (own ≡ 0) × (((opens && not into) && leb 64 v.counts.depth) ≡ false)

pub unrefused_test : (v : View) (into opens : Bool) (own : ℕ)
    → (not (eqb own 0) || ((opens && not into) && leb 64 v.counts.depth)) ≡ false → Unrefused v into opens own
unrefused_test v into opens own e = go (eqb own 0) refl _ e
  where
    go : (t : Bool) → eqb own 0 ≡ t → (u : Bool) → (not t || u) ≡ false → (own ≡ 0) × (u ≡ false)
    go true p u e = (eqb-true own 0 p, e)
    go false p u e = absurd (true≢false e)

is_field : Result Field ℕ → Bool
is_field (Ok f) = true
is_field (Err n) = false

ok_zero : (n : ℕ) {f : Field} (g : Field) → Ok f ≡ field_or_number n g → n ≡ 0
unfolding is_field
ok_zero n {f} g e = go (eqb n 0) refl
  where
    go : (t : Bool) → eqb n 0 ≡ t → n ≡ 0
    go true p = eqb-true n 0 p
    go false p = absurd (true≢false (ap is_field (rw p at e)))

shut : (i o x : Bool) → (o && x) ≡ false → ((o && not i) && x) ≡ false
shut true true x e = refl
shut true false x e = refl
shut false true x e = e
shut false false x e = refl

pub unrefused_field : (v : View) (l : Storage) (nm : Option Name) (into opens : Bool) (own size : ℕ) {f : Field}
    → Ok f ≡ field_or_number (first (enter_rows v l nm into opens own size)) (field_of into v l nm)
    → Unrefused v into opens own
unrefused_field v l nm into opens own size e =
    let z = ok_zero _ _ e in
    (own_zero v l nm into opens own size z, shut into opens (leb 64 v.counts.depth) (enter_late v l nm into opens own size z 11))

-- its rows are those of that call, where it has no own number and none opens alone too deep
pub rows_same : (v : View) (l : Storage) (nm : Option Name) (into opens : Bool) (own size : ℕ) → Unrefused v into opens own
    → first (enter_rows v l nm into opens own size) ≡ first (enter_rows v l nm into (into && opens) 0 size)
unfolding first
rows_same v l nm into opens own size u = rw u.0 (go into opens u.1)
  where
    go : (i o : Bool) → ((o && not i) && leb 64 v.counts.depth) ≡ false
        → first (enter_rows v l nm i o 0 size) ≡ first (enter_rows v l nm i (i && o) 0 size)
    go true true h = refl
    go true false h = refl
    go false true h = rw h refl
    go false false h = refl

-- the depth then
deeper_depth : (into opens : Bool) (n : ℕ) → one_more (opens && not into) (one_more (into && opens) n) ≡ one_more opens n
deeper_depth true true n = refl
deeper_depth true false n = refl
deeper_depth false true n = refl
deeper_depth false false n = refl

-- and what it answers is this one's, by number
pub said_enters : {v : View} {l : Storage} {nm : Option Name} {into opens : Bool} {size m n : ℕ} {text ends : List ℕ} (r : Result Entered Refusal)
    → n ≡ m → EntersBy v l nm into (into && opens) size m r text ends → EntersNumber v l nm into opens size n (said (opens && not into) r) text ends
said_enters {v} {l} {nm} {into} {opens} {n = n} (Ok e) q a =
    let z = eq-eqb n 0 (q ∙ sym a.number) in
    let b = entered_by a in
    record {
      number = rw z;
      counts = rw (z, b.counts, deeper_depth into opens v.counts.depth);
      elements = rw z b.elements;
      unique = a.unique;
      text_left = rw q a.text_left;
      ends_left = rw q a.ends_left;
      entry = record { entries = b.entries; undo = b.undo; parent = b.parent };
    }
said_enters {n = n} (Err r) q a =
    let k = a.number ∙ sym q in
    let z = ne_eqb n 0 (λ p. number_some r (k ∙ p)) in
    record { number = rw (z, k); counts = rw z; elements = rw z; unique = a.unique; text_left = rw q a.text_left; ends_left = rw q a.ends_left; entry = tt }

-- a depth that is one more is a number of the machine
pub said_room : (v : View) {l : Storage} {nm : Option Name} (into opens : Bool) (own : ℕ) {size m : ℕ} {text ends : List ℕ} (r : Result Entered Refusal)
    → Unrefused v into opens own → EntersBy v l nm into (into && opens) size m r text ends → (opens && not into) ≡ true → IfOk r (λ e. e.counts.depth < 2 ^ 63)
said_room v into opens own (Ok e) u a t =
    let b = entered_by a in
    rw b.counts (go into opens u.1 t)
  where
    go : (i o : Bool) → ((o && not i) && leb 64 v.counts.depth) ≡ false → (o && not i) ≡ true → one_more (i && o) v.counts.depth < 2 ^ 63
    go true true h t = absurd (true≢false (sym t))
    go true false h t = absurd (true≢false (sym t))
    go false true h t = let d = leb-false 64 v.counts.depth h in omega arith
    go false false h t = absurd (true≢false (sym t))
said_room v into opens own (Err r) u a t = tt

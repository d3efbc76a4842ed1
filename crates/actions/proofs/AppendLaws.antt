-- An append from its rows, its name and entry, and its scalar's bytes.
use mathlib.Core.Path.{◌≡◌, refl, sym, ◌∙◌, ap}
use mathlib.Core.Bool.{Bool, true, false}
use mathlib.Core.List.{List, ◌++◌}
use mathlib.Core.Option.{Option, some}
use Prim.Native.Nat.{ℕ}
use lib.Dec.{eqb}
use lib.ListN.{length, replicate, take}
use lib.Seq.{take-append_seam}
use borrow.Author.Tests.{eq-eqb, ne_eqb, eqb-true, eqb-false}
use Rattle.encoding.specs.Rows.{first}
use Rattle.encoding.specs.Slices.{Placed, Writes, write}
use Rattle.value.specs.declared.variant.Variant.{Variant}
use Rattle.value.specs.Decimal.{out_of_range}
use Rattle.value.specs.Scalar.{scalar_bytes, stored_variant}
use Rattle.packed_decimal.specs.PackedDecimal.{packed_variant}
use Rattle.packed_decimal.specs.Calls.{ReadsPacked, packed_rows}
use Rattle.metadata.specs.Names.{Name}
use Rattle.semantics.specs.declared.View.{View}
use Rattle.semantics.specs.Record.{Storage, Scalars, fixed, append, scalar_of, sixteen, storage_of}
use Rattle.semantics.specs.Table.{scalar_rows, number_of}
use Rattle.semantics.specs.Step.{appended}
use Rattle.semantics.proofs.Demand1.{scalar_order}
use Rattle.refusals.specs.Decide.{enter_rows, size_told}
use Rattle.refusals.proofs.RowLaws.{append_number, own_before, own_row, own_zero}
use Rattle.actions.specs.declared.enter.Entered.{Entered}
use Rattle.actions.specs.Actions.{EntersBy, Leaves, entries_put, moved_by, undo_put}
use Rattle.actions.specs.Append.{OwnBytes, StoredAs, size_by}
use Rattle.actions.specs.declared.Moved.{Moved}
use Rattle.std.specs.Prelude.{IsOk, Result, Ok, Err}
use Rattle.semantics.specs.declared.refusal.Refusal.{Refusal}
use Rattle.semantics.specs.declared.refusal.Refusal.TheVariants as refusal
use Rattle.semantics.specs.Refusal.{number_told, refusal_number}
use Rattle.semantics.proofs.RefusalLaws.{number_some}
use Rattle.actions.proofs.EnterLaws.{enter_clears, entered_by, refuses}

-- the rows are the append's, by the scalar's own number and, where that is 0, its size
pub append_rows_lem : (v : View) (l : Storage) (nm : Option Name) (x : Scalars) {own size : ℕ} → own ≡ first (scalar_rows x) → (own ≡ 0 → size ≡ length (scalar_bytes (scalar_of x)))
    → first (enter_rows v l nm true false own size) ≡ number_of v l (append nm x)
unfolding number_of
append_rows_lem v l nm x {own} {size} o s = go (eqb own 0) refl ∙ (rw o (append_number v l nm (scalar_rows x) (length (scalar_bytes (scalar_of x))) (scalar_order x)))
  where
    go : (t : Bool) → eqb own 0 ≡ t → first (enter_rows v l nm true false own size) ≡ first (enter_rows v l nm true false own (length (scalar_bytes (scalar_of x))))
    go true e = ap (λ k. first (enter_rows v l nm true false own k)) (s (eqb-true own 0 e))
    go false e = own_before v l nm true false own size _ (eqb-false own 0 e)

module _ {v : View} {l : Storage} {nm : Option Name} (x : Scalars) {own size : ℕ} (o : own ≡ first (scalar_rows x)) (s : own ≡ 0 → size ≡ length (scalar_bytes (scalar_of x))) where
  -- refused: all is as it was
  pub append_stays : {e f : Refusal} {r : Result Moved Refusal} {text ends : List ℕ} → EntersBy v l nm true false size (first (enter_rows v l nm true false own size)) (Err e) text ends → r ≡ Err f → f ≡ e
      → Leaves v l (append nm x) r (storage_of l.value text ends l.entries l.undo)
  append_stays {e} a q i =
      let z = ne_eqb (first (enter_rows v l nm true false own size)) 0 (λ p. number_some e (a.number ∙ p)) in
      rw (a.text_left, a.ends_left, z) (refuses (a.number ∙ append_rows_lem v l nm x o s) q i)

  -- carried out
  module _ {e : Entered} {text ends : List ℕ} (a : EntersBy v l nm true false size (first (enter_rows v l nm true false own size)) (Ok e) text ends) where
    pub own_whole : own ≡ 0
    own_whole = own_zero v l nm true false own size (sym a.number)

    pub append_writes : {p : Placed} {value entries undo : List ℕ} → entries ≡ entries_put e l.entries → undo ≡ undo_put e l.entries l.undo
        → Writes v.counts.value (scalar_bytes (scalar_of x)) l.value p value → Leaves v l (append nm x) (Ok (moved_by e)) (storage_of value text ends entries undo)
    unfolding appended
    append_writes {p} {value} {entries} {undo} g h w =
        let b = entered_by a in
        let z = eq-eqb (number_of v l (append nm x)) 0 (sym (a.number ∙ append_rows_lem v l nm x o s)) in
        let c = enter_clears v l nm true false own size (sym a.number) in
        let i = s own_whole in
        let q : value ≡ write v.counts.value (scalar_bytes (scalar_of x)) l.value = rw (w.bytes, ← i, c.room) in
        record { number = a.number ∙ append_rows_lem v l nm x o s; moved = rw (z, b.counts, b.elements, i); storage = rw (q, a.text_left, a.ends_left, append_rows_lem v l nm x o s, z, g, h, b.entries, b.undo) }

-- ---- a scalar that is stored as one of fixed size

module _ {s : Scalars} {x : Variant} {own size : ℕ} (t : StoredAs s x own) (h : size ≡ length (scalar_bytes (stored_variant x))) where
  pub stored_size : own ≡ 0 → size ≡ length (scalar_bytes (scalar_of s))
  stored_size z = h ∙ ap (λ y. length (scalar_bytes y)) (sym (t.scalar z))

  pub stored_stays : {v : View} {l : Storage} {nm : Option Name} {e f : Refusal} {r : Result Moved Refusal} {text ends : List ℕ} → EntersBy v l nm true false size (first (enter_rows v l nm true false own size)) (Err e) text ends → r ≡ Err f → f ≡ e
      → Leaves v l (append nm s) r (storage_of l.value text ends l.entries l.undo)
  stored_stays a q i = append_stays s t.number stored_size a q i

  pub stored_writes : {v : View} {l : Storage} {nm : Option Name} {e : Entered} {text ends : List ℕ} {p : Placed} {value entries undo : List ℕ} → EntersBy v l nm true false size (first (enter_rows v l nm true false own size)) (Ok e) text ends
      → entries ≡ entries_put e l.entries → undo ≡ undo_put e l.entries l.undo → Writes v.counts.value (scalar_bytes (stored_variant x)) l.value p value
      → Leaves v l (append nm s) (Ok (moved_by e)) (storage_of value text ends entries undo)
  stored_writes {p = p} a g q w = append_writes s t.number stored_size a {p = p} g q (rw (t.scalar (own_whole s t.number stored_size a)) w)

-- ---- a scalar whose bytes are those stored for a value, or that has its own refusal

size_number : {A : Type 0} (stored : A → List ℕ) (x : Result A Refusal) → number_told (size_by stored x) ≡ number_told x
size_number stored (Ok x) = refl
size_number stored (Err e) = refl

size_bytes : {A : Type 0} (stored : A → List ℕ) {s : Scalars} (x : Result A Refusal) → OwnBytes stored s x → number_told (size_by stored x) ≡ 0
    → size_told (size_by stored x) ≡ length (scalar_bytes (scalar_of s))
size_bytes stored (Ok x) t z = ap length (sym (t.bytes x refl))
size_bytes stored (Err e) t z = absurd (number_some e z)

module _ {A : Type 0} (stored : A → List ℕ) (x : Result A Refusal) {size : Result ℕ Refusal} (h : size ≡ size_by stored x) where
  pub own_number : {s : Scalars} → OwnBytes stored s x → number_told size ≡ first (scalar_rows s)
  own_number t = rw (h, size_number stored x) t.number

  pub own_size : {s : Scalars} → OwnBytes stored s x → number_told size ≡ 0 → size_told size ≡ length (scalar_bytes (scalar_of s))
  own_size t z = rw h (size_bytes stored x t (rw h at z))

  module _ {v : View} {l : Storage} {nm : Option Name} {text ends : List ℕ} where
    -- one that is entered is not refused
    pub own_entered : {e : Entered} → EntersBy v l nm true false (size_told size) (first (enter_rows v l nm true false (number_told size) (size_told size))) (Ok e) text ends → IsOk x
    own_entered a = go x (sym (size_number stored x) ∙ (rw h at (own_zero v l nm true false (number_told size) (size_told size) (sym a.number))))
      where
        go : (r : Result A Refusal) → number_told r ≡ 0 → IsOk r
        go (Ok y) z = refl
        go (Err f) z = absurd (number_some f z)

    pub own_stays : {s : Scalars} {e f : Refusal} {r : Result Moved Refusal} → OwnBytes stored s x → EntersBy v l nm true false (size_told size) (first (enter_rows v l nm true false (number_told size) (size_told size))) (Err e) text ends
        → r ≡ Err f → f ≡ e → Leaves v l (append nm s) r (storage_of l.value text ends l.entries l.undo)
    own_stays {s} t a q i = append_stays s (own_number t) (own_size t) a q i

    pub own_writes : {s : Scalars} {e : Entered} {y : A} {p : Placed} {value entries undo : List ℕ} → OwnBytes stored s x → EntersBy v l nm true false (size_told size) (first (enter_rows v l nm true false (number_told size) (size_told size))) (Ok e) text ends
        → entries ≡ entries_put e l.entries → undo ≡ undo_put e l.entries l.undo → x ≡ Ok y → Writes v.counts.value (stored y) l.value p value
        → Leaves v l (append nm s) (Ok (moved_by e)) (storage_of value text ends entries undo)
    own_writes {s} {y = y} {p = p} t a g k q w = append_writes s (own_number t) (own_size t) a {p = p} g k (rw (t.bytes y q) w)

-- ---- a scalar's own refusal, and what is stored for it

pub own_refuses : {A : Type 0} (stored : A → List ℕ) (s : Scalars) (r : Refusal) → refusal_number r ≡ first (scalar_rows s) → OwnBytes stored s (Err r)
own_refuses stored s r e = record { number = e; bytes = λ x q. absurd (number_some r (ap number_told q)) }

value_told : {A : Type 0} → A → Result A Refusal → A
value_told x (Ok y) = y
value_told x (Err r) = x

pub own_stores : {A : Type 0} (stored : A → List ℕ) (s : Scalars) (x : A) → 0 ≡ first (scalar_rows s) → scalar_bytes (scalar_of s) ≡ stored x → OwnBytes stored s (Ok x)
unfolding value_told
own_stores stored s x e b = record { number = e; bytes = λ y q. b ∙ ap stored (ap (value_told x) q) }

-- one of fixed size, by its one row
pub fixed_refused : (x : Variant) → out_of_range x ≡ true → OwnBytes (λ v. scalar_bytes (stored_variant v)) (fixed x) (Err refusal.OutOfRange)
fixed_refused x e = own_refuses (λ v. scalar_bytes (stored_variant v)) (fixed x) refusal.OutOfRange (own_row 7 refl (sym e))

pub fixed_stored : (x : Variant) → out_of_range x ≡ false → OwnBytes (λ v. scalar_bytes (stored_variant v)) (fixed x) (Ok x)
fixed_stored x e = own_stores (λ v. scalar_bytes (stored_variant v)) (fixed x) x (own_row 7 refl (sym e)) refl

-- packed decimal that is read is the scalar that is to be
pub packed_read : {bs : List ℕ} {scale : ℕ} {v : Variant} → ReadsPacked bs scale (Ok v) → v ≡ packed_variant bs scale
packed_read {bs} {scale} {v} t =
    let z = eq-eqb (first (packed_rows bs scale)) 0 (sym t.number) in
    let p : some v ≡ some (packed_variant bs scale) = rw z at t.variant in
    cc

-- ---- a UUID

-- its 16 bytes are not cut or filled
pub sixteen_whole : (bs : List ℕ) → length bs ≡ 16 → sixteen bs ≡ bs
sixteen_whole bs e = ap (λ n. take n (bs ++ replicate 16 0)) (sym e) ∙ take-append_seam bs (replicate 16 0)

-- A name registered and a container opened, from what is entered.
use mathlib.Core.Path.{◌≡◌, sym, ◌∙◌}
use mathlib.Core.Bool.{Bool, true, false}
use mathlib.Core.List.{List}
use mathlib.Core.Option.{Option, some}
use Prim.Native.Nat.{ℕ, ◌+◌}
use native.Mathlib.Omega.{arith}
use borrow.Author.Tests.{eq-eqb, ne_eqb}
use Rattle.encoding.specs.Rows.{first}
use Rattle.metadata.specs.Names.{Name}
use Rattle.container.specs.declared.Entry.{Entry}
use Rattle.semantics.specs.declared.Container.{Container}
use Rattle.semantics.specs.declared.View.{View}
use Rattle.semantics.specs.Record.{Storage, open_in, register, storage_of}
use Rattle.semantics.specs.Table.{number_of}
use Rattle.semantics.specs.Step.{new_container, opened, registered}
use Rattle.refusals.specs.Decide.{enter_rows}
use Rattle.refusals.proofs.RowLaws.{open_number, register_number}
use Rattle.actions.specs.declared.enter.Entered.{Entered}
use Rattle.actions.specs.declared.Moved.{Moved}
use Rattle.actions.specs.declared.Opened.{Opened}
use Rattle.actions.specs.Actions.{EntersBy, Leaves, Opens, child_of, entries_put, moved_by, opened_to, parent_put, undo_put}
use Rattle.actions.proofs.EnterLaws.{entered_by, refuses}
use Rattle.std.specs.Prelude.{Result, Ok, Err, Option as Optional}
use Rattle.semantics.specs.declared.refusal.Refusal.{Refusal}
use Rattle.semantics.proofs.RefusalLaws.{number_some, then_none, then_ok}

-- ---- a name registered

module _ {v : View} {l : Storage} (name : Name) where
  pub registers_refused : {e f : Refusal} {r : Result Moved Refusal} {text ends : List ℕ} → EntersBy v l (some name) false false 0 (first (enter_rows v l (some name) false false 0 0)) (Err e) text ends
      → r ≡ Err f → f ≡ e → Leaves v l (register name) r (storage_of l.value text ends l.entries l.undo)
  registers_refused {e} a q i =
      let z = ne_eqb (first (enter_rows v l (some name) false false 0 0)) 0 (λ p. number_some e (a.number ∙ p)) in
      rw (a.text_left, a.ends_left, z) (refuses (a.number ∙ register_number v l name) q i)

  pub registers : {e : Entered} {text ends : List ℕ} → EntersBy v l (some name) false false 0 (first (enter_rows v l (some name) false false 0 0)) (Ok e) text ends
      → Leaves v l (register name) (Ok (moved_by e)) (storage_of l.value text ends l.entries l.undo)
  unfolding registered
  registers a =
      let z = eq-eqb (number_of v l (register name)) 0 (sym (a.number ∙ register_number v l name)) in
      let w : v.counts.value + 0 ≡ v.counts.value = omega arith in
      let b = entered_by a in
      record { number = a.number ∙ register_number v l name; moved = rw (z, b.counts, b.elements, w); storage = rw (a.text_left, a.ends_left, register_number v l name, z) }

-- ---- a container opened
module _ {v : View} {l : Storage} {nm : Option Name} (object : Bool) where
  pub opens_refused : {e f : Refusal} {r : Result Opened Refusal} {text ends : List ℕ} → EntersBy v l nm true true 0 (first (enter_rows v l nm true true 0 0)) (Err e) text ends
      → r ≡ Err f → f ≡ e → Opens v l nm object r (storage_of l.value text ends l.entries l.undo)
  opens_refused {e} a q i =
      let n = a.number ∙ open_number v l nm object in
      let z = ne_eqb (number_of v l (open_in nm object)) 0 (λ p. number_some e (n ∙ p)) in
      rw (q, i) (record { number = n; opened = then_none _ e n; storage = rw (a.text_left, a.ends_left, open_number v l nm object, z) })

  pub opens : {e : Entered} {text ends entries undo : List ℕ} {p : Optional Entry} {k : Container} → EntersBy v l nm true true 0 (first (enter_rows v l nm true true 0 0)) (Ok e) text ends
      → (p ≡ parent_put e l.entries) × (entries ≡ entries_put e l.entries) × (undo ≡ undo_put e l.entries l.undo) → k ≡ child_of v.counts e p object
      → Opens v l nm object (Ok (record { counts = e.counts; elements = e.elements; container = k })) (storage_of l.value text ends entries undo)
  unfolding new_container opened
  opens {e} a g c =
      let b = entered_by a in
      let n = a.number ∙ open_number v l nm object in
      let z = eq-eqb (number_of v l (open_in nm object)) 0 (sym n) in
      let w : v.counts.value + 0 ≡ v.counts.value = omega arith in
      record { number = n; opened = rw (z, c, g.0, b.counts, b.elements, b.parent, b.unique, w); storage = rw (a.text_left, a.ends_left, open_number v l nm object, z, g.1, b.entries, g.2, b.undo) }

  -- which gives what the definition says
  pub opened_ok : {r : Result Opened Refusal} {after : Storage} → Opens v l nm object r after → number_of v l (open_in nm object) ≡ 0 → r ≡ Ok (opened_to v l nm object)
  opened_ok {r} w = then_ok _ r w.number w.opened

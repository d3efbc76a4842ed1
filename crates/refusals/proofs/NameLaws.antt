-- What is known of a name, from its look-up and the pass over the innermost entries.
use mathlib.Core.Path.{◌≡◌, refl, sym, ◌∙◌, ap}
use mathlib.Core.Bool.{Bool, true, false, cond, not, ◌&&◌, true≢false, and-false}
use mathlib.Core.Option.{some, none}
use Rattle.std.specs.Prelude.{is_some, Some, None, Result, Ok, Err}
use Prim.Native.Nat.{ℕ, suc, ◌+◌}
use native.Mathlib.Omega.{arith}
use lib.Dec.{ltb}
use lib.ListN.{length}
use borrow.Author.Tests.{ltb-false}
use Rattle.encoding.specs.Utf8.{utf8}
use Rattle.metadata.specs.Names.{Name, intact, field_names}
use Rattle.metadata.specs.declared.FieldName.{FieldName}
use Rattle.metadata.specs.declared.FieldName.TheVariants.{Found, New}
use Rattle.metadata.specs.declared.NameError.{NameError}
use Rattle.metadata.specs.Calls.{Told, lookup, has_room, told}
use Rattle.metadata.proofs.DictionaryLaws.{place_low}
use Rattle.metadata.proofs.BytesLaws.{length_names}
use Rattle.container.specs.declared.Search.{Search}
use Rattle.container.specs.Entries.{Searches, seek}
use Rattle.semantics.specs.declared.View.{View}
use Rattle.semantics.specs.Record.{Storage, is_open, in_object, inner_size, inner_entries, names_held}
use Rattle.semantics.specs.Damage.{fallen_ends, misplaced_inner}
use Rattle.semantics.specs.Table.{held, id_of}
use Rattle.semantics.specs.declared.refusal.Refusal.TheVariants as refusal
use Rattle.semantics.specs.Refusal.{name_refusal, number_told}
use Rattle.semantics.proofs.RefusalLaws.{name_number, number_some}
use Rattle.refusals.specs.declared.Field.TheVariants.{Unnamed, Fresh, Held}
use Rattle.refusals.specs.Decide.{field_of, broken_of, known_id, field_by, live_by, named_by, live_told, Sees}
pub use Rattle.refusals.proofs.ViewLaws.{Within, within, entries_within, ends_read, range_within, found_before}

-- ---- what a look-up's number says

-- a number n, not 0: the look-up is refused, and with that number or, where an entry is misplaced, 1
refused_by : (into : Bool) (v : View) (k : Result FieldName NameError) (s : Search) (n : ℕ) → (told k).number ≡ suc n
    → number_told (named_by into v k s) ≡ cond (into && (in_object v && s.misplaced)) 1 (suc n)
refused_by into v (Ok (Found id)) s n e = absurd (omega arith)
refused_by into v (Ok (New id)) s n e = absurd (omega arith)
refused_by into v (Err r) s n e = go (into && (in_object v && s.misplaced))
  where
    go : (t : Bool) → number_told (cond t (Err refusal.Damaged) (field_by into v s (Err r))) ≡ cond t 1 (suc n)
    go true = refl
    go false = sym (name_number r) ∙ e

-- and then no field is live
unlive_by : (into : Bool) (v : View) (k : Result FieldName NameError) (s : Search) (n : ℕ) → (told k).number ≡ suc n → live_told (named_by into v k s) ≡ false
unlive_by into v (Ok (Found id)) s n e = absurd (omega arith)
unlive_by into v (Ok (New id)) s n e = absurd (omega arith)
unlive_by into v (Err r) s n e = go (into && (in_object v && s.misplaced))
  where
    go : (t : Bool) → live_told (cond t (Err refusal.Damaged) (field_by into v s (Err r))) ≡ false
    go true = refl
    go false = refl

-- number 0: the name has an id, which is held or new
known_held : (k : Result FieldName NameError) (id : ℕ) → told k ≡ told (Ok (Found id)) → k ≡ Ok (Found id)
known_held (Ok (Found i)) id e = ap (λ (x : Told). Ok (Found x.id)) e
known_held (Ok (New i)) id e = absurd (true≢false (ap (λ (x : Told). x.new) e))
known_held (Err r) id e = absurd (number_some (name_refusal r) (sym (name_number r) ∙ ap (λ (x : Told). x.number) e))

known_new : (k : Result FieldName NameError) (id : ℕ) → told k ≡ told (Ok (New id)) → k ≡ Ok (New id)
known_new (Ok (New i)) id e = ap (λ (x : Told). Ok (New x.id)) e
known_new (Ok (Found i)) id e = absurd (true≢false (sym (ap (λ (x : Told). x.new) e)))
known_new (Err r) id e = absurd (number_some (name_refusal r) (sym (name_number r) ∙ ap (λ (x : Told). x.number) e))

-- ---- a name

pub sees_none : (into : Bool) (v : View) (l : Storage) → Sees into v l none (Ok Unnamed)
unfolding field_of
sees_none true v l = record { number = refl; live = λ p q. refl; field = λ p. refl }
sees_none false v l = record { number = refl; live = λ p q. refl; field = λ p. refl }

ones : (t : Bool) → ◌≡◌ {A = ℕ} (cond t 1 1) 1
ones true = refl
ones false = refl

not_zero : (b : Bool) (x : ℕ) → cond b 1 (suc x) ≡ 0 → ⊥
not_zero true x e = omega arith
not_zero false x e = omega arith

none_into : (i o : Bool) → (i && (o && false)) ≡ false
none_into true o = and-false o
none_into false o = refl

-- a live place is one that there is
some_place : (t : Bool) (n : ℕ) → is_some (cond t (Some n) None) ≡ t
some_place true n = refl
some_place false n = refl

module _ (into : Bool) (v : View) (l : Storage) (n : Name) (k : Result FieldName NameError) (s : Search) (unbroken : broken_of v l ≡ false)
    (e : told k ≡ lookup v.counts.dictionary l.text l.ends n)
    (q : Searches l.entries v.inner.entries v.counts.entries true (field_names v.counts.dictionary) (inner_size v) (known_id k) s) where
  any : (in_object v && s.misplaced) ≡ misplaced_inner v l
  unfolding misplaced_inner
  any = rw (q.misplaced_any, range_within l.entries v.inner.entries v.counts.entries (entries_within v l unbroken))

  any_into : (into && (in_object v && s.misplaced)) ≡ (into && misplaced_inner v l)
  any_into = ap (λ t. into && t) any

  at : s.place ≡ v.inner.entries + seek (known_id k) (inner_entries v l)
  at = rw (range_within l.entries v.inner.entries v.counts.entries (entries_within v l unbroken)) at q.place_first

  found : ltb s.place v.counts.entries ≡ ltb (seek (known_id k) (inner_entries v l)) (length (inner_entries v l))
  found = rw at (found_before l.entries v.inner.entries v.counts.entries (known_id k))

  -- no entry misplaced: the field
  found_field : (id : ℕ) → k ≡ Ok (Found id) → (into && misplaced_inner v l) ≡ false → named_by into v k s ≡ Ok (Held id (live_by into v s))
  found_field id e m = rw (any_into, m, e) refl

  fresh_field : (id : ℕ) → k ≡ Ok (New id) → (into && misplaced_inner v l) ≡ false → named_by into v k s ≡ Ok (Fresh id)
  fresh_field id e m = rw (any_into, m, e) refl

  -- a name that is not held gets the next id
  fresh_id : intact v.counts.dictionary l.text l.ends ≡ true → held v l n ≡ false → id_of v l n ≡ field_names v.counts.dictionary
  fresh_id i h =
      let a = length_names v.counts.dictionary l.text l.ends i in
      omega (arith, ltb-false (id_of v l n) (field_names v.counts.dictionary) h, place_low n (names_held v l))

  -- where an entry is misplaced
  misplaced_named : fallen_ends v l ≡ false → (into && misplaced_inner v l) ≡ true → Sees into v l (some n) (named_by into v k s)
  misplaced_named f m =
      let z : named_by into v k s ≡ Err refusal.Damaged = rw (any_into, m) in
      record { number = rw (z, f, m); live = λ p. absurd (true≢false (rw (f, m) at p)); field = λ p. absurd (not_zero true 0 (rw z at p)) }

  -- and where none is: a name that is held
  held_cases : k ≡ Ok (Found (id_of v l n)) → held v l n ≡ true → utf8 n ≡ true → fallen_ends v l ≡ false → (m : Bool) → (into && misplaced_inner v l) ≡ m
      → Sees into v l (some n) (named_by into v k s)
  unfolding field_of
  held_cases e h u f true m = misplaced_named f m
  held_cases e h u f false m =
      let z = found_field (id_of v l n) e m in
      let w : named_by into v k s ≡ Ok (field_of into v l (some n)) = rw z (rw (found, at, e, h)) in
      record { number = rw (z, f, m, u, h); live = λ p q. rw (w, h) (some_place _ _); field = λ p. w }

  -- one that is not, and gets the next id
  fresh_cases : k ≡ Ok (New (field_names v.counts.dictionary)) → intact v.counts.dictionary l.text l.ends ≡ true → held v l n ≡ false → has_room v.counts.dictionary l.text l.ends n ≡ true
      → utf8 n ≡ true → fallen_ends v l ≡ false → (m : Bool) → (into && misplaced_inner v l) ≡ m → Sees into v l (some n) (named_by into v k s)
  unfolding field_of
  fresh_cases e i h r u f true m = misplaced_named f m
  fresh_cases e i h r u f false m =
      let z = fresh_field _ e m in
      let w : named_by into v k s ≡ Ok (field_of into v l (some n)) = rw z (rw (h, fresh_id i h)) in
      record { number = rw (z, f, m, u, h, r); live = λ p q. rw (w, h) (sym (none_into into (is_open v))); field = λ p. w }

  -- the cases of a look-up: intact, UTF-8, held, room
  pub sees_name : Sees into v l (some n) (named_by into v k s)
  unfolding field_of lookup
  sees_name = go (intact v.counts.dictionary l.text l.ends) (utf8 n) (held v l n) (has_room v.counts.dictionary l.text l.ends n) refl refl refl refl
    where
      go : (a b c d : Bool) → intact v.counts.dictionary l.text l.ends ≡ a → utf8 n ≡ b → held v l n ≡ c → has_room v.counts.dictionary l.text l.ends n ≡ d → Sees into v l (some n) (named_by into v k s)
      go false b c d i u h r =
          let f : fallen_ends v l ≡ true = sym (ends_read v l unbroken) ∙ ap not i in
          let nu : (told k).number ≡ 1 = ap (λ (x : Told). x.number) (rw i at e) in
          let z = refused_by into v k s 0 nu in
          record { number = rw (f, z, any_into) (ones (into && misplaced_inner v l)); live = λ p. absurd (true≢false (rw f at p)); field = λ p. absurd (not_zero _ 0 (sym z ∙ p)) }
      go true b c d i u h r = told_cases b c d i u h r (sym (ends_read v l unbroken) ∙ ap not i)
        where
          told_cases : (b c d : Bool) → intact v.counts.dictionary l.text l.ends ≡ true → utf8 n ≡ b → held v l n ≡ c → has_room v.counts.dictionary l.text l.ends n ≡ d → fallen_ends v l ≡ false → Sees into v l (some n) (named_by into v k s)
          told_cases false c d i u h r f =
              let nu : (told k).number ≡ 9 = ap (λ (x : Told). x.number) (rw (i, u) at e) in
              let z = refused_by into v k s 8 nu in
              record { number = rw (z, f, u, any_into); live = λ p q. absurd (true≢false (rw u at q)); field = λ p. absurd (not_zero _ 8 (sym z ∙ p)) }
          told_cases true true d i u h r f =
              let z = rw (i, u, h) at e in
              let kn = known_held k (id_of v l n) z in
              held_cases kn h u f (into && misplaced_inner v l) refl
          told_cases true false true i u h r f =
              let z = rw (i, u, h, r) at e in
              let kn = known_new k (field_names v.counts.dictionary) z in
              fresh_cases kn i h r u f (into && misplaced_inner v l) refl
          told_cases true false false i u h r f =
              let nu : (told k).number ≡ 12 = ap (λ (x : Told). x.number) (rw (i, u, h, r) at e) in
              let z = refused_by into v k s 11 nu in
              record {
                number = rw (z, f, u, h, r, any_into);
                live = λ p p'. rw (unlive_by into v k s 11 nu, h) (sym (none_into into (is_open v)));
                field = λ p. absurd (not_zero _ 11 (sym z ∙ p));
              }

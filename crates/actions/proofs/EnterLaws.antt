-- A name added where it is new, and the entry of the value that comes.
use mathlib.Core.Path.{◌≡◌, refl, sym, ◌∙◌, ap}
use mathlib.Core.Bool.{Bool, true, false, cond, not, ◌&&◌, true≢false, and-false}
use mathlib.Core.List.{List}
use mathlib.Core.Option.{Option, none, some}
use Prim.Native.Nat.{ℕ, ◌+◌, ◌^◌, ◌≤◌, ◌<◌}
use native.Mathlib.Omega.{arith}
use lib.ListN.{length}
use lib.Dec.{ltb}
use borrow.Author.Tests.{eq-eqb, ne_eqb, leb-false, leb-true, lt-ltb, not-false}
use Rattle.encoding.specs.Rows.{first}
use Rattle.encoding.specs.Slices.{counted, fits}
use Rattle.metadata.specs.declared.MetadataBuilder.{MetadataBuilder}
use Rattle.metadata.specs.Names.{Name}
use Rattle.metadata.specs.Calls.{has_room}
use Rattle.container.specs.Entries.{room_for}
use Rattle.semantics.specs.declared.View.{View}
use Rattle.semantics.specs.declared.Counts.{Counts}
use Rattle.std.specs.Prelude.{Option as Optional, Some, None, Result, Ok, Err, IfOk}
use Rattle.semantics.specs.declared.refusal.Refusal.{Refusal}
use Rattle.semantics.specs.Refusal.{refusal_number}
use Rattle.semantics.proofs.RefusalLaws.{number_some, then_none, then_ok}
use Rattle.semantics.specs.Record.{Storage, Call, in_list, in_object, inner_size, is_open, unique_now}
use Rattle.semantics.specs.Table.{number_of, held, live_under, names_full, entries_full, undo_full}
use Rattle.semantics.specs.Step.{id_for, place_for, count_with, dictionary_with, ends_with, entries_with, parent_with, text_with, undo_count_with, undo_with, with_counts}
use Rattle.refusals.specs.declared.Field.{Field}
use Rattle.refusals.specs.declared.Field.TheVariants.{Unnamed, Fresh, Held}
use Rattle.refusals.specs.Decide.{Decides, enter_rows, field_fresh, field_id, field_of, field_place, full_by, is_new, live_into, unkept_by}
use Rattle.refusals.proofs.RowLaws.{enter_late, enter_unbroken, field_ok, own_zero}
use Rattle.refusals.proofs.ViewLaws.{few_elements}
use Rattle.semantics.proofs.ViewLaws.{both}
use Rattle.actions.specs.declared.enter.Entered.{Entered}
use Rattle.actions.specs.declared.enter.Put.{Put}
use Rattle.actions.specs.declared.Moved.{Moved}
use Rattle.actions.specs.Actions.{EntersBy, Leaves, Registers, counts_with, entries_put, fresh_put, moved_to, one_more, parent_put, put_by, recorded_put, undo_put}

-- ---- a call that is refused changes nothing

pub refuses : {v : View} {l : Storage} {c : Call} {e f : Refusal} {r : Result Moved Refusal} → refusal_number e ≡ number_of v l c → r ≡ Err f → f ≡ e → Leaves v l c r l
refuses {v} {l} {c} {e} n q i =
    let z = ne_eqb (number_of v l c) 0 (λ p. number_some e (n ∙ p)) in
    rw (q, i) (record { number = n; moved = then_none _ e n; storage = rw z })

-- and one that is not gives what the definition says
pub moved_ok : {v : View} {l : Storage} {c : Call} {r : Result Moved Refusal} {after : Storage} → Leaves v l c r after → number_of v l c ≡ 0 → r ≡ Ok (moved_to v l c)
moved_ok {r = r} w = then_ok _ r w.number w.moved

-- ---- a name

-- what a name's adding leaves, where the names are not full for it
pub record Named (v : View) (l : Storage) (nm : Option Name) (m : MetadataBuilder) (text ends : List ℕ) : Type 0 where
  pub dictionary : m ≡ dictionary_with v l nm
  pub text_left : text ≡ text_with v l nm
  pub ends_left : ends ≡ ends_with v l nm

pub named_some : {v : View} {l : Storage} {name : Name} {new : Bool} {m : MetadataBuilder} {text ends : List ℕ}
    → new ≡ is_new v l (some name) → names_full v l (some name) ≡ false → Registers new v.counts.dictionary l.text l.ends (some name) m text ends → Named v l (some name) m text ends
named_some {v} {l} {name} {new} {m} {text} {ends} e f r = go (held v l name) (has_room v.counts.dictionary l.text l.ends name) refl refl
  where
    go : (h t : Bool) → held v l name ≡ h → has_room v.counts.dictionary l.text l.ends name ≡ t → Named v l (some name) m text ends
    go true t p q = record { dictionary = rw (r.metadata, e, p); text_left = rw (r.text_left, e, p); ends_left = rw (r.ends_left, e, p) }
    go false true p q = record { dictionary = rw (r.metadata, e, p, q); text_left = rw (r.text_left, e, p, q); ends_left = rw (r.ends_left, e, p, q) }
    go false false p q = absurd (true≢false (rw (p, q) at f))

pub named_by : {v : View} {l : Storage} {new : Bool} {m : MetadataBuilder} {text ends : List ℕ} (nm : Option Name)
    → new ≡ is_new v l nm → names_full v l nm ≡ false → Registers new v.counts.dictionary l.text l.ends nm m text ends → Named v l nm m text ends
named_by (some n) e f r = named_some e f r
named_by none e f r = record { dictionary = r.metadata; text_left = r.text_left; ends_left = r.ends_left }

-- ---- the rows are clear

pub record Clears (v : View) (l : Storage) (nm : Option Name) (into opens : Bool) (size : ℕ) : Type 0 where
  pub depth : opens ≡ true → v.counts.depth < 64
  pub names : names_full v l nm ≡ false
  pub entries : full_by into v (live_into into v l nm) (length l.entries) ≡ false
  pub undo : unkept_by v (live_into into v l nm) (length l.undo) ≡ false
  pub room : fits v.counts.value size (length l.value) ≡ true
  pub elements : in_list v ≡ true → v.elements ≤ v.counts.value

pub enter_clears : (v : View) (l : Storage) (nm : Option Name) (into opens : Bool) (own size : ℕ) → first (enter_rows v l nm into opens own size) ≡ 0 → Clears v l nm into opens size
enter_clears v l nm into opens own size e =
    let c = enter_late v l nm into opens own size e in
    record {
      depth = λ o. leb-false 64 v.counts.depth (rw o at (c 11));
      names = c 12;
      entries = c 13;
      undo = c 23;
      room = not-false (fits v.counts.value size (length l.value)) (c 14);
      elements = few_elements v l (enter_unbroken v l nm into opens own size e);
    }

-- ---- what is entered

-- a fresh entry has room
fresh_room : (v : View) (l : Storage) (nm : Option Name) → entries_full v l nm ≡ false → in_object v ≡ true → live_under v l nm ≡ false → ltb v.counts.entries (room_for (length l.entries)) ≡ true
fresh_room v l nm e p q = lt-ltb v.counts.entries (room_for (length l.entries)) (leb-false (room_for (length l.entries)) v.counts.entries (rw (p, q) at e))

-- so has an undo record
record_room : (v : View) (l : Storage) (nm : Option Name) → undo_full v l nm ≡ false → live_under v l nm ≡ true → ltb 0 v.inner.marks ≡ true → ltb v.counts.undo (room_for (length l.undo)) ≡ true
record_room v l nm e p q = lt-ltb v.counts.undo (room_for (length l.undo)) (leb-false (room_for (length l.undo)) v.counts.undo (rw (p, q) at e))

-- ---- what is put: a live name's entry, or in an object the next one

fresh_by : (object live marked : Bool) (place entries undo : ℕ) → fresh_put (put_by object (cond live (Some place) None) marked entries undo) ≡ (object && not live)
fresh_by true true marked place entries undo = refl
fresh_by true false marked place entries undo = refl
fresh_by false true marked place entries undo = refl
fresh_by false false marked place entries undo = refl

recorded_by : (object live marked : Bool) (place entries undo : ℕ) → recorded_put (put_by object (cond live (Some place) None) marked entries undo) ≡ (live && marked)
recorded_by true true true place entries undo = refl
recorded_by true true false place entries undo = refl
recorded_by false true true place entries undo = refl
recorded_by false true false place entries undo = refl
recorded_by true false marked place entries undo = refl
recorded_by false false marked place entries undo = refl

-- ---- a call that is refused

-- by its rows
pub entered_refused : {v : View} {l : Storage} {nm : Option Name} {into opens : Bool} {size n : ℕ} {e f : Refusal} {r : Result Entered Refusal} → Decides n into v l nm (Err e) → r ≡ Err f → f ≡ e
    → EntersBy v l nm into opens size n r l.text l.ends
entered_refused {n = n} {e = e} a q i =
    let z = ne_eqb n 0 (λ p. number_some e (a.number ∙ p)) in
    rw (q, i) (record { number = a.number; counts = rw z; elements = rw z; unique = refl; text_left = rw z; ends_left = rw z; entry = tt })

-- a scalar that is entered is not refused
pub size_whole : {A : Type 0} (v : View) (l : Storage) (nm : Option Name) (into opens : Bool) (own size : ℕ) {f : Field} (e : Refusal) → Decides (first (enter_rows v l nm into opens own size)) into v l nm (Ok f)
    → own ≡ refusal_number e → A
size_whole v l nm into opens own size e a q = absurd (number_some e (sym q ∙ own_zero v l nm into opens own size (sym a.number)))

-- ---- a call that is carried out

-- what a field says of its name
no_place : (into : Bool) (n : ℕ) → None ≡ cond (into && false) (Some n) None
no_place true n = refl
no_place false n = refl

place_told : (into : Bool) (v : View) (l : Storage) (nm : Option Name) → field_place (field_of into v l nm) ≡ cond (live_into into v l nm) (Some (place_for v l nm)) None
unfolding field_of
place_told into v l none = no_place into _
place_told into v l (some n) = go (held v l n) refl
  where
    go : (h : Bool) → held v l n ≡ h → field_place (field_of into v l (some n)) ≡ cond (live_into into v l (some n)) (Some (place_for v l (some n))) None
    go true p = rw p refl
    go false p = rw (p, and-false (is_open v)) (no_place into _)

id_told : (into : Bool) (v : View) (l : Storage) (nm : Option Name) → field_id (field_of into v l nm) ≡ id_for v l nm
unfolding field_of
id_told into v l none = refl
id_told into v l (some n) = go (held v l n) _
  where
    go : (h : Bool) {id : ℕ} (place : Optional ℕ) → field_id (cond h (Held id place) (Fresh id)) ≡ id
    go true place = refl
    go false place = refl

fresh_told : (into : Bool) (v : View) (l : Storage) (nm : Option Name) → field_fresh (field_of into v l nm) ≡ is_new v l nm
unfolding field_of
fresh_told into v l none = refl
fresh_told into v l (some n) = go (held v l n) _ _
  where
    go : (h : Bool) (id : ℕ) (place : Optional ℕ) → field_fresh (cond h (Held id place) (Fresh id)) ≡ not h
    go true id place = refl
    go false id place = refl

field_told : Result Field Refusal → Field
field_told (Ok f) = f
field_told (Err e) = Unnamed

module _ (v : View) (l : Storage) (nm : Option Name) (into opens : Bool) (own size : ℕ) {f : Field}
    (a : Decides (first (enter_rows v l nm into opens own size)) into v l nm (Ok f)) where
  field_lem : f ≡ field_of into v l nm
  unfolding field_told
  field_lem = ap field_told (field_ok a (sym a.number))

  place_lem : field_place f ≡ cond (live_into into v l nm) (Some (place_for v l nm)) None
  place_lem = ap field_place field_lem ∙ place_told into v l nm

  id_lem : field_id f ≡ id_for v l nm
  id_lem = ap field_id field_lem ∙ id_told into v l nm

  clear : Clears v l nm into opens size
  clear = enter_clears v l nm into opens own size (sym a.number)

  abbrev put : Put
  put = put_by (into && in_object v) (field_place f) (ltb 0 v.inner.marks) v.counts.entries v.counts.undo

  fresh_lem : fresh_put put ≡ ((into && in_object v) && not (live_into into v l nm))
  fresh_lem = rw place_lem (fresh_by (into && in_object v) (live_into into v l nm) (ltb 0 v.inner.marks) (place_for v l nm) v.counts.entries v.counts.undo)

  recorded_lem : recorded_put put ≡ (live_into into v l nm && ltb 0 v.inner.marks)
  recorded_lem = rw place_lem (recorded_by (into && in_object v) (live_into into v l nm) (ltb 0 v.inner.marks) (place_for v l nm) v.counts.entries v.counts.undo)

  -- the counts then are numbers of the machine
  pub used_bound : v.counts.value + size < 2 ^ 63
  used_bound = let h = leb-true (v.counts.value + size) (counted (length l.value)) clear.room in omega arith

  pub entry_bound : length l.entries < 2 ^ 64 → fresh_put put ≡ true → v.counts.entries < 2 ^ 63
  entry_bound g t =
      let h = leb-false (room_for (length l.entries)) v.counts.entries (rw (sym fresh_lem ∙ t) at clear.entries) in
      omega arith

  pub record_bound : length l.undo < 2 ^ 64 → recorded_put put ≡ true → v.counts.undo < 2 ^ 63
  record_bound g t =
      let h = leb-false (room_for (length l.undo)) v.counts.undo (rw (sym recorded_lem ∙ t) at clear.undo) in
      omega arith

  pub depth_bound : opens ≡ true → v.counts.depth < 2 ^ 63
  depth_bound o = let h = clear.depth o in omega arith

  -- so are a list's elements
  pub elements_bound : (into && in_list v) ≡ true → v.elements < 2 ^ 63
  elements_bound t =
      let h = leb-true (v.counts.value + size) (counted (length l.value)) clear.room in
      let b = clear.elements (both into (in_list v) t).1 in
      omega arith

  module _ {b : MetadataBuilder} {text ends : List ℕ} {at elements id : ℕ} {c : Counts} {u : Bool} {p : Put} (w : p ≡ put) (r : Registers (field_fresh f) v.counts.dictionary l.text l.ends nm b text ends) (s : at ≡ inner_size v)
      (k : c ≡ with_counts v.counts (v.counts.value + size) (one_more (fresh_put p) v.counts.entries) (one_more (recorded_put p) v.counts.undo) (one_more opens v.counts.depth) b)
      (t : elements ≡ one_more (into && in_list v) v.elements) (j : id ≡ field_id f) (m : u ≡ unique_now v) where
    abbrev entered : Entered
    entered = record { counts = c; elements = elements; id = id; offset = at; put = p; unique = u }

    named : Named v l nm b text ends
    named = named_by nm (ap field_fresh field_lem ∙ fresh_told into v l nm) clear.names r

    -- its entry: a new one, a live name's, or none at the top level, in a list and for a register
    puts : (entries_put entered l.entries ≡ cond into (entries_with v l nm) l.entries) × (parent_put entered l.entries ≡ cond into (parent_with v l nm) None)
    puts = go into (in_object v) (live_under v l nm) refl refl refl
      where
        go : (i o b : Bool) → into ≡ i → in_object v ≡ o → live_under v l nm ≡ b
            → (entries_put entered l.entries ≡ cond into (entries_with v l nm) l.entries) × (parent_put entered l.entries ≡ cond into (parent_with v l nm) None)
        go false o b i e q = (rw (w, j, place_lem, id_lem, i), rw (w, j, place_lem, id_lem, i))
        go true true false i e q = (rw (w, j, place_lem, id_lem, s, i, e, q, fresh_room v l nm (rw i at clear.entries) e q), rw (w, j, place_lem, id_lem, i, e, q))
        go true true true i e q = (rw (w, j, place_lem, id_lem, s, i, e, q), rw (w, j, place_lem, id_lem, i, e, q))
        go true false true i e q = (rw (w, j, place_lem, id_lem, s, i, e, q), rw (w, j, place_lem, id_lem, i, e, q))
        go true false false i e q = (rw (w, j, place_lem, id_lem, i, e, q), rw (w, j, place_lem, id_lem, i, e, q))

    -- one entry more, where a value is entered
    counted_entries : one_more (fresh_put p) v.counts.entries ≡ cond into (count_with v l nm) v.counts.entries
    counted_entries = go into refl
      where
        go : (i : Bool) → into ≡ i → one_more (fresh_put p) v.counts.entries ≡ cond into (count_with v l nm) v.counts.entries
        go true i = rw (w, fresh_lem, i)
        go false i = rw (w, fresh_lem, i)

    -- one undo record more, where a value replaces another under a mark
    counted_records : one_more (recorded_put p) v.counts.undo ≡ cond into (undo_count_with v l nm) v.counts.undo
    counted_records = go into refl
      where
        go : (i : Bool) → into ≡ i → one_more (recorded_put p) v.counts.undo ≡ cond into (undo_count_with v l nm) v.counts.undo
        go true i = rw (w, recorded_lem, i)
        go false i = rw (w, recorded_lem, i)

    records : undo_put entered l.entries l.undo ≡ cond into (undo_with v l nm) l.undo
    records = go into (in_object v) (live_under v l nm) (ltb 0 v.inner.marks) refl refl refl refl
      where
        go : (i o b g : Bool) → into ≡ i → in_object v ≡ o → live_under v l nm ≡ b → ltb 0 v.inner.marks ≡ g → undo_put entered l.entries l.undo ≡ cond into (undo_with v l nm) l.undo
        go false o b g i e q h = rw (w, j, place_lem, id_lem, i)
        go true true false g i e q h = rw (w, j, place_lem, id_lem, i, e, q)
        go true false false g i e q h = rw (w, j, place_lem, id_lem, i, e, q)
        go true o true false i e q h = rw (w, j, place_lem, id_lem, i, q, h)
        go true o true true i e q h = rw (w, j, place_lem, id_lem, i, q, h, record_room v l nm (rw i at clear.undo) q h)

    pub enters : EntersBy v l nm into opens size (first (enter_rows v l nm into opens own size)) (Ok entered) text ends
    enters =
        let z = eq-eqb (first (enter_rows v l nm into opens own size)) 0 (sym a.number) in
        record {
          number = a.number;
          counts = rw (z, k, counted_entries, counted_records, named.dictionary);
          elements = rw z t;
          unique = m;
          text_left = rw z named.text_left;
          ends_left = rw z named.ends_left;
          entry = record { entries = puts.0; undo = records; parent = puts.1 };
        }

-- what is entered, where it is carried out
pub record EnteredBy (v : View) (l : Storage) (nm : Option Name) (into opens : Bool) (size : ℕ) (e : Entered) : Type 0 where
  pub counts : e.counts ≡ counts_with v l nm into opens size
  pub elements : e.elements ≡ one_more (into && in_list v) v.elements
  pub unique : e.unique ≡ unique_now v
  pub entries : entries_put e l.entries ≡ cond into (entries_with v l nm) l.entries
  pub undo : undo_put e l.entries l.undo ≡ cond into (undo_with v l nm) l.undo
  pub parent : parent_put e l.entries ≡ cond into (parent_with v l nm) None

pub entered_by : {v : View} {l : Storage} {nm : Option Name} {into opens : Bool} {size n : ℕ} {e : Entered} {text ends : List ℕ} → EntersBy v l nm into opens size n (Ok e) text ends
    → EnteredBy v l nm into opens size e
entered_by {n = n} a =
    let z = eq-eqb n 0 (sym a.number) in
    record { counts = rw z at a.counts; elements = rw z at a.elements; unique = a.unique; entries = a.entry.entries; undo = a.entry.undo; parent = a.entry.parent }

pub entered_ok : {v : View} {l : Storage} {nm : Option Name} {into opens : Bool} {size n : ℕ} {text ends : List ℕ} (r : Result Entered Refusal) → EntersBy v l nm into opens size n r text ends
    → IfOk r (EnteredBy v l nm into opens size)
entered_ok (Ok e) a = entered_by a
entered_ok (Err f) a = tt

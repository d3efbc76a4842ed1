-- What is found over bytes is what the reading has.
use mathlib.Core.Path.{◌≡◌, refl, sym, ◌∙◌, ap}
use mathlib.Core.Bool.{Bool, true, false, cond, not}
use mathlib.Core.List.{List, [], ◌∷◌}
use Prim.Native.Nat.{ℕ, ◌+◌, ◌-◌, ◌%◌}
use native.Mathlib.Omega.{arith}
use lib.Dec.{eqb}
use lib.ListN.{length, drop, get_or}
use borrow.Author.Tests.{le-leb, eqb-true, eqb-false}
use Rattle.encoding.specs.Rows.{first}
use Rattle.metadata.specs.Names.{Name, same}
use Rattle.metadata.specs.Bytes.{joined, dictionary_names}
use Rattle.container.specs.declared.Entry.{Entry}
use Rattle.container.specs.Entries.{ids_of, offsets_of}
use Rattle.container.specs.Sort.{name_at}
use Rattle.measure.specs.Measure.{measured}
use Rattle.lexicon.proofs.DictionaryLaws.{both}
use Rattle.grammar.specs.Grammar.{Shape, scalar, list, object, Shapes, layout, layouts, starts_from, among, starting, Fits, ReadsPair}
use Rattle.grammar.specs.Tests.{object_from, pair_rows}
use Rattle.grammar.specs.Fields.{shape_at}
use Rattle.grammar.proofs.FieldLaws.{FieldAt, fits_more, scalar_first, list_first, object_first, object_bytes_lem, value_at}
use Rattle.std.specs.Prelude.{Option, Some, None, Ok, Err}
use Rattle.reader.specs.declared.Part.{Part}
use Rattle.reader.specs.declared.IntegerField.{IntegerField}
use Rattle.reader.specs.declared.errors.ReadError.{ReadError}
use Rattle.reader.specs.declared.errors.ReadError.TheVariants.{BadDictionary, BadValue}
use Rattle.scalar_reader.specs.Integers.{integer_in}
use Rattle.scalar_reader.proofs.IntegerLaws.{integer_scalar, integer_other}
use Rattle.reader.specs.Answers.{FindsField, FindsInteger, field_among, field_in, error_number, integer_shape, integer_among, integer_first, part, part_of, part_at, field_by, field_found, field_of, integer_field_of, integer_by, integer_found}

-- ---- a number, by its bytes

integer_shape_lem : (names : List Name) (depth : ℕ) (t : Shape) → Fits names depth t → integer_in (layout t) ≡ integer_shape t
unfolding layout
integer_shape_lem names depth (scalar s) h = integer_scalar s h
integer_shape_lem names depth (list w big ts) h = integer_other (layout (list w big ts)) (omega (arith, list_first w big ts))
integer_shape_lem names depth (object w u big es ts) h = integer_other (layout (object w u big es ts)) (omega (arith, object_first w u big es ts))

-- ---- an object's fields

same_part : {p q : Part} → Some p ≡ Some q → p ≡ q
same_part e = cc

module _ (names : List Name) (d w u : ℕ) (big : Bool) (fs : List Entry) (ts : Shapes) (h : Fits names d (object w u big fs ts))
    (v : List ℕ) (l : v ≡ layout (object w u big fs ts)) where
  module _ (n : ℕ) (a : among n (starts_from 0 (layouts ts)) ≡ true) where
    there : FieldAt names (d - 1) v ts n
    there = value_at names d w u big fs ts h v l n a

    part_shape : part_at v n ≡ part (object_from v + n) (object_from v + n + length (layout (shape_at n 0 ts)))
    part_shape = rw there.size

    part_bytes : part_of v (Some (part_at v n)) ≡ layout (shape_at n 0 ts)
    unfolding part_of
    part_bytes =
        let s = object_from v + n in
        let m = measured (drop s v) in
        let z : s + m - s ≡ m = omega arith in
        let k = there.size in
        let r = there.room in
        rw (le-leb s (s + m) (omega arith), le-leb (s + m) (length v) (omega arith), z) there.part

    integer_found_lem : integer_in (part_of v (Some (part_at v n))) ≡ integer_shape (shape_at n 0 ts)
    integer_found_lem = ap integer_in part_bytes ∙ integer_shape_lem names (d - 1) (shape_at n 0 ts) there.fits

  fields_found : (name : Name) (es : List Entry) → starting (starts_from 0 (layouts ts)) (offsets_of es) ≡ true
      → field_by names name v (ids_of es) (offsets_of es) ≡ field_among names name (object_from v) ts es
  unfolding starting field_by field_among
  fields_found name [] s = refl
  fields_found name (x ∷ es) s =
      let p = both {a = among x.offset (starts_from 0 (layouts ts))} s in
      let q = both {a = not (among x.offset (offsets_of es))} p.1 in
      rw (part_shape x.offset p.0, fields_found name es q.1)

  integers_found : (es : List Entry) → starting (starts_from 0 (layouts ts)) (offsets_of es) ≡ true
      → integer_by v (ids_of es) (offsets_of es) ≡ integer_among ts es
  unfolding starting integer_by integer_among
  integers_found [] s = refl
  integers_found (x ∷ es) s =
      let p = both {a = among x.offset (starts_from 0 (layouts ts))} s in
      let q = both {a = not (among x.offset (offsets_of es))} p.1 in
      rw (integer_found_lem x.offset p.0, integers_found es q.1)

  -- a field that is found is one of the values
  record FoundAt (s e : ℕ) : Type 0 where
    offset : ℕ
    start : among offset (starts_from 0 (layouts ts)) ≡ true
    place : part s e ≡ part_at v offset

  found_at : (name : Name) (es : List Entry) {s e : ℕ} → starting (starts_from 0 (layouts ts)) (offsets_of es) ≡ true → field_among names name (object_from v) ts es ≡ Some (part s e) → FoundAt s e
  unfolding starting field_among
  found_at name [] g q = cc
  found_at name (x ∷ es) {s} {e} g q =
      let p = both {a = among x.offset (starts_from 0 (layouts ts))} g in
      let r = both {a = not (among x.offset (offsets_of es))} p.1 in
      go (same (name_at names x.id) name) p.0 q (found_at name es r.1)
    where
      here : Option Part
      here = Some (part (object_from v + x.offset) (object_from v + x.offset + length (layout (shape_at x.offset 0 ts))))

      go : (t : Bool) → among x.offset (starts_from 0 (layouts ts)) ≡ true → cond t here (field_among names name (object_from v) ts es) ≡ Some (part s e)
          → (field_among names name (object_from v) ts es ≡ Some (part s e) → FoundAt s e) → FoundAt s e
      go true a q f = record { offset = x.offset; start = a; place = same_part (sym q) ∙ sym (part_shape x.offset a) }
      go false a q f = f q

-- THE PART that is found is read again over the same dictionary, so that calls compose
pub part_read : {d v : List ℕ} {w : ℕ} {mark : Bool} {names : List Name} (t : Shape) (name : Name) {s e : ℕ} → ReadsPair d v w mark names t → field_in names name t ≡ Some (part s e)
    → (u : Shape) × ReadsPair d (part_of v (Some (part s e))) w mark names u
unfolding field_in
part_read (scalar s) name r q = cc
part_read (list w big ts) name r q = cc
part_read {v = v} {names = names} (object w u big es ts) name {s} {e} r q =
    let f = r.second.fits in
    let l = r.second.laid in
    let o = object_bytes_lem names 64 w u big es ts f v l in
    let x : length (layout (object w u big es ts)) - length (joined (layouts ts)) ≡ object_from v = omega (arith, o.size, ap length l) in
    let k = found_at names 64 w u big es ts f v l name es f.2.offsets (rw x at q) in
    let b : part_of v (Some (part_at v k.offset)) ≡ layout (shape_at k.offset 0 ts) = part_bytes names 64 w u big es ts f v l k.offset k.start in
    let i = there names 64 w u big es ts f v l k.offset k.start in
    let room = i.room in
    let size = r.second.size in
    let laid : part_of v (Some (part s e)) ≡ layout (shape_at k.offset 0 ts) = ap (λ o. part_of v (Some o)) k.place ∙ b in
    let long = ap length laid in
    (shape_at k.offset 0 ts, record { first = r.first; second = record { laid = laid; fits = fits_more names (shape_at k.offset 0 ts) i.fits (omega arith); size = omega arith } })

-- ---- by name

-- a refusal is told by a number above 0
pub told : (e : ReadError) → error_number e ≡ 0 → ⊥
told BadDictionary z = absurd (omega arith)
told BadValue z = absurd (omega arith)

module _ (d v name : List ℕ) where
  pub field_refused : {e : ReadError} → error_number e ≡ first (pair_rows d v) → FindsField d v name (Err e)
  field_refused {e} q = record { number = q; found = λ t h z. absurd (told e z) }

  module _ (e : 0 ≡ first (pair_rows d v)) where
    field_missing : (get_or v 0 0 % 4 ≡ 2 → ⊥) → FindsField d v name (Ok None)
    unfolding field_in
    field_missing k = record { number = e; found = λ t h y. ap Ok (go t h.laid) }
      where
        go : (t : Shape) → v ≡ layout t → None ≡ field_in (dictionary_names d) name t
        go (scalar s) l = refl
        go (list w big ts) l = refl
        go (object w u big es ts) l = absurd (k (rw l (object_first w u big es ts)))

    field_named : get_or v 0 0 % 4 ≡ 2 → {r : Option Part} → r ≡ field_found (dictionary_names d) name v → FindsField d v name (Ok r)
    unfolding field_in
    field_named k {r} q = record { number = e; found = λ t h y. ap Ok (q ∙ go t h.laid h.fits) }
      where
        go : (t : Shape) → v ≡ layout t → Fits (dictionary_names d) 64 t → field_found (dictionary_names d) name v ≡ field_in (dictionary_names d) name t
        go (scalar s) l f = absurd (omega (arith, scalar_first s, ap (λ b. get_or b 0 0) l))
        go (list w big ts) l f = absurd (omega (arith, list_first w big ts, ap (λ b. get_or b 0 0) l))
        go (object w u big es ts) l f =
            let o = object_bytes_lem (dictionary_names d) 64 w u big es ts f v l in
            let x : object_from v ≡ length (layout (object w u big es ts)) - length (joined (layouts ts)) = omega (arith, o.size, ap length l) in
            rw (o.ids, o.offsets, ← x) (fields_found (dictionary_names d) 64 w u big es ts f v l name es f.2.offsets)

    -- as the code finds it
    pub field_told_lem : {r : Option Part} → r ≡ field_of (dictionary_names d) name v → FindsField d v name (Ok r)
    field_told_lem {r} q = go (eqb (get_or v 0 0 % 4) 2) refl
      where
        go : (t : Bool) → eqb (get_or v 0 0 % 4) 2 ≡ t → FindsField d v name (Ok r)
        go true x = field_named (eqb-true (get_or v 0 0 % 4) 2 x) (rw x at q)
        go false x = let w : r ≡ None = rw x at q in rw w (field_missing (eqb-false (get_or v 0 0 % 4) 2 x))

-- ---- the first integer

module _ (d v : List ℕ) where
  pub integer_refused : {e : ReadError} → error_number e ≡ first (pair_rows d v) → FindsInteger d v (Err e)
  integer_refused {e} q = record { number = q; found = λ t h z. absurd (told e z) }

  module _ (e : 0 ≡ first (pair_rows d v)) where
    integer_missing : (get_or v 0 0 % 4 ≡ 2 → ⊥) → FindsInteger d v (Ok None)
    unfolding integer_first
    integer_missing k = record { number = e; found = λ t h y. ap Ok (go t h.laid) }
      where
        go : (t : Shape) → v ≡ layout t → None ≡ integer_first t
        go (scalar s) l = refl
        go (list w big ts) l = refl
        go (object w u big es ts) l = absurd (k (rw l (object_first w u big es ts)))

    integer_first_lem : get_or v 0 0 % 4 ≡ 2 → {r : Option IntegerField} → r ≡ integer_found v → FindsInteger d v (Ok r)
    unfolding integer_first
    integer_first_lem k {r} q = record { number = e; found = λ t h y. ap Ok (q ∙ go t h.laid h.fits) }
      where
        go : (t : Shape) → v ≡ layout t → Fits (dictionary_names d) 64 t → integer_found v ≡ integer_first t
        go (scalar s) l f = absurd (omega (arith, scalar_first s, ap (λ b. get_or b 0 0) l))
        go (list w big ts) l f = absurd (omega (arith, list_first w big ts, ap (λ b. get_or b 0 0) l))
        go (object w u big es ts) l f =
            let o = object_bytes_lem (dictionary_names d) 64 w u big es ts f v l in
            rw (o.ids, o.offsets) (integers_found (dictionary_names d) 64 w u big es ts f v l es f.2.offsets)

    -- as the code finds it
    pub integer_told_lem : {r : Option IntegerField} → r ≡ integer_field_of v → FindsInteger d v (Ok r)
    integer_told_lem {r} q = go (eqb (get_or v 0 0 % 4) 2) refl
      where
        go : (t : Bool) → eqb (get_or v 0 0 % 4) 2 ≡ t → FindsInteger d v (Ok r)
        go true x = integer_first_lem (eqb-true (get_or v 0 0 % 4) 2 x) (rw x at q)
        go false x = let w : r ≡ None = rw x at q in rw w (integer_missing (eqb-false (get_or v 0 0 % 4) 2 x))

-- For the code: a container's values written from the last to the first, each before what stands already.
use mathlib.Core.Path.{◌≡◌, refl, sym, ◌∙◌, ap}
use mathlib.Core.List.{List, [], ◌∷◌, ◌++◌, append_assoc}
use mathlib.Core.Option.{some}
use Prim.Native.Nat.{ℕ, zero, suc, ◌+◌, ◌-◌, ◌≤◌, ◌<◌}
use native.Mathlib.Omega.{arith}
use lib.ListN.{length, take, drop, get_or, length-append, length-take, drop_of_length-le}
use lib.Seq.{drop_at, drop-cons, take-append-le, take-take}
use Rattle.encoding.specs.Slices.{write}
use Rattle.encoding.proofs.SliceLaws.{write_none}
use Rattle.metadata.specs.Names.{Name}
use Rattle.container.specs.declared.Entry.{Entry}
use Rattle.semantics.specs.Tree.{Part, data_of, encode, parts_of}
use Rattle.semantics.specs.Tree as tree
use Rattle.grammar.specs.Grammar.{Shape, Shapes, layout, layouts, starts_from}
use Rattle.grammar.specs.Grammar as grammar
use Rattle.live.specs.Live.{Live, Lives, end, child, live_fields, live_of, live_elements}
use Rattle.live.specs.Texts.{element_at}
use Rattle.live.proofs.ListLaws.{some_inj, none_some}
use Rattle.live.proofs.ChildLaws.{Stands, stands_element}
use Rattle.canonical.specs.Canonical.{tree_of, items_of}
use Rattle.canonical.specs.Sizes.{count}

-- a before b, which stands already
pub write_before : (l a b : List ℕ) (at : ℕ) → at + (length a + length b) ≤ length l → write at a (write (at + length a) b l) ≡ write at (a ++ b) l
unfolding write
write_before l a b at h =
    let n = at + length a in
    let rest = b ++ drop (n + length b) l in
    let k : length (take n l) ≡ n = omega (arith, length-take n l) in
    let p : take at (take n l ++ rest) ≡ take at l = take-append-le at (take n l) rest (omega arith) ∙ take-take at n l (omega arith) in
    let q : drop n (take n l ++ rest) ≡ rest = drop_at (take n l) rest n k in
    let e : n + length b ≡ at + length (a ++ b) = omega (arith, length-append a b) in
    rw (p, q, e) (ap (λ x. take at l ++ x) (sym (append_assoc a b (drop (at + length (a ++ b)) l))))

-- part number i of a container
abbrev pub part_at : List Part → ℕ → Part
part_at ps i = get_or ps i (record { label = tree.element; bytes = [] })

module _ (ps : List Part) where
  -- l is `before` with the parts from number i on written from place p up to `stop`
  pub record Backs (stop i : ℕ) (before l : List ℕ) (p : ℕ) : Type 0 where
    pub same : l ≡ write p (data_of (drop i ps)) before
    pub ends : p + length (data_of (drop i ps)) ≡ stop
    pub room : stop ≤ length before
    pub low : i ≤ length ps

  pub backs_start : (before : List ℕ) (stop : ℕ) → stop ≤ length before → Backs stop (length ps) before before stop
  unfolding data_of
  backs_start before stop h =
      let none : drop (length ps) ps ≡ [] = drop_of_length-le ps {i = length ps} (omega arith) in
      record { same = rw none (write_none before stop); ends = rw none (omega arith); room = h; low = omega arith }

  data_step : (i : ℕ) → i < length ps → data_of (drop i ps) ≡ (part_at ps i).bytes ++ data_of (drop (suc i) ps)
  unfolding data_of
  data_step i h = rw (drop-cons ps i (record { label = tree.element; bytes = [] }) h) refl

  -- the next one ends where those that are written begin
  pub backs_again : {stop i p q : ℕ} {before l : List ℕ} → Backs stop (suc i) before l p → q + length (part_at ps i).bytes ≡ p
      → Backs stop i before (write q (part_at ps i).bytes l) q
  backs_again {stop} {i} {p} {q} {before} {l} b e =
      let bytes = (part_at ps i).bytes in
      let rest = data_of (drop (suc i) ps) in
      let s = data_step i b.low in
      let n = length-append bytes rest in
      let ends = b.ends in
      let room = b.room in
      record {
        same =
            ap (write q bytes) (b.same ∙ ap (λ x. write x rest before) (sym e))
            ∙ (write_before before bytes rest q (omega arith) ∙ ap (λ x. write q x before) (sym s));
        ends = omega (arith, ap length s);
        room = room;
        low = omega (arith, b.low);
      }

  pub backs_end : {stop p : ℕ} {before l : List ℕ} → Backs stop 0 before l p → l ≡ write p (data_of ps) before
  backs_end b = b.same

-- ---- which parts these are, over the new names

module _ (names ns : List Name) where
  pub parts_count : (ls : Lives) → length (parts_of 1 ns (items_of ls)) ≡ count ls
  unfolding tree_of parts_of count
  parts_count end = refl
  parts_count (child n l ls) = ap suc (parts_count ls)

  pub fields_number : (at : ℕ → Live) (es : List Entry) → count (live_fields at names es) ≡ length es
  unfolding live_fields count
  fields_number at [] = refl
  fields_number at (e ∷ es) = ap suc (fields_number at es)

  pub elements_number : (at : ℕ) (ts : Shapes) → count (live_elements names ts) ≡ length (starts_from at (layouts ts))
  unfolding live_of count starts_from layout
  elements_number at grammar.none = refl
  elements_number at (grammar.more t ts) = ap suc (elements_number (at + length (layout t)) ts)

  -- a container's child number i
  part_of : (ls : Lives) (i : ℕ) (l : Live) → element_at i ls ≡ some l → (part_at (parts_of 1 ns (items_of ls)) i).bytes ≡ encode 1 ns (tree_of l)
  unfolding element_at tree_of parts_of
  part_of end i l e = absurd (none_some l e)
  part_of (child n x ls) zero l e = ap (λ y. encode 1 ns (tree_of y)) (some_inj x l e)
  part_of (child n x ls) (suc i) l e = part_of ls i l e

  field_child : (at : ℕ → Live) (es : List Entry) (i : ℕ) → i < length es
      → element_at i (live_fields at names es) ≡ some (at (get_or es i (record { id = 0; offset = 0 })).offset)
  unfolding live_fields element_at
  field_child at [] i h = absurd (omega arith)
  field_child at (e ∷ es) zero h = refl
  field_child at (e ∷ es) (suc i) h = field_child at es i (omega arith)

  -- an object's field number i
  pub field_part_lem : (at : ℕ → Live) (es : List Entry) (i : ℕ) → i < length es
      → (part_at (parts_of 1 ns (items_of (live_fields at names es))) i).bytes ≡ encode 1 ns (tree_of (at (get_or es i (record { id = 0; offset = 0 })).offset))
  field_part_lem at es i h = part_of (live_fields at names es) i (at (get_or es i (record { id = 0; offset = 0 })).offset) (field_child at es i h)

  -- a list's element number k
  pub element_part_lem : (k n : ℕ) (t : Shape) (ts : Shapes) → Stands k n t 0 0 ts
      → (part_at (parts_of 1 ns (items_of (live_elements names ts))) k).bytes ≡ encode 1 ns (tree_of (live_of names t))
  element_part_lem k n t ts s =
      let z : k - 0 ≡ k = omega arith in
      part_of (live_elements names ts) k (live_of names t) (rw z at (stands_element names k n t 0 0 ts s))

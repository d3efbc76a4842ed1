-- A reading's live tree is in good order: its leaves are in range, its fields ascend by name, it is not too deep. So it can be written and read again.
use mathlib.Core.Path.{◌≡◌, refl, sym, ◌∙◌, ap}
use mathlib.Core.Logic.{inl, inr, ◌≢◌}
use mathlib.Core.Bool.{Bool, true, false, cond, not, ◌||◌, true≢false}
use mathlib.Core.List.{List, [], ◌∷◌, map}
use mathlib.Core.Option.{Option, none, some}
use Prim.Native.Nat.{ℕ, ◌+◌, ◌-◌, ◌^◌, ◌<◌}
use native.Mathlib.Omega.{arith}
use lib.Dec.{eqb, leb, ltb}
use lib.ListN.{length, drop, length-append, length-drop}
use lib.Seq.{drop_at}
use borrow.Author.Tests.{eqb-true}
use Rattle.encoding.specs.Packed.{le}
use Rattle.encoding.specs.Utf8.{utf8}
use Rattle.encoding.proofs.PackedLaws.{length_le}
use Rattle.value.specs.declared.decoder.VariantPrimitiveType.TheVariants as type
use Rattle.value.specs.declared.variant.VariantBytes.TheVariants.{Text}
use Rattle.value.specs.Decoder.{code}
use Rattle.value.specs.Scalar.{Stored, primitive, short, Scalar, scalar_bytes, long, plain}
use Rattle.metadata.specs.Names.{Name, below}
use Rattle.metadata.specs.Bytes.{joined}
use Rattle.metadata.proofs.DictionaryLaws.{below_self}
use Rattle.container.specs.declared.Entry.{Entry}
use Rattle.container.specs.Entries.{ids_of}
use Rattle.container.specs.Sort.{name_at}
use Rattle.container.proofs.SortLaws.{Mem}
use Rattle.semantics.specs.Tree.{Label, Tree, Items}
use Rattle.semantics.specs.Tree as tree
use Rattle.semantics.proofs.TreeLaws.{Formed, FormedItems, Apart, ApartItems, ApartFrom, NotLive}
use Rattle.semantics.proofs.TreeLaws as trees
use Rattle.grammar.specs.Grammar.{Shape, Shapes, layout, layouts, Fits, FitsAll, Plain}
use Rattle.grammar.specs.Grammar as grammar
use Rattle.grammar.proofs.ScalarLaws.{bytes_plain}
use Rattle.grammar.proofs.ShapeLaws.{known_code}
use Rattle.accept.specs.Shape.{Within, WithinItems}
use Rattle.live.specs.Live.{Leaf, text, other, leaf_by, leaf_of, Live, leaf, nest, Lives, end, child, live_fields, live_of, live_elements, live_at}
use Rattle.live.proofs.ListLaws.{Rises, ascending_rises}
use Rattle.canonical.specs.Canonical.{scalar_of, label_of, tree_of, items_of}

-- ---- leaves

-- in range as it is written, and read as it was
abbrev pub GoodLeaf : Leaf → Type 0
GoodLeaf l = Plain (scalar_of l) × (leaf_of (scalar_of l) ≡ l)

plain_back : (bytes : List ℕ) → leaf_of (plain bytes) ≡ text bytes
unfolding leaf_by
plain_back bytes = go (leb (length bytes) 63)
  where
    go : (t : Bool) → leaf_of (cond t (record { stored_type = short; payload = bytes }) (long type.String bytes)) ≡ text bytes
    go true = refl
    go false = ap text (drop_at (le 4 (length bytes)) bytes 4 (length_le 4 (length bytes)))

text_good : (bytes : List ℕ) → length bytes < 256 ^ 4 → not (utf8 bytes) ≡ false → GoodLeaf (text bytes)
text_good bytes h u = (bytes_plain Text bytes h u, plain_back bytes)

other_back : (c : ℕ) (payload : List ℕ) → eqb c (code type.String) ≡ false
    → leaf_by (primitive c) payload ≡ other (record { stored_type = primitive c; payload = payload })
unfolding leaf_by
other_back c payload e = rw e

leaf_by_lem : (k : Stored) (payload : List ℕ) → Plain (record { stored_type = k; payload = payload }) → length payload < 256 ^ 4 → GoodLeaf (leaf_by k payload)
unfolding leaf_by
leaf_by_lem short payload p h = text_good payload h (neither (not (utf8 payload)) (ltb 63 (length payload)) p.range)
  where
    neither : (a b : Bool) → (a || b) ≡ false → a ≡ false
    neither false b e = refl
    neither true b e = e
leaf_by_lem (primitive c) payload p h = go (eqb c (code type.String)) refl
  where
    go : (t : Bool) → eqb c (code type.String) ≡ t → GoodLeaf (cond t (text (drop 4 payload)) (other (record { stored_type = primitive c; payload = payload })))
    go true e = text_good (drop 4 payload) (omega (arith, length-drop 4 payload)) (rw (eqb-true c (code type.String) e) at p.range)
    go false e = (p, other_back c payload e)

pub leaf_good : (s : Scalar) → Plain s → length s.payload < 256 ^ 4 → GoodLeaf (leaf_of s)
leaf_good s p h = leaf_by_lem s.stored_type s.payload p h

-- ---- trees

-- all names here are above n
abbrev pub OverLabel : Name → Option Name → Type 0
OverLabel n none = Unit {0}
OverLabel n (some m) = below n m ≡ true

abbrev pub Over : Name → Lives → Type 0
Over n end = Unit {0}
Over n (child m l ls) = OverLabel n m × Over n ls

-- an object's child has a name, below those that follow; a list's has none
abbrev pub Labelled : Bool → Option Name → Lives → Type 0
Labelled true none ls = ⊥
Labelled true (some n) ls = Over n ls
Labelled false none ls = Unit {0}
Labelled false (some n) ls = ⊥

-- with at most d containers one in another
abbrev mutual
  pub Good : ℕ → Live → Type 0
  Good d (leaf l) = GoodLeaf l
  Good d (nest object ls) = (0 < d) × GoodAll (d - 1) object ls

  pub GoodAll : ℕ → Bool → Lives → Type 0
  GoodAll d object end = Unit {0}
  GoodAll d object (child n l ls) = Labelled object n ls × Good d l × GoodAll d object ls

pub either : (P : Live → Type 0) (b : Bool) (x y : Live) → P x → P y → P (cond b x y)
either P true x y p q = p
either P false x y p q = q

over_fields : (at : ℕ → Live) (names : List Name) (n : Name) (es : List Entry) → ((y : Name) → Mem y (map (name_at names) (ids_of es)) → below n y ≡ true)
    → Over n (live_fields at names es)
unfolding live_fields
over_fields at names n [] h = tt
over_fields at names n (e ∷ es) h = (h _ (inl refl), over_fields at names n es (λ y m. h y (inr m)))

fields_good : (d : ℕ) (at : ℕ → Live) (names : List Name) (es : List Entry) → ((o : ℕ) → Good d (at o)) → Rises (map (name_at names) (ids_of es))
    → GoodAll d true (live_fields at names es)
unfolding live_fields
fields_good d at names [] g r = tt
fields_good d at names (e ∷ es) g r = (over_fields at names (name_at names e.id) es r.0, g e.offset, fields_good d at names es g r.1)

module _ (names : List Name) where
  mutual
    unfolding live_of layout joined scalar_bytes leaf_by

    -- WHAT A READING HOLDS is in good order
    pub live_good : (d : ℕ) (t : Shape) → Fits names d t → length (layout t) < 256 ^ 4 → Good d (live_of names t)
    live_good d (grammar.scalar s) f c = leaf_good s f (omega arith)
    live_good d (grammar.list w big ts) f c = (f.0, elements_good (d - 1) ts f.2 (omega (arith, simp length-append at c)))
    live_good d (grammar.object w v big es ts) f c =
        let at : (o : ℕ) → Good (d - 1) (live_at names o 0 ts) = λ o. at_good (d - 1) ts o 0 f.3 (omega (arith, simp length-append at c)) in
        (f.0, fields_good (d - 1) (λ o. live_at names o 0 ts) names es at (ascending_rises (map (name_at names) (ids_of es)) f.2.order))

    elements_good : (d : ℕ) (ts : Shapes) → FitsAll names d ts → length (joined (layouts ts)) < 256 ^ 4 → GoodAll d false (live_elements names ts)
    elements_good d grammar.none f c = tt
    elements_good d (grammar.more t ts) f c =
        let k = length-append (layout t) (joined (layouts ts)) in
        (tt, live_good d t f.0 (omega arith), elements_good d ts f.1 (omega arith))

    at_good : (d : ℕ) (ts : Shapes) (o at : ℕ) → FitsAll names d ts → length (joined (layouts ts)) < 256 ^ 4 → Good d (live_at names o at ts)
    at_good d grammar.none o at f c = (record { whole = refl; known = refl; range = refl }, refl)
    at_good d (grammar.more t ts) o at f c =
        let k = length-append (layout t) (joined (layouts ts)) in
        let next = at + length (layout t) in
        either (Good d) (eqb o at) (live_of names t) (live_at names o next ts) (live_good d t f.0 (omega arith)) (at_good d ts o next f.1 (omega arith))

-- ---- what writing and reading ask of its tree

pub record Fine (d : ℕ) (t : Tree) : Type 0 where
  pub formed : Formed t
  pub apart : Apart t
  pub within : Within d t

record FineAll (d : ℕ) (object : Bool) (is : Items) : Type 0 where
  formed : FormedItems object is
  apart : ApartItems is
  within : WithinItems d is

over_apart : (n : Name) (ls : Lives) → Over n ls → NotLive n (items_of ls)
unfolding tree_of
over_apart n end o = tt
over_apart n (child m l ls) o = (apart m o.0, over_apart n ls o.1)
  where
    -- a live label's name is above n
    above : Label → Bool
    above tree.element = true
    above (tree.live k) = below n k
    above tree.replaced = true

    apart : (m : Option Name) → OverLabel n m → label_of m ≢ tree.live n
    apart none k e = true≢false (ap above e ∙ below_self n)
    apart (some m) k e = true≢false (sym k ∙ (ap above e ∙ below_self n))

label_fits : (object : Bool) (n : Option Name) (ls : Lives) → Labelled object n ls → trees.Fits object (label_of n)
label_fits true none ls h = h
label_fits true (some n) ls h = tt
label_fits false none ls h = refl
label_fits false (some n) ls h = absurd h

label_apart : (object : Bool) (n : Option Name) (ls : Lives) → Labelled object n ls → ApartFrom (label_of n) (items_of ls)
label_apart object none ls h = tt
label_apart true (some n) ls h = over_apart n ls h
label_apart false (some n) ls h = absurd h

mutual
  unfolding tree_of

  pub good_fine : (d : ℕ) (l : Live) → Good d l → Fine d (tree_of l)
  good_fine d (leaf l) g =
      let known = known_code (scalar_of l).stored_type g.0.known in
      record { formed = record { whole = g.0.whole; known = known }; apart = tt; within = g.0.range }
  good_fine d (nest object ls) g =
      let f = all_fine (d - 1) object ls g.1 in
      record { formed = f.formed; apart = f.apart; within = (g.0, f.within) }

  all_fine : (d : ℕ) (object : Bool) (ls : Lives) → GoodAll d object ls → FineAll d object (items_of ls)
  all_fine d object end g = record { formed = tt; apart = tt; within = tt }
  all_fine d object (child n l ls) g =
      let f = good_fine d l g.1 in
      let r = all_fine d object ls g.2 in
      record {
        formed = (label_fits object n ls g.0, f.formed, r.formed);
        apart = (label_apart object n ls g.0, f.apart, r.apart);
        within = (f.within, r.within);
      }

-- One open container: its entries, elements and data in the machine beside its items in the history.
use mathlib.Core.Path.{◌≡◌, refl, sym, ◌∙◌, ap, subst}
use mathlib.Core.Logic.{◌⊎◌, inl, inr, ◌≢◌}
use mathlib.Core.Bool.{Bool, true, false, cond, ◌&&◌, ◌||◌, true≢false}
use mathlib.Core.List.{List, [], ◌∷◌, ◌++◌, append_assoc, append-nil}
use mathlib.Core.Option.{Option, none, some}
use Prim.Native.Nat.{ℕ, zero, suc, ◌+◌, ◌-◌, ◌^◌, ◌≤◌, ◌<◌}
use native.Mathlib.Nat.{add-zero, zero-add}
use native.Mathlib.Omega.{arith}
use lib.Dec.{eqb, leb, ltb, leb-suc-suc}
use lib.Seq.{take_at, drop_at}
use lib.ListN.{drop, take, length, length-append, length-map}
use borrow.Author.Tests.{eq-eqb, ne_eqb, eqb-true, eqb-false, ltb-true, ltb-false, leb-false, le-ltb, lt-leb, lt-ltb}
use Rattle.std.specs.Prelude.{Option as Optional, Some, None}
use Rattle.metadata.specs.Names.{Name, same, place}
use Rattle.metadata.proofs.DictionaryLaws.{same_equal, same_differs}
use Rattle.metadata.proofs.DictionaryLaws as dictionary
use Rattle.container.specs.declared.Entry.{Entry}
use Rattle.container.specs.Entries.{ids_of, offsets_of, misplaced, seek}
use Rattle.container.specs.Layout.{largest, list_header, object_header, list_header_size, object_header_size}
use Rattle.container.specs.Sort.{sort}
use Rattle.container.proofs.LayoutLaws.{length_list}
use Rattle.container.proofs.SortLaws.{Mem, Incl, Pairwise, Distinct, sort_unique, length_sort, largest_sort, length_object_entries}
use Rattle.measure.specs.Measure.{measured, starts_in, whole_values}
use Rattle.semantics.specs.Damage.{orphaned}
use Rattle.semantics.specs.Tree.{Label, element, live, replaced, Tree, nest, Items, empty, item, data_of, starts_from, with_field, fields_from, list_bytes, object_bytes, encode, parts_of}
use Rattle.semantics.specs.History.{unlive, replace, snoc, entered}
use Rattle.semantics.specs.Ledger.{item_count, live_ids, is_live, own_entry}
use Rattle.semantics.proofs.TreeLaws.{FormedItems, HeldLabel, HeldItems, ApartItems, fields_placed, fields_apart, place_inj, parts_grow, fields_grow}
use Rattle.semantics.proofs.TreeValues.{items_low, items_whole, items_starts}
use Rattle.semantics.proofs.HistoryLaws.{Extends, HeldName, Named}
use Rattle.semantics.proofs.Machine.{put, find, note_in, link_in, record_of, header_of}

-- ---- an entry put among others, and how it came about

abbrev pub entry : ℕ → ℕ → Entry
entry i o = record { id = i; offset = o }

-- an entry of that id is among these
abbrev pub has_id : ℕ → List Entry → Bool
has_id i es = ltb (seek i es) (length es)

-- a fact about put, find and the search, by what they do at the end, at an entry of that id, and behind another one
pub put_cases : (P : List Entry → List Entry → Optional Entry → Bool → Type 0) (i o : ℕ) (es : List Entry) → P [] (entry i o ∷ []) None false
    → ((e : Entry) (es : List Entry) → e.id ≡ i → P (e ∷ es) (entry i o ∷ es) (Some (entry i e.offset)) true)
    → ((e : Entry) (es : List Entry) → e.id ≢ i → P es (put i o es) (find i es) (has_id i es) → P (e ∷ es) (e ∷ put i o es) (find i es) (has_id i es))
    → P es (put i o es) (find i es) (has_id i es)
unfolding put find seek
put_cases P i o [] a b c = a
put_cases P i o (e ∷ es) a b c = go (eqb e.id i) refl (put_cases P i o es a b c)
  where
    go : (t : Bool) → eqb e.id i ≡ t → P es (put i o es) (find i es) (has_id i es)
        → P (e ∷ es) (cond t (entry e.id o ∷ es) (e ∷ put i o es)) (cond t (Some (entry i e.offset)) (find i es)) (ltb (cond t 0 (1 + seek i es)) (suc (length es)))
    go true p h = let q : ltb 0 (suc (length es)) ≡ true = lt-ltb 0 (suc (length es)) (omega arith) in
        let r = eqb-true e.id i p in
        rw q (subst (λ (j : ℕ). P (e ∷ es) (entry j o ∷ es) (Some (entry i e.offset)) true) (sym r) (b e es r))
    go false p h =
        let s : 1 + seek i es ≡ suc (seek i es) = omega arith in
        let q : ltb (1 + seek i es) (suc (length es)) ≡ has_id i es = ap (λ n. ltb n (suc (length es))) s ∙ leb-suc-suc (suc (seek i es)) (length es) in
        rw q (c e es (eqb-false e.id i p) h)

-- no id comes twice
abbrev pub IdsApart : List Entry → Type 0
IdsApart es = Pairwise (λ e f. f.id ≢ e.id) es

module _ (i o : ℕ) where
  put_mem : (es : List Entry) (x : Entry) → IdsApart es → Mem x (put i o es) → (x ≡ entry i o) ⊎ (Mem x es × (x.id ≢ i))
  put_mem es x = put_cases (λ es fs p t. IdsApart es → Mem x fs → (x ≡ entry i o) ⊎ (Mem x es × (x.id ≢ i))) i o es
      (λ d m. elim m [ inl q ↦ inl q | inr k ↦ absurd k ])
      (λ e es p d m. elim m [ inl q ↦ inl q | inr k ↦ inr (inr k, λ z. d.0 x k (z ∙ sym p)) ])
      (λ e es p h d m. elim m [ inl q ↦ inr (inl q, λ z. p (sym (ap (λ (y : Entry). y.id) q) ∙ z)) | inr k ↦ elim (h d.1 k) [ inl q ↦ inl q | inr y ↦ inr (inr y.0, y.1) ] ])

  mem_put : (es : List Entry) (x : Entry) → (x ≡ entry i o) ⊎ (Mem x es × (x.id ≢ i)) → Mem x (put i o es)
  mem_put es x = put_cases (λ es fs p t. (x ≡ entry i o) ⊎ (Mem x es × (x.id ≢ i)) → Mem x fs) i o es
      (λ m. elim m [ inl q ↦ inl q | inr k ↦ absurd k.0 ])
      (λ e es p m. elim m [ inl q ↦ inl q | inr k ↦ elim k.0 [ inl q ↦ absurd (k.1 (ap (λ (y : Entry). y.id) q ∙ p)) | inr j ↦ inr j ] ])
      (λ e es p h m. elim m [ inl q ↦ inr (h (inl q)) | inr k ↦ elim k.0 [ inl q ↦ inl q | inr j ↦ inr (h (inr (j, k.1))) ] ])

  put_apart : (es : List Entry) → IdsApart es → IdsApart (put i o es)
  put_apart es d = (put_cases (λ es fs p t. IdsApart es → IdsApart fs × ((x : Entry) → Mem x fs → (x.id ≡ i) ⊎ Mem x es)) i o es
      (λ d. (((λ y m. absurd m), tt), λ x m. elim m [ inl q ↦ inl (ap (λ (y : Entry). y.id) q) | inr k ↦ absurd k ]))
      (λ e es p d. (((λ y m z. d.0 y m (z ∙ sym p)), d.1), λ x m. elim m [ inl q ↦ inl (ap (λ (y : Entry). y.id) q) | inr k ↦ inr (inr k) ]))
      (λ e es p h d. let g = h d.1 in (
        ((λ y m z. elim (g.1 y m) [ inl q ↦ p (sym z ∙ q) | inr k ↦ d.0 y k z ]), g.0),
        λ x m. elim m [ inl q ↦ inr (inl q) | inr k ↦ elim (g.1 x k) [ inl q ↦ inl q | inr j ↦ inr (inr j) ] ],
      )) d).0

-- an entry of an id is found where one is a member
has_mem : (i : ℕ) (es : List Entry) → has_id i es ≡ true → (x : Entry) × Mem x es × (x.id ≡ i)
has_mem i es = put_cases (λ es fs p t. t ≡ true → (x : Entry) × Mem x es × (x.id ≡ i)) i 0 es
    (λ e. absurd (true≢false (sym e))) (λ e es p q. (e, inl refl, p)) (λ e es p h q. let g = h q in (g.0, inr g.1, g.2))

mem_has : (i : ℕ) (es : List Entry) (x : Entry) → Mem x es → x.id ≡ i → has_id i es ≡ true
mem_has i es x = put_cases (λ es fs p t. Mem x es → x.id ≡ i → t ≡ true) i 0 es
    (λ m q. absurd m) (λ e es p m q. refl) (λ e es p h m q. elim m [ inl r ↦ absurd (p (sym (ap (λ (y : Entry). y.id) r) ∙ q)) | inr k ↦ h k q ])

-- ---- entries that are well placed

-- an offset within the data, and an id that is held
pub record Placed (names size : ℕ) (e : Entry) : Type 0 where
  pub within : e.offset ≤ size
  pub held : e.id < names

either : (t u : Bool) → (t || u) ≡ false → (t ≡ false) × (u ≡ false)
either true u e = absurd (true≢false e)
either false u e = (refl, e)

-- entries that are not misplaced are all well placed, and the other way round
pub placed_all : (names size : ℕ) (es : List Entry) → misplaced true names size es ≡ false → (x : Entry) → Mem x es → Placed names size x
unfolding misplaced
placed_all names size [] h x m = absurd m
placed_all names size (e ∷ es) h x m =
    let a = either (ltb size e.offset || leb names e.id) (misplaced true names size es) h in
    let b = either (ltb size e.offset) (leb names e.id) a.0 in
    let p : Placed names size e = record { within = ltb-false size e.offset b.0; held = leb-false names e.id b.1 } in
    elim m [ inl q ↦ subst (Placed names size) (sym q) p | inr k ↦ placed_all names size es a.1 x k ]

pub all_placed : (names size : ℕ) (es : List Entry) → ((x : Entry) → Mem x es → Placed names size x) → misplaced true names size es ≡ false
unfolding misplaced
all_placed names size [] h = refl
all_placed names size (e ∷ es) h =
    let p = h e (inl refl) in
    rw (le-ltb size e.offset p.within, lt-leb names e.id p.held, all_placed names size es (λ x m. h x (inr m)))

-- with more names and data they stay so
pub placed_grows : {names more size room : ℕ} {e : Entry} → names ≤ more → size ≤ room → Placed names size e → Placed more room e
placed_grows h k p = record { within = omega (arith, p.within); held = omega (arith, p.held) }

-- ---- an item goes last

count_snoc : (is : Items) (m : Label) (t : Tree) → item_count (snoc is m t) ≡ item_count is + 1
unfolding item_count snoc
count_snoc empty m t = refl
count_snoc (item k u is) m t = omega (arith, count_snoc is m t)

field_behind : (ns : List Name) (at : ℕ) (m : Label) (es fs : List Entry) → with_field ns at m (es ++ fs) ≡ with_field ns at m es ++ fs
unfolding with_field
field_behind ns at element es fs = refl
field_behind ns at (live n) es fs = refl
field_behind ns at replaced es fs = refl

module _ (floor : ℕ) (ns : List Name) where
  data_snoc : (is : Items) (m : Label) (t : Tree) → data_of (parts_of floor ns (snoc is m t)) ≡ data_of (parts_of floor ns is) ++ encode floor ns t
  unfolding parts_of snoc data_of
  data_snoc empty m t = append-nil (encode floor ns t)
  data_snoc (item k u is) m t = ap (λ b. encode floor ns u ++ b) (data_snoc is m t) ∙ sym (append_assoc (encode floor ns u) (data_of (parts_of floor ns is)) (encode floor ns t))

  fields_snoc : (at : ℕ) (is : Items) (m : Label) (t : Tree)
      → fields_from ns at (parts_of floor ns (snoc is m t)) ≡ fields_from ns at (parts_of floor ns is) ++ with_field ns (at + length (data_of (parts_of floor ns is))) m []
  unfolding parts_of snoc fields_from data_of
  fields_snoc at empty m t = ap (λ n. with_field ns n m []) (sym (add-zero at))
  fields_snoc at (item k u is) m t =
      let e : at + length (encode floor ns u) + length (data_of (parts_of floor ns is)) ≡ at + length (encode floor ns u ++ data_of (parts_of floor ns is)) = omega (arith, length-append (encode floor ns u) (data_of (parts_of floor ns is))) in
      rw (fields_snoc (at + length (encode floor ns u)) is m t, e) (field_behind ns at k (fields_from ns (at + length (encode floor ns u)) (parts_of floor ns is)) _)

  -- ---- a name that is live elsewhere

  data_replace : (n : Name) (is : Items) → data_of (parts_of floor ns (replace n is)) ≡ data_of (parts_of floor ns is)
  unfolding parts_of replace data_of
  data_replace n empty = refl
  data_replace n (item m t is) = ap (λ b. encode floor ns t ++ b) (data_replace n is)

-- fs are the entries es but those of id i
abbrev Without : ℕ → List Entry → List Entry → Type 0
Without i es fs = (x : Entry) → (Mem x fs → Mem x es × (x.id ≢ i)) × (Mem x es → x.id ≢ i → Mem x fs)

module _ (ns : List Name) (n : Name) (held : place n ns < length ns) where
  field_without : (at : ℕ) (m : Label) (es fs : List Entry) → HeldLabel ns m → Without (place n ns) es fs
      → Without (place n ns) (with_field ns at m es) (with_field ns at (unlive n m) fs)
  unfolding with_field unlive
  field_without at element es fs h w x = w x
  field_without at replaced es fs h w x = w x
  field_without at (live m) es fs h w x = go (same m n) refl
    where
      go : (t : Bool) → same m n ≡ t → (Mem x (with_field ns at (cond t replaced (live m)) fs) → Mem x (entry (place m ns) at ∷ es) × (x.id ≢ place n ns))
          × (Mem x (entry (place m ns) at ∷ es) → x.id ≢ place n ns → Mem x (with_field ns at (cond t replaced (live m)) fs))
      go true p = (
        (λ k. let g = (w x).0 k in (inr g.0, g.1)),
        λ k d. elim k [ inl q ↦ absurd (d (ap (λ (y : Entry). y.id) q ∙ ap (λ z. place z ns) (same_equal m n p))) | inr j ↦ (w x).1 j d ],
      )
      go false p = (
        (λ k. elim k [ inl q ↦ (inl q, λ z. same_differs m n p (place_inj m n ns h held (sym (ap (λ (y : Entry). y.id) q) ∙ z))) | inr j ↦ (let g = (w x).0 j in (inr g.0, g.1)) ]),
        λ k d. elim k [ inl q ↦ inl q | inr j ↦ inr ((w x).1 j d) ],
      )

  replace_without : (floor at : ℕ) (is : Items) → HeldItems ns is → Without (place n ns) (fields_from ns at (parts_of floor ns is)) (fields_from ns at (parts_of floor ns (replace n is)))
  unfolding parts_of replace fields_from
  replace_without floor at empty h x = ((λ k. absurd k), λ k d. absurd k)
  replace_without floor at (item m t is) h x = field_without at m _ _ h.0 (replace_without floor (at + length (encode floor ns t)) is h.2) x

-- ---- a layer

-- an object's entries are those of its live items, in some order
pub record Fields (ns : List Name) (seg fields : List Entry) : Type 0 where
  pub into : Incl seg fields
  pub outof : Incl fields seg
  pub apart : IdsApart seg

-- a list has none, and counts its items
pub record Elements (seg : List Entry) (n : ℕ) (is : Items) : Type 0 where
  pub no_entries : seg ≡ []
  pub count : n ≡ item_count is

abbrev pub Ents : ℕ → Bool → List Name → List Entry → ℕ → Items → Type 0
Ents floor false ns seg n is = Elements seg n is
Ents floor true ns seg n is = Fields ns seg (fields_from ns 0 (parts_of floor ns is))

-- where these are the names, a container of that kind with these entries, so many elements and this data has these items
pub record Layer (floor : ℕ) (ns : List Name) (object : Bool) (is : Items) (seg : List Entry) (n : ℕ) (bs : List ℕ) : Type 0 where
  pub body : bs ≡ data_of (parts_of floor ns is)
  pub entries : Ents floor object ns seg n is

-- nothing is in it yet
pub layer_new : (floor : ℕ) (ns : List Name) (object : Bool) → Layer floor ns object empty [] 0 []
unfolding parts_of data_of fields_from item_count
layer_new floor ns false = record { body = refl; entries = record { no_entries = refl; count = refl } }
layer_new floor ns true = record { body = refl; entries = record { into = λ x m. m; outof = λ x m. m; apart = tt } }

-- names that come later change nothing
pub layer_grows : {floor : ℕ} {ns ms : List Name} (object : Bool) (is : Items) {seg : List Entry} {n : ℕ} {bs : List ℕ} → Extends ns ms → HeldItems ns is
    → Layer floor ns object is seg n bs → Layer floor ms object is seg n bs
layer_grows {floor} {ns} {ms} object is {seg} {n} {bs} e h l =
    subst (λ (z : List Name). Layer floor z object is seg n bs) (sym e.grown)
    (record { body = l.body ∙ ap data_of (sym p); entries = go object l.entries })
  where
    p : parts_of floor (ns ++ e.more) is ≡ parts_of floor ns is
    p = parts_grow floor ns e.more is h

    q : fields_from (ns ++ e.more) 0 (parts_of floor (ns ++ e.more) is) ≡ fields_from ns 0 (parts_of floor ns is)
    q = ap (fields_from (ns ++ e.more) 0) p ∙ fields_grow floor ns e.more 0 is h

    go : (k : Bool) → Ents floor k ns seg n is → Ents floor k (ns ++ e.more) seg n is
    go false f = f
    go true f = record { into = rw q f.into; outof = rw q f.outof; apart = f.apart }

-- ---- a value enters

mem_snoc : (es : List Entry) (e x : Entry) → Mem x (es ++ (e ∷ [])) → Mem x es ⊎ (x ≡ e)
mem_snoc [] e x (inl p) = inr p
mem_snoc [] e x (inr m) = absurd m
mem_snoc (f ∷ es) e x (inl p) = inl (inl p)
mem_snoc (f ∷ es) e x (inr m) = elim (mem_snoc es e x m) [ inl k ↦ inl (inr k) | inr p ↦ inr p ]

snoc_mem : (es : List Entry) (e x : Entry) → Mem x es ⊎ (x ≡ e) → Mem x (es ++ (e ∷ []))
snoc_mem [] e x (inl k) = absurd k
snoc_mem [] e x (inr p) = inl p
snoc_mem (f ∷ es) e x (inl (inl p)) = inl p
snoc_mem (f ∷ es) e x (inl (inr k)) = inr (snoc_mem es e x (inl k))
snoc_mem (f ∷ es) e x (inr p) = inr (snoc_mem es e x (inr p))

-- A VALUE ENTERS: in the machine a note or an element, and bytes, in the history an item.
pub layer_enter : (floor : ℕ) (ns : List Name) (object : Bool) (is : Items) (seg : List Entry) (count : ℕ) (bs : List ℕ) (nm : Option Name) (t : Tree) → HeldItems ns is → Named object nm → HeldName ns nm
    → Layer floor ns object is seg count bs → Layer floor ns object (entered nm t is) (note_in ns nm (length bs) seg) (cond object count (count + 1)) (bs ++ encode floor ns t)
unfolding entered note_in with_field
layer_enter floor ns true is seg count bs none t h n k l = absurd n
layer_enter floor ns false is seg count bs (some x) t h n k l = absurd n
layer_enter floor ns false is seg count bs none t h n k l =
    record {
      body = ap (λ b. b ++ encode floor ns t) l.body ∙ sym (data_snoc floor ns is element t);
      entries = record { no_entries = l.entries.no_entries; count = omega (arith, l.entries.count, count_snoc is element t) };
    }
layer_enter floor ns true is seg count bs (some n) t h nm k l =
    let i = place n ns in
    let o = length bs in
    let rs = replace n is in
    let d = data_replace floor ns n is in
    let z : 0 + length (data_of (parts_of floor ns rs)) ≡ o = zero-add (length (data_of (parts_of floor ns rs))) ∙ ap length (d ∙ sym l.body) in
    let fs = fields_from ns 0 (parts_of floor ns rs) in
    let e : fields_from ns 0 (parts_of floor ns (snoc rs (live n) t)) ≡ fs ++ (entry i o ∷ []) = fields_snoc floor ns 0 rs (live n) t ∙ ap (λ a. fs ++ (entry i a ∷ [])) z in
    let u : Fields ns seg (fields_from ns 0 (parts_of floor ns is)) = l.entries in
    let w = replace_without ns n k floor 0 is h in
    record {
      body = ap (λ b. b ++ encode floor ns t) (l.body ∙ sym d) ∙ sym (data_snoc floor ns rs (live n) t);
      entries = record {
        into = λ x m. subst (Mem x) (sym e) (snoc_mem fs (entry i o) x (elim (put_mem i o seg x u.apart m) [ inl q ↦ inr q | inr y ↦ inl ((w x).1 (u.into x y.0) y.1) ]));
        outof = λ x m. mem_put i o seg x (elim (mem_snoc fs (entry i o) x (subst (Mem x) e m)) [ inl j ↦ (let g = (w x).0 j in inr (u.outof x g.0, g.1)) | inr q ↦ inl q ]);
        apart = put_apart i o seg u.apart;
      };
    }

-- ---- live names by their entries

has_first : (i : ℕ) (e : Entry) (es : List Entry) → has_id i (e ∷ es) ≡ (eqb e.id i || has_id i es)
unfolding seek
has_first i e es = go (eqb e.id i)
  where
    go : (t : Bool) → ltb (cond t 0 (1 + seek i es)) (suc (length es)) ≡ (t || has_id i es)
    go true = lt-ltb 0 (suc (length es)) (omega arith)
    go false = let s : 1 + seek i es ≡ suc (seek i es) = omega arith in ap (λ n. ltb n (suc (length es))) s ∙ leb-suc-suc (suc (seek i es)) (length es)

-- the same ids are found in entries with the same members
has_same : (i : ℕ) (es fs : List Entry) → Incl es fs → Incl fs es → has_id i es ≡ has_id i fs
has_same i es fs a b = go (has_id i es) (has_id i fs) refl refl
  where
    go : (t u : Bool) → has_id i es ≡ t → has_id i fs ≡ u → t ≡ u
    go true true p q = refl
    go false false p q = refl
    go true false p q = let g = has_mem i es p in absurd (true≢false (sym (mem_has i fs g.0 (a g.0 g.1) g.2) ∙ q))
    go false true p q = let g = has_mem i fs q in absurd (true≢false (sym (mem_has i es g.0 (b g.0 g.1) g.2) ∙ p))

module _ (ns : List Name) (n : Name) where
  same_place : (m : Name) → place m ns < length ns → place n ns < length ns → same m n ≡ eqb (place m ns) (place n ns)
  same_place m h k = go (same m n) refl
    where
      go : (t : Bool) → same m n ≡ t → t ≡ eqb (place m ns) (place n ns)
      go true p = sym (eq-eqb (place m ns) (place n ns) (ap (λ z. place z ns) (same_equal m n p)))
      go false p = sym (ne_eqb (place m ns) (place n ns) (λ e. same_differs m n p (place_inj m n ns h k e)))

  live_fields_lem : (floor at : ℕ) (is : Items) → HeldItems ns is → place n ns < length ns → is_live n is ≡ has_id (place n ns) (fields_from ns at (parts_of floor ns is))
  unfolding is_live parts_of fields_from with_field seek
  live_fields_lem floor at empty h k = refl
  live_fields_lem floor at (item element t is) h k = live_fields_lem floor (at + length (encode floor ns t)) is h.2 k
  live_fields_lem floor at (item replaced t is) h k = live_fields_lem floor (at + length (encode floor ns t)) is h.2 k
  live_fields_lem floor at (item (live m) t is) h k =
      let next = at + length (encode floor ns t) in
      (λ i. same_place m h.0 k i || live_fields_lem floor next is h.2 k i) ∙ sym (has_first (place n ns) (entry (place m ns) at) (fields_from ns next (parts_of floor ns is)))

  not_held : (is : Items) → HeldItems ns is → length ns ≤ place n ns → is_live n is ≡ false
  unfolding is_live
  not_held empty h k = refl
  not_held (item element t is) h k = not_held is h.2 k
  not_held (item replaced t is) h k = not_held is h.2 k
  not_held (item (live m) t is) h k = rw (go (same m n) refl) (not_held is h.2 k)
    where
      go : (b : Bool) → same m n ≡ b → same m n ≡ false
      go true p = absurd (omega (arith, h.0, ap (λ z. place z ns) (same_equal m n p)))
      go false p = p

-- ---- how many

ids_fields : (floor : ℕ) (ns : List Name) (at : ℕ) (is : Items) → ids_of (fields_from ns at (parts_of floor ns is)) ≡ live_ids ns is
unfolding parts_of fields_from with_field live_ids
ids_fields floor ns at empty = refl
ids_fields floor ns at (item element t is) = ids_fields floor ns (at + length (encode floor ns t)) is
ids_fields floor ns at (item (live n) t is) = ap (λ z. place n ns ∷ z) (ids_fields floor ns (at + length (encode floor ns t)) is)
ids_fields floor ns at (item replaced t is) = ids_fields floor ns (at + length (encode floor ns t)) is

starts_count : (n at : ℕ) (bs : List ℕ) → length (starts_in n at bs) ≡ n
unfolding starts_in
starts_count zero at bs = refl
starts_count (suc n) at bs = ap suc (starts_count n (at + measured bs) (drop (measured bs) bs))

pub put_count : (i o : ℕ) (es : List Entry) → length (put i o es) ≡ cond (has_id i es) 0 1 + length es
put_count i o es = put_cases (λ es fs p t. length fs ≡ cond t 0 1 + length es) i o es refl (λ e es p. sym (zero-add (suc (length es)))) (λ e es p h. omega arith)

-- ---- what a layer tells of its entries and elements

module _ {floor : ℕ} {ns : List Name} {is : Items} {seg : List Entry} {count : ℕ} {bs : List ℕ} (h : HeldItems ns is) where
  -- an object's entries are well placed
  pub layer_placed : Layer floor ns true is seg count bs → (x : Entry) → Mem x seg → Placed (length ns) (length bs) x
  layer_placed l x m =
      placed_all (length ns) (length bs) (fields_from ns 0 (parts_of floor ns is)) (fields_placed floor ns 0 (length bs) is h (omega (arith, ap length l.body))) x (l.entries.into x m)

  -- a name is live exactly where it is held and has an entry
  pub layer_live : Layer floor ns true is seg count bs → (n : Name) → (ltb (place n ns) (length ns) && has_id (place n ns) seg) ≡ is_live n is
  layer_live l n = go (ltb (place n ns) (length ns)) refl
    where
      go : (t : Bool) → ltb (place n ns) (length ns) ≡ t → (t && has_id (place n ns) seg) ≡ is_live n is
      go true p = has_same (place n ns) seg (fields_from ns 0 (parts_of floor ns is)) l.entries.into l.entries.outof ∙ sym (live_fields_lem ns n floor 0 is h (ltb-true (place n ns) (length ns) p))
      go false p = sym (not_held ns n is h (ltb-false (place n ns) (length ns) p))

  -- sorted, an object's are those of its live items
  pub layer_sorted : dictionary.Distinct ns → ApartItems is → Layer floor ns true is seg count bs → sort ns seg ≡ sort ns (fields_from ns 0 (parts_of floor ns is))
  layer_sorted d a l =
      sort_unique ns seg (fields_from ns 0 (parts_of floor ns is)) (names_apart seg (λ x m. (layer_placed l x m).held) l.entries.apart) (fields_apart floor ns 0 is h a) l.entries.into l.entries.outof
    where
      names_apart : (es : List Entry) → ((x : Entry) → Mem x es → x.id < length ns) → IdsApart es → Distinct ns es
      names_apart [] b c = tt
      names_apart (e ∷ es) b c = ((λ y m z. c.0 y m (d.one y.id e.id (b y (inr m)) (b e (inl refl)) z)), names_apart es (λ x m. b x (inr m)) c.1)

  -- they are as many as the ledger counts
  pub layer_count : (object : Bool) → dictionary.Distinct ns → ApartItems is → Layer floor ns object is seg count bs → length seg ≡ cond object (length (live_ids ns is)) 0
  layer_count false d a l = ap length l.entries.no_entries
  layer_count true d a l =
      let fs = fields_from ns 0 (parts_of floor ns is) in
      sym (length_sort ns seg) ∙ (ap length (layer_sorted d a l) ∙ (length_sort ns fs ∙ (sym (length-map fs (λ e. e.id)) ∙ ap length (ids_fields floor ns 0 is))))

  -- the header's length is the ledger's
  pub layer_header : (object : Bool) → dictionary.Distinct ns → ApartItems is → Layer floor ns object is seg count bs → let size = length bs in
      length (header_of floor ns object count seg bs) ≡ cond object (object_header_size floor (length (live_ids ns is)) (largest (live_ids ns is)) size) (list_header_size floor (item_count is) size)
  unfolding header_of
  layer_header false d a l = length_list floor (starts_in count 0 bs) (length bs) ∙ ap (λ n. list_header_size floor n (length bs)) (starts_count count 0 bs ∙ l.entries.count)
  layer_header true d a l =
      let fs = fields_from ns 0 (parts_of floor ns is) in
      let c = layer_count true d a l in
      let b : largest (ids_of seg) ≡ largest (live_ids ns is) =
      sym (largest_sort ns (λ e. e.id) seg) ∙ (ap (λ (es : List Entry). largest (ids_of es)) (layer_sorted d a l) ∙ (largest_sort ns (λ e. e.id) fs ∙ ap largest (ids_fields floor ns 0 is))) in
      length_object_entries ns (length bs) seg floor ∙ (λ i. object_header_size floor (c i) (b i) (length bs))

  -- a list's data is as many whole values as it counts, and has no fewer bytes
  pub layer_whole : FormedItems false is → length bs < 256 ^ 4 → Layer floor ns false is seg count bs → whole_values count bs ≡ true
  layer_whole f s l = rw (l.entries.count, l.body) (items_whole floor ns false is f (omega (arith, ap length l.body)))

  pub layer_low : Layer floor ns false is seg count bs → count ≤ length bs
  layer_low l = omega (arith, l.entries.count, ap length l.body, items_low floor ns is)

  -- THE CLOSE: header and data are the tree's bytes.
  pub layer_close : (object : Bool) → FormedItems object is → length bs < 256 ^ 4 → dictionary.Distinct ns → ApartItems is → Layer floor ns object is seg count bs
      → header_of floor ns object count seg bs ++ bs ≡ encode floor ns (nest object is)
  unfolding header_of encode list_bytes object_bytes
  layer_close false f s d a l =
      let w = items_starts floor ns false is f (omega (arith, ap length l.body)) in
      let c : starts_in count 0 bs ≡ starts_from 0 (parts_of floor ns is) = (λ i. starts_in (l.entries.count i) 0 (l.body i)) ∙ w in
      λ i. list_header floor (c i) (length (l.body i)) ++ l.body i
  layer_close true f s d a l = let p = layer_sorted d a l in λ i. object_header floor (ids_of (p i)) (offsets_of (p i)) (length (l.body i)) ++ l.body i

  -- a note adds an entry unless it replaces one
  pub note_count : (object : Bool) (nm : Option Name) (o : ℕ) → Named object nm → HeldName ns nm → Layer floor ns object is seg count bs → length (note_in ns nm o seg) ≡ own_entry nm is + length seg
  unfolding note_in
  note_count object none o n k l = omega arith
  note_count false (some x) o n k l = absurd n
  note_count true (some x) o n k l =
      let a : has_id (place x ns) seg ≡ is_live x is = ap (λ t. t && has_id (place x ns) seg) (sym (lt-ltb (place x ns) (length ns) k)) ∙ layer_live l x in
      put_count (place x ns) o seg ∙ ap (λ t. cond t 0 1 + length seg) a

-- one record where a live name is replaced and a mark is set
abbrev pub live_item : Option Name → Items → Bool
live_item none is = false
live_item (some x) is = is_live x is

find_record : (n i : ℕ) (es : List Entry) → length (record_of (suc n) (find i es)) ≡ cond (has_id i es) 1 0
unfolding record_of
find_record n i es = put_cases (λ es fs p t. length (record_of (suc n) p) ≡ cond t 1 0) i 0 es refl (λ e es p. refl) (λ e es p h. h)

module _ {floor : ℕ} {ns : List Name} {is : Items} {seg : List Entry} {count : ℕ} {bs : List ℕ} (h : HeldItems ns is) where
  pub record_count : (object : Bool) (nm : Option Name) (n : ℕ) → Named object nm → HeldName ns nm → Layer floor ns object is seg count bs
      → length (record_of n (link_in ns nm seg)) ≡ cond (live_item nm is && ltb 0 n) 1 0
  unfolding record_of link_in
  record_count object nm zero g k l = sym (never (live_item nm is))
    where
      never : (t : Bool) → ◌≡◌ {A = ℕ} (cond (t && ltb 0 0) 1 0) 0
      never true = refl
      never false = refl
  record_count object none (suc n) g k l = refl
  record_count false (some x) (suc n) g k l = absurd g
  record_count true (some x) (suc n) g k l =
      let a : has_id (place x ns) seg ≡ is_live x is = ap (λ t. t && has_id (place x ns) seg) (sym (lt-ltb (place x ns) (length ns) k)) ∙ layer_live h l x in
      let b : ltb 0 (suc n) ≡ true = lt-ltb 0 (suc n) (omega arith) in
      find_record n (place x ns) seg ∙ (ap (λ t. cond t 1 0) a ∙ rw b (sym (always (is_live x is))))
    where
      always : (t : Bool) → ◌≡◌ {A = ℕ} (cond (t && true) 1 0) (cond t 1 0)
      always true = refl
      always false = refl

-- ---- a note is undone

-- what the kind of an entry tells: it is new, and the last; or the former offset brings the entries again
abbrev pub Origin : ℕ → ℕ → Optional Entry → List Entry → List Entry → Type 0
Origin i o None es fs = fs ≡ es ++ (entry i o ∷ [])
Origin i o (Some e) es fs = (e.id ≡ i) × (put i e.offset fs ≡ es) × Mem (entry i e.offset) es × (has_id i fs ≡ true)

put_hit : (i o : ℕ) (e : Entry) (es : List Entry) → e.id ≡ i → put i o (e ∷ es) ≡ entry i o ∷ es
unfolding put
put_hit i o e es p = rw (eq-eqb e.id i p) (ap (λ j. entry j o ∷ es) p)

put_miss : (i o : ℕ) (e : Entry) (es : List Entry) → e.id ≢ i → put i o (e ∷ es) ≡ e ∷ put i o es
unfolding put
put_miss i o e es p = rw (ne_eqb e.id i p)

-- what find tells of put
pub put_origin : (i o : ℕ) (es : List Entry) → Origin i o (find i es) es (put i o es)
put_origin i o es = put_cases (λ es fs p t. Origin i o p es fs) i o es refl
    (λ e es p. let q : entry i e.offset ≡ e = λ k. record { id = sym p k; offset = e.offset } in (
      refl,
      put_hit i e.offset (entry i o) es refl ∙ ap (λ z. z ∷ es) q,
      inl q,
      has_first i (entry i o) es ∙ ap (λ t. t || has_id i es) (eq-eqb i i refl),
    ))
    (λ e es p h. later e es (put i o es) p (find i es) h)
  where
    later : (e : Entry) (es fs : List Entry) → e.id ≢ i → (k : Optional Entry) → Origin i o k es fs → Origin i o k (e ∷ es) (e ∷ fs)
    later e es fs p None h = ap (λ z. e ∷ z) h
    later e es fs p (Some f) h =
        (h.0, put_miss i f.offset e fs p ∙ ap (λ z. e ∷ z) h.1, inr h.2, has_first i e fs ∙ (ap (λ t. t || has_id i fs) (ne_eqb e.id i p) ∙ h.3))

-- the entries behind the first k, with that one undone
abbrev pub undone : Bool → ℕ → Optional Entry → List Entry → List Entry
undone object k None es = cond object (take (length es - 1) es) es
undone object k (Some e) es = take k es ++ put e.id e.offset (drop k es)

take_snoc : (es : List Entry) (e : Entry) → take (length (es ++ (e ∷ [])) - 1) (es ++ (e ∷ [])) ≡ es
take_snoc es e = take_at es (e ∷ []) (length (es ++ (e ∷ [])) - 1) (omega (arith, length-append es (e ∷ [])))

undo_put_lem : (base es fs : List Entry) (i o : ℕ) (p : Optional Entry) → Origin i o p es fs → undone true (length base) p (base ++ fs) ≡ base ++ es
undo_put_lem base es fs i o None r = rw (r, ← append_assoc base es (entry i o ∷ [])) (take_snoc (base ++ es) (entry i o))
undo_put_lem base es fs i o (Some e) r = rw (take_at base fs (length base) refl, drop_at base fs (length base) refl, r.0, r.1)

-- a note undone by its own kind brings the entries again
pub undo_note : (object : Bool) (ns : List Name) (nm : Option Name) (o : ℕ) (base seg : List Entry) → Named object nm → undone object (length base) (link_in ns nm seg) (base ++ note_in ns nm o seg) ≡ base ++ seg
unfolding link_in note_in
undo_note true ns none o base seg n = absurd n
undo_note false ns (some x) o base seg n = absurd n
undo_note false ns none o base seg n = refl
undo_note true ns (some x) o base seg n = undo_put_lem base seg (put (place x ns) o seg) (place x ns) o (find (place x ns) seg) (put_origin (place x ns) o seg)

-- an object's noted entries are well placed
pub note_placed : (ns : List Name) (nm : Option Name) (o : ℕ) (seg : List Entry) → HeldName ns nm
    → ((x : Entry) → Mem x seg → Placed (length ns) o x) → (x : Entry) → Mem x (note_in ns nm o seg) → Placed (length ns) o x
unfolding note_in
note_placed ns none o seg k h x m = h x m
note_placed ns (some y) o seg k h x m =
    put_cases (λ es fs p t. ((x : Entry) → Mem x es → Placed (length ns) o x) → Mem x fs → Placed (length ns) o x) (place y ns) o seg
    (λ h m. elim m [ inl q ↦ rw q own | inr j ↦ absurd j ])
    (λ e es p h m. elim m [ inl q ↦ rw q own | inr j ↦ h x (inr j) ])
    (λ e es p g h m. elim m [ inl q ↦ h x (inl q) | inr j ↦ g (λ z i. h z (inr i)) j ]) h m
  where
    own : Placed (length ns) o (entry (place y ns) o)
    own = record { within = omega arith; held = k }

-- the own entry is among them, as number 1 asks at roll back; of a list there is an element
pub list_owned : (ns : List Name) (nm : Option Name) (o size count : ℕ) (seg : List Entry) → Named false nm → 0 < count → orphaned (link_in ns nm seg) false count size (note_in ns nm o seg) ≡ false
unfolding link_in note_in
list_owned ns none o size count seg n h = ne_eqb count 0 (λ e. omega arith)
list_owned ns (some y) o size count seg n h = absurd n

pub note_owned : (ns : List Name) (nm : Option Name) (o size count : ℕ) (seg : List Entry) → Named true nm → ((x : Entry) → Mem x seg → Placed (length ns) size x)
    → orphaned (link_in ns nm seg) true count size (note_in ns nm o seg) ≡ false
unfolding link_in note_in
note_owned ns none o size count seg n h = absurd n
note_owned ns (some y) o size count seg n h = go (find (place y ns) seg) (put_origin (place y ns) o seg)
  where
    go : (p : Optional Entry) → Origin (place y ns) o p seg (put (place y ns) o seg) → orphaned p true count size (put (place y ns) o seg) ≡ false
    go None r = ne_eqb (length (put (place y ns) o seg)) 0 (λ e. omega (arith, length-append seg (entry (place y ns) o ∷ []), ap length r))
    go (Some e) r = rw (r.0, r.3) (le-ltb size e.offset (h (entry (place y ns) e.offset) r.2).within)

-- The names in use are among the old dictionary's: so the new dictionary is accepted, and never longer than the old one.
use mathlib.Core.Path.{◌≡◌, refl, sym, ◌∙◌, ap}
use mathlib.Core.Logic.{inl, inr, ◌≢◌}
use mathlib.Core.Bool.{Bool, true, false, cond, true≢false}
use mathlib.Core.List.{List, [], ◌∷◌}
use Prim.Native.Nat.{ℕ, suc, ◌+◌, ◌-◌, ◌*◌, ◌≤◌, max}
use native.Mathlib.Nat.{mul-le-mul}
use native.Mathlib.Omega.{arith}
use lib.Dec.{eqb}
use lib.ListN.{length, length-append}
use Rattle.encoding.specs.Utf8.{utf8}
use Rattle.encoding.proofs.PackedLaws.{Below}
use Rattle.encoding.proofs.WidthLaws.{width_least, width_at_one}
use Rattle.metadata.specs.Names.{Name, same, sorted}
use Rattle.metadata.specs.Bytes.{joined, number_width, never_used}
use Rattle.metadata.proofs.DictionaryLaws.{same_equal, same_differs, below_self}
use Rattle.metadata.proofs.BytesLaws.{layout_size, never_used_lem}
use Rattle.container.specs.declared.Entry.{Entry}
use Rattle.container.specs.Entries.{ids_of}
use Rattle.container.specs.Sort.{name_at}
use Rattle.container.proofs.SortLaws.{Mem, Incl}
use Rattle.lexicon.specs.Dictionary.{each_utf8, ReadsNames}
use Rattle.lexicon.proofs.DictionaryLaws.{both, with_both, each_below_lem, held_parts, dictionary_reads}
use Rattle.grammar.specs.Grammar.{Shape, Shapes, layout, Fits, FitsAll, ReadsPair}
use Rattle.grammar.specs.Grammar as grammar
use Rattle.live.specs.Live.{Live, live_fields, live_of, live_elements, live_at}
use Rattle.live.proofs.ListLaws.{some_inj, none_some, Rises}
use Rattle.canonical.specs.Canonical.{in_use, Uses, UsesAny, one_dictionary}
use Rattle.canonical.specs.OneForm.{held}
use Rattle.canonical.proofs.UseLaws.{name_mem, in_use_is, in_use_rises}
use Rattle.canonical.proofs.GoodLaws.{either}
use Rattle.canonical.proofs.SizeLaws.{dictionary_is}

-- ---- the names in use are among the old ones

module _ (names : List Name) (n : Name) where
  -- where a live tree uses n, n is among the names
  abbrev Among : Live → Type 0
  Among l = Uses n l → Mem n names

  fields_among : (at : ℕ → Live) (es : List Entry) → ((o : ℕ) → Among (at o)) → Below (length names) (ids_of es) → UsesAny n (live_fields at names es)
      → Mem n names
  unfolding live_fields
  fields_among at [] f b u = absurd u
  fields_among at (e ∷ es) f b (inl q) = rw (some_inj (name_at names e.id) n q) at (name_mem names e.id b.0)
  fields_among at (e ∷ es) f b (inr (inl u)) = f e.offset u
  fields_among at (e ∷ es) f b (inr (inr u)) = fields_among at es f b.1 u

  mutual
    unfolding live_of

    live_among : (d : ℕ) (t : Shape) → Fits names d t → Among (live_of names t)
    live_among d (grammar.scalar s) f u = absurd u
    live_among d (grammar.list w big ts) f u = elements_among (d - 1) ts f.2 u
    live_among d (grammar.object w v big es ts) f u =
        fields_among (λ o. live_at names o 0 ts) es (λ o. at_among (d - 1) ts o 0 f.3) (each_below_lem (length names) (ids_of es) f.2.ids) u

    elements_among : (d : ℕ) (ts : Shapes) → FitsAll names d ts → UsesAny n (live_elements names ts) → Mem n names
    elements_among d grammar.none f u = absurd u
    elements_among d (grammar.more t ts) f (inl q) = absurd (none_some n q)
    elements_among d (grammar.more t ts) f (inr (inl u)) = live_among d t f.0 u
    elements_among d (grammar.more t ts) f (inr (inr u)) = elements_among d ts f.1 u

    at_among : (d : ℕ) (ts : Shapes) (o at : ℕ) → FitsAll names d ts → Among (live_at names o at ts)
    at_among d grammar.none o at f = λ u. absurd u
    at_among d (grammar.more t ts) o at f =
        let next = at + length (layout t) in
        either Among (eqb o at) (live_of names t) (live_at names o next ts) (λ u. live_among d t f.0 u) (at_among d ts o next f.1)

-- ---- different names among others are no more, and no longer

remove : Name → List Name → List Name
remove n [] = []
remove n (m ∷ ms) = cond (same n m) ms (m ∷ remove n ms)

record Removed (n : Name) (ms ks : List Name) : Type 0 where
  count : suc (length ks) ≡ length ms
  total : length n + length (joined ks) ≡ length (joined ms)
  keeps : (x : Name) → Mem x ms → x ≢ n → Mem x ks

removed : (n : Name) (ms : List Name) → Mem n ms → Removed n ms (remove n ms)
unfolding remove joined
removed n [] m = absurd m
removed n (k ∷ ms) m = go (same n k) refl m (removed n ms)
  where
    go : (t : Bool) → same n k ≡ t → Mem n (k ∷ ms) → (Mem n ms → Removed n ms (remove n ms)) → Removed n (k ∷ ms) (cond t ms (k ∷ remove n ms))
    go true e m f =
        let p = same_equal n k e in
        record {
          count = refl;
          total = omega (arith, ap length p, length-append k (joined ms));
          keeps = λ x j d. elim j [ inl q ↦ absurd (d (q ∙ sym p)) | inr i ↦ i ];
        }
    go false e (inl q) f = absurd (same_differs n k e q)
    go false e (inr m) f =
        let r = f m in
        record {
          count = ap suc r.count;
          total = omega (arith, r.total, length-append k (joined (remove n ms)), length-append k (joined ms));
          keeps = λ x j d. elim j [ inl q ↦ inl q | inr i ↦ inr (r.keeps x i d) ];
        }

pub fewer : (ns ms : List Name) → Rises ns → Incl ns ms → (length ns ≤ length ms) × (length (joined ns) ≤ length (joined ms))
unfolding joined
fewer [] ms r i = omega arith
fewer (n ∷ ns) ms r i =
    let k = removed n ms (i n (inl refl)) in
    let apart : (x : Name) → Mem x ns → x ≢ n = λ x m e. true≢false (sym (rw e at (r.0 x m)) ∙ below_self n) in
    let f = fewer ns (remove n ms) r.1 (λ x m. k.keeps x (i x (inr m)) (apart x m)) in
    let l = length-append n (joined ns) in
    omega (arith, f, k.count, k.total)

-- ---- UTF-8

text_mem : (names : List Name) → each_utf8 names ≡ true → (n : Name) → Mem n names → utf8 n ≡ true
unfolding each_utf8
text_mem [] e n m = absurd m
text_mem (k ∷ names) e n (inl q) = rw q (both {a = utf8 k} e).0
text_mem (k ∷ names) e n (inr m) = text_mem names (both {a = utf8 k} e).1 n m

text_each : (ns : List Name) → ((n : Name) → Mem n ns → utf8 n ≡ true) → each_utf8 ns ≡ true
unfolding each_utf8
text_each [] h = refl
text_each (n ∷ ns) h = with_both (h n (inl refl)) (text_each ns (λ k m. h k (inr m)))

-- ---- of an accepted pair

module _ {d v : List ℕ} {w : ℕ} {mark : Bool} {names : List Name} {t : Shape} (x : ReadsPair d v w mark names t) where
  pub in_use_among : Incl (in_use (held x)) names
  in_use_among n m = live_among names n 64 t x.second.fits ((in_use_is (held x) n).0 m)

  -- THE NEW DICTIONARY is never longer than the old one
  pub never_longer : length (one_dictionary (held x)) ≤ length d
  never_longer =
      let ns = in_use (held x) in
      let f = fewer ns names (in_use_rises (held x)) in_use_among in
      let f0 = f.0 in
      let f1 = f.1 in
      let most = max (length ns) (length (joined ns)) in
      let h = held_parts names x.first.held in
      let h0 = h.count in
      let h1 = h.bytes in
      let e = dictionary_is (held x) in
      let l = ap length x.first.layout ∙ layout_size w mark names in
      let least : number_width 1 (length ns) (length (joined ns)) ≤ w = rw (width_at_one most) (width_least w most x.first.least (omega arith)) in
      let p : number_width 1 (length ns) (length (joined ns)) * (length ns + 2) ≤ w * (length names + 2) = mul-le-mul least (omega arith) in
      omega arith

  -- it is accepted, and reads as the names in use
  pub names_read : let ns = in_use (held x) in ReadsNames (one_dictionary (held x)) (number_width 1 (length ns) (length (joined ns))) (sorted ns) ns
  unfolding one_dictionary
  names_read =
      let text = text_each (in_use (held x)) (λ n m. text_mem names x.first.text n (in_use_among n m)) in
      dictionary_reads 1 (in_use (held x)) text (omega (arith, never_longer, x.first.size))

-- without names it is 01 00 00
pub no_names : (l : Live) → in_use l ≡ [] → one_dictionary l ≡ never_used
unfolding one_dictionary
no_names l e = rw e (never_used_lem 1 (omega arith))

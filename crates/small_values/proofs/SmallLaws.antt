-- The values of up to three bytes over no names are those that `small` tells.
use mathlib.Core.Path.{◌≡◌, refl, sym, ◌∙◌, ap}
use mathlib.Core.Logic.{◌⊎◌, inl, inr}
use mathlib.Core.Bool.{Bool, true, false, cond, not, ◌&&◌, ◌||◌, true≢false}
use mathlib.Core.List.{List, [], ◌∷◌, ◌++◌, map}
use Prim.Native.Nat.{ℕ, zero, suc, ◌+◌, ◌-◌, ◌*◌, ◌≤◌, ◌<◌}
use native.Mathlib.Nat.{mul-le-mul_right}
use native.Mathlib.Omega.{arith}
use lib.Dec.{eqb, ltb}
use lib.ListN.{length, get_or, length-append}
use borrow.Author.Tests.{eqb-true, le-leb, leb-true}
use Rattle.encoding.specs.Rows.{first}
use Rattle.encoding.specs.Packed.{le, les, number}
use Rattle.encoding.specs.Utf8.{utf8, rest}
use Rattle.encoding.proofs.PackedLaws.{Below, length_le}
use Rattle.value.specs.Scalar.{Stored, primitive, short, first_byte, scalar_bytes, scalar_length}
use Rattle.metadata.specs.Names.{cuts, same, ascending}
use Rattle.metadata.specs.Bytes.{joined, ends_from, laid_out, numbers, names_in, dictionary_names, never_used}
use Rattle.container.specs.declared.Entry.{Entry}
use Rattle.container.specs.Layout.{count_size, list_header_at, object_byte, object_header_at}
use Rattle.container.specs.Entries.{ids_of}
use Rattle.container.proofs.LayoutLaws.{Width, length_list_at, length_object_at}
use Rattle.measure.specs.Measure.{container_length, value_length, measured}
use Rattle.lexicon.specs.Dictionary.{each_utf8, each_below, is_dictionary, most_bytes}
use Rattle.lexicon.proofs.DictionaryLaws.{both, each_below_lem}
use Rattle.grammar.specs.Grammar.{Shape, Shapes, starts_from, layout, layouts, starting, Plain, Fits}
use Rattle.grammar.specs.Grammar as grammar
use Rattle.grammar.specs.Tests.{cut_by, starts_of, each_value, is_scalar, is_list_head, is_object_head, is_value}
use Rattle.grammar.proofs.ShapeLaws.{shape_value}
use Rattle.grammar.proofs.TestLaws.{is_reads}
use Rattle.small_values.specs.Small.{accepted}
use Rattle.small_values.proofs.DigitLaws.{digits, digits_length, digits_below}

-- an empty list's or object's first byte, where its count and its data size take one byte each
abbrev pub empty : ℕ → Bool
empty a = eqb a 0x02 || (eqb a 0x03 || (eqb a 0x12 || (eqb a 0x22 || eqb a 0x32)))

-- null, the empty text, true and false; text of one byte and int8; text of two bytes, int16, and what is empty
unfoldable pub small : List ℕ → Bool
small [] = false
small (a ∷ []) = eqb a 0x00 || (eqb a 0x01 || (eqb a 0x04 || eqb a 0x08))
small (a ∷ (b ∷ [])) = (eqb a 0x05 && utf8 (b ∷ [])) || eqb a 0x0C
small (a ∷ (b ∷ (c ∷ []))) = ((eqb a 0x09 && utf8 (b ∷ (c ∷ []))) || eqb a 0x10) || (empty a && (eqb b 0 && eqb c 0))
small (a ∷ (b ∷ (c ∷ (d ∷ l)))) = false

-- ---- what has a reading is small

-- a payload of up to two bytes has a code up to 4
abbrev Least : ℕ → List ℕ → Type 0
Least m [] = Unit {0}
Least m (n ∷ ns) = (m ≤ n) × Least m ns

least_at : (m : ℕ) (ns : List ℕ) (i : ℕ) → Least m ns → i < length ns → m ≤ get_or ns i 0
least_at m [] i h l = absurd (omega arith)
least_at m (n ∷ ns) zero h l = h.0
least_at m (n ∷ ns) (suc i) h l = least_at m ns i h.1 (omega arith)

large_codes : Least 4 (4 ∷ 8 ∷ 8 ∷ 5 ∷ 9 ∷ 17 ∷ 4 ∷ 8 ∷ 8 ∷ 4 ∷ 4 ∷ 4 ∷ 8 ∷ 8 ∷ 8 ∷ 16 ∷ [])
large_codes = omega arith

coded_small : (c : ℕ) (payload : List ℕ) → Plain (record { stored_type = primitive c; payload = payload }) → length payload ≤ 2 → small ((4 * c) ∷ payload) ≡ true
unfolding small
coded_small zero [] p h = refl
coded_small zero (b ∷ l) p h = absurd (omega (arith, p.whole))
coded_small (suc zero) [] p h = refl
coded_small (suc zero) (b ∷ l) p h = absurd (omega (arith, p.whole))
coded_small (suc (suc zero)) [] p h = refl
coded_small (suc (suc zero)) (b ∷ l) p h = absurd (omega (arith, p.whole))
coded_small (suc (suc (suc zero))) [] p h = absurd (omega (arith, p.whole))
coded_small (suc (suc (suc zero))) (b ∷ []) p h = refl
coded_small (suc (suc (suc zero))) (b ∷ (c ∷ l)) p h = absurd (omega (arith, p.whole))
coded_small (suc (suc (suc (suc zero)))) [] p h = absurd (omega (arith, p.whole))
coded_small (suc (suc (suc (suc zero)))) (b ∷ []) p h = absurd (omega (arith, p.whole))
coded_small (suc (suc (suc (suc zero)))) (b ∷ (c ∷ [])) p h = refl
coded_small (suc (suc (suc (suc zero)))) (b ∷ (c ∷ (d ∷ l))) p h = absurd (omega (arith, p.whole))
coded_small (suc (suc (suc (suc (suc c))))) payload p h =
    let n = leb-true (suc (suc (suc (suc (suc c))))) 20 p.known in
    let k = least_at 4 (4 ∷ 8 ∷ 8 ∷ 5 ∷ 9 ∷ 17 ∷ 4 ∷ 8 ∷ 8 ∷ 4 ∷ 4 ∷ 4 ∷ 8 ∷ 8 ∷ 8 ∷ 16 ∷ []) c large_codes (omega arith) in
    absurd (omega (arith, p.whole, k))

short_small : (payload : List ℕ) → utf8 payload ≡ true → length payload ≤ 2 → small ((4 * length payload + 1) ∷ payload) ≡ true
unfolding small
short_small [] u h = refl
short_small (b ∷ []) u h = rw u
short_small (b ∷ (c ∷ [])) u h = rw u
short_small (b ∷ (c ∷ (d ∷ l))) u h = absurd (omega arith)

in_range : (a b : Bool) → (not a || b) ≡ false → a ≡ true
in_range true b e = refl
in_range false b e = absurd (true≢false e)

scalar_small : (k : Stored) (payload : List ℕ) → Plain (record { stored_type = k; payload = payload }) → length payload ≤ 2
    → small (first_byte k (length payload) ∷ payload) ≡ true
scalar_small short payload p h = short_small payload (in_range (utf8 payload) (ltb 63 (length payload)) p.range) h
scalar_small (primitive c) payload p h = coded_small c payload p h

count_some : (big : Bool) → 1 ≤ count_size big
count_some true = omega arith
count_some false = omega arith

-- a container of up to three bytes is empty, and its count and its data size take one byte each
list_none : (w : ℕ) (big : Bool) → Width w → length (layout (grammar.list w big grammar.none)) ≤ 3 → small (layout (grammar.list w big grammar.none)) ≡ true
unfolding layout starts_from joined list_header_at le les small
list_none w true k h = absurd (omega arith)
list_none w false k h = let e : w ≡ 1 = omega (arith, simp (length-append, length_le) at h) in rw e refl

list_more : (w : ℕ) (big : Bool) (t : Shape) (ts : Shapes) → Width w → length (layout (grammar.list w big (grammar.more t ts))) ≤ 3 → ⊥
unfolding layout starts_from
list_more w big t ts k h =
    let os = starts_from 0 (layouts (grammar.more t ts)) in
    let size = length (joined (layouts (grammar.more t ts))) in
    let l = length_list_at w big os size in
    let a = length-append (list_header_at w big os size) (joined (layouts (grammar.more t ts))) in
    omega (arith, count_some big, mul-le-mul_right (length os + 1) k.0)

list_small : (w : ℕ) (big : Bool) (ts : Shapes) → Width w → length (layout (grammar.list w big ts)) ≤ 3 → small (layout (grammar.list w big ts)) ≡ true
list_small w big grammar.none k h = list_none w big k h
list_small w big (grammar.more t ts) k h = absurd (list_more w big t ts k h)

object_none : (w v : ℕ) (big : Bool) → Width w → Width v → length (layout (grammar.object w v big [] grammar.none)) ≤ 3
    → small (layout (grammar.object w v big [] grammar.none)) ≡ true
unfolding layout joined object_header_at le les small
object_none w v true k l h = absurd (omega arith)
object_none w v false k l h = let e : w ≡ 1 = omega (arith, simp (length-append, length_le) at h) in rw e (go v l)
  where
    go : (v : ℕ) → Width v → small (object_byte 1 v false ∷ (0 ∷ (0 ∷ []))) ≡ true
    go zero l = absurd (omega arith)
    go (suc zero) l = refl
    go (suc (suc zero)) l = refl
    go (suc (suc (suc zero))) l = refl
    go (suc (suc (suc (suc zero)))) l = refl
    go (suc (suc (suc (suc (suc v))))) l = absurd (omega arith)

object_more : (w v : ℕ) (big : Bool) (t : Shape) (ts : Shapes) → Width w → 0 < length (layout t) → length (layout (grammar.object w v big [] (grammar.more t ts))) ≤ 3 → ⊥
unfolding layout joined
object_more w v big t ts k s h =
    let ds = layout t ++ joined (layouts ts) in
    let l = length_object_at w v big [] [] (length ds) refl in
    let a = length-append (object_header_at w v big [] [] (length ds)) ds in
    let b = length-append (layout t) (joined (layouts ts)) in
    omega (arith, count_some big, mul-le-mul_right 1 k.0)

object_small : (d w v : ℕ) (big : Bool) (es : List Entry) (ts : Shapes) → Fits [] d (grammar.object w v big es ts)
    → length (layout (grammar.object w v big es ts)) ≤ 3 → small (layout (grammar.object w v big es ts)) ≡ true
object_small d w v big (e ∷ es) ts f h = absurd (omega (arith, (each_below_lem 0 (ids_of (e ∷ es)) f.2.ids).0))
object_small d w v big [] grammar.none f h = object_none w v big (f.1.list.least, f.1.list.most) (f.1.least, f.1.most) h
object_small d w v big [] (grammar.more t ts) f h =
    absurd (object_more w v big t ts (f.1.list.least, f.1.list.most) (shape_value [] (d - 1) t f.3.0).some h)

pub shape_small : (d : ℕ) (t : Shape) → Fits [] d t → length (layout t) ≤ 3 → small (layout t) ≡ true
unfolding layout scalar_bytes
shape_small d (grammar.scalar s) f h = scalar_small s.stored_type s.payload f (omega arith)
shape_small d (grammar.list w big ts) f h = list_small w big ts (f.1.least, f.1.most) h
shape_small d (grammar.object w v big es ts) f h = object_small d w v big es ts f h

-- ---- what is small passes the test

or_either : (a b : Bool) → (a || b) ≡ true → (a ≡ true) ⊎ (b ≡ true)
or_either true b e = inl refl
or_either false b e = inr e

first_of : (a b : Bool) → a ≡ true → (a || b) ≡ true
first_of a b e = rw e

scalar_passes : (d : ℕ) (v : List ℕ) → is_scalar v ≡ true → is_value [] (suc d) v ≡ true
unfolding is_value
scalar_passes d v e = first_of (is_scalar v) _ e

one_byte : (a : ℕ) → small (a ∷ []) ≡ true → is_scalar (a ∷ []) ≡ true
unfolding small is_scalar measured value_length scalar_length utf8 rest
one_byte a e = go (or_either (eqb a 0) _ e)
  where
    last : (eqb a 4 ≡ true) ⊎ (eqb a 8 ≡ true) → is_scalar (a ∷ []) ≡ true
    last (inl q) = rw (eqb-true a 4 q) refl
    last (inr q) = rw (eqb-true a 8 q) refl

    next : (eqb a 1 ≡ true) ⊎ ((eqb a 4 || eqb a 8) ≡ true) → is_scalar (a ∷ []) ≡ true
    next (inl q) = rw (eqb-true a 1 q) refl
    next (inr q) = last (or_either (eqb a 4) (eqb a 8) q)

    go : (eqb a 0 ≡ true) ⊎ ((eqb a 1 || (eqb a 4 || eqb a 8)) ≡ true) → is_scalar (a ∷ []) ≡ true
    go (inl q) = rw (eqb-true a 0 q) refl
    go (inr q) = next (or_either (eqb a 1) _ q)

text_passes : (payload : List ℕ) → length payload ≤ 2 → utf8 payload ≡ true → is_scalar ((4 * length payload + 1) ∷ payload) ≡ true
unfolding is_scalar measured value_length scalar_length
text_passes [] h u = rw u
text_passes (b ∷ []) h u = rw u
text_passes (b ∷ (c ∷ [])) h u = rw u
text_passes (b ∷ (c ∷ (d ∷ l))) h u = absurd (omega arith)

int8_passes : (b : ℕ) → is_scalar (0x0C ∷ (b ∷ [])) ≡ true
unfolding is_scalar measured value_length scalar_length
int8_passes b = refl

int16_passes : (b c : ℕ) → is_scalar (0x10 ∷ (b ∷ (c ∷ []))) ≡ true
unfolding is_scalar measured value_length scalar_length
int16_passes b c = refl

two_bytes : (a b : ℕ) → small (a ∷ (b ∷ [])) ≡ true → is_scalar (a ∷ (b ∷ [])) ≡ true
unfolding small
two_bytes a b e = go (or_either (eqb a 5 && utf8 (b ∷ [])) (eqb a 12) e)
  where
    go : ((eqb a 5 && utf8 (b ∷ [])) ≡ true) ⊎ (eqb a 12 ≡ true) → is_scalar (a ∷ (b ∷ [])) ≡ true
    go (inl q) = let p = both {a = eqb a 5} q in rw (eqb-true a 5 p.0) (text_passes (b ∷ []) (omega arith) p.1)
    go (inr q) = rw (eqb-true a 12 q) (int8_passes b)

-- the five that are empty
empties_pass : map (λ a. is_value [] 64 (a ∷ (0 ∷ (0 ∷ [])))) (0x02 ∷ 0x03 ∷ 0x12 ∷ 0x22 ∷ 0x32 ∷ []) ≡ true ∷ true ∷ true ∷ true ∷ true ∷ []
unfolding is_value is_scalar is_list_head is_object_head each_value starts_of starts_from cut_by starting numbers number measured container_length value_length same each_below ascending
empties_pass = refl

empty_passes : (a b c : ℕ) → (empty a && (eqb b 0 && eqb c 0)) ≡ true → is_value [] 64 (a ∷ (b ∷ (c ∷ []))) ≡ true
empty_passes a b c e = rw (eqb-true b 0 z.0, eqb-true c 0 z.1) (go (or_either (eqb a 2) _ p.0))
  where
    p : (empty a ≡ true) × ((eqb b 0 && eqb c 0) ≡ true)
    p = both {a = empty a} e

    z : (eqb b 0 ≡ true) × (eqb c 0 ≡ true)
    z = both {a = eqb b 0} p.1

    Passes : ℕ → Type 0
    Passes x = is_value [] 64 (x ∷ (0 ∷ (0 ∷ []))) ≡ true

    by : (x : ℕ) → eqb a x ≡ true → Passes x → Passes a
    by x q h = rw (eqb-true a x q) h

    nth : (n : ℕ) → get_or (map (λ x. is_value [] 64 (x ∷ (0 ∷ (0 ∷ [])))) (0x02 ∷ 0x03 ∷ 0x12 ∷ 0x22 ∷ 0x32 ∷ [])) n false ≡ get_or (true ∷ true ∷ true ∷ true ∷ true ∷ []) n false
    nth n = ap (λ l. get_or l n false) empties_pass

    last : (eqb a 34 ≡ true) ⊎ (eqb a 50 ≡ true) → Passes a
    last (inl q) = by 34 q (nth 3)
    last (inr q) = by 50 q (nth 4)

    third : (eqb a 18 ≡ true) ⊎ ((eqb a 34 || eqb a 50) ≡ true) → Passes a
    third (inl q) = by 18 q (nth 2)
    third (inr q) = last (or_either (eqb a 34) (eqb a 50) q)

    second : (eqb a 3 ≡ true) ⊎ ((eqb a 18 || (eqb a 34 || eqb a 50)) ≡ true) → Passes a
    second (inl q) = by 3 q (nth 1)
    second (inr q) = third (or_either (eqb a 18) _ q)

    go : (eqb a 2 ≡ true) ⊎ ((eqb a 3 || (eqb a 18 || (eqb a 34 || eqb a 50))) ≡ true) → Passes a
    go (inl q) = by 2 q (nth 0)
    go (inr q) = second (or_either (eqb a 3) _ q)

three_bytes : (a b c : ℕ) → small (a ∷ (b ∷ (c ∷ []))) ≡ true → is_value [] 64 (a ∷ (b ∷ (c ∷ []))) ≡ true
unfolding small
three_bytes a b c e = go (or_either _ (empty a && (eqb b 0 && eqb c 0)) e)
  where
    scalars : ((eqb a 9 && utf8 (b ∷ (c ∷ []))) ≡ true) ⊎ (eqb a 16 ≡ true) → is_scalar (a ∷ (b ∷ (c ∷ []))) ≡ true
    scalars (inl q) = let p = both {a = eqb a 9} q in rw (eqb-true a 9 p.0) (text_passes (b ∷ (c ∷ [])) (omega arith) p.1)
    scalars (inr q) = rw (eqb-true a 16 q) (int16_passes b c)

    go : (((eqb a 9 && utf8 (b ∷ (c ∷ []))) || eqb a 16) ≡ true) ⊎ ((empty a && (eqb b 0 && eqb c 0)) ≡ true) → is_value [] 64 (a ∷ (b ∷ (c ∷ []))) ≡ true
    go (inl q) = scalar_passes 63 (a ∷ (b ∷ (c ∷ []))) (scalars (or_either (eqb a 9 && utf8 (b ∷ (c ∷ []))) (eqb a 16) q))
    go (inr q) = empty_passes a b c q

pub small_passes : (v : List ℕ) → small v ≡ true → is_value [] 64 v ≡ true
unfolding small
small_passes [] e = absurd (true≢false (sym e))
small_passes (a ∷ []) e = scalar_passes 63 (a ∷ []) (one_byte a e)
small_passes (a ∷ (b ∷ [])) e = scalar_passes 63 (a ∷ (b ∷ [])) (two_bytes a b e)
small_passes (a ∷ (b ∷ (c ∷ []))) e = three_bytes a b c e
small_passes (a ∷ (b ∷ (c ∷ (d ∷ l)))) e = absurd (true≢false (sym e))

-- ---- over the dictionary `01 00 00`

pub never_names : dictionary_names never_used ≡ []
unfolding dictionary_names names_in numbers number cuts
never_names = refl

pub never_good : is_dictionary never_used ≡ true
unfolding is_dictionary dictionary_names names_in numbers number cuts laid_out le les ends_from joined each_below each_utf8 same ascending
never_good = refl

accepted_value : (v : List ℕ) → length v ≤ most_bytes → accepted v ≡ is_value [] 64 v
unfolding accepted first
accepted_value v h = rw (never_good, never_names, le-leb (length v) most_bytes h) (go (is_value [] 64 v))
  where
    go : (t : Bool) → eqb (cond (not t) 20 0) 0 ≡ t
    go true = refl
    go false = refl

same_truth : (a b : Bool) → (a ≡ true → b ≡ true) → (b ≡ true → a ≡ true) → a ≡ b
same_truth true b f g = sym (f refl)
same_truth false true f g = g refl
same_truth false false f g = refl

-- "every value that the reader accepts", of up to three bytes, by its bytes
pub accepted_is : (v : List ℕ) → length v ≤ 3 → Below 256 v → accepted v ≡ small v
accepted_is v h b = accepted_value v (omega arith) ∙ same_truth (is_value [] 64 v) (small v) into (small_passes v)
  where
    into : is_value [] 64 v ≡ true → small v ≡ true
    into e = let r = is_reads [] 64 v b e in rw r.laid (shape_small 64 r.shape r.fits (rw (← r.laid) h))

-- of the k lowest bytes of a number
pub digits_accepted : (k n : ℕ) → k ≤ 3 → accepted (digits k n) ≡ small (digits k n)
digits_accepted k n h = accepted_is (digits k n) (omega (arith, digits_length k n)) (digits_below k n)

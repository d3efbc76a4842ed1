-- Headers: where their parts stand, and the tests one by one.
use mathlib.Core.Path.{◌≡◌, refl, sym, ◌∙◌, ap}
use mathlib.Core.Bool.{Bool, true, false, cond, ◌&&◌, and-false}
use mathlib.Core.List.{List, [], ◌∷◌}
use Prim.Native.Nat.{ℕ, ◌-◌, ◌%◌, ◌≤◌, ◌<◌}
use native.Mathlib.Omega.{arith}
use lib.Dec.{eqb, leb, ltb}
use lib.ListN.{length, take, drop, get_or, get_or-eq_default}
use borrow.Author.Tests.{eq-eqb, ne_eqb, eqb-true, leb-true}
use Rattle.std.specs.Prelude.{Option, Some, None}
use Rattle.std.specs.Bool.{then_some}
use Rattle.lexicon.proofs.DictionaryLaws.{both}
use Rattle.metadata.specs.Names.{Name, same}
use Rattle.measure.specs.Measure.{container_length, value_length, measured, within}
use Rattle.grammar.specs.Grammar.{starting}
use Rattle.header_reader.specs.Heads.{is_whole, ids_good, offsets_good}
use Rattle.header_reader.proofs.StartLaws.{rest_is}
use Rattle.grammar.specs.Tests.{list_offsets, list_from, stored_ids, object_from, object_offsets, starts_of, is_list_head, is_object_head, list_head, object_head}

-- ---- parts

pub first_none : (v : List ℕ) → length v ≡ 0 → (0 ≡ get_or v 0 0) × (0 < 256)
first_none v e = (sym (get_or-eq_default v 0 {n = 0} (omega arith)), omega arith)

some_if : (t : Bool) (n : ℕ) → then_some t n ≡ cond t (Some n) None
some_if true n = refl
some_if false n = refl

-- ---- a header lies within bytes that are as long as it says

whole_within : (n x : ℕ) → 0 < n → within n x ≡ n → x ≤ n
whole_within n x h = go (leb x n) refl
  where
    go : (t : Bool) → leb x n ≡ t → cond t x 0 ≡ n → x ≤ n
    go true e f = leb-true x n e
    go false e f = absurd (omega arith)

not_empty : (v : List ℕ) → 2 ≤ get_or v 0 0 % 4 → 0 < length v
not_empty [] h = absurd (omega arith)
not_empty (b ∷ v) h = omega arith

-- ---- a list's tests

grouped : (a b c d : Bool) → (a && (b && (c && d))) ≡ ((a && (b && c)) && d)
grouped true true c d = refl
grouped true false c d = refl
grouped false b c d = refl

list_split : (v : List ℕ) → is_list_head v ≡ (is_whole 3 32 v && same (list_offsets v) (starts_of (drop (list_from v) v)))
unfolding is_list_head
list_split v = grouped (eqb (get_or v 0 0 % 4) 3) (ltb (get_or v 0 0) 32) (eqb (measured v) (length v)) (same (list_offsets v) (starts_of (drop (list_from v) v)))

pub list_room : (v : List ℕ) → get_or v 0 0 % 4 ≡ 3 → measured v ≡ length v → list_from v ≤ length v
unfolding measured value_length container_length
list_room v h e =
    let x = whole_within (length v) (value_length v) (not_empty v (omega arith)) e in
    let y = rw (eq-eqb (get_or v 0 0 % 4) 3 h) at x in
    omega arith

list_within : (v : List ℕ) → is_whole 3 32 v ≡ true → list_from v ≤ length v
list_within v e =
    let a = both {a = eqb (get_or v 0 0 % 4) 3} e in
    let b = both {a = ltb (get_or v 0 0) 32} a.1 in
    list_room v (eqb-true (get_or v 0 0 % 4) 3 a.0) (eqb-true (measured v) (length v) b.1)

module _ (v : List ℕ) {t : Bool} (e : t ≡ is_whole 3 32 v) where
  pub list_other : t ≡ false → None ≡ list_head v
  list_other q = rw (list_split v, ← e, q)

  module _ (q : t ≡ true) where
    pub list_fits : list_from v ≤ length v
    list_fits = list_within v (sym e ∙ q)

    -- of the offsets, beside the data as the code cuts them
    module _ {ns : List ℕ} {from : ℕ} {u : Bool} (a : ns ≡ list_offsets v) (b : from ≡ list_from v) (f : u ≡ same ns (starts_of (take (length v - from) (drop from v)))) where
      decided : is_list_head v ≡ u
      decided = list_split v ∙ (rw (← e, q, ← a, ← b) (sym (rw (rest_is v from) at f)))

      pub list_told : {r : Option ℕ} → r ≡ then_some u from → r ≡ list_head v
      list_told y = y ∙ (some_if u from ∙ rw (decided, b))

-- ---- an object's

object_split : (names : List Name) (v : List ℕ) → is_object_head names v ≡ (is_whole 2 128 v && (offsets_good v && ids_good names (stored_ids v)))
unfolding is_object_head
object_split names v = grouped (eqb (get_or v 0 0 % 4) 2) (ltb (get_or v 0 0) 128) (eqb (measured v) (length v)) (offsets_good v && ids_good names (stored_ids v))

pub object_room : (v : List ℕ) → get_or v 0 0 % 4 ≡ 2 → measured v ≡ length v → object_from v ≤ length v
unfolding measured value_length container_length
object_room v h e =
    let x = whole_within (length v) (value_length v) (not_empty v (omega arith)) e in
    let y = rw (ne_eqb (get_or v 0 0 % 4) 3 (omega arith), eq-eqb (get_or v 0 0 % 4) 2 h) at x in
    omega arith

object_within : (v : List ℕ) → is_whole 2 128 v ≡ true → object_from v ≤ length v
object_within v e =
    let a = both {a = eqb (get_or v 0 0 % 4) 2} e in
    let b = both {a = ltb (get_or v 0 0) 128} a.1 in
    object_room v (eqb-true (get_or v 0 0 % 4) 2 a.0) (eqb-true (measured v) (length v) b.1)

module _ (names : List Name) (v : List ℕ) {t : Bool} (e : t ≡ is_whole 2 128 v) where
  pub object_other : t ≡ false → None ≡ object_head names v
  object_other q = rw (object_split names v, ← e, q)

  module _ (q : t ≡ true) where
    pub object_fits : object_from v ≤ length v
    object_fits = object_within v (sym e ∙ q)

    module _ {ids : List ℕ} {i : Bool} (a : ids ≡ stored_ids v) (f : i ≡ ids_good names ids) where
      pub object_ids : i ≡ false → None ≡ object_head names v
      object_ids r = rw (object_split names v, ← e, q, ← a, ← f, r, and-false (offsets_good v))

      -- and of the offsets, beside the data as the code cuts them
      module _ {ns : List ℕ} {from : ℕ} {u : Bool} (b : ns ≡ object_offsets v) (d : from ≡ object_from v) (g : u ≡ starting (starts_of (take (length v - from) (drop from v))) ns) (r : i ≡ true) where
        settled : is_object_head names v ≡ u
        settled =
            let o : offsets_good v ≡ u = rw (← b, ← d) (sym (rw (rest_is v from) at g)) in
            rw (object_split names v, ← e, q, ← a, ← f, r, o) (and_true u)
          where
            and_true : (x : Bool) → (x && true) ≡ x
            and_true true = refl
            and_true false = refl

        pub object_told : {s : Option ℕ} → s ≡ then_some u from → s ≡ object_head names v
        object_told y = y ∙ (some_if u from ∙ rw (settled, d))

-- ---- a header's size is at most that of its bytes

tested : (t : Bool) {x n : ℕ} → Some n ≡ cond t (Some x) None → (t ≡ true) × (n ≡ x)
tested true e = (refl, cc)
tested false e = cc

pub list_head_within : (v : List ℕ) {n : ℕ} → Some n ≡ list_head v → n ≤ length v
list_head_within v e =
    let p = tested (is_list_head v) e in
    rw p.1 (list_within v (both {a = is_whole 3 32 v} (sym (list_split v) ∙ p.0)).0)

pub object_head_within : (names : List Name) (v : List ℕ) {n : ℕ} → Some n ≡ object_head names v → n ≤ length v
object_head_within names v e =
    let p = tested (is_object_head names v) e in
    rw p.1 (object_within v (both {a = is_whole 2 128 v} (sym (object_split names v) ∙ p.0)).0)

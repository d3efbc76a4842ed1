-- Values judged: the walk over a container's data, and a value by its kind.
use mathlib.Core.Path.{◌≡◌, refl, sym, ◌∙◌, ap}
use mathlib.Core.Bool.{Bool, true, false, cond, ◌&&◌, ◌||◌, false≢true, and-eq-true_iff}
use mathlib.Core.List.{List, [], ◌∷◌}
use Prim.Native.Nat.{ℕ, zero, suc, ◌+◌, ◌-◌, ◌%◌, ◌≤◌, ◌<◌}
use native.Mathlib.Omega.{arith}
use lib.Dec.{eqb, ltb}
use lib.ListN.{length, take, drop, get_or, length-drop}
use lib.Seq.{drop-cons, drop-drop}
use borrow.Author.Tests.{eq-eqb, ne_eqb, lt-ltb, le-ltb, ltb-true}
use Rattle.std.specs.Prelude.{Some, None}
use Rattle.metadata.specs.Names.{Name}
use Rattle.measure.specs.Measure.{measured, some_length}
use Rattle.measure.proofs.MeasureLaws.{measured_within}
use Rattle.grammar.proofs.CutLaws.{each_fuel}
use Rattle.grammar.proofs.LengthLaws.{length_is, length_none}
use Rattle.header_reader.proofs.StartLaws.{rest_is}
use Rattle.grammar.specs.Tests.{each_value, is_scalar, is_list_head, is_object_head, list_from, list_head, object_from, object_head, is_value}

-- ---- the values that are left decide as all of them do

pub record Walks (f : List ℕ → Bool) (t : Bool) (rest : List ℕ) : Type 0 where
  pub left : each_value f (length rest) rest ≡ t

each_none : (f : List ℕ → Bool) (bytes : List ℕ) → measured bytes ≡ 0 → each_value f (length bytes) bytes ≡ eqb (length bytes) 0
unfolding each_value
each_none f [] e = refl
each_none f (b ∷ v) e = rw (ne_eqb (length (b ∷ v)) 0 (omega arith), le-ltb 0 (measured (b ∷ v)) (omega arith))

each_next : (f : List ℕ → Bool) (bytes : List ℕ) → 0 < measured bytes
    → each_value f (length bytes) bytes ≡ (f (take (measured bytes) bytes) && each_value f (length (drop (measured bytes) bytes)) (drop (measured bytes) bytes))
unfolding each_value
each_next f [] h = absurd (omega (arith, measured_within []))
each_next f (b ∷ v) h =
    let rest = drop (measured (b ∷ v)) (b ∷ v) in
    rw (ne_eqb (length (b ∷ v)) 0 (omega arith), lt-ltb 0 (measured (b ∷ v)) h, each_fuel f (length v) rest (omega (arith, length-drop (measured (b ∷ v)) (b ∷ v))))

module _ {f : List ℕ → Bool} {t : Bool} {rest : List ℕ} (w : Walks f t rest) where
  -- what is no whole value is still there
  pub walks_end : {r : Bool} → None ≡ some_length (measured rest) → r ≡ eqb (length rest) 0 → r ≡ t
  walks_end e q = q ∙ (sym (each_none f rest (length_none (measured rest) e)) ∙ w.left)

  module _ {n : ℕ} (e : Some n ≡ some_length (measured rest)) where
    size : (n ≡ measured rest) × (0 < n)
    size = length_is (measured rest) e

    pub walks_room : n ≤ length rest
    walks_room = omega (arith, size, measured_within rest)

    pub walks_less : length (drop n rest) < length rest
    walks_less = omega (arith, size, measured_within rest, length-drop n rest)

    judged : (f (take n rest) && each_value f (length (drop n rest)) (drop n rest)) ≡ t
    judged = rw size.0 (sym (each_next f rest (omega (arith, size)))) ∙ w.left

    pub walks_bad : f (take n rest) ≡ false → false ≡ t
    walks_bad b = rw b at judged

    pub walks_again : f (take n rest) ≡ true → Walks f t (drop n rest)
    walks_again b = record { left = rw b at judged }

-- ---- a value by its kind

module _ (names : List Name) (v : List ℕ) where
  abbrev kind : ℕ
  kind = get_or v 0 0 % 4

  not_list : (kind ≡ 3 → ⊥) → is_list_head v ≡ false
  unfolding is_list_head
  not_list h = rw (ne_eqb kind 3 h)

  not_object : (kind ≡ 2 → ⊥) → is_object_head names v ≡ false
  unfolding is_object_head
  not_object h = rw (ne_eqb kind 2 h)

  not_scalar : 2 ≤ kind → is_scalar v ≡ false
  unfolding is_scalar
  not_scalar h = rw (le-ltb kind 2 h)

  or_none : (a : Bool) → (a || false) ≡ a
  or_none true = refl
  or_none false = refl

  -- a scalar has no depth
  pub value_scalar : (depth : ℕ) → (kind ≡ 3 → ⊥) → (kind ≡ 2 → ⊥) → is_value names depth v ≡ is_scalar v
  unfolding is_value
  value_scalar zero h k = refl
  value_scalar (suc d) h k = rw (not_list h, not_object k) (or_none (is_scalar v))

  pub too_deep : (depth : ℕ) → 2 ≤ kind → depth ≡ 0 → false ≡ is_value names depth v
  unfolding is_value
  too_deep zero h e = rw (not_scalar h)
  too_deep (suc d) h e = absurd (omega arith)

  pub value_list : (depth : ℕ) → kind ≡ 3 → (depth ≡ 0 → ⊥) → is_value names depth v ≡ (is_list_head v && each_value (is_value names (depth - 1)) (length v) (drop (list_from v) v))
  unfolding is_value
  value_list zero h k = absurd (k refl)
  value_list (suc d) h k =
      let e : suc d - 1 ≡ d = omega arith in
      rw (not_scalar (omega arith), not_object (omega arith), e) (or_none (is_list_head v && each_value (is_value names d) (length v) (drop (list_from v) v)))

  pub value_object : (depth : ℕ) → kind ≡ 2 → (depth ≡ 0 → ⊥)
      → is_value names depth v ≡ (is_object_head names v && each_value (is_value names (depth - 1)) (length v) (drop (object_from v) v))
  unfolding is_value
  value_object zero h k = absurd (k refl)
  value_object (suc d) h k = let e : suc d - 1 ≡ d = omega arith in rw (not_scalar (omega arith), not_list (omega arith), e)

  -- a header that does not pass
  headless : (t u : Bool) (from : ℕ) → None ≡ cond t (Some from) None → false ≡ (t && u)
  headless true u from e = cc
  headless false u from e = refl

  -- the data behind one that passes
  headed : (f : List ℕ → Bool) (t : Bool) (from : ℕ) {r : ℕ} {s : Bool} → Some r ≡ cond t (Some from) None
      → s ≡ each_value f (length (take (length v - r) (drop r v))) (take (length v - r) (drop r v)) → s ≡ (t && each_value f (length v) (drop from v))
  headed f false from e k = cc
  headed f true from {r} {s} e k =
      let l = length-drop from v in
      let q : r ≡ from = cc in
      k ∙ (ap (λ d. each_value f (length d) d) (rest_is v r) ∙ (ap (λ n. each_value f (length (drop n v)) (drop n v)) q ∙ sym (each_fuel f (length v) (drop from v) (omega arith))))

  module _ {depth : ℕ} (h : kind ≡ 3) (k : depth ≡ 0 → ⊥) where
    pub list_headless : None ≡ list_head v → false ≡ is_value names depth v
    list_headless e = headless (is_list_head v) _ (list_from v) e ∙ sym (value_list depth h k)

    pub list_headed : {r : ℕ} {s : Bool} → Some r ≡ list_head v → s ≡ each_value (is_value names (depth - 1)) (length (take (length v - r) (drop r v))) (take (length v - r) (drop r v))
        → s ≡ is_value names depth v
    list_headed e b = headed (is_value names (depth - 1)) (is_list_head v) (list_from v) e b ∙ sym (value_list depth h k)

  module _ {depth : ℕ} (h : kind ≡ 2) (k : depth ≡ 0 → ⊥) where
    pub object_headless : None ≡ object_head names v → false ≡ is_value names depth v
    object_headless e = headless (is_object_head names v) _ (object_from v) e ∙ sym (value_object depth h k)

    pub object_headed : {r : ℕ} {s : Bool} → Some r ≡ object_head names v → s ≡ each_value (is_value names (depth - 1)) (length (take (length v - r) (drop r v))) (take (length v - r) (drop r v))
        → s ≡ is_value names depth v
    object_headed e b = headed (is_value names (depth - 1)) (is_object_head names v) (object_from v) e b ∙ sym (value_object depth h k)

-- no bytes are no value
pub value_none : (names : List Name) (depth : ℕ) (v : List ℕ) → length v ≡ 0 → false ≡ is_value names depth v
unfolding is_scalar
value_none names depth [] e = either (eqb (measured []) 0) ∙ sym (value_scalar names [] depth (λ z. absurd (omega arith)) (λ z. absurd (omega arith)))
  where
    either : (t : Bool) → false ≡ (t && false)
    either true = refl
    either false = refl
value_none names depth (b ∷ v) e = absurd (omega arith)

module _ (names : List Name) (depth : ℕ) (v : List ℕ) (e : is_value names depth v ≡ true) where
  pub value_some : 0 < length v
  value_some = go (length v) refl
    where
      go : (n : ℕ) → length v ≡ n → 0 < n
      go zero z = absurd (false≢true (value_none names depth v z ∙ e))
      go (suc n) z = omega arith

  pub value_headed : (depth ≡ 0 → ⊥) → get_or v 0 0 % 4 ≡ 2 → is_object_head names v ≡ true
  value_headed k h = ((and-eq-true_iff (is_object_head names v) (each_value (is_value names (depth - 1)) (length v) (drop (object_from v) v))).0 (sym (value_object names v depth h k) ∙ e)).0

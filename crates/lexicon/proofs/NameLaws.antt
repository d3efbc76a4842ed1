-- For the code: names by their ids, and the walk over the ends.
use mathlib.Core.Path.{◌≡◌, refl, sym, ◌∙◌, ap}
use mathlib.Core.Bool.{Bool, true, false, ◌&&◌, and-false}
use mathlib.Core.List.{List, [], ◌∷◌}
use Prim.Native.Nat.{ℕ, zero, suc, ◌+◌, ◌-◌, ◌*◌, ◌≤◌, ◌<◌, min}
use native.Mathlib.Nat.{mul-add, mul-suc, mul-zero, sub-zero}
use native.Mathlib.Omega.{arith}
use lib.Dec.{eqb, leb}
use lib.ListN.{length, take, drop, get_or, length-drop, get_or-eq_default}
use lib.Seq.{drop-drop, take_all}
use borrow.Author.Tests.{le-leb, lt-leb}
use Rattle.encoding.specs.Utf8.{utf8}
use Rattle.measure.specs.Measure.{number_at, Numbered}
use Rattle.std.specs.List.{list_all, range_with_len}
use Rattle.metadata.specs.Names.{Name, ascending}
use Rattle.metadata.specs.Bytes.{numbers, dictionary_names}
use Rattle.metadata.proofs.BytesLaws.{risen_low}
use Rattle.metadata.proofs.NameLaws.{cut_at}
use Rattle.metadata.proofs.FinishLaws.{rises, rise_all}
use Rattle.lexicon.specs.declared.stored.Stored.{Stored}
use Rattle.lexicon.specs.Dictionary.{width_in, name_in, start_in, good_names}
use Rattle.lexicon.proofs.ByteLaws.{length_numbers}
use Rattle.lexicon.proofs.TestLaws.{count_in, ends_in, text_in, names_by, length_by, good_risen}

-- a stored number of at most four bytes
pub numbered : {d : List ℕ} {p w r : ℕ} → w ≤ 4 → Numbered d p (min w 4) r → r ≡ number_at d p w
numbered {d} {p} {w} h n = let e : min w 4 ≡ w = omega arith in rw e at n.value

-- what is kept of the bytes d
module _ {d : List ℕ} (s : Stored) (e : s.bytes.now ≡ d) where
  pub width_kept : s.width ≡ width_in d
  width_kept = s.width_read ∙ ap width_in e

  pub count_kept : s.count ≡ count_in d
  count_kept = s.count_read ∙ (ap (number_at s.bytes.now 1) s.width_read ∙ ap count_in e)

  pub offset_kept : {r : ℕ} → r ≡ number_at s.bytes.now (1 + s.width * 1) s.width → r ≡ number_at d (1 + s.width) s.width
  offset_kept h = let m : s.width * 1 ≡ s.width = omega arith in rw (e, m) at h

-- ---- a name by its id

pub end_at : (w n i : ℕ) (l : List ℕ) → i < n → get_or (numbers w n l) i 0 ≡ number_at l (w * i) w
unfolding numbers
end_at w zero i l h = absurd (omega arith)
end_at w (suc n) zero l h = rw (mul-zero w)
end_at w (suc n) (suc i) l h =
    let m : w + w * i ≡ w * suc i = omega (arith, mul-suc w i) in
    end_at w n i (drop w l) (omega arith) ∙ (rw (drop-drop (w * i) w l, m))

end_in : (d : List ℕ) (id : ℕ) → id < count_in d → get_or (ends_in d) id 0 ≡ number_at d (1 + width_in d * (id + 2)) (width_in d)
end_in d id h =
    let w = width_in d in
    let m : 1 + w + w + w * id ≡ 1 + w * (id + 2) = omega (arith, mul-add w id 2) in
    end_at w (count_in d) id (drop (1 + w + w) d) h ∙ (rw (drop-drop (w * id) (1 + w + w) d, m))

start_in_lem : (d : List ℕ) (id : ℕ) → id < count_in d → get_or (0 ∷ ends_in d) id 0 ≡ start_in d (width_in d) id
start_in_lem d zero h = refl
start_in_lem d (suc id) h = end_in d id (omega arith)

pub start_first : (d : List ℕ) (w id : ℕ) → id ≡ 0 → 0 ≡ start_in d w id
start_first d w zero h = refl
start_first d w (suc id) h = absurd (omega arith)

pub start_after : (d : List ℕ) (w id : ℕ) → (id ≡ 0 → ⊥) → number_at d (1 + w * (id + 1)) w ≡ start_in d w id
start_after d w zero h = absurd (h refl)
start_after d w (suc id) h = let e : suc id + 1 ≡ id + 2 = omega arith in rw e

pub name_none : (d : List ℕ) (n id : ℕ) → n ≡ count_in d → n ≤ id → [] ≡ name_in d id
name_none d n id e h = let l = length_by d in sym (get_or-eq_default (dictionary_names d) [] {n = id} (omega arith))

pub name_part : (d : List ℕ) (w n id t s e : ℕ) → w ≡ width_in d → n ≡ count_in d → id < n → t ≡ 1 + w * (n + 2) → s ≡ start_in d w id
    → e ≡ number_at d (1 + w * (id + 2)) w
    → take (t + e - (t + s)) (drop (t + s) d) ≡ name_in d id
name_part d w n id t s e ew en h et es ee =
    let k : id < count_in d = omega arith in
    let l : id < length (ends_in d) = rw (length_numbers (width_in d) (count_in d) (drop (1 + width_in d + width_in d) d)) k in
    let a : t + e - (t + s) ≡ e - s = omega arith in
    let p : s ≡ get_or (0 ∷ ends_in d) id 0 = es ∙ (ap (λ x. start_in d x id) ew ∙ sym (start_in_lem d id k)) in
    let q : e ≡ get_or (ends_in d) id 0 = ee ∙ (ap (λ x. number_at d (1 + x * (id + 2)) x) ew ∙ sym (end_in d id k)) in
    let r : drop t d ≡ text_in d = rw (et, en, ew) in
    rw (a, ← drop-drop s t d, r, p, q, names_by d, cut_at 0 (ends_in d) (text_in d) id l)

-- ---- the walk over the ends: those that are left decide

pub record Walks (r : Bool) (d text : List ℕ) (w n at i : ℕ) : Type 0 where
  pub left : good_names at (numbers w (n - i) (drop (1 + w * (i + 2)) d)) text ≡ r

pub walks_start : (d text : List ℕ) (w n : ℕ) → Walks (good_names 0 (numbers w n (drop (1 + w + w) d)) text) d text w n 0 0
walks_start d text w n = let p : 1 + w * (0 + 2) ≡ 1 + w + w = omega (arith, mul-add w 0 2, mul-zero w) in record { left = rw (p, sub-zero) }

module _ {r : Bool} {d text : List ℕ} {w n at i e : ℕ} (s : Walks r d text w n at i) (h : i < n) (f : e ≡ number_at d (1 + w * (i + 1 + 1)) w) where
  walks_next : (leb at e && (utf8 (take (e - at) (drop at text)) && good_names e (numbers w (n - (i + 1)) (drop (1 + w * (i + 1 + 2)) d)) text)) ≡ r
  unfolding good_names numbers
  walks_next =
      let k : n - i ≡ suc (n - (i + 1)) = omega arith in
      let q : i + 1 + 1 ≡ i + 2 = omega arith in
      let m : 1 + w * (i + 2) + w ≡ 1 + w * (i + 1 + 2) = omega (arith, mul-suc w (i + 2), ap (λ x. w * x) (m_at i)) in
      rw (f, q, ← m, ← drop-drop w (1 + w * (i + 2)) d) (rw k at s.left)
    where
      m_at : (x : ℕ) → suc (x + 2) ≡ x + 1 + 2
      m_at x = omega arith

  pub walks_again : at ≤ e → utf8 (take (e - at) (drop at text)) ≡ true → Walks r d text w n e (i + 1)
  walks_again l u = record { left = rw (le-leb at e l, u) at walks_next }

  pub walks_fall : e < at → false ≡ r
  walks_fall l = rw (lt-leb at e l) at walks_next

  pub walks_broken : at ≤ e → utf8 (take (e - at) (drop at text)) ≡ false → false ≡ r
  walks_broken l u = rw (le-leb at e l, u) at walks_next

  -- an end past the text
  pub walks_over : length text < e → false ≡ r
  walks_over l =
      let g = good_over (numbers w (n - (i + 1)) (drop (1 + w * (i + 1 + 2)) d)) in
      sym (ap (λ t. leb at e && t) (and-false (utf8 (take (e - at) (drop at text)))) ∙ and-false (leb at e)) ∙ (rw g at walks_next)
    where
      good_over : (es : List ℕ) → good_names e es text ≡ false
      good_over es = go (good_names e es text) refl
        where
          go : (t : Bool) → good_names e es text ≡ t → t ≡ false
          go true q = absurd (omega (arith, risen_low e es (length text) (good_risen e es text q)))
          go false q = refl

pub walks_end : {r : Bool} {d text : List ℕ} {w n at i : ℕ} → Walks r d text w n at i → n ≤ i → eqb at (length text) ≡ r
unfolding good_names numbers
walks_end {n = n} {i = i} s h = let k : n - i ≡ 0 = omega arith in rw k at s.left

-- the text is all that is left
pub to_the_end : {r : Bool} (d es : List ℕ) (start : ℕ) → r ≡ good_names 0 es (take (length d - start) (drop start d)) → r ≡ good_names 0 es (drop start d)
to_the_end d es start e =
    let l : length (drop start d) ≤ length d - start = simp length-drop (omega arith) in
    e ∙ ap (good_names 0 es) (take_all (length d - start) (drop start d) l)

-- ---- the order

pub rise_any : (ns : List Name) → list_all (rises ns) (range_with_len 1 (length ns - 1)) ≡ ascending ns
unfolding ascending
rise_any [] = refl
rise_any (n ∷ ns) = rise_all (n ∷ ns) (omega arith)

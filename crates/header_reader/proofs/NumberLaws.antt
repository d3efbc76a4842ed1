-- Laws that the documents name: a number of a table by its place, and none behind the last. Of the code's forms today speak `number_in` and
-- `none_in` (TableLaws); these are the same of a table whose count, place and width are known by equations.
use mathlib.Core.Path.{◌≡◌, sym, ◌∙◌}
use mathlib.Core.List.{List}
use Prim.Native.Nat.{ℕ, ◌+◌, ◌*◌, ◌≤◌, ◌<◌, min}
use native.Mathlib.Omega.{arith}
use lib.ListN.{drop, get_or, get_or-eq_default}
use lib.Seq.{drop-drop}
use Rattle.metadata.specs.Bytes.{numbers}
use Rattle.measure.specs.Measure.{number_at, Numbered}
use Rattle.lexicon.proofs.ByteLaws.{length_numbers}
use Rattle.lexicon.proofs.NameLaws.{end_at, numbered}

-- the number at a place of a table, and none behind it
pub number_at_lem : (w k count p : ℕ) (v : List ℕ) → k < count → number_at v (p + w * k) w ≡ get_or (numbers w count (drop p v)) k 0
number_at_lem w k count p v h = sym (end_at w count k (drop p v) h ∙ (rw (drop-drop (w * k) p v)))

pub number_none : (w count k : ℕ) (bytes : List ℕ) → count ≤ k → 0 ≡ get_or (numbers w count bytes) k 0
number_none w count k bytes h = sym (get_or-eq_default (numbers w count bytes) 0 {n = k} (rw (length_numbers w count bytes) h))

-- number k of a table of `count` numbers of w bytes that starts at place p: none behind the last
pub table_none : (w p : ℕ) (v : List ℕ) {n count k : ℕ} → n ≡ count → n ≤ k → (0 ≡ get_or (numbers w count (drop p v)) k 0) × (0 < 4294967296)
table_none w p v {count = count} {k = k} e h =
    (sym (get_or-eq_default (numbers w count (drop p v)) 0 {n = k} (rw (length_numbers w count (drop p v)) (rw e at h))), omega arith)

-- else as the code reads it
pub table_at : {v : List ℕ} {count p w n at x k r : ℕ} → n ≡ count → k < n → at ≡ p → (x ≡ w) × (x ≤ 4) → Numbered v (at + x * k) (min x 4) r
    → (r ≡ get_or (numbers w count (drop p v)) k 0) × (r < 4294967296)
table_at {v} {count} {p} {w} {k = k} e h f g m =
    let c : get_or (numbers w count (drop p v)) k 0 ≡ number_at v (p + w * k) w = end_at w count k (drop p v) (rw e at h) ∙ (rw (drop-drop (w * k) p v)) in
    (numbered g.1 m ∙ (rw (f, g.0) (sym c)), m.small)

-- Document 02, A11: one form for one live tree; the new pair is accepted and holds the same, so that doing it twice changes no byte.
use mathlib.Core.Path.{◌≡◌, sym, ◌∙◌, ap}
use mathlib.Core.Logic.{◌↔◌}
use mathlib.Core.Bool.{Bool}
use mathlib.Core.List.{List}
use Prim.Native.Nat.{ℕ, ◌^◌, ◌≤◌, ◌<◌}
use native.Mathlib.Omega.{arith}
use lib.ListN.{length}
use Rattle.encoding.specs.Rows.{first}
use Rattle.metadata.specs.Names.{Name}
use Rattle.metadata.specs.Bytes.{joined}
use Rattle.metadata.proofs.BytesLaws.{dictionary_names_lem, size_least}
use Rattle.lexicon.specs.Dictionary.{most_bytes}
use Rattle.semantics.specs.Tree.{encode}
use Rattle.semantics.proofs.TreeLaws.{Sound, tree_inj}
use Rattle.grammar.specs.Grammar.{Shape, most_containers, ReadsPair}
use Rattle.grammar.specs.Tests.{pair_rows}
use Rattle.grammar.proofs.ShapeLaws.{reading_unique}
use Rattle.grammar.proofs.TestLaws.{reads_pair}
use Rattle.accept.specs.Shape.{shape_of}
use Rattle.accept.proofs.TreeReads.{tree_accepted}
use Rattle.accept.proofs.Accepted.{ReadsAs}
use Rattle.live.specs.Live.{Live, live_of}
use Rattle.canonical.specs.Canonical.{tree_of, in_use, one_value, one_dictionary}
use Rattle.canonical.specs.OneForm.{held}
use Rattle.canonical.proofs.UseLaws.{in_use_held}
use Rattle.canonical.proofs.GoodLaws.{Good, live_good, good_fine}
use Rattle.canonical.proofs.AgainLaws.{live_again}
use Rattle.canonical.proofs.SizeLaws.{dictionary_is}
use Rattle.canonical.proofs.NameLaws.{never_longer, names_read}

-- ---- a live tree in good order, whose new pair four bytes count

pub record Counted (l : Live) : Type 0 where
  pub good : Good most_containers l
  pub value : length (one_value l) ≤ most_bytes
  pub names : length (in_use l) < 256 ^ 4
  pub text : length (joined (in_use l)) < 256 ^ 4

sound : {l : Live} → Counted l → Sound 1 (in_use l) (tree_of l)
unfolding one_value
sound {l} c = record { formed = (good_fine most_containers l c.good).formed; held = in_use_held l; small = omega (arith, c.value) }

tree_same : {l m : Live} → Counted l → Counted m → one_value l ≡ one_value m → in_use l ≡ in_use m → l ≡ m
unfolding one_value
tree_same {l} {m} a b e p =
    let ns = in_use l in
    let s : Sound 1 ns (tree_of m) = rw p (sound b) in
    let q : tree_of l ≡ tree_of m = tree_inj 1 ns (omega (arith, a.names)) (tree_of l) (tree_of m) (sound a) s (e ∙ ap (λ x. encode 1 x (tree_of m)) (sym p)) in
    sym (live_again 1 ns most_containers l a.good (in_use_held l))
    ∙ (ap (λ x. live_of ns (shape_of 1 ns x)) q ∙ live_again 1 ns most_containers m b.good s.held)

form_same : {l m : Live} → Counted l → Counted m → one_value l ≡ one_value m → one_dictionary l ≡ one_dictionary m → l ≡ m
unfolding one_dictionary
form_same {l} {m} a b e f = tree_same a b e (dictionary_names_lem 1 1 (in_use l) (in_use m) a.names a.text b.names b.text f)

-- ---- of an accepted pair

module _ {d v : List ℕ} {w : ℕ} {mark : Bool} {names : List Name} {t : Shape} (x : ReadsPair d v w mark names t) where
  pub held_good : Good most_containers (held x)
  held_good = live_good names most_containers t x.second.fits (omega (arith, x.second.size, ap length x.second.laid))

  pub held_counted : length (one_value (held x)) ≤ most_bytes → Counted (held x)
  held_counted h =
      let k = size_least 1 (length (in_use (held x))) (length (joined (in_use (held x)))) in
      let e = dictionary_is (held x) in
      let n = never_longer x in
      let s = x.first.size in
      record { good = held_good; value = h; names = omega arith; text = omega arith }

  module _ (h : length (one_value (held x)) ≤ most_bytes) where
    -- THE NEW PAIR reads as the names in use and the live tree's own tree
    pub one_reads : ReadsAs (one_dictionary (held x)) (one_value (held x)) 1 (in_use (held x)) (tree_of (held x))
    unfolding one_value
    one_reads =
        let l = held x in
        let c = held_counted h in
        let f = good_fine most_containers l held_good in
        record { first = names_read x; second = tree_accepted 1 (in_use l) (omega (arith, c.names)) (tree_of l) (sound c) f.apart f.within }

    -- ACCEPTED: the reader does not refuse it
    pub one_accepted : first (pair_rows (one_dictionary (held x)) (one_value (held x))) ≡ 0
    one_accepted = reads_pair one_reads

    -- THE SAME: however it is read, it holds the same live tree
    pub one_held : {u : ℕ} {other : Bool} {ns : List Name} {s : Shape} (y : ReadsPair (one_dictionary (held x)) (one_value (held x)) u other ns s)
        → held y ≡ held x
    one_held y =
        let p = reading_unique y one_reads in
        let q = p.2 in
        let r = p.3 in
        (λ i. live_of (q i) (r i)) ∙ live_again 1 (in_use (held x)) most_containers (held x) held_good (in_use_held (held x))

    -- "Doing it twice changes no byte."
    pub twice : {u : ℕ} {other : Bool} {ns : List Name} {s : Shape} (y : ReadsPair (one_dictionary (held x)) (one_value (held x)) u other ns s)
        → (one_value (held y) ≡ one_value (held x)) × (one_dictionary (held y) ≡ one_dictionary (held x))
    twice y = let e = one_held y in (ap one_value e, ap one_dictionary e)

-- ONE FORM: "Two accepted pairs, where the outputs suffice, give equal bytes exactly when they hold the same live tree"
pub one_form : {d e v u : List ℕ} {w x : ℕ} {mark other : Bool} {names others : List Name} {s t : Shape}
    (a : ReadsPair d v w mark names s) (b : ReadsPair e u x other others t) → length (one_value (held a)) ≤ most_bytes → length (one_value (held b)) ≤ most_bytes
    → ((one_value (held a) ≡ one_value (held b)) × (one_dictionary (held a) ≡ one_dictionary (held b))) ↔ (held a ≡ held b)
one_form a b h k = ((λ e. form_same (held_counted a h) (held_counted b k) e.0 e.1), λ e. (ap one_value e, ap one_dictionary e))

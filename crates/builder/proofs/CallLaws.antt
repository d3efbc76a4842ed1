-- A call over the record by value, from the call over its pieces.
use mathlib.Core.Path.{◌≡◌, refl, sym, ◌∙◌, ap}
use mathlib.Core.Bool.{Bool, true, false, cond, not}
use mathlib.Core.List.{List}
use mathlib.Core.Option.{Option}
use Prim.Native.Nat.{ℕ, ◌+◌, ◌-◌, ◌≤◌, ◌<◌}
use lib.Dec.{eqb, leb, ltb}
use lib.ListN.{set}
use borrow.Author.Tests.{eq-eqb, ne_eqb, leb-true, leb-false, ltb-true, lt-ltb, not-false}
use Rattle.metadata.specs.Names.{Name}
use Rattle.semantics.specs.declared.Builder.{Builder}
use Rattle.semantics.specs.declared.Container.{Container}
use Rattle.semantics.specs.declared.Counts.{Counts}
use Rattle.semantics.specs.declared.Mark.{Mark}
use Rattle.semantics.specs.declared.View.{View}
use Rattle.semantics.specs.Record.{Storage, Call, register, append, open_in, close, roll_back, uniqueness, set_mark, return_to, finish, no_mark, slot_of, mark_at, chained, is_open, view_of}
use Rattle.semantics.specs.Damage.{damaged, unchained}
use Rattle.semantics.specs.declared.refusal.Refusal.{Refusal}
use Rattle.semantics.specs.Refusal.{refusal_number, number_told}
use Rattle.semantics.proofs.RefusalLaws.{number_same, number_some}
use Rattle.std.specs.Prelude.{Result, Ok, Err}
use Rattle.semantics.specs.Table.{number_of}
use Rattle.semantics.specs.Step.{step, after, carried_out, containers_after, marks_after, mark_to, put_mark, with_marks}
use Rattle.semantics.proofs.Demand1.{none_at}
use Rattle.semantics.proofs.ViewLaws.{both}
use Rattle.refusals.proofs.ViewLaws.{neither, broken_none, undamaged_unbroken}
use Rattle.actions.specs.declared.Moved.{Moved}
use Rattle.actions.specs.declared.Opened.{Opened}
use Rattle.builder.specs.declared.Finished.{Finished}
use Rattle.builder.specs.Calls.{builder_then, state, Does, Finishes}
use Rattle.actions.specs.declared.Marked.{Marked}
use Rattle.actions.specs.declared.Returned.{Returned}
use Rattle.actions.specs.declared.Ended.{Ended}
use Rattle.actions.specs.Actions.{Leaves, Opens, SetsUnique, SetsMark, Returns, Ends, elements_put}
use Rattle.actions.proofs.ElementLaws.{Stays, elements_left_lem, elements_opened}
use Rattle.actions.proofs.EnterLaws.{moved_ok}
use Rattle.actions.proofs.FinishLaws.{ended_ok}
use Rattle.actions.proofs.MarkLaws.{marked_ok, return_reachable, returned_ok}
use Rattle.actions.proofs.OpenLaws.{opened_ok}
use Rattle.actions.proofs.UniqueLaws.{container_ok, unique_open}

-- ---- a step by its number

-- what a call that is carried out gives
told : {A : Type 0} → A → Result A Refusal → A
told m (Ok r) = r
told m (Err e) = m

module _ (b : Builder) (ms : List ℕ) (l : Storage) (c : Call) where
  step_done : number_of (view_of b ms) l c ≡ 0 → {x : Builder} {ts : List ℕ} {e : Storage} → x ≡ (after (state b ms l) c).builder
      → e ≡ (carried_out (view_of b ms) l (mark_to (view_of b ms) ms c) c).storage → ts ≡ marks_after (view_of b ms) c ms → Does (Ok x) ts e (state b ms l) c
  unfolding step after
  step_done y d f g = let z = eq-eqb (number_of (view_of b ms) l c) 0 y in rw z (refl, d, f, g)

  step_refused : (q : Refusal) {e : Storage} → refusal_number q ≡ number_of (view_of b ms) l c → (eqb (number_of (view_of b ms) l c) 0 ≡ false → e ≡ l)
      → Does (Err q) ms e (state b ms l) c
  unfolding step
  step_refused q d f =
      let z = ne_eqb (number_of (view_of b ms) l c) 0 (λ h. number_some q (d ∙ h)) in
      rw z (d, refl, f z, refl)

-- ---- a call that changes no container and sets no mark

-- the record with other counts and elements
abbrev with_moved : Builder → Moved → Builder
with_moved b r = record { containers = b.containers; elements = elements_put b.elements r.counts.depth r.elements; counts = r.counts }

-- it goes to no mark, and leaves the table and the containers
stays : (v : View) (l : Storage) (c : Call) (ms : List ℕ) (ks : List Container) → Stays c
    → (mark_to v ms c ≡ no_mark) × (marks_after v c ms ≡ ms) × (containers_after v l no_mark c ks ≡ ks)
stays v l (register n) ms ks s = (refl, refl, refl)
stays v l (append nm x) ms ks s = (refl, refl, refl)
stays v l (open_in nm object) ms ks s = absurd s
stays v l close ms ks s = (refl, refl, refl)
stays v l roll_back ms ks s = (refl, refl, refl)
stays v l (uniqueness u) ms ks s = absurd s
stays v l set_mark ms ks s = absurd s
stays v l (return_to j) ms ks s = absurd s
stays v l (finish out) ms ks s = absurd s

module _ (b : Builder) (ms : List ℕ) (l : Storage) {v : View} (p : v ≡ view_of b ms) where
  pub does_moved : (c : Call) {r : Moved} {e : Storage} {x : Builder} → Stays c → Leaves v l c (Ok r) e → x ≡ with_moved b r → Does (Ok x) ms e (state b ms l) c
  unfolding after told
  does_moved c {r} {e} s q d =
      let w = rw p at q in
      let y = sym w.number in
      let z = eq-eqb (number_of (view_of b ms) l c) 0 y in
      let h = ap (told r) (moved_ok w y) in
      let k = stays (view_of b ms) l c ms b.containers s in
      step_done b ms l c y (rw (d, elements_left_lem b ms l c s h, h, k.0, k.2) refl) (rw (w.storage, z, k.0) refl) (sym k.1)

  -- refused, any call leaves all as it was; its answer passes the refusal on
  pub does_refused : (c : Call) {q f : Refusal} {r : Result Builder Refusal} {e : Storage} → refusal_number q ≡ number_of v l c
      → (eqb (number_of v l c) 0 ≡ false → e ≡ l) → r ≡ Err f → f ≡ q → Does r ms e (state b ms l) c
  does_refused c {q} n f i j = rw (i, j) (step_refused b ms l c q (rw p at n) (rw p at f))

  pub moved_refused : (c : Call) {q f : Refusal} {r : Result Builder Refusal} {e : Storage} → Leaves v l c (Err q) e → r ≡ Err f → f ≡ q → Does r ms e (state b ms l) c
  moved_refused c q i j = does_refused c q.number (λ z. q.storage ∙ rw z) i j

  -- ---- a call that may change a container or a mark

  -- there is room for a container that is opened
  pub opened_deep : {nm : Option Name} {object : Bool} {r : Opened} {e : Storage} → Opens v l nm object (Ok r) e → b.counts.depth < 64
  opened_deep {nm} {object} q =
      leb-false 64 b.counts.depth (none_at (view_of b ms) l (open_in nm object) (rw p at (sym q.number)) 11)

  pub does_opened : {nm : Option Name} {object : Bool} {r : Opened} {x : Builder} {e : Storage} {outer all : List ℕ} → Opens v l nm object (Ok r) e
      → outer ≡ elements_put b.elements b.counts.depth r.elements → all ≡ elements_put outer (b.counts.depth + 1) 0
      → x ≡ record { containers = set b.containers b.counts.depth r.container; elements = all; counts = r.counts } → Does (Ok x) ms e (state b ms l) (open_in nm object)
  unfolding after told
  does_opened {nm} {object} {r} q o a d =
      let w = rw p at q in
      let y = sym w.number in
      let z = eq-eqb (number_of (view_of b ms) l (open_in nm object)) 0 y in
      step_done b ms l (open_in nm object) y (rw (d, a, o, ap (told r) (opened_ok object w y), elements_opened b ms) refl) (rw (w.storage, z) refl) refl

-- ---- a call that changes the innermost container

abbrev with_inner : Builder → Container → List ℕ → Counts → Builder
with_inner b k ns c = record { containers = set b.containers (b.counts.depth - 1) k; elements = ns; counts = c }

-- at most 64 are open, where the chain holds
pub chain_few : (ks : List Container) (ns : List ℕ) (d : ℕ) → chained ks ns d ≡ true → d ≤ 64
unfolding chained
chain_few ks ns d e = leb-true d 64 (both (leb d 64) _ e).0

abbrev pub Inside : Builder → Type 0
Inside b = (0 < b.counts.depth) × (b.counts.depth ≤ 64)

-- so that the innermost is one of the 64
few_open : (b : Builder) (ms : List ℕ) (l : Storage) (x : Bool) → not (is_open (view_of b ms)) ≡ false → damaged (view_of b ms) l x ≡ false → Inside b
unfolding unchained
few_open b ms l x o e =
    let d = b.counts.depth in
    let u = (broken_none (view_of b ms) l (undamaged_unbroken (view_of b ms) l x e)).1 in
    let chain = (both (view_of b ms).chain _ (not-false _ u)).0 in
    (ltb-true 0 d (not-false (ltb 0 d) o), chain_few b.containers b.elements d (both (chained b.containers b.elements d) _ chain).0)

module _ (b : Builder) (ms : List ℕ) (l : Storage) {v : View} (p : v ≡ view_of b ms) where
  -- the uniqueness mark
  pub unique_inside : {u : Bool} {k : Container} → SetsUnique v l u (Ok k) → Inside b
  unique_inside {u} q = unique_open b ms l u (rw p at (sym q.number))

  pub unique_done : {u : Bool} {k : Container} {x : Builder} → SetsUnique v l u (Ok k) → x ≡ with_inner b k b.elements b.counts
      → Does (Ok x) ms l (state b ms l) (uniqueness u)
  unfolding after told
  unique_done {u} {k} q d =
      let w = rw p at q in
      let y = sym w.number in
      step_done b ms l (uniqueness u) y (rw (d, ap (told k) (container_ok w y)) refl) refl refl

  -- a mark
  pub mark_inside : {r : Marked} → SetsMark v l (Ok r) → Inside b
  mark_inside q =
      let k = none_at (view_of b ms) l set_mark (rw p at (sym q.number)) in
      few_open b ms l false (neither (not (is_open (view_of b ms))) _ (k 22)).0 (k 1)

  pub mark_done : {r : Marked} {x : Builder} {ts : List ℕ} → SetsMark v l (Ok r) → ts ≡ put_mark ms (slot_of (b.counts.depth - 1) r.container.marks) r.mark
      → x ≡ with_inner b r.container b.elements b.counts → Does (Ok x) ts l (state b ms l) set_mark
  unfolding after told with_marks
  mark_done {r} q t d =
      let w = rw p at q in
      let y = sym w.number in
      let h = ap (told r) (marked_ok w y) in
      step_done b ms l set_mark y (rw (d, h) refl) refl (rw (t, h) refl)

  -- a return, to the mark that stands in the table
  pub return_inside : {j : ℕ} {m : Mark} {r : Returned} {e : Storage} → Returns v l m j (Ok r) e → Inside b
  return_inside {j} q =
      let k = none_at (view_of b ms) l (return_to j) (rw p at (sym q.number)) in
      few_open b ms l _ (neither (not (is_open (view_of b ms))) _ (k 22)).0 (k 1)

  pub return_storage : {at j : ℕ} {m : Mark} {r : Result Returned Refusal} {e : Storage} → at ≡ b.counts.depth - 1 → m ≡ mark_at ms (slot_of at j) → Returns v l m j r e
      → e ≡ cond (eqb (number_of v l (return_to j)) 0) (carried_out v l m (return_to j)).storage l
  return_storage {at} {j} a f q = rw p ((rw p at q).storage (λ z. rw (f, a) (return_reachable b ms l j z)))

  pub return_done : {at j : ℕ} {m : Mark} {r : Returned} {e : Storage} {ns : List ℕ} {x : Builder} → at ≡ b.counts.depth - 1 → m ≡ mark_at ms (slot_of at j) → Returns v l m j (Ok r) e
      → ns ≡ elements_put b.elements b.counts.depth r.elements → x ≡ with_inner b r.container ns r.counts → Does (Ok x) ms e (state b ms l) (return_to j)
  unfolding after told
  return_done {at} {j} {m} {r} a f q n d =
      let w = rw p at q in
      let y = sym w.number in
      let z = eq-eqb (number_of (view_of b ms) l (return_to j)) 0 y in
      let i = lt-ltb 0 b.counts.depth (return_inside q).0 in
      let s = rw p at (return_storage a f q) in
      let k = rw a at f in
      step_done b ms l (return_to j) y (rw (d, n, ap (told r) (returned_ok w y), k, i) refl) (rw (s, z, k) refl) refl

  -- ---- a finish
  pub does_finished : (out : List ℕ) {left : List ℕ} {r : Ended} → Ends v l out (Ok r) left
      → Finishes (Ok (record { written = r.written; builder = record { containers = b.containers; elements = b.elements; counts = r.counts } })) ms l left (state b ms l) (finish out)
  unfolding step after told
  does_finished out {left} {r} q =
      let w = rw p at q in
      let y = sym w.number in
      let z = eq-eqb (number_of (view_of b ms) l (finish out)) 0 y in
      rw (ap (told r) (ended_ok w y), w.output, z) (refl, refl, refl, refl, refl, refl)

  pub finish_refused : (out : List ℕ) {left : List ℕ} {e f : Refusal} {r : Result Finished Refusal} → Ends v l out (Err e) left → r ≡ Err f → f ≡ e
      → Finishes r ms l left (state b ms l) (finish out)
  unfolding step
  finish_refused out {left} {e} q i j =
      let w = rw p at q in
      let z = ne_eqb (number_of (view_of b ms) l (finish out)) 0 (λ h. number_some e (w.number ∙ h)) in
      rw (i, j, w.output, z) (w.number, refl, refl, refl, refl, refl)

-- ---- a number and a builder are of one answer, so that `Does` leaves no other
pub one_answer : (b : Builder) (r q : Result Builder Refusal) → number_told r ≡ number_told q → builder_then b r ≡ builder_then b q → r ≡ q
one_answer b (Ok x) (Ok y) n e = ap Ok e
one_answer b (Ok x) (Err g) n e = absurd (number_some g (sym n))
one_answer b (Err f) (Ok y) n e = absurd (number_some f n)
one_answer b (Err f) (Err g) n e = ap Err (number_same f g n)

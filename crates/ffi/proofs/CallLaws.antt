-- A call over state words, from the call over pieces.
use mathlib.Core.Path.{◌≡◌, refl, sym, ◌∙◌, ap, subst}
use mathlib.Core.Bool.{Bool, true, false}
use mathlib.Core.List.{List}
use mathlib.Core.Option.{Option, some}
use Rattle.std.specs.Prelude.{Result, Ok, Err, IsOk, Option as Optional}
use Rattle.container.specs.declared.Entry.{Entry}
use Rattle.semantics.specs.declared.refusal.Refusal.{Refusal}
use Rattle.semantics.specs.Refusal.{number_told, refusal_number}
use Rattle.semantics.proofs.RefusalLaws.{number_some}
use Prim.Native.Nat.{ℕ, ◌+◌, ◌-◌, ◌<◌, ◌≤◌}
use native.Mathlib.Omega.{arith}
use lib.Dec.{leb}
use lib.ListN.{length, set}
use lib.Seq.{get_or-set_same}
use borrow.Author.Tests.{eq-eqb, ne_eqb, leb-true, ltb-true, lt-ltb, not-false}
use Rattle.encoding.specs.Rows.{first}
use Rattle.encoding.specs.Slices.{Placed, Writes}
use Rattle.value.specs.Scalar.{scalar_bytes}
use Rattle.metadata.specs.Names.{Name}
use Rattle.semantics.specs.declared.Builder.{Builder}
use Rattle.semantics.specs.declared.Container.{Container}
use Rattle.semantics.specs.declared.Mark.{Mark}
use Rattle.semantics.specs.declared.View.{View}
use Rattle.semantics.specs.Record.{Storage, Call, Scalars, append, register, scalar_of, open_in, close, roll_back, uniqueness, set_mark, return_to, finish, chained, container_at, good_floor, is_open, mark_at, no_container, no_mark, slot_of, view_of, storage_of, table_size}
use Rattle.semantics.specs.Damage.{damaged, over_used, unchained}
use Rattle.semantics.specs.Table.{scalar_rows, number_of}
use Rattle.refusals.specs.Decide.{enter_rows, size_told}
use Rattle.semantics.specs.Run.{Fresh, fresh_counts}
use Rattle.semantics.specs.Step.{step, after, containers_after, mark_to, marks_after, put_mark, returned, with_marks}
use Rattle.semantics.proofs.Demand1.{none_at}
use Rattle.semantics.proofs.ViewLaws.{both}
use Rattle.refusals.proofs.ViewLaws.{neither}
use Rattle.actions.specs.declared.Moved.{Moved}
use Rattle.actions.specs.declared.Marked.{Marked}
use Rattle.actions.specs.declared.Returned.{Returned}
use Rattle.actions.specs.declared.Opened.{Opened}
use Rattle.actions.specs.declared.Ended.{Ended}
use Rattle.actions.specs.declared.enter.Entered.{Entered}
use Rattle.actions.specs.Actions.{EntersBy, Leaves, Returns, SetsMark, SetsUnique, Ends, child_of, elements_put, entries_put, moved_by, parent_put, undo_put}
use Rattle.actions.proofs.EnterLaws.{enter_clears, entered_by, moved_ok}
use Rattle.actions.specs.Append.{OwnBytes, size_by}
use Rattle.actions.proofs.AppendLaws.{append_stays, append_writes, own_entered, own_number, own_size}
use Rattle.actions.proofs.FinishLaws.{ended_ok}
use Rattle.actions.proofs.MarkLaws.{marked_ok, return_reachable, returned_ok}
use Rattle.actions.proofs.OpenLaws.{opened_ok, opens, opens_refused, registers, registers_refused}
use Rattle.actions.proofs.UniqueLaws.{container_ok, unique_open}
use Rattle.actions.proofs.ElementLaws.{Stays, elements_left_lem, elements_opened}
use Rattle.ffi.specs.Words.{builder_of, container_left, containers_of, counts_of, elements_of, inner_left, state_of, words_left, DoesWords, EntersWords, FinishesWords, Puts, PutsContainer, PutsCounts, PutsElements, PutsInner}
use Rattle.ffi.proofs.WordLaws.{containers_length, elements_length}

-- what the maker leaves is a fresh builder, whatever the table holds
pub new_fresh : (ws us ms : List ℕ) (l : Storage) (u : Bool) (floor : ℕ) → good_floor floor ≡ true → length ms ≡ table_size → PutsCounts ws us (fresh_counts u floor) → Fresh (state_of us ms l)
new_fresh ws us ms l u floor g t e = rw e.builder (record { value = refl; entries = refl; undo = refl; depth = refl; dictionary = refl; finished = refl; containers = containers_length ws; elements = elements_length ws; marks = t; floor = g })

-- ---- any call

module _ (ws ms : List ℕ) (l : Storage) (c : Call) where
  -- refused, all is as it was
  pub refused : {n : ℕ} → n ≡ number_of (view_of (builder_of ws) ms) l c → (n ≡ 0 → ⊥) → DoesWords n ws ws ms ms l l c
  unfolding step
  refused {n} q h =
      let z = ne_eqb (number_of (view_of (builder_of ws) ms) l c) 0 (λ f. h (q ∙ f)) in
      record { number = rw z q; builder = rw z refl; marks = rw z refl; storage = rw z refl; words = rw (ne_eqb n 0 h) refl }

  -- carried out, all is as the step has it
  pub carried : {us left : List ℕ} {e : Storage} → number_of (view_of (builder_of ws) ms) l c ≡ 0 → builder_of us ≡ (after (state_of ws ms l) c).builder
      → left ≡ (after (state_of ws ms l) c).marks → e ≡ (after (state_of ws ms l) c).storage → us ≡ words_left ws ms c (after (state_of ws ms l) c).builder
      → DoesWords 0 ws us ms left l e c
  unfolding step
  carried q b m s w =
      let z = eq-eqb (number_of (view_of (builder_of ws) ms) l c) 0 q in
      record { number = rw z refl; builder = rw z b; marks = rw z m; storage = rw z s; words = rw z w }

-- ---- a call that changes no container and goes to no mark

record Still (ws ms : List ℕ) (l : Storage) (c : Call) : Type 0 where
  mark : mark_to (view_of (builder_of ws) ms) ms c ≡ no_mark
  containers : containers_after (view_of (builder_of ws) ms) l no_mark c (containers_of ws) ≡ containers_of ws
  marks : marks_after (view_of (builder_of ws) ms) c ms ≡ ms
  words : (b : Builder) → words_left ws ms c b ≡ inner_left ws ms c b

still : (ws ms : List ℕ) (l : Storage) (c : Call) → Stays c → Still ws ms l c
still ws ms l (register n) s = record { mark = refl; containers = refl; marks = refl; words = λ b. refl }
still ws ms l (append nm x) s = record { mark = refl; containers = refl; marks = refl; words = λ b. refl }
still ws ms l (open_in nm object) s = absurd s
still ws ms l close s = record { mark = refl; containers = refl; marks = refl; words = λ b. refl }
still ws ms l roll_back s = record { mark = refl; containers = refl; marks = refl; words = λ b. refl }
still ws ms l (uniqueness u) s = absurd s
still ws ms l set_mark s = absurd s
still ws ms l (return_to j) s = absurd s
still ws ms l (finish out) s = absurd s

-- what a call that is carried out gives
told : {A : Type 0} → A → Result A Refusal → A
told m (Ok r) = r
told m (Err e) = m

pub does_moved : (ws ms : List ℕ) (l : Storage) (c : Call) {v : View} (r : Result Moved Refusal) {e : Storage} {n : ℕ} {us : List ℕ} → Stays c → v ≡ view_of (builder_of ws) ms → Leaves v l c r e → Puts r n ws us
    → DoesWords n ws us ms ms l e c
unfolding after told
does_moved ws ms l c (Ok m) {e} s p q w =
    let q' = rw p at q in
    let z = sym q'.number in
    let n = eq-eqb (number_of (view_of (builder_of ws) ms) l c) 0 z in
    let h = ap (told m) (moved_ok q' z) in
    let k = still ws ms l c s in
    rw w.number
    (carried ws ms l c z (rw (k.mark, k.containers) (w.put.builder ∙ (rw (elements_left_lem (builder_of ws) ms l c s h, h) refl))) (sym k.marks) (rw k.mark (q'.storage ∙ rw n refl))
    (rw (k.words (after (state_of ws ms l) c).builder, k.mark) (w.put.words ∙ (rw h refl))))
does_moved ws ms l c (Err f) {e} s p q w =
    let q' = rw p at q in
    let n = ne_eqb (number_of (view_of (builder_of ws) ms) l c) 0 (λ z. number_some f (q'.number ∙ z)) in
    let k : e ≡ l = q'.storage ∙ rw n refl in
    rw (w.kept, k) (refused ws ms l c (w.number ∙ q'.number) (λ g. number_some f (sym w.number ∙ g)))

-- ---- what is entered

abbrev moved_of : Result Entered Refusal → Result Moved Refusal
moved_of (Ok e) = Ok (moved_by e)
moved_of (Err f) = Err f

-- of a call that opens nothing, so that as many containers are open as were
puts_entered : {ws us ms : List ℕ} {l : Storage} {nm : Option Name} {into : Bool} {own size : ℕ} (r : Result Entered Refusal) {text ends : List ℕ} → EntersWords ws us ms l nm into false own size r text ends
    → Puts (moved_of r) (number_told r) ws us
puts_entered {ws} {us} (Ok e) w =
    let d : e.counts.depth ≡ (counts_of ws).depth = rw (entered_by w.enters).counts in
    record { number = refl; put = subst (λ n. PutsInner ws us e.counts n e.elements) (sym d) w.put; kept = tt }
puts_entered (Err f) w = record { number = refl; put = tt; kept = w.kept }

module _ (ws ms : List ℕ) (l : Storage) (nm : Option Name) (into opens : Bool) (own size : ℕ) {v : View} {text ends : List ℕ} (p : v ≡ view_of (builder_of ws) ms) where
  pub enters_refused : {e f : Refusal} {r : Result Entered Refusal} → EntersBy v l nm into opens size (first (enter_rows v l nm into opens own size)) (Err e) text ends → r ≡ Err f → f ≡ e
      → EntersWords ws ws ms l nm into opens own size r text ends
  enters_refused a q i = rw (q, i) (record { enters = rw p at a; put = tt; kept = refl })

  pub enters_done : {e : Entered} {us : List ℕ} → EntersBy v l nm into opens size (first (enter_rows v l nm into opens own size)) (Ok e) text ends → PutsInner ws us e.counts (counts_of ws).depth e.elements
      → EntersWords ws us ms l nm into opens own size (Ok e) text ends
  enters_done a w = record { enters = rw p at a; put = w; kept = tt }

-- an append, from what is entered
module _ (ws ms : List ℕ) (l : Storage) (nm : Option Name) (x : Scalars) {own size : ℕ} {us text ends : List ℕ} (o : own ≡ first (scalar_rows x))
    (s : own ≡ 0 → size ≡ length (scalar_bytes (scalar_of x))) where
  pub does_refused : {f : Refusal} → EntersWords ws us ms l nm true false own size (Err f) text ends → DoesWords (refusal_number f) ws us ms ms l (storage_of l.value text ends l.entries l.undo) (append nm x)
  does_refused {f} w = does_moved ws ms l (append nm x) (Err f) tt refl (append_stays x o s w.enters refl refl) (puts_entered (Err f) w)

  pub does_appended : {e : Entered} {p : Placed} {value entries undo : List ℕ} → EntersWords ws us ms l nm true false own size (Ok e) text ends → entries ≡ entries_put e l.entries → undo ≡ undo_put e l.entries l.undo
      → Writes (counts_of ws).value (scalar_bytes (scalar_of x)) l.value p value → DoesWords 0 ws us ms ms l (storage_of value text ends entries undo) (append nm x)
  does_appended {e} {p} w g i b = does_moved ws ms l (append nm x) (Ok (moved_by e)) tt refl (append_writes x o s w.enters {p = p} g i b) (puts_entered (Ok e) w)

-- one whose bytes are those stored for a value, or that has its own refusal
module _ {A : Type 0} (stored : A → List ℕ) (x : Result A Refusal) {size : Result ℕ Refusal} (h : size ≡ size_by stored x) (ws ms : List ℕ) (l : Storage) (nm : Option Name) {us text ends : List ℕ} where
  -- one that is entered is not refused
  pub own_whole : {e : Entered} → EntersWords ws us ms l nm true false (number_told size) (size_told size) (Ok e) text ends → IsOk x
  own_whole w = own_entered stored x h w.enters

  pub own_refused : {s : Scalars} {f : Refusal} → OwnBytes stored s x → EntersWords ws us ms l nm true false (number_told size) (size_told size) (Err f) text ends
      → DoesWords (refusal_number f) ws us ms ms l (storage_of l.value text ends l.entries l.undo) (append nm s)
  own_refused {s} t w = does_refused ws ms l nm s (own_number stored x h t) (own_size stored x h t) w

  pub own_appended : {s : Scalars} {e : Entered} {y : A} {p : Placed} {value entries undo : List ℕ} → OwnBytes stored s x → EntersWords ws us ms l nm true false (number_told size) (size_told size) (Ok e) text ends
      → entries ≡ entries_put e l.entries → undo ≡ undo_put e l.entries l.undo → x ≡ Ok y → Writes (counts_of ws).value (stored y) l.value p value
      → DoesWords 0 ws us ms ms l (storage_of value text ends entries undo) (append nm s)
  own_appended {s} {y = y} {p = p} t w g i q b = does_appended ws ms l nm s (own_number stored x h t) (own_size stored x h t) {p = p} w g i (rw (t.bytes y q) b)

-- a name registered
module _ (ws ms : List ℕ) (l : Storage) (name : Name) {us text ends : List ℕ} where
  register_refused : {f : Refusal} → EntersWords ws us ms l (some name) false false 0 0 (Err f) text ends → DoesWords (refusal_number f) ws us ms ms l (storage_of l.value text ends l.entries l.undo) (register name)
  register_refused {f} w = does_moved ws ms l (register name) (Err f) tt refl (registers_refused name w.enters refl refl) (puts_entered (Err f) w)

  does_registered : {e : Entered} → EntersWords ws us ms l (some name) false false 0 0 (Ok e) text ends → DoesWords 0 ws us ms ms l (storage_of l.value text ends l.entries l.undo) (register name)
  does_registered {e} w = does_moved ws ms l (register name) (Ok (moved_by e)) tt refl (registers name w.enters) (puts_entered (Ok e) w)

  pub register_told : (r : Result Entered Refusal) → EntersWords ws us ms l (some name) false false 0 0 r text ends → DoesWords (number_told r) ws us ms ms l (storage_of l.value text ends l.entries l.undo) (register name)
  register_told (Ok e) w = does_registered w
  register_told (Err f) w = register_refused w

-- ---- a container put

-- the parts of what words mean
containers_of_lem : (us : List ℕ) {b : Builder} → builder_of us ≡ b → containers_of us ≡ b.containers
containers_of_lem us e = ap (λ (b : Builder). b.containers) e

elements_of_lem : (us : List ℕ) {b : Builder} → builder_of us ≡ b → elements_of us ≡ b.elements
elements_of_lem us e = ap (λ (b : Builder). b.elements) e

counts_of_lem : (us : List ℕ) {b : Builder} → builder_of us ≡ b → counts_of us ≡ b.counts
counts_of_lem us e = ap (λ (b : Builder). b.counts) e

-- a container put, read again
container_put_lem : (ks : List Container) (d : ℕ) (k : Container) → length ks ≡ 64 → d < 64 → container_at (set ks d k) d ≡ k
container_put_lem ks d k e h = get_or-set_same ks d k no_container (omega arith)

-- an open, from what is entered
module _ (ws ms : List ℕ) (l : Storage) (nm : Option Name) (object : Bool) {us text ends : List ℕ} where
  pub opens_stays : {f : Refusal} → EntersWords ws us ms l nm true true 0 0 (Err f) text ends → DoesWords (refusal_number f) ws us ms ms l (storage_of l.value text ends l.entries l.undo) (open_in nm object)
  opens_stays {f} w =
      let q = opens_refused object w.enters refl refl in
      let n = ne_eqb (number_of (view_of (builder_of ws) ms) l (open_in nm object)) 0 (λ z. number_some f (q.number ∙ z)) in
      let k : storage_of l.value text ends l.entries l.undo ≡ l = q.storage ∙ rw n refl in
      rw (w.kept, k) (refused ws ms l (open_in nm object) q.number (number_some f))

  pub opens_deep : {e : Entered} → EntersWords ws us ms l nm true true 0 0 (Ok e) text ends → (counts_of ws).depth < 64
  opens_deep w = (enter_clears (view_of (builder_of ws) ms) l nm true true 0 0 (sym w.enters.number)).depth refl

  pub opens_done : {e : Entered} {entries undo xs ys : List ℕ} {p : Optional Entry} {k : Container} → EntersWords ws us ms l nm true true 0 0 (Ok e) text ends
      → (p ≡ parent_put e l.entries) × (entries ≡ entries_put e l.entries) × (undo ≡ undo_put e l.entries l.undo) → k ≡ child_of (counts_of ws) e p object
      → PutsContainer us xs (counts_of ws).depth k → PutsElements xs ys ((counts_of ws).depth + 1) 0 → DoesWords 0 ws ys ms ms l (storage_of l.value text ends entries undo) (open_in nm object)
  unfolding after told
  opens_done {e} {xs = xs} {ys = ys} {k = k} w g c d y =
      let d' = (counts_of ws).depth in
      let x = w.put in
      let f = containers_of_lem us x.builder in
      let i = elements_of_lem us x.builder in
      let h = counts_of_lem us x.builder in
      let q = opens object w.enters g c in
      let n = sym q.number in
      let t = eq-eqb (number_of (view_of (builder_of ws) ms) l (open_in nm object)) 0 n in
      let v = ap (told (record { counts = e.counts; elements = e.elements; container = k })) (opened_ok object q n) in
      let elements = ap (λ (o : Opened). o.elements) v in
      let container = ap (λ (o : Opened). o.container) v in
      let counts = ap (λ (o : Opened). o.counts) v in
      let m = container_put_lem (containers_of us) d' k (containers_length us) (opens_deep w) in
      let s : builder_of ys ≡ record { containers = set (containers_of us) d' k; elements = elements_put (elements_of us) (d' + 1) 0; counts = counts_of us }
      = y.builder ∙ rw (containers_of_lem xs d.builder, elements_of_lem xs d.builder, counts_of_lem xs d.builder) refl in
      let same : builder_of ys ≡ (after (state_of ws ms l) (open_in nm object)).builder = s ∙ rw (f, i, h, elements, container, counts, elements_opened (builder_of ws) ms) refl in
      carried ws ms l (open_in nm object) n same refl (q.storage ∙ rw t refl)
      ((y.words ∙ rw (d.words, containers_of_lem ys s, counts_of_lem ys s, m, h, x.words, elements) refl) ∙ ap (words_left ws ms (open_in nm object)) same)

-- of a call that puts the innermost container and no other word
module _ (ws ms : List ℕ) (l : Storage) (c : Call) (m : (b : Builder) → words_left ws ms c b ≡ container_left ws ((counts_of ws).depth - 1) b) where
  inner_done : {us left : List ℕ} {k : Container} → number_of (view_of (builder_of ws) ms) l c ≡ 0 → (0 < (counts_of ws).depth) × ((counts_of ws).depth ≤ 64) → PutsContainer ws us ((counts_of ws).depth - 1) k
      → after (state_of ws ms l) c ≡ record { builder = record { containers = set (containers_of ws) ((counts_of ws).depth - 1) k; elements = elements_of ws; counts = counts_of ws }; marks = left; storage = l }
      → DoesWords 0 ws us ms left l l c
  inner_done {us} {left} {k} n o y e =
      let h = container_put_lem (containers_of ws) ((counts_of ws).depth - 1) k (containers_length ws) (omega (arith, o.0, o.1)) in
      carried ws ms l c n (rw e y.builder) (rw e refl) (rw e refl) (rw (m (after (state_of ws ms l) c).builder, e, h) y.words)

-- a call that leaves the words where it is refused
pub stays_refused : (ws ms : List ℕ) (l : Storage) (c : Call) {v : View} (f : Refusal) → v ≡ view_of (builder_of ws) ms → refusal_number f ≡ number_of v l c → DoesWords (refusal_number f) ws ws ms ms l l c
stays_refused ws ms l c f p q = refused ws ms l c (rw p at q) (number_some f)

-- the uniqueness mark
module _ (ws ms : List ℕ) (l : Storage) (u : Bool) {v : View} {k : Container} (p : v ≡ view_of (builder_of ws) ms) (q : SetsUnique v l u (Ok k)) where
  -- the innermost is one of the 64
  pub unique_inside : (0 < v.counts.depth) × (v.counts.depth ≤ 64)
  unique_inside = rw p (unique_open (builder_of ws) ms l u (sym (rw p at q.number)))

  pub unique_done : {us : List ℕ} → PutsContainer ws us (v.counts.depth - 1) k → DoesWords 0 ws us ms ms l l (uniqueness u)
  unfolding after told
  unique_done d =
      let w = rw p at q in
      let n = sym w.number in
      let h = ap (told k) (container_ok w n) in
      inner_done ws ms l (uniqueness u) (λ b. refl) n (rw p at unique_inside) (rw p at d) (rw h refl)

-- ---- marks

-- a container that is open in a builder of number 0 is one of the 64
open_inside : (b : Builder) (ms : List ℕ) (l : Storage) (x : Bool) → damaged (view_of b ms) l x ≡ false → is_open (view_of b ms) ≡ true → (0 < b.counts.depth) × (b.counts.depth ≤ 64)
unfolding unchained chained
open_inside b ms l x e o =
    let v = view_of b ms in
    let d = b.counts.depth in
    let w = (both v.chain _ (not-false _ (neither (unchained v) _ (neither (over_used v l) _ e).1).0)).0 in
    let c = (both (chained b.containers b.elements d) _ w).0 in
    (ltb-true 0 d o, leb-true d 64 (both (leb d 64) _ c).0)

module _ (ws ms : List ℕ) (l : Storage) {v : View} {r : Marked} (p : v ≡ view_of (builder_of ws) ms) (q : SetsMark v l (Ok r)) where
  pub mark_inside : (0 < v.counts.depth) × (v.counts.depth ≤ 64)
  mark_inside =
      let k = none_at (view_of (builder_of ws) ms) l set_mark (sym (rw p at q.number)) in
      rw p (open_inside (builder_of ws) ms l _ (k 1) (not-false _ (neither _ _ (k 22)).0))

  pub mark_done : {us left : List ℕ} → PutsContainer ws us (v.counts.depth - 1) r.container
      → left ≡ put_mark ms (slot_of (v.counts.depth - 1) r.container.marks) r.mark → DoesWords 0 ws us ms left l l set_mark
  unfolding after told with_marks
  mark_done d e =
      let w = rw p at q in
      let n = sym w.number in
      let h = ap (told r) (marked_ok w n) in
      let k = ap (λ (x : Marked). x.container) h in
      let t = rw (p, k, ap (λ (x : Marked). x.mark) h) at e in
      inner_done ws ms l set_mark (λ b. refl) n (rw p at mark_inside) (rw p at d) (rw (k, t) refl)

-- the return to one
module _ (ws ms : List ℕ) (l : Storage) (j : ℕ) {v : View} {m : Mark} {e : Storage} (p : v ≡ view_of (builder_of ws) ms) (g : m ≡ mark_at ms (slot_of (v.counts.depth - 1) j)) where
  -- over the words
  at : {r : Result Returned Refusal} → Returns v l m j r e → Returns (view_of (builder_of ws) ms) l (mark_to (view_of (builder_of ws) ms) ms (return_to j)) j r e
  at q = rw (p, rw p at g) at q

  pub return_refused : {f : Refusal} → Returns v l m j (Err f) e → DoesWords (refusal_number f) ws ws ms ms l e (return_to j)
  return_refused {f} q =
      let w = at q in
      let z = ne_eqb (number_of (view_of (builder_of ws) ms) l (return_to j)) 0 (λ h. number_some f (w.number ∙ h)) in
      let k : e ≡ l = w.storage (return_reachable (builder_of ws) ms l j) ∙ rw z refl in
      rw k (refused ws ms l (return_to j) w.number (number_some f))

  pub return_inside : {r : Returned} → Returns v l m j (Ok r) e → (0 < v.counts.depth) × (v.counts.depth ≤ 64)
  return_inside q =
      let k = none_at (view_of (builder_of ws) ms) l (return_to j) (sym (at q).number) in
      rw p (open_inside (builder_of ws) ms l _ (k 1) (not-false _ (neither _ _ (k 22)).0))

  pub return_done : {r : Returned} {us xs : List ℕ} → Returns v l m j (Ok r) e → PutsInner ws us r.counts r.counts.depth r.elements → PutsContainer us xs (v.counts.depth - 1) r.container
      → DoesWords 0 ws xs ms ms l e (return_to j)
  unfolding after returned told
  return_done {r} {us} {xs} q x y =
      let w = at q in
      let n = sym w.number in
      let z = eq-eqb (number_of (view_of (builder_of ws) ms) l (return_to j)) 0 n in
      let o = rw p at (return_inside q) in
      let d = (counts_of ws).depth - 1 in
      let y' = rw p at y in
      let h = ap (told r) (returned_ok w n) in
      let c = ap (λ (t : Returned). t.counts) h in
      let m' = ap (λ (t : Returned). t.elements) h in
      let k = ap (λ (t : Returned). t.container) h in
      let u = container_put_lem (containers_of us) d r.container (containers_length us) (omega (arith, o.0, o.1)) in
      let f = containers_of_lem us x.builder in
      let same : builder_of xs ≡ (after (state_of ws ms l) (return_to j)).builder
      = y'.builder ∙ rw (f, elements_of_lem us x.builder, counts_of_lem us x.builder, c, m', k, lt-ltb 0 (counts_of ws).depth o.0) refl in
      carried ws ms l (return_to j) n same refl (w.storage (return_reachable (builder_of ws) ms l j) ∙ rw z refl)
      ((y'.words ∙ rw (containers_of_lem xs y'.builder, counts_of_lem xs y'.builder, u, counts_of_lem us x.builder, x.words, m') refl) ∙ ap (words_left ws ms (return_to j)) same)

-- ---- a finish, refused or carried out
module _ (ws ms : List ℕ) (l : Storage) (out : List ℕ) (before : ℕ) {v : View} {left : List ℕ} (p : v ≡ view_of (builder_of ws) ms) where
  pub finish_refused : {f : Refusal} → Ends v l out (Err f) left → FinishesWords (refusal_number f) ws ws ms l out left before before
  unfolding step
  finish_refused {f} q =
      let w = rw p at q in
      let z = ne_eqb (number_of (view_of (builder_of ws) ms) l (finish out)) 0 (λ h. number_some f (w.number ∙ h)) in
      record { does = refused ws ms l (finish out) w.number (number_some f); output = rw (w.output, z) refl; length = rw (ne_eqb (refusal_number f) 0 (number_some f)) refl }

  pub finish_done : {r : Ended} {us : List ℕ} → Ends v l out (Ok r) left → PutsCounts ws us r.counts → FinishesWords 0 ws us ms l out left before r.written
  unfolding step after told
  finish_done {r} q m =
      let w = rw p at q in
      let n = sym w.number in
      let z = eq-eqb (number_of (view_of (builder_of ws) ms) l (finish out)) 0 n in
      let h = ap (told r) (ended_ok w n) in
      let c = ap (λ (t : Ended). t.counts) h in
      record {
        does = carried ws ms l (finish out) n (m.builder ∙ (rw c refl)) refl refl (m.words ∙ (rw c refl));
        output = rw (w.output, z) refl;
        length = rw (z, ap (λ (t : Ended). t.written) h) refl;
      }

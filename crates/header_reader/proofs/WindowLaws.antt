-- Offsets that are starts, window by window.
use mathlib.Core.Path.{◌≡◌, refl, sym, ◌∙◌}
use mathlib.Core.Bool.{Bool, true, false, not, ◌&&◌, ◌||◌, and-false, false≢true}
use mathlib.Core.List.{List, [], ◌∷◌}
use Prim.Native.Nat.{ℕ, zero, suc, ◌+◌, ◌-◌, ◌≤◌, ◌<◌}
use native.Mathlib.Omega.{arith}
use lib.Dec.{eqb, leb, ltb}
use lib.ListN.{length, take, drop, get_or, set, length-set}
use lib.Seq.{drop-cons, drop-length, get_or-set_same, get_or-set_other}
use borrow.Author.Tests.{ne_eqb, eqb-true, eqb-false, leb-true, le-leb, lt-leb, ltb-true, ltb-false, lt-ltb, le-ltb}
use Rattle.std.specs.Prelude.{Option, Some, None}
use Rattle.std.specs.Bool.{then_some}
use Rattle.measure.specs.Measure.{measured, some_length}
use Rattle.measure.proofs.MeasureLaws.{measured_none}
use Rattle.lexicon.specs.Dictionary.{each_below}
use Rattle.grammar.specs.Grammar.{among, starting}
use Rattle.grammar.specs.Tests.{starts_of}
use Rattle.header_reader.specs.Windows.{starts_at, inside, starting_by, is_start, marked, Reached, Marks, Takes, Window}
use Rattle.header_reader.proofs.StartLaws.{starts_none, walked, walked_none, walked_within, start_low, start_high, among_more}

-- ---- tests

and_swap : (a b c d : Bool) → ((a && b) && (c && d)) ≡ ((a && c) && (b && d))
and_swap true true c d = refl
and_swap true false true d = refl
and_swap true false false d = refl
and_swap false b c d = refl

both_parts : (p q g : Bool) → (not (p || q) || g) ≡ ((not p || g) && (not q || g))
both_parts true true true = refl
both_parts true true false = refl
both_parts true false true = refl
both_parts true false false = refl
both_parts false true g = refl
both_parts false false g = refl

and_group : (a b c : Bool) → ((a && b) && c) ≡ (a && (b && c))
and_group true b c = refl
and_group false b c = refl

or_none : (a : Bool) → (a || false) ≡ a
or_none true = refl
or_none false = refl

-- ---- inside two bounds

inside_split : (lo mid hi n : ℕ) → lo ≤ mid → mid ≤ hi → inside lo hi n ≡ (inside lo mid n || inside mid hi n)
inside_split lo mid hi n h k = go (ltb n mid) refl
  where
    go : (t : Bool) → ltb n mid ≡ t → inside lo hi n ≡ (inside lo mid n || inside mid hi n)
    go true e =
        let l = ltb-true n mid e in
        rw (e, lt-ltb n hi (omega arith), lt-leb mid n (omega arith)) (sym (or_none (leb lo n && true)))
    go false e =
        let l = ltb-false n mid e in
        rw (e, le-leb lo n (omega arith), le-leb mid n (omega arith)) refl

inside_none : (lo n : ℕ) → inside lo lo n ≡ false
inside_none lo n = go (leb lo n) refl
  where
    go : (t : Bool) → leb lo n ≡ t → inside lo lo n ≡ false
    go true e = rw (e, le-ltb n lo (leb-true lo n e))
    go false e = rw e

inside_true : (lo hi n : ℕ) → inside lo hi n ≡ true → (lo ≤ n) × (n < hi)
inside_true lo hi n = go (leb lo n) (ltb n hi) refl refl
  where
    go : (t u : Bool) → leb lo n ≡ t → ltb n hi ≡ u → (t && u) ≡ true → (lo ≤ n) × (n < hi)
    go true true e f p = (leb-true lo n e, ltb-true n hi f)
    go true false e f p = absurd (false≢true p)
    go false u e f p = absurd (false≢true p)

-- ---- windows

starting_split : (test : ℕ → Bool) (lo mid hi : ℕ) (ns : List ℕ) → lo ≤ mid → mid ≤ hi → starting_by test lo hi ns ≡ (starting_by test lo mid ns && starting_by test mid hi ns)
unfolding starting_by
starting_split test lo mid hi [] h k = refl
starting_split test lo mid hi (n ∷ ns) h k =
    let g = test n && not (among n ns) in
    rw (inside_split lo mid hi n h k, starting_split test lo mid hi ns h k, both_parts (inside lo mid n) (inside mid hi n) g)
    (and_swap (not (inside lo mid n) || g) (not (inside mid hi n) || g) (starting_by test lo mid ns) (starting_by test mid hi ns))

starting_none : (test : ℕ → Bool) (lo : ℕ) (ns : List ℕ) → starting_by test lo lo ns ≡ true
unfolding starting_by
starting_none test lo [] = refl
starting_none test lo (n ∷ ns) = rw (inside_none lo n) (starting_none test lo ns)

-- a test is only made inside
pub starting_same : (p q : ℕ → Bool) (lo hi : ℕ) (ns : List ℕ) → ((x : ℕ) → lo ≤ x → x < hi → p x ≡ q x) → starting_by p lo hi ns ≡ starting_by q lo hi ns
unfolding starting_by
starting_same p q lo hi [] f = refl
starting_same p q lo hi (n ∷ ns) f = go (inside lo hi n) refl (starting_same p q lo hi ns f)
  where
    go : (t : Bool) → inside lo hi n ≡ t → starting_by p lo hi ns ≡ starting_by q lo hi ns
        → ((not t || (p n && not (among n ns))) && starting_by p lo hi ns) ≡ ((not t || (q n && not (among n ns))) && starting_by q lo hi ns)
    go true e r = let l = inside_true lo hi n e in rw (f n l.0 l.1, r)
    go false e r = r

-- offsets below the size lie in one window; others are no starts
pub starting_whole : (vs ns : List ℕ) → each_below (length vs) ns ≡ true → starting_by (is_start vs) 0 (length vs) ns ≡ starting (starts_of vs) ns
unfolding starting_by starting each_below
starting_whole vs [] h = refl
starting_whole vs (n ∷ ns) h = go (ltb n (length vs)) refl h (starting_whole vs ns)
  where
    go : (t : Bool) → ltb n (length vs) ≡ t → (t && each_below (length vs) ns) ≡ true → (each_below (length vs) ns ≡ true → starting_by (is_start vs) 0 (length vs) ns ≡ starting (starts_of vs) ns)
        → ((not (inside 0 (length vs) n) || (is_start vs n && not (among n ns))) && starting_by (is_start vs) 0 (length vs) ns) ≡ (is_start vs n && (not (among n ns) && starting (starts_of vs) ns))
    go true e k f = rw (e, le-leb 0 n (omega arith), f k) (and_group (is_start vs n) (not (among n ns)) (starting (starts_of vs) ns))
    go false e k f = absurd (false≢true k)

pub starting_over : (vs ns : List ℕ) → each_below (length vs) ns ≡ false → starting (starts_of vs) ns ≡ false
unfolding starting each_below
starting_over vs [] h = absurd (false≢true (sym h))
starting_over vs (n ∷ ns) h = go (ltb n (length vs)) refl h (starting_over vs ns)
  where
    go : (t : Bool) → ltb n (length vs) ≡ t → (t && each_below (length vs) ns) ≡ false → (each_below (length vs) ns ≡ false → starting (starts_of vs) ns ≡ false)
        → (is_start vs n && (not (among n ns) && starting (starts_of vs) ns)) ≡ false
    go true e k f = rw (f k, and-false (not (among n ns)), and-false (is_start vs n))
    go false e k f = rw (start_high vs n (ltb-false n (length vs) e))

-- ---- from window to window: what is left decides, and the walk has reached it

pub record Windows (r : Bool) (vs ns : List ℕ) (lo at : ℕ) : Type 0 where
  pub same : starting_by (is_start vs) lo (length vs) ns ≡ r
  pub reached : Reached vs lo at

pub reached_start : (vs : List ℕ) → Reached vs 0 0
unfolding starts_at starts_of
reached_start vs = record { low = omega arith; high = omega arith; ahead = λ x h. refl }

pub windows_start : (vs ns : List ℕ) → Windows (starting_by (is_start vs) 0 (length vs) ns) vs ns 0 0
windows_start vs ns = record { same = refl; reached = reached_start vs }

module _ {r : Bool} {vs ns : List ℕ} {lo at hi : ℕ} {answer : Option ℕ} (w : Windows r vs ns lo at) (h : lo ≤ hi) (k : hi ≤ length vs) (x : Window vs ns lo hi answer) where
  pub windows_bad : answer ≡ None → false ≡ r
  windows_bad e = rw (starting_split (is_start vs) lo hi (length vs) ns h k, (rw e at x)) at w.same

  pub windows_again : {next : ℕ} → answer ≡ Some next → Windows r vs ns hi next
  windows_again e =
      let y = rw e at x in
      record { same = rw (starting_split (is_start vs) lo hi (length vs) ns h k, y.0) at w.same; reached = y.1 }

pub windows_end : {r : Bool} {vs ns : List ℕ} {lo at : ℕ} → Windows r vs ns lo at → length vs ≤ lo → true ≡ r
windows_end {vs = vs} {ns = ns} {lo = lo} w h =
    let l = w.reached in
    let e : lo ≡ length vs = omega arith in
    sym (starting_none (is_start vs) (length vs) ns) ∙ (rw e at w.same)

-- ---- marks set by a walk: what is marked, with what the walk still meets, are the starts

pub record Marking (vs : List ℕ) (lo hi : ℕ) (cells : List ℕ) (at : ℕ) : Type 0 where
  pub same : (x : ℕ) → lo ≤ x → x < hi → (marked lo cells x || among x (starts_at vs at)) ≡ is_start vs x
  pub ahead : (x : ℕ) → hi ≤ x → among x (starts_at vs at) ≡ is_start vs x
  pub low : lo ≤ at
  pub high : at ≤ length vs
  pub size : lo + length cells ≡ hi

pub marking_start : {vs : List ℕ} {lo hi : ℕ} {cells : List ℕ} {at : ℕ} → Reached vs lo at → lo + length cells ≡ hi → ((i : ℕ) → get_or cells i 0 ≡ 0) → Marking vs lo hi cells at
marking_start {lo = lo} w e f =
    record {
      same = λ x h k. rw (f (x - lo)) (w.ahead x h);
      ahead = λ x h. w.ahead x (omega arith);
      low = w.low;
      high = w.high;
      size = e;
    }

module _ {vs : List ℕ} {lo hi : ℕ} {cells : List ℕ} {at : ℕ} (m : Marking vs lo hi cells at) where
  module _ {n : ℕ} (g : Some n ≡ some_length (measured (take (length vs - at) (drop at vs)))) where
    e : n ≡ measured (drop at vs)
    e = (walked vs at g).0

    pub marking_more : 0 < n
    marking_more = (walked vs at g).1

    pub marking_within : at + n ≤ length vs
    marking_within = walked_within vs at _ m.high e

    pub marking_again : at < hi → Marking vs lo hi (set cells (at - lo) 1) (at + n)
    marking_again k =
        record {
          same = λ x p q. next x p q (eqb x at) refl;
          ahead = λ x p. sym (rw (ne_eqb x at (omega arith)) at (among_more vs at n x e marking_more)) ∙ m.ahead x p;
          low = omega (arith, m.low);
          high = walked_within vs at n m.high e;
          size = rw (length-set cells (at - lo) 1) m.size;
        }
      where
        next : (x : ℕ) → lo ≤ x → x < hi → (t : Bool) → eqb x at ≡ t → (marked lo (set cells (at - lo) 1) x || among x (starts_at vs (at + n))) ≡ is_start vs x
        next x p q true f =
            let z : x ≡ at = eqb-true x at f in
            let l = m.low in
            let s = m.size in
            let i : x - lo ≡ at - lo = omega arith in
            let y : true ≡ is_start vs x = rw (among_more vs at n x e marking_more, f, or_true (marked lo cells x)) at (m.same x p q) in
            rw (i, get_or-set_same cells (at - lo) 1 0 (omega arith)) y
          where
            or_true : (a : Bool) → (a || true) ≡ true
            or_true true = refl
            or_true false = refl
        next x p q false f =
            let z = eqb-false x at f in
            let l = m.low in
            rw (get_or-set_other cells (at - lo) (x - lo) 1 0 (λ i. z (omega arith))) (rw (among_more vs at n x e marking_more, f) at (m.same x p q))

  -- no whole value is left
  pub marking_none : None ≡ some_length (measured (take (length vs - at) (drop at vs))) → hi ≤ length vs → Reached vs hi (length vs) × Marks (is_start vs) lo hi cells
  unfolding among
  marking_none g k =
      let a = starts_none vs at (walked_none vs at g) in
      let b = starts_none vs (length vs) (rw (drop-length vs) (sym (measured_none [] refl))) in (
        record { low = omega arith; high = omega arith; ahead = λ x p. rw b (rw a at (m.ahead x p)) },
        λ x p q. sym (or_none (marked lo cells x)) ∙ (rw a at (m.same x p q)),
      )

  pub marking_end : hi ≤ at → Reached vs hi at × Marks (is_start vs) lo hi cells
  marking_end h = (
    record { low = h; high = m.high; ahead = m.ahead },
    λ x p q. sym (or_none (marked lo cells x)) ∙ (rw (start_low vs x at (omega arith)) at (m.same x p q)),
  )

-- ---- marks taken by offsets, from the last to the first

-- a test of all fails where it fails of the last
last_fails : (test : ℕ → Bool) (lo hi k : ℕ) (ns : List ℕ) → starting_by test lo hi (drop k ns) ≡ false → starting_by test lo hi ns ≡ false
unfolding starting_by
last_fails test lo hi zero ns e = e
last_fails test lo hi (suc k) [] e = e
last_fails test lo hi (suc k) (n ∷ ns) e =
    rw (last_fails test lo hi k ns e) (and-false (not (inside lo hi n) || (test n && not (among n ns))))

-- the last of the numbers, those behind place `left`: each inside has taken a mark of its own
pub record Taking (test : ℕ → Bool) (lo hi : ℕ) (ns : List ℕ) (cells : List ℕ) (left : ℕ) : Type 0 where
  pub passed : starting_by test lo hi (drop left ns) ≡ true
  pub marks : Marks (λ x. test x && not (among x (drop left ns))) lo hi cells
  pub size : lo + length cells ≡ hi

and_all : (a : Bool) → (a && true) ≡ a
and_all true = refl
and_all false = refl

and_neither : (t a b : Bool) → ((t && not b) && not a) ≡ (t && not (a || b))
and_neither true true true = refl
and_neither true true false = refl
and_neither true false b = and_all (not b)
and_neither false a b = refl

-- ---- all of them

pub taking_start : (lo : ℕ) (ns cells : List ℕ) → Taking (marked lo cells) lo (lo + length cells) ns cells (length ns)
unfolding starting_by among
taking_start lo ns cells =
    let z = drop-length ns in
    record { passed = rw z; marks = λ x h k. rw z (sym (and_all (marked lo cells x))); size = refl }

module _ {test : ℕ → Bool} {lo hi : ℕ} {ns cells after : List ℕ} {left x : ℕ} {r : Bool} (k : ℕ) (i : Taking test lo hi ns cells left) (h : k + 1 ≡ left) (l : left ≤ length ns)
    (e : x ≡ get_or ns k 0) (t : Takes lo x cells after r) where
  next : drop k ns ≡ x ∷ drop left ns
  next = let s : suc k ≡ left = omega arith in rw (drop-cons ns k 0 (omega arith), ← e, s)

  answers : r ≡ (not (inside lo hi x) || (test x && not (among x (drop left ns))))
  answers = (rw i.size at t.answer) ∙ go (inside lo hi x) refl
    where
      go : (t : Bool) → inside lo hi x ≡ t → (not t || marked lo cells x) ≡ (not t || (test x && not (among x (drop left ns))))
      go true q = let l = inside_true lo hi x q in i.marks x l.0 l.1
      go false q = refl

  pub taking_bad : r ≡ false → false ≡ starting_by test lo hi ns
  unfolding starting_by
  taking_bad q = sym (last_fails test lo hi k ns (rw (next, ← answers, q)))

  pub taking_again : r ≡ true → length after ≡ length cells → Taking test lo hi ns after k
  unfolding starting_by among
  taking_again q m =
      let s = i.size in
      record { passed = rw (next, ← answers, q) i.passed; marks = λ y p o. marks_next y p o; size = rw m s }
    where
      marks_next : (y : ℕ) → lo ≤ y → y < hi → marked lo after y ≡ (test y && not (among y (drop k ns)))
      marks_next y p o =
          let a = rw i.size at (t.taken y p) in
          a o ∙ (rw (i.marks y p o, next) (and_neither (test y) (eqb y x) (among y (drop left ns))))

pub taking_end : {test : ℕ → Bool} {lo hi : ℕ} {ns cells : List ℕ} {left : ℕ} → Taking test lo hi ns cells left → left ≡ 0 → true ≡ starting_by test lo hi ns
taking_end i z = sym (rw z at i.passed)

-- ---- a window

-- of `cells`, cleared and then marked; neither changes how many they are
module _ (vs ns cells cleared marks : List ℕ) {lo next : ℕ} {t : Bool} (z : length cleared ≡ length cells) (s : length marks ≡ length cleared)
    (m : Reached vs (lo + length cleared) next × Marks (is_start vs) lo (lo + length cleared) marks) (e : t ≡ starting_by (marked lo marks) lo (lo + length marks) ns) where
  decides : t ≡ starting_by (is_start vs) lo (lo + length cells) ns
  decides = (rw (s ∙ z) at e) ∙ starting_same (marked lo marks) (is_start vs) lo (lo + length cells) ns (rw z at m.1)

  pub window_told : {r : Option ℕ} → r ≡ then_some t next → Window vs ns lo (lo + length cells) r
  window_told {r} y = go t refl y
    where
      go : (u : Bool) → t ≡ u → r ≡ then_some u next → Window vs ns lo (lo + length cells) r
      go true q a = rw a (sym decides ∙ q, rw z at m.0)
      go false q a = rw a (sym decides ∙ q)

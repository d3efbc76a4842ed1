-- Document 02, A9: "Calls between a mark and the return to it count as struck out". Whatever was accepted in between, as long as the container
-- stays open and the mark set, the return brings the history as it was when the mark was set.
use mathlib.Core.Path.{◌≡◌, refl, sym, ◌∙◌, ap}
use mathlib.Core.List.{List, [], ◌∷◌, ◌++◌}
use mathlib.Core.Option.{Option}
use Prim.Native.Nat.{ℕ, zero, suc, ◌-◌, ◌≤◌, ◌<◌}
use native.Mathlib.Omega.{arith}
use lib.ListN.{drop, length, length-append}
use lib.Seq.{drop_at}
use Rattle.metadata.specs.Names.{Name}
use Rattle.semantics.specs.Record.{Call, register, append, open_in, close, roll_back, uniqueness, set_mark, return_to, finish, scalar_of}
use Rattle.semantics.specs.Tree.{Tree, scalar, nest, empty}
use Rattle.semantics.specs.History.{Copy, Level, holding, History, with_name, entered, enter, close_level, drop_level, mark_level, brought, first_marks, return_level, accepted, accepted_all, Spares, SparesAll}

-- a container of this kind, name and names before its open, with these marks and more behind them
record Has (l : Level) (marks : List Copy) (k : Level) : Type 0 where
  object : k.object ≡ l.object
  own : k.own ≡ l.own
  before : k.before ≡ l.before
  more : List Copy
  all : k.marks ≡ more ++ marks

-- it stands outside of some open containers, and these outside of it
record Within (top : Option Tree) (l : Level) (marks : List Copy) (outer : List Level) (h : History) : Type 0 where
  inner : List Level
  level : Level
  has : Has l marks level
  levels : h.levels ≡ inner ++ (level ∷ outer)
  same : h.top ≡ top

drop_front : (n : ℕ) (xs ys : List Copy) → n ≤ length xs → drop n (xs ++ ys) ≡ drop n xs ++ ys
drop_front zero xs ys h = refl
drop_front (suc n) [] ys h = absurd (omega arith)
drop_front (suc n) (x ∷ xs) ys h = drop_front n xs ys (omega arith)

module _ (top : Option Tree) (l : Level) (c : Copy) (cs : List Copy) (outer : List Level) where
  abbrev In : History → Type 0
  In h = Within top l (c ∷ cs) outer h

  -- a tree that enters
  enter_in : (ns : List Name) (inner : List Level) (k : Level) → Has l (c ∷ cs) k → (t1 : Option Tree) → t1 ≡ top → (nm : Option Name) (t : Tree)
      → In (enter ns t1 (inner ++ (k ∷ outer)) nm t)
  unfolding enter
  enter_in ns [] k x t1 e nm t =
      record {
        inner = [];
        level = holding k (entered nm t k.items) k.marks;
        has = record { object = x.object; own = x.own; before = x.before; more = x.more; all = x.all };
        levels = refl;
        same = e;
      }
  enter_in ns (i ∷ is) k x t1 e nm t =
      record { inner = holding i (entered nm t i.items) i.marks ∷ is; level = k; has = x; levels = refl; same = e }

  close_in : (ns : List Name) (inner : List Level) (k : Level) → Has l (c ∷ cs) k → (t1 : Option Tree) → t1 ≡ top
      → suc (length outer) < length (inner ++ (k ∷ outer))
      → In (close_level ns t1 (inner ++ (k ∷ outer)))
  unfolding close_level
  close_in ns [] k x t1 e h = absurd (omega arith)
  close_in ns (i ∷ is) k x t1 e h = enter_in ns is k x t1 e i.own (nest i.object i.items)

  roll_in : (ns : List Name) (inner : List Level) (k : Level) → Has l (c ∷ cs) k → (t1 : Option Tree) → t1 ≡ top
      → suc (length outer) < length (inner ++ (k ∷ outer))
      → In (drop_level ns t1 (inner ++ (k ∷ outer)))
  unfolding drop_level
  roll_in ns [] k x t1 e h = absurd (omega arith)
  roll_in ns (i ∷ is) k x t1 e h = record { inner = is; level = k; has = x; levels = refl; same = e }

  mark_in_lem : (ns : List Name) (inner : List Level) (k : Level) → Has l (c ∷ cs) k → (t1 : Option Tree) → t1 ≡ top
      → In (mark_level ns t1 (inner ++ (k ∷ outer)))
  unfolding mark_level
  mark_in_lem ns [] k x t1 e =
      let d : Copy = record { items = k.items; names = ns } in
      record {
        inner = [];
        level = holding k k.items (d ∷ k.marks);
        has = record { object = x.object; own = x.own; before = x.before; more = d ∷ x.more; all = ap (λ z. d ∷ z) x.all };
        levels = refl;
        same = e;
      }
  mark_in_lem ns (i ∷ is) k x t1 e =
      record { inner = holding i i.items (record { items = i.items; names = ns } ∷ i.marks) ∷ is; level = k; has = x; levels = refl; same = e }

  -- a return inside of it
  brought_inside : (ns : List Name) (i : Level) (is : List Level) (k : Level) → Has l (c ∷ cs) k → (t1 : Option Tree) → t1 ≡ top → (ds : List Copy)
      → In (brought ns t1 i (is ++ (k ∷ outer)) ds)
  unfolding brought
  brought_inside ns i is k x t1 e [] = record { inner = i ∷ is; level = k; has = x; levels = refl; same = e }
  brought_inside ns i is k x t1 e (d ∷ ds) =
      record { inner = holding i d.items (d ∷ ds) ∷ is; level = k; has = x; levels = refl; same = e }

  -- in it, to this mark or a later one
  brought_here : (ns : List Name) (k : Level) → Has l (c ∷ cs) k → (t1 : Option Tree) → t1 ≡ top → (more : List Copy)
      → In (brought ns t1 k outer (more ++ (c ∷ cs)))
  unfolding brought
  brought_here ns k x t1 e [] =
      record {
        inner = [];
        level = holding k c.items (c ∷ cs);
        has = record { object = x.object; own = x.own; before = x.before; more = []; all = refl };
        levels = refl;
        same = e;
      }
  brought_here ns k x t1 e (d ∷ ds) =
      record {
        inner = [];
        level = holding k d.items (d ∷ (ds ++ (c ∷ cs)));
        has = record { object = x.object; own = x.own; before = x.before; more = d ∷ ds; all = refl };
        levels = refl;
        same = e;
      }

  -- the marks that a return to mark j leaves
  cut_marks : (k : Level) (x : Has l (c ∷ cs) k) (j : ℕ) → length (c ∷ cs) ≤ j
      → first_marks j k.marks ≡ drop (length k.marks - j) x.more ++ (c ∷ cs)
  cut_marks k x j h =
      ap (drop (length k.marks - j)) x.all
      ∙ drop_front (length k.marks - j) x.more (c ∷ cs) (omega (arith, ap length x.all, length-append x.more (c ∷ cs)))

  return_in : (ns : List Name) (inner : List Level) (k : Level) → Has l (c ∷ cs) k → (t1 : Option Tree) → t1 ≡ top → (j : ℕ)
      → (length (inner ++ (k ∷ outer)) ≡ suc (length outer) → length (c ∷ cs) ≤ j) → In (return_level ns t1 (inner ++ (k ∷ outer)) j)
  unfolding return_level
  return_in ns [] k x t1 e j h = rw (cut_marks k x j (h refl)) (brought_here ns k x t1 e (drop (length k.marks - j) x.more))
  return_in ns (i ∷ is) k x t1 e j h = brought_inside ns i is k x t1 e (first_marks j i.marks)

  -- every call that spares it
  spared : (h : History) (a : Call) → Spares h (length outer) (length (c ∷ cs)) a → In h → In (accepted h a)
  unfolding accepted
  spared h (register n) s x = record { inner = x.inner; level = x.level; has = x.has; levels = x.levels; same = x.same }
  spared h (append nm v) s x =
      rw x.levels (enter_in (with_name h.names nm) x.inner x.level x.has h.top x.same nm (scalar (scalar_of v)))
  spared h (open_in nm k) s x =
      record {
        inner = record { object = k; own = nm; items = empty; before = h.names; marks = [] } ∷ x.inner;
        level = x.level;
        has = x.has;
        levels = ap (λ z. record { object = k; own = nm; items = empty; before = h.names; marks = [] } ∷ z) x.levels;
        same = x.same;
      }
  spared h close s x = rw x.levels (close_in h.names x.inner x.level x.has h.top x.same (rw x.levels at s))
  spared h roll_back s x = rw x.levels (roll_in h.names x.inner x.level x.has h.top x.same (rw x.levels at s))
  spared h (uniqueness u) s x = x
  spared h set_mark s x = rw x.levels (mark_in_lem h.names x.inner x.level x.has h.top x.same)
  spared h (return_to j) s x = rw x.levels (return_in h.names x.inner x.level x.has h.top x.same j (rw x.levels at s))
  spared h (finish out) s x = x

  spared_all : (h : History) (bs : List Call) → SparesAll h (length outer) (length (c ∷ cs)) bs → In h → In (accepted_all h bs)
  unfolding accepted_all
  spared_all h [] s x = x
  spared_all h (b ∷ bs) s x = spared_all (accepted h b) bs s.1 (spared h b s.0 x)

  -- the return to it
  return_to_lem : (h : History) → In h → length h.levels ≡ suc (length outer)
      → accepted h (return_to (length (c ∷ cs)))
      ≡ record { names = c.names; top = top; levels = holding l c.items (c ∷ cs) ∷ outer }
  unfolding accepted return_level brought
  return_to_lem h x d = rw x.levels (go x.inner (rw x.levels at d))
    where
      k : Level
      k = x.level

      y : Has l (c ∷ cs) k
      y = x.has

      cut : first_marks (length (c ∷ cs)) k.marks ≡ c ∷ cs
      cut =
          ap (drop (length k.marks - length (c ∷ cs))) y.all
          ∙ drop_at y.more (c ∷ cs) (length k.marks - length (c ∷ cs)) (omega (arith, ap length y.all, length-append y.more (c ∷ cs)))

      go : (inner : List Level) → length (inner ++ (x.level ∷ outer)) ≡ suc (length outer)
          → return_level h.names h.top (inner ++ (x.level ∷ outer)) (length (c ∷ cs))
          ≡ record { names = c.names; top = top; levels = holding l c.items (c ∷ cs) ∷ outer }
      go [] e =
          ap (brought h.names h.top k outer) cut
          ∙ (λ i. record {
            names = c.names;
            top = x.same i;
            levels = record { object = y.object i; own = y.own i; items = c.items; before = y.before i; marks = c ∷ cs } ∷ outer;
          })
      go (i ∷ is) e = absurd (omega (arith, length-append is (x.level ∷ outer)))

-- STRUCK OUT: a mark is set, calls are accepted that leave its container open and the mark set, and where the container is the innermost
-- again a return to the mark brings the history of that moment.
pub struck_out : (h : History) (l : Level) (ls : List Level) → h.levels ≡ l ∷ ls → (cs : List Call)
    → SparesAll (accepted h set_mark) (length ls) (suc (length l.marks)) cs → length (accepted_all (accepted h set_mark) cs).levels ≡ suc (length ls)
    → accepted (accepted_all (accepted h set_mark) cs) (return_to (suc (length l.marks))) ≡ accepted h set_mark
unfolding accepted mark_level
struck_out h l ls e cs s d =
    let c : Copy = record { items = l.items; names = h.names } in
    let here = mark_level h.names h.top h.levels in
    let m : here ≡ record { names = h.names; top = h.top; levels = holding l l.items (c ∷ l.marks) ∷ ls } = ap (mark_level h.names h.top) e in
    let x : Within h.top l (c ∷ l.marks) ls here = rw e (record {
      inner = [];
      level = holding l l.items (c ∷ l.marks);
      has = record { object = refl; own = refl; before = refl; more = []; all = refl };
      levels = refl;
      same = refl;
    }) in
    return_to_lem h.top l c l.marks ls (accepted_all here cs) (spared_all h.top l c l.marks ls here cs s x) d ∙ sym m

-- Document 01's "The book for demand 3": the kept record, fed each call's kind and arguments and whether it was refused,
-- nothing else.
use Rattle.std.specs.Prelude.{◌≡◌, Bool, cond, List, [], ◌∷◌, ◌++◌, ℕ, suc, ◌-◌, ◌≤◌, ◌<◌, ltb, drop, length}
use Rattle.std.proofs.Math.Option.{Option, none, some}
use Rattle.metadata.specs.Names.{Name, same, place}
use Rattle.semantics.specs.Record.{Call, register, append, open_in, close, roll_back, uniqueness, set_mark, return_to, finish, scalar_of}
use Rattle.semantics.specs.Tree.{Label, element, live, replaced, Tree, scalar, nest, Items, empty, item}

-- a mark: document 02, A9, "a copy of its items and of the names"
pub record Copy : Type 0 where
  pub items : Items
  pub names : List Name

-- an open container: "its kind, its own name if any, its items in order, and the names as they were before the open call"; A9, "each open
-- container of the book also holds its marks", the latest first
pub record Level : Type 0 where
  pub object : Bool
  pub own : Option Name
  pub items : Items
  pub before : List Name
  pub marks : List Copy

-- "It holds the names, the top value if any, and the open containers", the innermost first
pub record History : Type 0 where
  pub names : List Name
  pub top : Option Tree
  pub levels : List Level

-- the container with other items and marks
abbrev pub holding : Level → Items → List Copy → Level
holding l is ms = record { object = l.object; own = l.own; items = is; before = l.before; marks = ms }

abbrev pub no_history : History
no_history = record { names = []; top = none; levels = [] }

-- "a name not yet held goes last"
unfoldable pub with_name : List Name → Option Name → List Name
with_name ns none = ns
with_name ns (some n) = cond (ltb (place n ns) (length ns)) ns (ns ++ (n ∷ []))

-- "one live there under the same name becomes replaced and loses that name"
unfoldable pub unlive : Name → Label → Label
unlive n element = element
unlive n (live m) = cond (same m n) replaced (live m)
unlive n replaced = replaced

unfoldable pub replace : Name → Items → Items
replace n empty = empty
replace n (item m t is) = item (unlive n m) t (replace n is)

-- "the innermost's last item"
unfoldable pub snoc : Items → Label → Tree → Items
snoc empty m t = item m t empty
snoc (item n u is) m t = item n u (snoc is m t)

-- "A named item is live"
unfoldable pub entered : Option Name → Tree → Items → Items
entered none t is = snoc is element t
entered (some n) t is = snoc (replace n is) (live n) t

-- "To enter: as the top value if nothing is open, else as the innermost's last item"
unfoldable pub enter : List Name → Option Tree → List Level → Option Name → Tree → History
enter ns top [] nm t = record { names = ns; top = some t; levels = [] }
enter ns top (l ∷ ls) nm t = record { names = ns; top = top; levels = holding l (entered nm t l.items) l.marks ∷ ls }

-- "Close: the innermost is open no more; enter its kind and items, under its own name if it has one"
unfoldable pub close_level : List Name → Option Tree → List Level → History
close_level ns top [] = record { names = ns; top = top; levels = [] }
close_level ns top (l ∷ ls) = enter ns top ls l.own (nest l.object l.items)

-- "Roll back: drop the innermost; the names are again those before its open"
unfoldable pub drop_level : List Name → Option Tree → List Level → History
drop_level ns top [] = record { names = ns; top = top; levels = [] }
drop_level ns top (l ∷ ls) = record { names = l.before; top = top; levels = ls }

-- A9: a mark set in the innermost
unfoldable pub mark_level : List Name → Option Tree → List Level → History
mark_level ns top [] = record { names = ns; top = top; levels = [] }
mark_level ns top (l ∷ ls) = record { names = ns; top = top; levels = holding l l.items (record { items = l.items; names = ns } ∷ l.marks) ∷ ls }

-- A9, "a return brings these back and drops the later marks": the mark and those before it are left
unfoldable pub brought : List Name → Option Tree → Level → List Level → List Copy → History
brought ns top l ls [] = record { names = ns; top = top; levels = l ∷ ls }
brought ns top l ls (c ∷ cs) = record { names = c.names; top = top; levels = holding l c.items (c ∷ cs) ∷ ls }

-- the first j marks, the latest first
abbrev pub first_marks : {A : Type 0} → ℕ → List A → List A
first_marks j ms = drop (length ms - j) ms

unfoldable pub return_level : List Name → Option Tree → List Level → ℕ → History
return_level ns top [] j = record { names = ns; top = top; levels = [] }
return_level ns top (l ∷ ls) j = brought ns top l ls (first_marks j l.marks)

-- document 02, A1: a name registered inside "takes its turn among the names first registered, unless struck out with its container"
unfoldable pub accepted : History → Call → History
accepted h (register n) = record { names = with_name h.names (some n); top = h.top; levels = h.levels }
accepted h (append nm v) = enter (with_name h.names nm) h.top h.levels nm (scalar (scalar_of v))
accepted h (open_in nm k) =
    let l : Level = record { object = k; own = nm; items = empty; before = h.names; marks = [] } in
    record { names = with_name h.names nm; top = h.top; levels = l ∷ h.levels }
accepted h close = close_level h.names h.top h.levels
accepted h roll_back = drop_level h.names h.top h.levels
accepted h (uniqueness u) = h
accepted h set_mark = mark_level h.names h.top h.levels
accepted h (return_to j) = return_level h.names h.top h.levels j
accepted h (finish out) = h

-- "Refused, or uniqueness mark: nothing"
unfoldable pub fed : History → Call → Bool → History
fed h c refused = cond refused h (accepted h c)

-- "Finish: top value and names are the kept record"
pub record Kept : Type 0 where
  pub top : Option Tree
  pub names : List Name

abbrev pub kept_of : History → Kept
kept_of h = record { top = h.top; names = h.names }

-- ---- A9, "Calls between a mark and the return to it count as struck out"

-- the history after accepted calls
unfoldable pub accepted_all : History → List Call → History
accepted_all h [] = h
accepted_all h (c ∷ cs) = accepted_all (accepted h c) cs

-- a call leaves a container open that has d outside of it, and its first n marks set
abbrev pub Spares : History → ℕ → ℕ → Call → Type 0
Spares h d n (register m) = Unit {0}
Spares h d n (append nm v) = Unit {0}
Spares h d n (open_in nm k) = Unit {0}
Spares h d n close = suc d < length h.levels
Spares h d n roll_back = suc d < length h.levels
Spares h d n (uniqueness u) = Unit {0}
Spares h d n set_mark = Unit {0}
Spares h d n (return_to j) = length h.levels ≡ suc d → n ≤ j
Spares h d n (finish out) = Unit {0}

abbrev pub SparesAll : History → ℕ → ℕ → List Call → Type 0
SparesAll h d n [] = Unit {0}
SparesAll h d n (c ∷ cs) = Spares h d n c × SparesAll (accepted h c) d n cs

-- The kept record. Its names only grow but for a roll back, which gives back those before the open, and none comes twice.
-- Its trees' live names are held and apart, and where each call suits, its trees are well formed.
use mathlib.Core.Path.{◌≡◌, refl, sym, ◌∙◌, ap}
use mathlib.Core.Logic.{inl, inr, ◌≢◌}
use mathlib.Core.Bool.{Bool, true, false, cond, not, true≢false}
use mathlib.Core.List.{List, [], ◌∷◌, ◌++◌, map, append_assoc, append-nil, head-eq_of_cons-eq, tail-eq_of_cons-eq}
use mathlib.Core.Option.{Option, none, some}
use Prim.Native.Nat.{ℕ, zero, suc, ◌-◌, ◌^◌, ◌≤◌, ◌<◌}
use native.Mathlib.Omega.{arith}
use lib.Dec.{leb, ltb}
use lib.ListN.{drop, length, length-append, length-map, length-replicate, length-take, replicate}
use borrow.Author.Tests.{ltb-true, ltb-false}
use Rattle.value.specs.declared.decoder.VariantPrimitiveType.TheVariants as type
use Rattle.value.specs.declared.variant.VariantBytes.{VariantBytes}
use Rattle.value.specs.declared.variant.VariantBytes.TheVariants.{Binary, String, ShortString, Text}
use Rattle.value.specs.Scalar.{short, scalar_bytes, long, plain, stored_bytes}
use Rattle.value.proofs.ScalarParse.{stored_whole, uuid_whole, bytes_whole}
use Rattle.measure.proofs.ValueLaws.{Plain, stored_known, bytes_known, uuid_known}
use Rattle.calendar.specs.Answers.{civil_variant}
use Rattle.packed_decimal.specs.PackedDecimal.{packed_variant}
use Rattle.metadata.specs.Names.{Name, same, place}
use Rattle.metadata.proofs.DictionaryLaws.{same_differs, place_low, place_added, Distinct, distinct_none, distinct_added, distinct_front}
use Rattle.container.proofs.SortLaws.{Mem}
use Rattle.semantics.specs.declared.View.{View}
use Rattle.semantics.specs.Record.{State, Scalars, fixed, civil, packed, bytes, uuid, in_object, Call, register, append, open_in, close, roll_back, uniqueness, set_mark, return_to, finish, scalar_of, sixteen}
use Rattle.semantics.specs.Tree.{Label, element, live, replaced, Tree, scalar, nest, Items, empty, item, encode}
use Rattle.semantics.specs.History.{Copy, Level, History, no_history, with_name, unlive, replace, snoc, entered, enter, close_level, drop_level, mark_level, brought, return_level, accepted, fed}
use Rattle.semantics.specs.Run.{refused, history_from, history_of, kept}
use Rattle.semantics.specs.Step.{step}
use Rattle.semantics.specs.Table.{misnamed}
use Rattle.semantics.proofs.TreeLaws.{NotLive, ApartFrom, Apart, ApartItems, Sound, Fits, Formed, FormedItems, HeldLabel, Held, HeldItems, label_grows, held_grows, items_grow}

-- ---- names that grow

-- ms is ns and more behind them
pub record Extends (ns ms : List Name) : Type 0 where
  pub more : List Name
  pub grown : ms ≡ ns ++ more

pub extends_same : (ns : List Name) → Extends ns ns
extends_same ns = record { more = []; grown = sym (append-nil ns) }

pub extends_more : {ls ms ns : List Name} → Extends ls ms → Extends ms ns → Extends ls ns
extends_more {ls} e f = record { more = e.more ++ f.more; grown = f.grown ∙ (ap (λ x. x ++ f.more) e.grown ∙ append_assoc ls e.more f.more) }

-- a fact about the names with one that may be new
with_cases : (P : List Name → Type 0) (ns : List Name) (nm : Option Name) → P ns → ((n : Name) → place n ns ≡ length ns → P (ns ++ (n ∷ []))) → P (with_name ns nm)
unfolding with_name
with_cases P ns none a b = a
with_cases P ns (some n) a b = go (ltb (place n ns) (length ns)) refl
  where
    go : (t : Bool) → ltb (place n ns) (length ns) ≡ t → P (cond t ns (ns ++ (n ∷ [])))
    go true e = a
    go false e = b n (omega (arith, ltb-false (place n ns) (length ns) e, place_low n ns))

pub with_extends : (ns : List Name) (nm : Option Name) → Extends ns (with_name ns nm)
with_extends ns nm = with_cases (λ ms. Extends ns ms) ns nm (extends_same ns) (λ n e. record { more = n ∷ []; grown = refl })

pub with_distinct : {ns : List Name} (nm : Option Name) → Distinct ns → Distinct (with_name ns nm)
with_distinct {ns} nm d = with_cases Distinct ns nm d (λ n e. distinct_added n d e)

-- a name, if there is one, is held
abbrev pub HeldName : List Name → Option Name → Type 0
HeldName ns none = Unit {0}
HeldName ns (some n) = HeldLabel ns (live n)

pub with_held : (ns : List Name) (nm : Option Name) → HeldName (with_name ns nm) nm
unfolding with_name
with_held ns none = tt
with_held ns (some n) = go (ltb (place n ns) (length ns)) refl
  where
    go : (t : Bool) → ltb (place n ns) (length ns) ≡ t → HeldName (cond t ns (ns ++ (n ∷ []))) (some n)
    go true e = ltb-true (place n ns) (length ns) e
    go false e =
        let l : place n ns ≡ length ns = omega (arith, ltb-false (place n ns) (length ns) e, place_low n ns) in
        omega (arith, place_added n ns l, length-append ns (n ∷ []))

-- ---- the names after a call

pub enter_names : (ns : List Name) (top : Option Tree) (ls : List Level) (nm : Option Name) (t : Tree) → (enter ns top ls nm t).names ≡ ns
unfolding enter
enter_names ns top [] nm t = refl
enter_names ns top (l ∷ ls) nm t = refl

pub close_names : (ns : List Name) (top : Option Tree) (ls : List Level) → (close_level ns top ls).names ≡ ns
unfolding close_level
close_names ns top [] = refl
close_names ns top (l ∷ ls) = enter_names ns top ls _ _

pub mark_names : (ns : List Name) (top : Option Tree) (ls : List Level) → (mark_level ns top ls).names ≡ ns
unfolding mark_level
mark_names ns top [] = refl
mark_names ns top (l ∷ ls) = refl

-- a call that strikes nothing out
abbrev pub Forward : Call → Type 0
Forward (register n) = Unit {0}
Forward (append nm v) = Unit {0}
Forward (open_in nm k) = Unit {0}
Forward close = Unit {0}
Forward roll_back = ⊥
Forward (uniqueness u) = Unit {0}
Forward set_mark = Unit {0}
Forward (return_to j) = ⊥
Forward (finish out) = Unit {0}

pub accepted_grows : (h : History) (c : Call) → Forward c → Extends h.names (accepted h c).names
unfolding accepted
accepted_grows h (register n) d = with_extends h.names (some n)
accepted_grows h (append nm v) d = rw enter_names (with_extends h.names nm)
accepted_grows h (open_in nm k) d = with_extends h.names nm
accepted_grows h close d = rw close_names (extends_same h.names)
accepted_grows h roll_back d = absurd d
accepted_grows h (uniqueness u) d = extends_same h.names
accepted_grows h set_mark d = rw mark_names (extends_same h.names)
accepted_grows h (return_to j) d = absurd d
accepted_grows h (finish out) d = extends_same h.names

pub fed_grows : (h : History) (c : Call) (refused : Bool) → (refused ≡ false → Forward c) → Extends h.names (fed h c refused).names
unfolding fed
fed_grows h c true d = extends_same h.names
fed_grows h c false d = accepted_grows h c (d refl)

-- ---- what a roll back gives back: the names before each open stay noted as long as the container is open

abbrev pub befores : List Level → List (List Name)
befores ls = map (λ (l : Level). l.before) ls

-- the outermost containers were opened at these names
pub record Rests (base : List (List Name)) (ls : List Level) : Type 0 where
  pub inner : List (List Name)
  pub all : befores ls ≡ inner ++ base

-- the outer containers, where the innermost is none of these
pop : {base : List (List Name)} (l : Level) (ls : List Level) → Rests base (l ∷ ls) → length base ≤ length ls → Rests base ls
pop {base} l ls r h = go r.inner r.all
  where
    go : (inner : List (List Name)) → befores (l ∷ ls) ≡ inner ++ base → Rests base ls
    go [] e = absurd (omega (arith, ap length e, length-map ls (λ (l : Level). l.before)))
    go (b ∷ bs) e = record { inner = bs; all = tail-eq_of_cons-eq e }

enter_depth : (ns : List Name) (top : Option Tree) (ls : List Level) (nm : Option Name) (t : Tree) → length (enter ns top ls nm t).levels ≡ length ls
unfolding enter
enter_depth ns top [] nm t = refl
enter_depth ns top (l ∷ ls) nm t = refl

module _ {base : List (List Name)} (ns : List Name) (top : Option Tree) where
  enter_rests : (ls : List Level) (nm : Option Name) (t : Tree) → Rests base ls → Rests base (enter ns top ls nm t).levels
  unfolding enter
  enter_rests [] nm t r = r
  enter_rests (l ∷ ls) nm t r = record { inner = r.inner; all = r.all }

  close_rests : (ls : List Level) → Rests base ls → length base ≤ length (close_level ns top ls).levels → Rests base (close_level ns top ls).levels
  unfolding close_level
  close_rests [] r h = r
  close_rests (l ∷ ls) r h = enter_rests ls _ _ (pop l ls r (rw enter_depth at h))

  drop_rests : (ls : List Level) → Rests base ls → length base ≤ length (drop_level ns top ls).levels → Rests base (drop_level ns top ls).levels
  unfolding drop_level
  drop_rests [] r h = r
  drop_rests (l ∷ ls) r h = pop l ls r h

  mark_rests : (ls : List Level) → Rests base ls → Rests base (mark_level ns top ls).levels
  unfolding mark_level
  mark_rests [] r = r
  mark_rests (l ∷ ls) r = record { inner = r.inner; all = r.all }

  brought_rests : (l : Level) (ls : List Level) (cs : List Copy) → Rests base (l ∷ ls) → Rests base (brought ns top l ls cs).levels
  unfolding brought
  brought_rests l ls [] r = r
  brought_rests l ls (c ∷ cs) r = record { inner = r.inner; all = r.all }

  return_rests : (ls : List Level) (j : ℕ) → Rests base ls → Rests base (return_level ns top ls j).levels
  unfolding return_level
  return_rests [] j r = r
  return_rests (l ∷ ls) j r = brought_rests l ls (drop (length l.marks - j) l.marks) r

pub accepted_rests : {base : List (List Name)} (h : History) (c : Call) → Rests base h.levels → length base ≤ length (accepted h c).levels → Rests base (accepted h c).levels
unfolding accepted
accepted_rests h (register n) r l = r
accepted_rests h (append nm v) r l = enter_rests (with_name h.names nm) h.top h.levels nm _ r
accepted_rests h (open_in nm k) r l = record { inner = h.names ∷ r.inner; all = ap (λ bs. h.names ∷ bs) r.all }
accepted_rests h close r l = close_rests h.names h.top h.levels r l
accepted_rests h roll_back r l = drop_rests h.names h.top h.levels r l
accepted_rests h (uniqueness u) r l = r
accepted_rests h set_mark r l = mark_rests h.names h.top h.levels r
accepted_rests h (return_to j) r l = return_rests h.names h.top h.levels j r
accepted_rests h (finish out) r l = r

pub fed_rests : {base : List (List Name)} (h : History) (c : Call) (refused : Bool) → Rests base h.levels → length base ≤ length (fed h c refused).levels → Rests base (fed h c refused).levels
unfolding fed
fed_rests h c true r l = r
fed_rests h c false r l = accepted_rests h c r l

pub open_rests : (h : History) (nm : Option Name) (k : Bool) → Rests (h.names ∷ befores h.levels) (accepted h (open_in nm k)).levels
unfolding accepted
open_rests h nm k = record { inner = []; all = refl }

-- the container that was opened at ns is the innermost: rolled back, the names are ns
pub roll_back_names : {ns : List Name} {base : List (List Name)} (h : History) → Rests (ns ∷ base) h.levels → length h.levels ≡ suc (length base) → (accepted h roll_back).names ≡ ns
unfolding accepted drop_level
roll_back_names {ns} {base} h r d = go h.levels r.inner r.all d
  where
    go : (ls : List Level) (inner : List (List Name)) → befores ls ≡ inner ++ (ns ∷ base) → length ls ≡ suc (length base) → (drop_level h.names h.top ls).names ≡ ns
    go [] inner e d = absurd (omega arith)
    go (l ∷ ls) [] e d = head-eq_of_cons-eq e
    go (l ∷ ls) (b ∷ bs) e d =
        absurd (omega (arith, ap length e, length-map ls (λ (l : Level). l.before), length-append bs (ns ∷ base)))

-- ---- an open container's items

-- a fact about a mark once n is live elsewhere
unlive_cases : (P : Label → Type 0) (n : Name) (m : Label) → P replaced → (m ≢ live n → P m) → P (unlive n m)
unfolding unlive
unlive_cases P n element a b = b (λ e. let z : ◌≡◌ {A = ℕ} 0 1 = cc in omega arith)
unlive_cases P n (live m) a b = go (same m n) refl
  where
    go : (t : Bool) → same m n ≡ t → P (cond t replaced (live m))
    go true e = a
    go false e = b (λ q. same_differs m n e (cc))
unlive_cases P n replaced a b = a

pub replace_unlive : (n : Name) (is : Items) → NotLive n (replace n is)
unfolding replace
replace_unlive n empty = tt
replace_unlive n (item m t is) = (unlive_cases (λ k. k ≢ live n) n m (λ e. let z : ◌≡◌ {A = ℕ} 0 1 = cc in omega arith) (λ d. d), replace_unlive n is)

replace_not_live : (n k : Name) (is : Items) → NotLive k is → NotLive k (replace n is)
unfolding replace
replace_not_live n k empty h = tt
replace_not_live n k (item m t is) h = (unlive_cases (λ j. j ≢ live k) n m (λ e. let z : ◌≡◌ {A = ℕ} 0 1 = cc in omega arith) (λ d. h.0), replace_not_live n k is h.1)

replace_apart_from : (n : Name) (m : Label) (is : Items) → ApartFrom m is → ApartFrom m (replace n is)
replace_apart_from n element is h = h
replace_apart_from n (live k) is h = replace_not_live n k is h
replace_apart_from n replaced is h = h

replace_apart : (n : Name) (is : Items) → ApartItems is → ApartItems (replace n is)
unfolding replace
replace_apart n empty h = tt
replace_apart n (item m t is) h = (unlive_cases (λ j. ApartFrom j (replace n is)) n m tt (λ d. replace_apart_from n m is h.0), h.1, replace_apart n is h.2)

replace_held : (ns : List Name) (n : Name) (is : Items) → HeldItems ns is → HeldItems ns (replace n is)
unfolding replace
replace_held ns n empty h = tt
replace_held ns n (item m t is) h = (unlive_cases (λ j. HeldLabel ns j) n m tt (λ d. h.0), h.1, replace_held ns n is h.2)

replace_formed : (n : Name) (is : Items) → FormedItems true is → FormedItems true (replace n is)
unfolding replace
replace_formed n empty h = tt
replace_formed n (item m t is) h = (unlive_cases (λ j. Fits true j) n m tt (λ d. h.0), h.1, replace_formed n is h.2)

-- one item more
snoc_not_live : (n : Name) (is : Items) (m : Label) (t : Tree) → NotLive n is → m ≢ live n → NotLive n (snoc is m t)
unfolding snoc
snoc_not_live n empty m t h d = (d, tt)
snoc_not_live n (item k u is) m t h d = (h.0, snoc_not_live n is m t h.1 d)

apart_other : (m : Label) (n : Name) (t : Tree) (is : Items) → ApartFrom m (item (live n) t is) → m ≢ live n
apart_other element n t is h e = let z : ◌≡◌ {A = ℕ} 0 1 = cc in omega arith
apart_other (live k) n t is h e = h.0 (sym e)
apart_other replaced n t is h e = let z : ◌≡◌ {A = ℕ} 0 1 = cc in omega arith

apart_rest : (m k : Label) (t : Tree) (is : Items) → ApartFrom m (item k t is) → ApartFrom m is
apart_rest element k t is h = h
apart_rest (live n) k t is h = h.1
apart_rest replaced k t is h = h

snoc_apart_from : (k m : Label) (t u : Tree) (is : Items) → ApartFrom m (item k u is) → ApartFrom k is → ApartFrom k (snoc is m t)
snoc_apart_from element m t u is f h = h
snoc_apart_from (live n) m t u is f h = snoc_not_live n is m t h (apart_other m n u is f)
snoc_apart_from replaced m t u is f h = h

snoc_apart : (is : Items) (m : Label) (t : Tree) → ApartFrom m is → Apart t → ApartItems is → ApartItems (snoc is m t)
unfolding snoc
snoc_apart empty m t f g h = (none_behind m, g, tt)
  where
    none_behind : (m : Label) → ApartFrom m empty
    none_behind element = tt
    none_behind (live n) = tt
    none_behind replaced = tt
snoc_apart (item k u is) m t f g h = (snoc_apart_from k m t u is f h.0, h.1, snoc_apart is m t (apart_rest m k u is f) g h.2)

snoc_held : (ns : List Name) (is : Items) (m : Label) (t : Tree) → HeldLabel ns m → Held ns t → HeldItems ns is → HeldItems ns (snoc is m t)
unfolding snoc
snoc_held ns empty m t f g h = (f, g, tt)
snoc_held ns (item k u is) m t f g h = (h.0, h.1, snoc_held ns is m t f g h.2)

snoc_formed : (object : Bool) (is : Items) (m : Label) (t : Tree) → Fits object m → Formed t → FormedItems object is → FormedItems object (snoc is m t)
unfolding snoc
snoc_formed object empty m t f g h = (f, g, tt)
snoc_formed object (item k u is) m t f g h = (h.0, h.1, snoc_formed object is m t f g h.2)

-- a tree that enters
pub entered_apart : (nm : Option Name) (t : Tree) (is : Items) → Apart t → ApartItems is → ApartItems (entered nm t is)
unfolding entered
entered_apart none t is g h = snoc_apart is element t tt g h
entered_apart (some n) t is g h = snoc_apart (replace n is) (live n) t (replace_unlive n is) g (replace_apart n is h)

pub entered_held : (ns : List Name) (nm : Option Name) (t : Tree) (is : Items) → HeldName ns nm → Held ns t → HeldItems ns is → HeldItems ns (entered nm t is)
unfolding entered
entered_held ns none t is f g h = snoc_held ns is element t tt g h
entered_held ns (some n) t is f g h = snoc_held ns (replace n is) (live n) t f g (replace_held ns n is h)

-- an object's items have names, a list's and the top value none
abbrev pub Named : Bool → Option Name → Type 0
Named true none = ⊥
Named true (some n) = Unit {0}
Named false none = Unit {0}
Named false (some n) = ⊥

pub entered_formed : (object : Bool) (nm : Option Name) (t : Tree) (is : Items) → Named object nm → Formed t → FormedItems object is → FormedItems object (entered nm t is)
unfolding entered
entered_formed true none t is f g h = absurd f
entered_formed true (some n) t is f g h = snoc_formed true (replace n is) (live n) t tt g (replace_formed n is h)
entered_formed false none t is f g h = snoc_formed false is element t refl g h
entered_formed false (some n) t is f g h = absurd f

-- ---- what holds of every history

abbrev pub HeldTop : List Name → Option Tree → Type 0
HeldTop ns none = Unit {0}
HeldTop ns (some t) = Held ns t

abbrev pub ApartTop : Option Tree → Type 0
ApartTop none = Unit {0}
ApartTop (some t) = Apart t

-- a mark's copy, of a container with that name that was opened at these names
pub record Upheld (before : List Name) (own : Option Name) (c : Copy) : Type 0 where
  pub grows : Extends (with_name before own) c.names
  pub held : HeldItems c.names c.items
  pub apart : ApartItems c.items

-- a container's copies, the latest first, where the names are ns: each one's names are a front of the later one's
abbrev pub Copies : List Name → Option Name → List Name → List Copy → Type 0
Copies before own ns [] = Unit {0}
Copies before own ns (c ∷ cs) = Extends c.names ns × Upheld before own c × Copies before own c.names cs

-- an open container, where the names are ns
pub record Stands (ns : List Name) (l : Level) : Type 0 where
  pub extends : Extends l.before ns
  pub grows : Extends (with_name l.before l.own) ns
  pub own_held : HeldName ns l.own
  pub held : HeldItems ns l.items
  pub apart : ApartItems l.items
  pub copies : Copies l.before l.own ns l.marks

-- each by the names before the open of the one inside it
abbrev pub Chained : List Name → Option Tree → List Level → Type 0
Chained ns top [] = HeldTop ns top
Chained ns top (l ∷ ls) = Stands ns l × Chained l.before top ls

pub record Orderly (h : History) : Type 0 where
  pub distinct : Distinct h.names
  pub chained : Chained h.names h.top h.levels
  pub apart_top : ApartTop h.top

-- names that are added
pub name_grows : {ns ms : List Name} (nm : Option Name) → Extends ns ms → HeldName ns nm → HeldName ms nm
name_grows none e h = tt
name_grows {ns} (some n) e h = rw e.grown (label_grows ns e.more (live n) h)

top_grows : {ns ms : List Name} (top : Option Tree) → Extends ns ms → HeldTop ns top → HeldTop ms top
top_grows none e h = tt
top_grows {ns} (some t) e h = rw e.grown (held_grows ns e.more t h)

pub copies_grow : {ns ms : List Name} (before : List Name) (own : Option Name) (cs : List Copy) → Extends ns ms → Copies before own ns cs
    → Copies before own ms cs
copies_grow before own [] e h = tt
copies_grow before own (c ∷ cs) e h = (extends_more h.0 e, h.1, h.2)

-- THE COPIES before the latest ones
pub copies_drop : (before : List Name) (own : Option Name) (ns : List Name) (n : ℕ) (cs : List Copy) → Copies before own ns cs
    → Copies before own ns (drop n cs)
copies_drop before own ns zero cs h = h
copies_drop before own ns (suc n) [] h = tt
copies_drop before own ns (suc n) (c ∷ cs) h = copies_grow before own (drop n cs) h.0 (copies_drop before own c.names n cs h.2)

stands_grows : {ns ms : List Name} {l : Level} → Extends ns ms → Stands ns l → Stands ms l
stands_grows {ns} {ms} {l} e s =
    record {
      extends = extends_more s.extends e;
      grows = extends_more s.grows e;
      own_held = name_grows l.own e s.own_held;
      held = rw e.grown (items_grow ns e.more l.items s.held);
      apart = s.apart;
      copies = copies_grow l.before l.own l.marks e s.copies;
    }

pub chained_grows : {ns ms : List Name} (top : Option Tree) (ls : List Level) → Extends ns ms → Chained ns top ls → Chained ms top ls
chained_grows top [] e h = top_grows top e h
chained_grows top (l ∷ ls) e h = (stands_grows e h.0, h.1)

-- the top value's names stay
pub top_held : (ns : List Name) (top : Option Tree) (ls : List Level) → Chained ns top ls → HeldTop ns top
top_held ns top [] h = h
top_held ns top (l ∷ ls) h = top_grows top h.0.extends (top_held l.before top ls h.1)

-- the names before any open container's open are a front of the names
pub level_extends : (ns : List Name) (top : Option Tree) (ls : List Level) → Chained ns top ls → (l : Level) → Mem l ls → Extends l.before ns
level_extends ns top [] h l m = absurd m
level_extends ns top (k ∷ ls) h l (inl e) = rw e h.0.extends
level_extends ns top (k ∷ ls) h l (inr m) = extends_more (level_extends k.before top ls h.1 l m) h.0.extends

module _ {ns : List Name} (top : Option Tree) (d : Distinct ns) (a : ApartTop top) where
  enter_orderly : (ls : List Level) (nm : Option Name) (t : Tree) → HeldName ns nm → Held ns t → Apart t → Chained ns top ls → Orderly (enter ns top ls nm t)
  unfolding enter
  enter_orderly [] nm t f g b h = record { distinct = d; chained = g; apart_top = b }
  enter_orderly (l ∷ ls) nm t f g b h =
      let s = h.0 in
      record {
        distinct = d;
        chained = (
          record {
            extends = s.extends;
            grows = s.grows;
            own_held = s.own_held;
            held = entered_held ns nm t l.items f g s.held;
            apart = entered_apart nm t l.items b s.apart;
            copies = s.copies;
          },
          h.1,
        );
        apart_top = a;
      }

  close_orderly : (ls : List Level) → Chained ns top ls → Orderly (close_level ns top ls)
  unfolding close_level
  close_orderly [] h = record { distinct = d; chained = h; apart_top = a }
  close_orderly (l ∷ ls) h =
      let s = h.0 in
      enter_orderly ls l.own (nest l.object l.items) s.own_held s.held s.apart (chained_grows top ls s.extends h.1)

  drop_orderly : (ls : List Level) → Chained ns top ls → Orderly (drop_level ns top ls)
  unfolding drop_level
  drop_orderly [] h = record { distinct = d; chained = h; apart_top = a }
  drop_orderly (l ∷ ls) h =
      let e = h.0.extends in
      record { distinct = distinct_front l.before e.more (rw e.grown at d); chained = h.1; apart_top = a }

  mark_orderly : (ls : List Level) → Chained ns top ls → Orderly (mark_level ns top ls)
  unfolding mark_level
  mark_orderly [] h = record { distinct = d; chained = h; apart_top = a }
  mark_orderly (l ∷ ls) h =
      let s = h.0 in
      record {
        distinct = d;
        chained = (
          record {
            extends = s.extends;
            grows = s.grows;
            own_held = s.own_held;
            held = s.held;
            apart = s.apart;
            copies = (extends_same ns, record { grows = s.grows; held = s.held; apart = s.apart }, s.copies);
          },
          h.1,
        );
        apart_top = a;
      }

  brought_orderly : (l : Level) (ls : List Level) (cs : List Copy) → Copies l.before l.own ns cs → Chained ns top (l ∷ ls)
      → Orderly (brought ns top l ls cs)
  unfolding brought
  brought_orderly l ls [] k h = record { distinct = d; chained = h; apart_top = a }
  brought_orderly l ls (c ∷ cs) k h =
      let e = k.0 in
      let u = k.1 in
      record {
        distinct = distinct_front c.names e.more (rw e.grown at d);
        chained = (
          record {
            extends = extends_more (with_extends l.before l.own) u.grows;
            grows = u.grows;
            own_held = name_grows l.own u.grows (with_held l.before l.own);
            held = u.held;
            apart = u.apart;
            copies = (extends_same c.names, u, k.2);
          },
          h.1,
        );
        apart_top = a;
      }

  return_orderly : (ls : List Level) (j : ℕ) → Chained ns top ls → Orderly (return_level ns top ls j)
  unfolding return_level
  return_orderly [] j h = record { distinct = d; chained = h; apart_top = a }
  return_orderly (l ∷ ls) j h =
      let n = length l.marks - j in
      brought_orderly l ls (drop n l.marks) (copies_drop l.before l.own ns n l.marks h.0.copies) h

pub orderly_none : Orderly no_history
orderly_none = record { distinct = distinct_none; chained = tt; apart_top = tt }

pub accepted_orderly : (h : History) (c : Call) → Orderly h → Orderly (accepted h c)
unfolding accepted
accepted_orderly h (register n) o =
    record { distinct = with_distinct (some n) o.distinct; chained = chained_grows h.top h.levels (with_extends h.names (some n)) o.chained; apart_top = o.apart_top }
accepted_orderly h (append nm v) o =
    enter_orderly h.top (with_distinct nm o.distinct) o.apart_top h.levels nm (scalar (scalar_of v)) (with_held h.names nm) tt tt
    (chained_grows h.top h.levels (with_extends h.names nm) o.chained)
accepted_orderly h (open_in nm k) o =
    record {
      distinct = with_distinct nm o.distinct;
      chained = (
        record {
          extends = with_extends h.names nm;
          grows = extends_same (with_name h.names nm);
          own_held = with_held h.names nm;
          held = tt;
          apart = tt;
          copies = tt;
        },
        o.chained,
      );
      apart_top = o.apart_top;
    }
accepted_orderly h close o = close_orderly h.top o.distinct o.apart_top h.levels o.chained
accepted_orderly h roll_back o = drop_orderly h.top o.distinct o.apart_top h.levels o.chained
accepted_orderly h (uniqueness u) o = o
accepted_orderly h set_mark o = mark_orderly h.top o.distinct o.apart_top h.levels o.chained
accepted_orderly h (return_to j) o = return_orderly h.top o.distinct o.apart_top h.levels j o.chained
accepted_orderly h (finish out) o = o

pub fed_orderly : (h : History) (c : Call) (refused : Bool) → Orderly h → Orderly (fed h c refused)
unfolding fed
fed_orderly h c true o = o
fed_orderly h c false o = accepted_orderly h c o

from_orderly : (h : History) (s : State) (cs : List Call) → Orderly h → Orderly (history_from h s cs)
unfolding history_from
from_orderly h s [] o = o
from_orderly h s (c ∷ cs) o = from_orderly (fed h c (refused s c)) (step s c).state cs (fed_orderly h c (refused s c) o)

pub history_orderly : (s : State) (cs : List Call) → Orderly (history_of s cs)
unfolding history_of
history_orderly s cs = from_orderly no_history s cs orderly_none

-- the kept record's names come once each, those of its top value are among them, and its live names are apart
pub kept_distinct : (s : State) (cs : List Call) → Distinct (kept s cs).names
unfolding kept
kept_distinct s cs = (history_orderly s cs).distinct

pub kept_held : (s : State) (cs : List Call) → HeldTop (kept s cs).names (kept s cs).top
unfolding kept
kept_held s cs = let h = history_of s cs in top_held h.names h.top h.levels (history_orderly s cs).chained

pub kept_apart : (s : State) (cs : List Call) → ApartTop (kept s cs).top
unfolding kept
kept_apart s cs = (history_orderly s cs).apart_top

-- ---- where the calls suit, the trees are well formed

abbrev pub inner_object : List Level → Bool
inner_object [] = false
inner_object (l ∷ ls) = l.object

-- a name is given exactly in an object, and a scalar is whole and of a known type
abbrev pub Suits : History → Call → Type 0
Suits h (register n) = Unit {0}
Suits h (append nm v) = Named (inner_object h.levels) nm × Plain (scalar_of v)
Suits h (open_in nm k) = Named (inner_object h.levels) nm
Suits h close = Unit {0}
Suits h roll_back = Unit {0}
Suits h (uniqueness u) = Unit {0}
Suits h set_mark = Unit {0}
Suits h (return_to j) = Unit {0}
Suits h (finish out) = Unit {0}

-- row 5 of the table
pub named_in : (nm : Option Name) (v : View) → misnamed nm v ≡ false → Named (in_object v) nm
named_in nm v e = go nm (in_object v) refl e
  where
    go : (nm : Option Name) (t : Bool) → in_object v ≡ t → misnamed nm v ≡ false → Named t nm
    go none true p e = true≢false (sym p ∙ e)
    go none false p e = tt
    go (some n) true p e = tt
    go (some n) false p e = true≢false (ap not (sym p) ∙ e)

length_plain : (bs : List ℕ) → length bs ≤ length (plain bs).payload
length_plain bs = go (leb (length bs) 63)
  where
    go : (t : Bool) → length bs ≤ length (cond t (record { stored_type = short; payload = bs }) (long type.String bs)).payload
    go true = omega arith
    go false = simp length-append (omega arith)

length_bytes : (k : VariantBytes) (bs : List ℕ) → length bs ≤ length (stored_bytes k bs).payload
length_bytes Binary bs = simp length-append (omega arith)
length_bytes String bs = simp length-append (omega arith)
length_bytes ShortString bs = length_plain bs
length_bytes Text bs = length_plain bs

-- a scalar that fits is so
pub scalar_plain : (v : Scalars) → length (scalar_bytes (scalar_of v)) < 256 ^ 4 → Plain (scalar_of v)
unfolding scalar_bytes
scalar_plain (fixed v) h = record { whole = stored_whole v; known = stored_known v }
scalar_plain (civil x) h = record { whole = stored_whole (civil_variant x); known = stored_known (civil_variant x) }
scalar_plain (packed scale bs) h = record { whole = stored_whole (packed_variant bs scale); known = stored_known (packed_variant bs scale) }
scalar_plain (bytes k bs) h = record { whole = bytes_whole k bs (omega (arith, length_bytes k bs)); known = bytes_known k bs }
scalar_plain (uuid bs) h =
    let n = length-append bs (replicate 16 0) in
    let m = length-replicate {A = ℕ} 16 0 in
    record { whole = uuid_whole (sixteen bs) (simp length-take (omega arith)); known = uuid_known (sixteen bs) }

abbrev pub FormedTop : Option Tree → Type 0
FormedTop none = Unit {0}
FormedTop (some t) = Formed t

abbrev pub FormedCopies : Bool → List Copy → Type 0
FormedCopies object [] = Unit {0}
FormedCopies object (c ∷ cs) = FormedItems object c.items × FormedCopies object cs

formed_drop : (object : Bool) (n : ℕ) (cs : List Copy) → FormedCopies object cs → FormedCopies object (drop n cs)
formed_drop object zero cs h = h
formed_drop object (suc n) [] h = tt
formed_drop object (suc n) (c ∷ cs) h = formed_drop object n cs h.1

abbrev pub FormedLevels : List Level → Type 0
FormedLevels [] = Unit {0}
FormedLevels (l ∷ ls) = FormedItems l.object l.items × Named (inner_object ls) l.own × FormedLevels ls × FormedCopies l.object l.marks

pub record WellFormed (h : History) : Type 0 where
  pub formed_top : FormedTop h.top
  pub formed_levels : FormedLevels h.levels

pub formed_none : WellFormed no_history
formed_none = record { formed_top = tt; formed_levels = tt }

module _ (ns : List Name) (top : Option Tree) (g : FormedTop top) where
  enter_formed : (ls : List Level) (nm : Option Name) (t : Tree) → Named (inner_object ls) nm → Formed t → FormedLevels ls → WellFormed (enter ns top ls nm t)
  unfolding enter
  enter_formed [] nm t n f h = record { formed_top = f; formed_levels = tt }
  enter_formed (l ∷ ls) nm t n f h = record { formed_top = g; formed_levels = (entered_formed l.object nm t l.items n f h.0, h.1, h.2, h.3) }

  close_formed : (ls : List Level) → FormedLevels ls → WellFormed (close_level ns top ls)
  unfolding close_level
  close_formed [] h = record { formed_top = g; formed_levels = tt }
  close_formed (l ∷ ls) h = enter_formed ls l.own (nest l.object l.items) h.1 h.0 h.2

  drop_formed : (ls : List Level) → FormedLevels ls → WellFormed (drop_level ns top ls)
  unfolding drop_level
  drop_formed [] h = record { formed_top = g; formed_levels = tt }
  drop_formed (l ∷ ls) h = record { formed_top = g; formed_levels = h.2 }

  mark_formed : (ls : List Level) → FormedLevels ls → WellFormed (mark_level ns top ls)
  unfolding mark_level
  mark_formed [] h = record { formed_top = g; formed_levels = tt }
  mark_formed (l ∷ ls) h = record { formed_top = g; formed_levels = (h.0, h.1, h.2, (h.0, h.3)) }

  brought_formed : (l : Level) (ls : List Level) (cs : List Copy) → FormedCopies l.object cs → FormedLevels (l ∷ ls)
      → WellFormed (brought ns top l ls cs)
  unfolding brought
  brought_formed l ls [] k h = record { formed_top = g; formed_levels = h }
  brought_formed l ls (c ∷ cs) k h = record { formed_top = g; formed_levels = (k.0, h.1, h.2, k) }

  return_formed : (ls : List Level) (j : ℕ) → FormedLevels ls → WellFormed (return_level ns top ls j)
  unfolding return_level
  return_formed [] j h = record { formed_top = g; formed_levels = tt }
  return_formed (l ∷ ls) j h =
      let n = length l.marks - j in
      brought_formed l ls (drop n l.marks) (formed_drop l.object n l.marks h.3) h

pub accepted_formed : (h : History) (c : Call) → Suits h c → WellFormed h → WellFormed (accepted h c)
unfolding accepted
accepted_formed h (register n) u w = record { formed_top = w.formed_top; formed_levels = w.formed_levels }
accepted_formed h (append nm v) u w = enter_formed (with_name h.names nm) h.top w.formed_top h.levels nm (scalar (scalar_of v)) u.0 u.1 w.formed_levels
accepted_formed h (open_in nm k) u w = record { formed_top = w.formed_top; formed_levels = (tt, u, w.formed_levels, tt) }
accepted_formed h close u w = close_formed h.names h.top w.formed_top h.levels w.formed_levels
accepted_formed h roll_back u w = drop_formed h.names h.top w.formed_top h.levels w.formed_levels
accepted_formed h (uniqueness b) u w = w
accepted_formed h set_mark u w = mark_formed h.names h.top w.formed_top h.levels w.formed_levels
accepted_formed h (return_to j) u w = return_formed h.names h.top w.formed_top h.levels j w.formed_levels
accepted_formed h (finish out) u w = w

pub fed_formed : (h : History) (c : Call) (refused : Bool) → (refused ≡ false → Suits h c) → WellFormed h → WellFormed (fed h c refused)
unfolding fed
fed_formed h c true u w = w
fed_formed h c false u w = accepted_formed h c (u refl) w

-- the kept top value is sound where its bytes are few
pub kept_sound : (floor : ℕ) {t : Tree} (s : State) (cs : List Call) → WellFormed (history_of s cs) → (kept s cs).top ≡ some t → length (encode floor (kept s cs).names t) < 256 ^ 4
    → Sound floor (kept s cs).names t
unfolding kept
kept_sound floor s cs w e h = record { formed = rw e at w.formed_top; held = rw e at (kept_held s cs); small = h }

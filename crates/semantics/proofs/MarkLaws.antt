-- The marks set in one container: each beside its copy in the history and its tally in the ledger, and each behind the next
-- later one, the latest behind the container as it is.
use mathlib.Core.Path.{◌≡◌, refl, sym, ◌∙◌, ap}
use mathlib.Core.Bool.{Bool, true, false, cond}
use mathlib.Core.List.{List, [], ◌∷◌, ◌++◌, append_assoc, append-nil}
use mathlib.Core.Option.{Option}
use Prim.Native.Nat.{ℕ, zero, suc, ◌+◌, ◌≤◌}
use native.Mathlib.Omega.{arith}
use lib.ListN.{drop, length}
use Rattle.metadata.specs.Names.{Name}
use Rattle.metadata.specs.Bytes.{joined}
use Rattle.container.specs.declared.Entry.{Entry}
use Rattle.semantics.specs.declared.Mark.{Mark}
use Rattle.semantics.specs.History.{Copy}
use Rattle.semantics.specs.Ledger.{Tally}
use Rattle.semantics.proofs.HistoryLaws.{Extends, extends_same, extends_more, Named}
use Rattle.semantics.proofs.Machine.{note_in, link_in, record_of}
use Rattle.semantics.proofs.LayerLaws.{Layer}
use Rattle.semantics.proofs.ReturnLaws.{Behind, behind_same, behind_trans, behind_note}

-- a container as it is: the names, its entries, its data, the undo records taken in it, its elements
pub record Stand : Type 0 where
  pub names : List Name
  pub seg : List Entry
  pub body : List ℕ
  pub own : List Entry
  pub count : ℕ

abbrev pub stand_of : List Name → List Entry → List ℕ → List Entry → ℕ → Stand
stand_of ns seg body own n = record { names = ns; seg = seg; body = body; own = own; count = n }

-- how it got from one stand to another: names, data and records were added, and the entries are behind
pub record Since (object : Bool) (now then : Stand) : Type 0 where
  pub names : Extends then.names now.names
  pub more : List ℕ
  pub body : now.body ≡ then.body ++ more
  pub records : List Entry
  pub own : now.own ≡ then.own ++ records
  pub back : Behind object now.seg records then.seg
  pub fewer : then.count ≤ now.count

pub since_same : (object : Bool) (x : Stand) → Since object x x
since_same object x =
    record {
      names = extends_same x.names;
      more = [];
      body = sym (append-nil x.body);
      records = [];
      own = sym (append-nil x.own);
      back = behind_same object x.seg;
      fewer = omega arith;
    }

pub since_more : (object : Bool) {z y x : Stand} → Since object z y → Since object y x → Since object z x
since_more object {z} {y} {x} a b =
    record {
      names = extends_more b.names a.names;
      more = b.more ++ a.more;
      body = a.body ∙ (ap (λ s. s ++ a.more) b.body ∙ append_assoc x.body b.more a.more);
      records = b.records ++ a.records;
      own = a.own ∙ (ap (λ s. s ++ a.records) b.own ∙ append_assoc x.own b.records a.records);
      back = behind_trans object a.back b.back;
      fewer = (let p = a.fewer in let q = b.fewer in omega arith);
    }

-- where a container starts: the names with its own, and the other starting marks
pub record Start : Type 0 where
  pub names : List Name
  pub value : ℕ
  pub entries : ℕ
  pub undo : ℕ

-- a mark: what the container was like when it was set, Rest telling of the earlier ones
pub record Marked (floor : ℕ) (object : Bool) (start : Start) (c : Copy) (p : Mark) (t : Tally) (now : Stand) (Rest : Stand → Type 0) : Type 0 where
  pub then : Stand
  pub since : Since object now then
  pub copied : then.names ≡ c.names
  pub grows : Extends start.names then.names
  pub layer : Layer floor then.names object c.items then.seg then.count then.body
  pub value : p.value ≡ start.value + length then.body
  pub names : p.names ≡ length then.names
  pub text : p.text ≡ length (joined then.names)
  pub entries : p.entries ≡ start.entries + length then.seg
  pub undo : p.undo ≡ start.undo + length then.own
  pub count : p.count ≡ then.count
  pub tally : t ≡ record { bytes = length then.body; unique = p.unique; undo = length then.own }
  pub rest : Rest then

-- all of them, the latest first
abbrev pub Marks : ℕ → Bool → Start → List Copy → List Mark → List Tally → Stand → Type 0
Marks floor object start [] [] [] now = Unit {0}
Marks floor object start (c ∷ cs) (p ∷ ps) (t ∷ ts) now = Marked floor object start c p t now (λ z. Marks floor object start cs ps ts z)
Marks floor object start [] [] (t ∷ ts) now = ⊥
Marks floor object start [] (p ∷ ps) [] now = ⊥
Marks floor object start [] (p ∷ ps) (t ∷ ts) now = ⊥
Marks floor object start (c ∷ cs) [] [] now = ⊥
Marks floor object start (c ∷ cs) [] (t ∷ ts) now = ⊥
Marks floor object start (c ∷ cs) (p ∷ ps) [] now = ⊥

module _ (floor : ℕ) (object : Bool) (start : Start) where
  pub marks_lengths : (cs : List Copy) (ps : List Mark) (ts : List Tally) (now : Stand) → Marks floor object start cs ps ts now
      → (length cs ≡ length ps) × (length ts ≡ length ps)
  marks_lengths [] [] [] now x = (refl, refl)
  marks_lengths (c ∷ cs) (p ∷ ps) (t ∷ ts) now x = let r = marks_lengths cs ps ts x.then x.rest in (ap (λ n. suc n) r.0, ap (λ n. suc n) r.1)
  marks_lengths [] [] (t ∷ ts) now x = absurd x
  marks_lengths [] (p ∷ ps) [] now x = absurd x
  marks_lengths [] (p ∷ ps) (t ∷ ts) now x = absurd x
  marks_lengths (c ∷ cs) [] [] now x = absurd x
  marks_lengths (c ∷ cs) [] (t ∷ ts) now x = absurd x
  marks_lengths (c ∷ cs) (p ∷ ps) [] now x = absurd x

  -- A CALL changes the latest link only.
  pub marks_later : (cs : List Copy) (ps : List Mark) (ts : List Tally) {later now : Stand} → Since object later now
      → Marks floor object start cs ps ts now → Marks floor object start cs ps ts later
  marks_later [] [] [] s x = tt
  marks_later (c ∷ cs) (p ∷ ps) (t ∷ ts) s x =
      record {
        then = x.then;
        since = since_more object s x.since;
        copied = x.copied;
        grows = x.grows;
        layer = x.layer;
        value = x.value;
        names = x.names;
        text = x.text;
        entries = x.entries;
        undo = x.undo;
        count = x.count;
        tally = x.tally;
        rest = x.rest;
      }
  marks_later [] [] (t ∷ ts) s x = absurd x
  marks_later [] (p ∷ ps) [] s x = absurd x
  marks_later [] (p ∷ ps) (t ∷ ts) s x = absurd x
  marks_later (c ∷ cs) [] [] s x = absurd x
  marks_later (c ∷ cs) [] (t ∷ ts) s x = absurd x
  marks_later (c ∷ cs) (p ∷ ps) [] s x = absurd x

  -- THE MARKS before the latest ones
  pub marks_drop : (n : ℕ) (cs : List Copy) (ps : List Mark) (ts : List Tally) (now : Stand) → Marks floor object start cs ps ts now
      → Marks floor object start (drop n cs) (drop n ps) (drop n ts) now
  marks_drop zero cs ps ts now x = x
  marks_drop (suc n) [] [] [] now x = tt
  marks_drop (suc n) (c ∷ cs) (p ∷ ps) (t ∷ ts) now x =
      marks_later (drop n cs) (drop n ps) (drop n ts) x.since (marks_drop n cs ps ts x.then x.rest)
  marks_drop (suc n) [] [] (t ∷ ts) now x = absurd x
  marks_drop (suc n) [] (p ∷ ps) [] now x = absurd x
  marks_drop (suc n) [] (p ∷ ps) (t ∷ ts) now x = absurd x
  marks_drop (suc n) (c ∷ cs) [] [] now x = absurd x
  marks_drop (suc n) (c ∷ cs) [] (t ∷ ts) now x = absurd x
  marks_drop (suc n) (c ∷ cs) (p ∷ ps) [] now x = absurd x

-- names that come later
pub since_names : (object : Bool) {ns ms : List Name} (seg : List Entry) (body : List ℕ) (own : List Entry) (n : ℕ) → Extends ns ms
    → Since object (stand_of ms seg body own n) (stand_of ns seg body own n)
since_names object seg body own n e =
    record {
      names = e;
      more = [];
      body = sym (append-nil body);
      records = [];
      own = sym (append-nil own);
      back = behind_same object seg;
      fewer = omega arith;
    }

-- A VALUE ENTERS a container with a mark.
since_note : (object : Bool) (ns : List Name) (nm : Option Name) (o n : ℕ) (seg : List Entry) (body bs : List ℕ) (own : List Entry) (count : ℕ)
    → Named object nm
    → Since object (stand_of ns (note_in ns nm o seg) (body ++ bs) (own ++ record_of (suc n) (link_in ns nm seg)) (cond object count (count + 1)))
    (stand_of ns seg body own count)
since_note object ns nm o n seg body bs own count h =
    record {
      names = extends_same ns;
      more = bs;
      body = refl;
      records = record_of (suc n) (link_in ns nm seg);
      own = refl;
      back = behind_note ns object nm o n h (behind_same object seg);
      fewer = go object;
    }
  where
    go : (t : Bool) → count ≤ cond t count (count + 1)
    go true = omega arith
    go false = omega arith

module _ (floor : ℕ) (object : Bool) (start : Start) (ns : List Name) (nm : Option Name) (o : ℕ) (seg : List Entry) (body bs : List ℕ) (own : List Entry)
    (count : ℕ) (h : Named object nm) where
  abbrev next : ℕ → Stand
  next n = stand_of ns (note_in ns nm o seg) (body ++ bs) (own ++ record_of n (link_in ns nm seg)) (cond object count (count + 1))

  pub marks_enter : (cs : List Copy) (ps : List Mark) (ts : List Tally) → Marks floor object start cs ps ts (stand_of ns seg body own count)
      → Marks floor object start cs ps ts (next (length ps))
  marks_enter [] [] [] x = tt
  marks_enter (c ∷ cs) (p ∷ ps) (t ∷ ts) x =
      marks_later floor object start (c ∷ cs) (p ∷ ps) (t ∷ ts) (since_note object ns nm o (length ps) seg body bs own count h) x
  marks_enter [] [] (t ∷ ts) x = absurd x
  marks_enter [] (p ∷ ps) [] x = absurd x
  marks_enter [] (p ∷ ps) (t ∷ ts) x = absurd x
  marks_enter (c ∷ cs) [] [] x = absurd x
  marks_enter (c ∷ cs) [] (t ∷ ts) x = absurd x
  marks_enter (c ∷ cs) (p ∷ ps) [] x = absurd x

-- A return: entries cut and undo records undone, the newest first, bring the entries of a mark again.
use mathlib.Core.Path.{◌≡◌, refl, sym, ◌∙◌, ap}
use mathlib.Core.Bool.{Bool, true, false, cond}
use mathlib.Core.List.{List, [], ◌∷◌, ◌++◌, append-nil}
use mathlib.Core.Option.{Option, none, some}
use Prim.Native.Nat.{ℕ, zero, suc, ◌≤◌}
use native.Mathlib.Omega.{arith}
use lib.Dec.{eqb}
use lib.ListN.{take, length, length-append}
use lib.Seq.{take_at, take-take}
use Rattle.std.specs.Prelude.{Option as Optional, Some, None}
use Rattle.metadata.specs.Names.{Name, place}
use Rattle.container.specs.declared.Entry.{Entry}
use Rattle.container.specs.Undo.{restore, replay}
use Rattle.container.proofs.UndoLaws.{replay_append}
use Rattle.semantics.proofs.HistoryLaws.{Named}
use Rattle.semantics.proofs.Machine.{put, find, note_in, link_in, record_of, unwound}
use Rattle.semantics.proofs.LayerLaws.{entry, Origin, put_cases, put_origin}

-- a restored entry and a cut do not disturb each other
take_restore : (n : ℕ) (u : Entry) (es : List Entry) → take n (restore u es) ≡ restore u (take n es)
unfolding restore
take_restore zero u es = refl
take_restore (suc n) u [] = refl
take_restore (suc n) u (e ∷ es) = go (eqb e.id u.id) (take_restore n u es)
  where
    go : (t : Bool) → take n (restore u es) ≡ restore u (take n es)
        → take (suc n) (cond t (record { id = e.id; offset = u.offset } ∷ es) (e ∷ restore u es))
        ≡ cond t (record { id = e.id; offset = u.offset } ∷ take n es) (e ∷ restore u (take n es))
    go true h = refl
    go false h = ap (λ z. e ∷ z) h

take_replay : (n : ℕ) (us es : List Entry) → take n (replay us es) ≡ replay us (take n es)
unfolding replay
take_replay n [] es = refl
take_replay n (u ∷ us) es = take_restore n u (replay us es) ∙ ap (restore u) (take_replay n us es)

-- what a record says of a replacement: the former offset
abbrev Former : Optional Entry → ℕ → Type 0
Former None q = ⊥
Former (Some e) q = e.offset ≡ q

-- THE REPLACEMENT: however much is cut, the record brings the entries before it again.
restore_put : (n i o q : ℕ) (es : List Entry) → Former (find i es) q → restore (entry i q) (take n (put i o es)) ≡ take n es
unfolding restore put find
restore_put n i o q [] f = absurd f
restore_put zero i o q (e ∷ es) f = refl
restore_put (suc n) i o q (e ∷ es) f = go (eqb e.id i) refl f (restore_put n i o q es)
  where
    go : (t : Bool) → eqb e.id i ≡ t → Former (cond t (Some (entry i e.offset)) (find i es)) q
        → (Former (find i es) q → restore (entry i q) (take n (put i o es)) ≡ take n es)
        → restore (entry i q) (take (suc n) (cond t (entry e.id o ∷ es) (e ∷ put i o es))) ≡ e ∷ take n es
    go true p f h = rw p (ap (λ z. record { id = e.id; offset = z } ∷ take n es) (sym f))
    go false p f h = rw p (ap (λ z. e ∷ z) (h f))

-- ---- one state is behind another: its entries are those of the later one, cut and with the records between undone

pub record Behind (object : Bool) (later us earlier : List Entry) : Type 0 where
  pub back : unwound object us (take (length earlier) later) ≡ earlier
  pub fewer : length earlier ≤ length later

pub behind_same : (object : Bool) (es : List Entry) → Behind object es [] es
unfolding unwound replay
behind_same object es = record { back = go object; fewer = omega arith }
  where
    e : take (length es) es ≡ es
    e = ap (take (length es)) (sym (append-nil es)) ∙ take_at es [] (length es) refl

    go : (t : Bool) → cond t (take (length es) es) (take (length es) es) ≡ es
    go true = e
    go false = e

pub behind_trans : (object : Bool) {c b a us vs : List Entry} → Behind object c us b → Behind object b vs a → Behind object c (vs ++ us) a
unfolding unwound
behind_trans true {c} {b} {a} {us} {vs} x y =
    let cut = take-take (length a) (length b) c y.fewer in
    let e : take (length a) (replay us (take (length b) c)) ≡ replay us (take (length a) c) =
    take_replay (length a) us (take (length b) c) ∙ ap (replay us) cut in
    record {
      back = replay_append vs us (take (length a) c) ∙ (ap (replay vs) (sym e ∙ ap (take (length a)) x.back) ∙ y.back);
      fewer = (let p = x.fewer in let q = y.fewer in omega arith);
    }
behind_trans false {c} {b} {a} {us} {vs} x y =
    record {
      back = sym (take-take (length a) (length b) c y.fewer) ∙ (ap (take (length a)) x.back ∙ y.back);
      fewer = (let p = x.fewer in let q = y.fewer in omega arith);
    }

take_front : (n : ℕ) (es fs : List Entry) → n ≤ length es → take n (es ++ fs) ≡ take n es
take_front zero es fs h = refl
take_front (suc n) [] fs h = absurd (omega arith)
take_front (suc n) (e ∷ es) fs h = ap (λ z. e ∷ z) (take_front n es fs (omega arith))

-- a new entry
behind_last : {object : Bool} {later us earlier : List Entry} (e : Entry) → Behind object later us earlier → Behind object (later ++ (e ∷ [])) us earlier
behind_last {object} {later} {us} {earlier} e x =
    record {
      back = ap (unwound object us) (take_front (length earlier) later (e ∷ []) x.fewer) ∙ x.back;
      fewer = (let p = x.fewer in omega (arith, length-append later (e ∷ [])));
    }

-- a replaced one
behind_put : {later us earlier : List Entry} (i o q : ℕ) → Former (find i later) q → length later ≤ length (put i o later) → Behind true later us earlier
    → Behind true (put i o later) (us ++ (entry i q ∷ [])) earlier
unfolding unwound replay
behind_put {later} {us} {earlier} i o q f l x =
    record {
      back =
          replay_append us (entry i q ∷ []) (take (length earlier) (put i o later))
          ∙ (ap (replay us) (restore_put (length earlier) i o q later f) ∙ x.back);
      fewer = (let p = x.fewer in omega arith);
    }

put_longer : (i o : ℕ) (es : List Entry) → length es ≤ length (put i o es)
put_longer i o es = put_cases (λ es fs p t. length es ≤ length fs) i o es (omega arith) (λ e es p. omega arith) (λ e es p h. omega arith)

-- A NOTE under a mark, with its record.
pub behind_note : (ns : List Name) (object : Bool) (nm : Option Name) (o n : ℕ) {later us earlier : List Entry} → Named object nm
    → Behind object later us earlier
    → Behind object (note_in ns nm o later) (us ++ record_of (suc n) (link_in ns nm later)) earlier
unfolding note_in link_in record_of
behind_note ns true none o n h x = absurd h
behind_note ns false (some y) o n h x = absurd h
behind_note ns false none o n {us = us} h x = rw (append-nil us) x
behind_note ns true (some y) o n {later} {us} {earlier} h x = go (find (place y ns) later) refl (put_origin (place y ns) o later)
  where
    go : (p : Optional Entry) → find (place y ns) later ≡ p → Origin (place y ns) o p later (put (place y ns) o later)
        → Behind true (put (place y ns) o later) (us ++ record_of (suc n) p) earlier
    go None e r = rw (append-nil us, r) (behind_last (entry (place y ns) o) x)
    go (Some f) e r = rw r.0 (behind_put (place y ns) o f.offset (rw e refl) (put_longer (place y ns) o later) x)

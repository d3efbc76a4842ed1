-- Runs: after every list of calls from a fresh builder the state represents a machine that is linked to the account.
use mathlib.Core.Path.{◌≡◌, refl, sym, ◌∙◌, ap}
use mathlib.Core.Bool.{Bool, true, false, not, ◌&&◌, ◌||◌, true≢false}
use mathlib.Core.List.{List, [], ◌∷◌, ◌++◌}
use Prim.Native.Nat.{ℕ}
use native.Mathlib.Omega.{arith}
use lib.Dec.{eqb}
use lib.ListN.{take}
use borrow.Author.Tests.{eqb-true, eqb-false}
use Rattle.encoding.specs.Rows.{first, test_of, Clear, order, in_order}
use Rattle.encoding.proofs.RowsLaws.{first_none, clear_at}
use Rattle.semantics.specs.Record.{State, view_at, fixed, civil, packed, bytes, uuid, Call, register, append, open_in, close, roll_back, uniqueness, set_mark, return_to, finish}
use Rattle.semantics.specs.Step.{step, after, output_of, written_by}
use Rattle.semantics.specs.History.{accepted, fed}
use Rattle.semantics.specs.Ledger.{Lent, Account, refusal_of}
use Rattle.semantics.specs.Run.{Fresh, FinishedRun, floor_of, run, refused, is_finish, dictionary_bytes, history_from, history_of, no_account, account_after, account_from, account_of, lent_by}
use Rattle.semantics.proofs.Demand1.{step_number_lem, number_leaves}
use Rattle.semantics.proofs.Machine.{Machine, apply, rows_at, number_at}
use Rattle.semantics.proofs.Refinement.{Represents, represents_fresh, represents_number, represents_step, represents_lent}
use Rattle.semantics.proofs.Simulation.{Linked, linked_fresh, linked_step, linked_number, linked_orderly, linked_refused, account_refused}

-- ---- a call that is carried out

-- the rows of each call are in the table's order
rows_in_order : (m : Machine) (lent : Lent) (c : Call) → in_order order (rows_at m lent c) ≡ true
rows_in_order m lent (register n) = refl
rows_in_order m lent (append nm (fixed x)) = refl
rows_in_order m lent (append nm (civil x)) = refl
rows_in_order m lent (append nm (packed scale bs)) = refl
rows_in_order m lent (append nm (bytes k bs)) = refl
rows_in_order m lent (append nm (uuid bs)) = refl
rows_in_order m lent (open_in nm k) = refl
rows_in_order m lent close = refl
rows_in_order m lent roll_back = refl
rows_in_order m lent (uniqueness u) = refl
rows_in_order m lent set_mark = refl
rows_in_order m lent (return_to j) = refl
rows_in_order m lent (finish out) = refl

-- number 0 says that no row's test holds
pub rows_clear : (m : Machine) (lent : Lent) (c : Call) → number_at m lent c ≡ 0 → Clear (rows_at m lent c)
unfolding number_at
rows_clear m lent c e = (first_none order (rows_at m lent c) (rows_in_order m lent c)).0 e

-- what a call that is carried out gives
pub step_done : (s : State) (c : Call) → (step s c).number ≡ 0
    → step s c ≡ record { number = 0; state = after s c; output = output_of (view_at s) s.storage c; written = written_by (view_at s) s.storage c }
unfolding step
step_done s c e = let n = sym (step_number_lem s c) ∙ e in rw n

-- whether a call was refused, by its number
refused_one : (s : State) (c : Call) (n : ℕ) → (step s c).number ≡ n → refused s c ≡ not (eqb n 0)
unfolding refused
refused_one s c n e = rw e

-- ---- the relation

-- a state beside an account, over so much lent storage
pub record Follows (lent : Lent) (s : State) (a : Account) : Type 0 where
  pub machine : Machine
  pub represents : Represents s machine
  pub linked : Linked machine a
  pub room : lent_by s.storage ≡ lent

-- A FRESH BUILDER
pub follows_fresh : (s : State) → Fresh s → Follows (lent_by s.storage) s (no_account s.builder.counts.unique (floor_of s))
follows_fresh s f =
    record {
      machine =
          record {
            bytes = [];
            names = [];
            entries = [];
            undos = [];
            conts = [];
            elements = [];
            chains = [];
            unique = s.builder.counts.unique;
            finished = false;
            floor = floor_of s;
          };
      represents = represents_fresh s f;
      linked = linked_fresh s.builder.counts.unique (floor_of s) f.floor;
      room = refl;
    }

module _ {lent : Lent} {s : State} {a : Account} (x : Follows lent s a) where
  -- the machine's number
  pub follows_at : (c : Call) → (step s c).number ≡ number_at x.machine lent c
  follows_at c = step_number_lem s c ∙ (represents_number x.represents (linked_orderly x.linked) c ∙ ap (λ l. number_at x.machine l c) x.room)

  -- THE NUMBER of a call
  pub follows_number : (c : Call) → (step s c).number ≡ refusal_of a lent c
  follows_number c = follows_at c ∙ linked_number x.linked lent c

  -- carried out, no row's test holds
  pub follows_clear : (c : Call) → (step s c).number ≡ 0 → Clear (rows_at x.machine lent c)
  follows_clear c e = rows_clear x.machine lent c (sym (follows_at c) ∙ e)

  -- row n's neither
  pub follows_none : (c : Call) → (step s c).number ≡ 0 → (n : ℕ) → test_of n (rows_at x.machine lent c) ≡ false
  follows_none c e n = clear_at n (rows_at x.machine lent c) (follows_clear c e)

  -- THE STEP
  pub follows_step : (c : Call) → Follows lent (step s c).state (account_after a c (refused s c))
  unfolding refused
  follows_step c = go (eqb (step s c).number 0) refl
    where
      go : (t : Bool) → eqb (step s c).number 0 ≡ t → Follows lent (step s c).state (account_after a c (not t))
      go true p =
          let e = eqb-true (step s c).number 0 p in
          let n = sym (step_number_lem s c) ∙ e in
          let o = linked_orderly x.linked in
          rw (step_done s c e) (record {
            machine = apply x.machine c;
            represents = represents_step x.represents o c n;
            linked = linked_step x.linked lent c (follows_clear c e);
            room = represents_lent x.represents o c n ∙ x.room;
          })
      go false p =
          let e = (number_leaves s c (eqb-false (step s c).number 0 p)).0 in
          rw e (record { machine = x.machine; represents = x.represents; linked = linked_refused x.linked c; room = x.room })

-- ---- every list of calls

-- from any state and account that follow each other
pub follows_from : {lent : Lent} {s : State} {a : Account} → Follows lent s a → (cs : List Call)
    → Follows lent (run s cs) (account_from a s cs)
unfolding run account_from account_after
follows_from x [] = x
follows_from {s = s} {a = a} x (c ∷ cs) = follows_from {s = (step s c).state} {a = account_after a c (refused s c)} (follows_step x c) cs

-- THE RUN: after every list of calls from a fresh builder.
pub follows_run : (s : State) (cs : List Call) → Fresh s → Follows (lent_by s.storage) (run s cs) (account_of s cs)
unfolding account_of
follows_run s cs f = follows_from (follows_fresh s f) cs

history_from_lem : (a : Account) (s : State) (cs : List Call) → (account_from a s cs).history ≡ history_from a.history s cs
unfolding account_from history_from account_after
history_from_lem a s [] = refl
history_from_lem a s (c ∷ cs) = history_from_lem (account_after a c (refused s c)) (step s c).state cs

-- the account's history is the history
pub account_history : (s : State) (cs : List Call) → (account_of s cs).history ≡ history_of s cs
unfolding account_of history_of
account_history s cs = history_from_lem (no_account s.builder.counts.unique (floor_of s)) s cs

floor_from : (a : Account) (s : State) (cs : List Call) → (account_from a s cs).floor ≡ a.floor
unfolding account_from account_after
floor_from a s [] = refl
floor_from a s (c ∷ cs) = floor_from (account_after a c (refused s c)) (step s c).state cs

-- and its floor the run's
pub account_floor : (s : State) (cs : List Call) → (account_of s cs).floor ≡ floor_of s
unfolding account_of
account_floor s cs = floor_from (no_account s.builder.counts.unique (floor_of s)) s cs

-- ---- after an accepted finish

-- every call is refused by row 2
finished_number : (a : Account) (lent : Lent) (c : Call) → a.finished ≡ true → refusal_of a lent c ≡ 2
unfolding refusal_of first
finished_number a lent (register n) e = rw e
finished_number a lent (append nm v) e = rw e
finished_number a lent (open_in nm k) e = rw e
finished_number a lent close e = rw e
finished_number a lent roll_back e = rw e
finished_number a lent (uniqueness u) e = rw e
finished_number a lent set_mark e = rw e
finished_number a lent (return_to j) e = rw e
finished_number a lent (finish out) e = rw e

-- so that nothing changes any more
pub record Stays (s : State) (a : Account) (cs : List Call) : Type 0 where
  pub state : run s cs ≡ s
  pub account : account_from a s cs ≡ a

stays : {lent : Lent} {s : State} {a : Account} → Follows lent s a → a.finished ≡ true → (cs : List Call) → Stays s a cs
unfolding run account_from fed
stays x f [] = record { state = refl; account = refl }
stays {lent} {s} {a} x f (c ∷ cs) =
    let n = follows_number x c ∙ finished_number a lent c f in
    let r = refused_one s c 2 n in
    let e = (number_leaves s c (λ z. omega (arith, n, z))).0 in
    let y = stays x f cs in
    record { state = rw e y.state; account = rw (r, e, account_refused a c) y.account }

-- the accepted finish of a list of calls, from a state with an account
pub record Ends (s : State) (a : Account) (cs : List Call) : Type 0 where
  pub before : List Call
  pub out : List ℕ
  pub after : List Call
  pub calls : cs ≡ before ++ (finish out ∷ after)
  pub number : (step (run s before) (finish out)).number ≡ 0
  pub state : run s cs ≡ (step (run s before) (finish out)).state
  pub history : (account_from a s cs).history ≡ (account_from a s before).history
  pub dictionary : dictionary_bytes s cs ≡ take (step (run s before) (finish out)).written (step (run s before) (finish out)).output

-- a call that is no accepted finish comes before it
ends_later : {s : State} {a : Account} {c : Call} {cs : List Call} → (is_finish c && eqb (step s c).number 0) ≡ false
    → Ends (step s c).state (account_after a c (refused s c)) cs → Ends s a (c ∷ cs)
unfolding run account_from dictionary_bytes account_after
ends_later {c = c} e x =
    record {
      before = c ∷ x.before;
      out = x.out;
      after = x.after;
      calls = ap (λ z. c ∷ z) x.calls;
      number = x.number;
      state = x.state;
      history = x.history;
      dictionary = rw e x.dictionary;
    }

ends_here : {lent : Lent} {s : State} {a : Account} → Follows lent s a → (c : Call) (cs : List Call) → (is_finish c && eqb (step s c).number 0) ≡ true
    → Ends s a (c ∷ cs)
unfolding run account_from dictionary_bytes account_after fed accepted
ends_here x (register n) cs e = absurd (true≢false (sym e))
ends_here x (append nm v) cs e = absurd (true≢false (sym e))
ends_here x (open_in nm k) cs e = absurd (true≢false (sym e))
ends_here x close cs e = absurd (true≢false (sym e))
ends_here x roll_back cs e = absurd (true≢false (sym e))
ends_here x (uniqueness u) cs e = absurd (true≢false (sym e))
ends_here x set_mark cs e = absurd (true≢false (sym e))
ends_here x (return_to j) cs e = absurd (true≢false (sym e))
ends_here {s = s} {a = a} x (finish out) cs e =
    let c = finish out in
    let n = eqb-true (step s c).number 0 e in
    let r = refused_one s c 0 n in
    let y = stays (follows_step x c) (rw r (over a.finished)) cs in
    record {
      before = [];
      out = out;
      after = cs;
      calls = refl;
      number = n;
      state = y.state;
      history = ap (λ z. z.history) y.account ∙ ap (λ z. fed a.history c z) r;
      dictionary = rw e;
    }
  where
    over : (t : Bool) → (t || true) ≡ true
    over true = refl
    over false = refl

-- THE FINISH: a run that is finished, and was not before, has an accepted finish.
pub ends : {lent : Lent} {s : State} {a : Account} → Follows lent s a → a.finished ≡ false → (cs : List Call) → (run s cs).builder.counts.finished ≡ true
    → Ends s a cs
unfolding run account_after refused
ends x f [] e = absurd (true≢false (sym e ∙ (x.represents.stored.finished ∙ (x.linked.finished ∙ f))))
ends {s = s} {a = a} x f (c ∷ cs) e = go (is_finish c && eqb (step s c).number 0) refl (λ g. ends {s = (step s c).state} {a = account_after a c (refused s c)} (follows_step x c) g cs e)
  where
    twice : (t : Bool) → not (not t) ≡ t
    twice true = refl
    twice false = refl

    go : (t : Bool) → (is_finish c && eqb (step s c).number 0) ≡ t
        → ((a.finished || (is_finish c && not (not (eqb (step s c).number 0)))) ≡ false
        → Ends (step s c).state (account_after a c (refused s c)) cs)
        → Ends s a (c ∷ cs)
    go true p h = ends_here x c cs p
    go false p h = ends_later p (h (rw (f, twice (eqb (step s c).number 0)) p))

-- of a finished run
pub run_ends : {s : State} {cs : List Call} → FinishedRun s cs → Ends s (no_account s.builder.counts.unique (floor_of s)) cs
run_ends {s} {cs} r = ends (follows_fresh s r.fresh) refl cs r.finished

-- its history is that before the finish
pub run_history : {s : State} {cs : List Call} → (r : FinishedRun s cs) → history_of s cs ≡ (account_of s (run_ends r).before).history
unfolding account_of
run_history {s} {cs} r = sym (account_history s cs) ∙ (run_ends r).history

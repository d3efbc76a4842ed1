-- Demand 2 over the definitions, for every run from a fresh builder: each call's number, the value bytes and the dictionary
-- are those that follow from the accepted calls alone.
use mathlib.Core.Path.{◌≡◌, refl, sym, ◌∙◌, ap}
use mathlib.Core.Bool.{true, false, true≢false}
use mathlib.Core.List.{List, [], ◌∷◌, ◌++◌}
use mathlib.Core.Option.{some}
use Prim.Native.Nat.{ℕ, ◌^◌, ◌≤◌}
use native.Mathlib.Nat.{zero-add}
use native.Mathlib.Omega.{arith}
use lib.ListN.{drop, length, take}
use borrow.Author.Tests.{eqb-false}
use Rattle.encoding.specs.Rows.{order, behind, in_order}
use Rattle.encoding.specs.Slices.{write}
use Rattle.encoding.proofs.RowsLaws.{first_unlisted}
use Rattle.metadata.specs.Bytes.{dictionary, dictionary_names}
use Rattle.semantics.specs.declared.Container.{Container}
use Rattle.semantics.specs.Record.{State, view_at, fixed, civil, packed, bytes, uuid, Call, register, append, open_in, close, roll_back, uniqueness, set_mark, return_to, finish}
use Rattle.semantics.specs.Step.{step, after, finished, dictionary_of}
use Rattle.semantics.specs.Tree.{Tree, encode}
use Rattle.semantics.specs.Ledger.{Lent, Account, refusal_of, refusal_rows}
use Rattle.semantics.specs.Run.{Fresh, FinishedRun, floor_of, AcceptedFinish, run, value_bytes, dictionary_bytes, run_names, kept, kept_dictionary, account_of, lent_by}
use Rattle.semantics.proofs.Demand1.{step_number_lem}
use Rattle.semantics.proofs.Machine.{any_open}
use Rattle.semantics.proofs.Refinement.{represents_value, represents_dictionary, WritesDictionary, represents_finish}
use Rattle.semantics.proofs.Simulation.{linked_top, linked_value}
use Rattle.semantics.proofs.RunLaws.{Follows, follows_run, follows_number, follows_none, step_done, run_ends, run_history, account_floor}

-- ---- the numbers

-- THE NUMBERS: each call of each run gets the number that the accepted calls before it and the lent sizes give.
pub numbers : (s : State) (cs : List Call) (c : Call) → Fresh s → (step (run s cs) c).number ≡ refusal_of (account_of s cs) (lent_by s.storage) c
numbers s cs c f = follows_number (follows_run s cs f) c

refusals_in_order : (a : Account) (lent : Lent) (c : Call) → in_order (behind 1 order) (refusal_rows a lent c) ≡ true
refusals_in_order a lent (register n) = refl
refusals_in_order a lent (append nm (fixed x)) = refl
refusals_in_order a lent (append nm (civil x)) = refl
refusals_in_order a lent (append nm (packed scale bs)) = refl
refusals_in_order a lent (append nm (bytes k bs)) = refl
refusals_in_order a lent (append nm (uuid bs)) = refl
refusals_in_order a lent (open_in nm k) = refl
refusals_in_order a lent close = refl
refusals_in_order a lent roll_back = refl
refusals_in_order a lent (uniqueness u) = refl
refusals_in_order a lent set_mark = refl
refusals_in_order a lent (return_to j) = refl
refusals_in_order a lent (finish out) = refl

-- so that number 1 never comes
pub numbers_never_1 : (s : State) (cs : List Call) (c : Call) → Fresh s → (step (run s cs) c).number ≡ 1 → ⊥
unfolding refusal_of
numbers_never_1 s cs c f e =
    let a = account_of s cs in
    let lent = lent_by s.storage in
    first_unlisted 1 (behind 1 order) (refusal_rows a lent c) (λ z. absurd (omega arith)) refl (refusals_in_order a lent c) (sym (numbers s cs c f) ∙ e)

-- ---- where the accepted finish came

module _ (s : State) (cs : List Call) (r : FinishedRun s cs) where
  abbrev found : State
  found = run s (run_ends r).before

  abbrev last : Call
  last = finish (run_ends r).out

  at_last : Follows (lent_by s.storage) found (account_of s (run_ends r).before)
  at_last = follows_run s (run_ends r).before r.fresh

  -- the dictionary that the state gives
  abbrev stored : List ℕ
  stored = dictionary_of (view_at found) found.storage

  last_done : step found last ≡ record { number = 0; state = after found last; output = write 0 stored (run_ends r).out; written = length stored }
  last_done = step_done found last (run_ends r).number

  last_writes : WritesDictionary found at_last.machine (run_ends r).out
  last_writes = represents_finish at_last.represents (run_ends r).out (sym (step_number_lem found last) ∙ (run_ends r).number)

  last_floor : at_last.machine.floor ≡ floor_of s
  last_floor = at_last.linked.floor ∙ account_floor s (run_ends r).before

  last_names : at_last.machine.names ≡ (kept s cs).names
  unfolding kept
  last_names = at_last.linked.names ∙ ap (λ z. z.names) (sym (run_history r))

  -- the dictionary that the machine's names give
  last_dictionary : dictionary at_last.machine.floor at_last.machine.names ≡ kept_dictionary s cs
  last_dictionary = λ i. dictionary (last_floor i) (last_names i)

  -- few enough for ids of four bytes, since their dictionary was written
  pub names_few : length (kept s cs).names ≤ 256 ^ 4
  names_few = omega (arith, last_writes.many, ap length last_names)

-- ---- the value bytes

none_open : (ks : List Container) → any_open ks ≡ false → ks ≡ []
none_open [] e = refl
none_open (k ∷ ks) e = absurd (true≢false e)

-- a finish leaves the value bytes
finish_value : (s : State) (out : List ℕ) → value_bytes (after s (finish out)) ≡ value_bytes s
unfolding value_bytes after finished
finish_value s out = refl

-- THE VALUE: a finished run has a top value, and its value bytes are that value's.
pub value : (s : State) (cs : List Call) → FinishedRun s cs → (t : Tree) × ((kept s cs).top ≡ some t) × (value_bytes (run s cs) ≡ encode (floor_of s) (kept s cs).names t)
unfolding kept
value s cs r =
    let x = at_last s cs r in
    let m = x.machine in
    let clear = follows_none x (last s cs r) (run_ends r).number in
    let shut = none_open m.conts (clear 4) in
    let t = (linked_top x.linked shut).1 (omega (arith, eqb-false (length m.bytes) 0 (clear 15))) in
    let same : value_bytes (run s cs) ≡ m.bytes =
    ap value_bytes (run_ends r).state ∙ (ap (λ o. value_bytes o.state) (last_done s cs r) ∙ (finish_value (found s cs r) (run_ends r).out ∙ represents_value x.represents)) in
    (t.0, ap (λ z. z.top) (run_history r) ∙ t.1, same ∙ (linked_value x.linked shut t.0 t.1 ∙ (λ i. encode (account_floor s (run_ends r).before i) (sym (run_history r) i).names t.0)))

-- ---- the dictionary

write_front : (bs out : List ℕ) → write 0 bs out ≡ bs ++ drop (length bs) out
unfolding write
write_front bs out = ap (λ n. bs ++ drop n out) (zero-add (length bs))

-- THE DICTIONARY: a finished run has its accepted finish among the calls, and that wrote the dictionary of the kept names.
pub written : (s : State) (cs : List Call) → FinishedRun s cs → AcceptedFinish s cs
unfolding run_names
written s cs r =
    let e = run_ends r in
    let w = last_writes s cs r in
    let d = last_dictionary s cs r in
    let done = last_done s cs r in
    let b : stored s cs r ≡ kept_dictionary s cs = represents_dictionary (at_last s cs r).represents ∙ d in
    let f : dictionary_bytes s cs ≡ kept_dictionary s cs = e.dictionary ∙ (ap (λ o. take o.written o.output) done ∙ (w.front ∙ d)) in
    record {
      before = e.before;
      out = e.out;
      after = e.after;
      calls = e.calls;
      number = e.number;
      output = ap (λ o. o.output) done ∙ (ap (λ z. write 0 z e.out) b ∙ write_front (kept_dictionary s cs) e.out);
      written = ap (λ o. o.written) done ∙ ap length b;
      state = e.state;
      dictionary = f;
      names = ap dictionary_names (f ∙ sym d) ∙ (w.read ∙ last_names s cs r);
    }

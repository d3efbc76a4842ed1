-- The demands over `step`, the meaning of a call (specs/Step), on one page.
use mathlib.Core.Path.{◌≡◌}
use mathlib.Core.Logic.{◌↔◌, ◌⊎◌}
use mathlib.Core.Bool.{true, false}
use mathlib.Core.List.{List}
use mathlib.Core.Option.{some}
use Prim.Native.Nat.{ℕ}
use lib.ListN.{drop, length}
use Rattle.encoding.specs.Rows.{FirstHolds, Clear, order, listed, first}
use Rattle.encoding.proofs.RowsLaws.{first_none}
use Rattle.metadata.specs.Bytes.{dictionary_names}
use Rattle.semantics.specs.Record.{State, Call, finish, view_at, good_floor}
use Rattle.semantics.specs.Table.{rows, make_rows}
use Rattle.semantics.specs.Step.{step, lent_output}
use Rattle.semantics.specs.Tree.{Tree, encode}
use Rattle.semantics.specs.Ledger.{total, refusal_of}
use Rattle.semantics.specs.Run.{Fresh, FinishedRun, AcceptedFinish, floor_of, run, value_bytes, dictionary_bytes, run_names, kept, kept_dictionary, account_of, lent_by, Made, FinishedCalls}
use Rattle.semantics.proofs.Demand1 as one
use Rattle.semantics.proofs.Demand2 as two
use Rattle.semantics.proofs.Demand3 as three
use Rattle.semantics.proofs.Account as bytes
use Rattle.semantics.proofs.EndLaws as ends
use Rattle.semantics.proofs.MadeLaws as calls

-- 1 Total. Any call, in any order, with any bytes and any lent storage, is either carried out or answered with one number of
-- document 01's table: s is any state, 0 says carried out, and a number comes where its row is the first that holds.
pub known : (s : State) (c : Call) → ((step s c).number ≡ 0) ⊎ (listed (step s c).number order ≡ true)
known s c = rw (one.step_number_lem s c) (one.number_known (view_at s) s.storage c)

pub carried_out_lem : (s : State) (c : Call) → ((step s c).number ≡ 0) ↔ Clear (rows (view_at s) s.storage c)
carried_out_lem s c = rw (one.step_number_lem s c) (one.number_none (view_at s) s.storage c)

pub answered : (s : State) (c : Call) (n : ℕ) → (n ≡ 0 → ⊥) → ((step s c).number ≡ n) ↔ FirstHolds n (rows (view_at s) s.storage c)
answered s c n z = rw (one.step_number_lem s c) (one.number_exact (view_at s) s.storage c n z)

-- After a number the builder and all the storage are as before, finish's output too.
pub leaves : (s : State) (c : Call) → ((step s c).number ≡ 0 → ⊥) → ((step s c).state ≡ s) × ((step s c).output ≡ lent_output c) × ((step s c).written ≡ 0)
leaves = one.number_leaves

-- Document 02, A10: "It refuses, with 24 when the builder is made, any other floor; a builder found holding another is 1 at every call",
-- finished or not.
pub made_floor : (floor : ℕ) → (first (make_rows floor) ≡ 0) ↔ Clear (make_rows floor)
made_floor floor = first_none order (make_rows floor) (one.make_order floor)

pub bad_floor_lem : (s : State) (c : Call) → good_floor (floor_of s) ≡ false → (step s c).number ≡ 1
bad_floor_lem s c e = rw (one.step_number_lem s c) (one.floor_number (view_at s) s.storage c e)

-- "No call writes a value byte past its new end; finish writes only the dictionary": in any state, refused or not
pub past_end : (s : State) (c : Call)
    → drop (step s c).state.builder.counts.value (step s c).state.storage.value ≡ drop (step s c).state.builder.counts.value s.storage.value
past_end = ends.past_end

pub past_written : (s : State) (out : List ℕ) → drop (step s (finish out)).written (step s (finish out)).output ≡ drop (step s (finish out)).written out
past_written = ends.past_written

-- 2 Exact. A finished run yields exactly the bytes that the Parquet document (then the Rust) defines for the accepted calls:
-- the kept top value's bytes, and the dictionary of the kept names, which the accepted finish wrote, and nothing else.
pub value : (s : State) (cs : List Call) → FinishedRun s cs → (t : Tree) × ((kept s cs).top ≡ some t) × (value_bytes (run s cs) ≡ encode (floor_of s) (kept s cs).names t)
value = two.value

pub written : (s : State) (cs : List Call) → FinishedRun s cs → AcceptedFinish s cs
written = two.written

-- Each refusal comes under its listed condition and under no other: in a run, by the accepted calls and what is lent.
pub numbers : (s : State) (cs : List Call) (c : Call) → Fresh s → (step (run s cs) c).number ≡ refusal_of (account_of s cs) (lent_by s.storage) c
numbers = two.numbers

-- "From a fresh builder on, used value bytes always equal the bytes of the scalars kept plus the headers closed"
pub account : (s : State) (cs : List Call) → Fresh s → (run s cs).builder.counts.value ≡ total (account_of s cs).tallies
account = bytes.account

-- The used count is the length of the value bytes, so that these are all there.
pub used : (s : State) (cs : List Call) → Fresh s → (run s cs).builder.counts.value ≡ length (value_bytes (run s cs))
used = bytes.used

-- 3 Faithful. For every two lists of calls, each finished from a fresh builder: value bytes and dictionary are equal exactly when
-- the kept records are equal. One claim about two runs. Document 02, A3: "Equality of two runs by their kept records now takes in every
-- dictionary byte."
pub faithful : (s t : State) (cs ds : List Call) → FinishedRun s cs → FinishedRun t ds → floor_of s ≡ floor_of t
    → ((value_bytes (run s cs) ≡ value_bytes (run t ds)) × (dictionary_bytes s cs ≡ dictionary_bytes t ds)) ↔ (kept s cs ≡ kept t ds)
faithful = three.demand3

-- so that the dictionary's names alone are enough
pub faithful_names : (s t : State) (cs ds : List Call) → FinishedRun s cs → FinishedRun t ds → floor_of s ≡ floor_of t
    → ((value_bytes (run s cs) ≡ value_bytes (run t ds)) × (run_names s cs ≡ run_names t ds)) ↔ (kept s cs ≡ kept t ds)
faithful_names = three.demand3_names

-- 2 and 3 of calls made. "Each call gets the builder that the last one returned or left, and the same storage as it was left": of
-- calls made so, u is what the last one left, and d the dictionary in the output of the accepted finish.
pub made : {s u : State} {cs : List Call} {d : List ℕ} → Made s cs u d → (u ≡ run s cs) × (d ≡ dictionary_bytes s cs)
made m = (calls.made_run m, calls.made_dictionary m)

pub made_value : {s u : State} {cs : List Call} {d : List ℕ} → FinishedCalls s cs u d
    → (t : Tree) × ((kept s cs).top ≡ some t) × (value_bytes u ≡ encode (floor_of s) (kept s cs).names t)
made_value = calls.made_value

pub made_written : {s u : State} {cs : List Call} {d : List ℕ} → FinishedCalls s cs u d → (d ≡ kept_dictionary s cs) × (dictionary_names d ≡ (kept s cs).names)
made_written = calls.made_written

pub made_faithful : {s t u v : State} {cs ds : List Call} {d e : List ℕ} → FinishedCalls s cs u d → FinishedCalls t ds v e → floor_of s ≡ floor_of t
    → ((value_bytes u ≡ value_bytes v) × (d ≡ e)) ↔ (kept s cs ≡ kept t ds)
made_faithful = calls.made_faithful

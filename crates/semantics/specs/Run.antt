-- A list of calls, run from a builder over its storage.
use Rattle.std.specs.Prelude.{◌≡◌, Bool, true, false, cond, not, ◌&&◌, ◌||◌, List, [], ◌∷◌, ◌++◌, ℕ, eqb, drop, length, take}
use Rattle.metadata.specs.Names.{Name}
use Rattle.metadata.specs.Bytes.{dictionary_names}
use Rattle.metadata.specs.Bytes as bytes
use Rattle.metadata.specs.Calls as dictionary
use Rattle.semantics.specs.declared.Counts.{Counts}
use Rattle.semantics.specs.Record.{Storage, State, table_size, good_floor, Call, register, append, open_in, close, roll_back, uniqueness, set_mark, return_to, finish}
use Rattle.semantics.specs.Step.{step}
use Rattle.semantics.specs.Ledger.{Account, Lent, no_ledger, ledger_after}
use Rattle.semantics.specs.History.{History, no_history, fed, Kept, kept_of}

-- document 01, "A fresh builder: nothing used or open, .. no finish accepted, either uniqueness mark"; since document 02's A3 it has no
-- sorted mark, and by A10 "A fresh builder takes a floor of 1 to 4 bytes"; its table of marks is of its size, with any content
pub record Fresh (s : State) : Type 0 where
  pub value : s.builder.counts.value ≡ 0
  pub entries : s.builder.counts.entries ≡ 0
  pub undo : s.builder.counts.undo ≡ 0
  pub depth : s.builder.counts.depth ≡ 0
  pub dictionary : s.builder.counts.dictionary ≡ dictionary.fresh
  pub finished : s.builder.counts.finished ≡ false
  pub containers : length s.builder.containers ≡ 64
  pub elements : length s.builder.elements ≡ 64
  pub marks : length s.marks ≡ table_size
  pub floor : good_floor s.builder.counts.floor ≡ true

-- the counts that a maker gives
abbrev pub fresh_counts : Bool → ℕ → Counts
fresh_counts u floor =
    record { value = 0; entries = 0; undo = 0; depth = 0; dictionary = dictionary.fresh; unique = u; finished = false; floor = floor }

-- the floor of a builder
abbrev pub floor_of : State → ℕ
floor_of s = s.builder.counts.floor

-- "Each call gets the builder that the last one returned or left, and the same storage as it was left"
unfoldable pub run : State → List Call → State
run s [] = s
run s (c ∷ cs) = run (step s c).state cs

unfoldable pub refused : State → Call → Bool
refused s c = not (eqb (step s c).number 0)

-- "A finished run .. is a list of calls so run from a fresh builder, with an accepted finish"
pub record FinishedRun (s : State) (cs : List Call) : Type 0 where
  pub fresh : Fresh s
  pub finished : (run s cs).builder.counts.finished ≡ true

-- "Its value bytes are the used ones"
unfoldable pub value_bytes : State → List ℕ
value_bytes s = take s.builder.counts.value s.storage.value

abbrev pub is_finish : Call → Bool
is_finish (register n) = false
is_finish (append nm v) = false
is_finish (open_in nm k) = false
is_finish close = false
is_finish roll_back = false
is_finish (uniqueness u) = false
is_finish set_mark = false
is_finish (return_to j) = false
is_finish (finish out) = true

-- the dictionary that the accepted finish wrote
unfoldable pub dictionary_bytes : State → List Call → List ℕ
dictionary_bytes s [] = []
dictionary_bytes s (c ∷ cs) =
    let o = step s c in
    let later = dictionary_bytes o.state cs in
    cond (is_finish c && eqb o.number 0) (take o.written o.output) later

-- "its dictionary names those in the dictionary which that finish wrote, in order of id"
unfoldable pub run_names : State → List Call → List Name
run_names s cs = dictionary_names (dictionary_bytes s cs)

-- ---- calls made

-- "Each call gets the builder that the last one returned or left, and the same storage as it was left": calls made so from the
-- state s, the state that the last one left, and the dictionary of the accepted finish. Of a finish, n is the number that it
-- answered, w the bytes that it wrote, and left its output then.
pub data Made : State → List Call → State → List ℕ → Type 0 where
  no_call : {s : State} → Made s [] s []
  a_call : {s t u : State} {c : Call} {cs : List Call} {d : List ℕ} → is_finish c ≡ false → t ≡ (step s c).state → Made t cs u d → Made s (c ∷ cs) u d
  a_finish : {s t u : State} {n w : ℕ} {out left : List ℕ} {cs : List Call} {d : List ℕ} → n ≡ (step s (finish out)).number → t ≡ (step s (finish out)).state
      → left ≡ (step s (finish out)).output → w ≡ (step s (finish out)).written → Made t cs u d → Made s (finish out ∷ cs) u (cond (eqb n 0) (take w left) d)

-- a finished run, of calls made
pub record FinishedCalls (s : State) (cs : List Call) (u : State) (d : List ℕ) : Type 0 where
  pub fresh : Fresh s
  pub made : Made s cs u d
  pub finished : u.builder.counts.finished ≡ true

-- ---- what the history holds after the calls, fed whether each was refused

unfoldable pub history_from : History → State → List Call → History
history_from h s [] = h
history_from h s (c ∷ cs) = history_from (fed h c (refused s c)) (step s c).state cs

unfoldable pub history_of : State → List Call → History
history_of s cs = history_from no_history s cs

unfoldable pub kept : State → List Call → Kept
kept s cs = kept_of (history_of s cs)

-- the dictionary of the kept names, at the run's floor
abbrev pub kept_dictionary : State → List Call → List ℕ
kept_dictionary s cs = bytes.dictionary (floor_of s) (kept s cs).names

-- the accepted finish of a run: it is one of the calls, "writes only the dictionary", and nothing changes after it
pub record AcceptedFinish (s : State) (cs : List Call) : Type 0 where
  pub before : List Call
  pub out : List ℕ
  pub after : List Call
  pub calls : cs ≡ before ++ (finish out ∷ after)
  pub number : (step (run s before) (finish out)).number ≡ 0
  pub output : (step (run s before) (finish out)).output ≡ kept_dictionary s cs ++ drop (length (kept_dictionary s cs)) out
  pub written : (step (run s before) (finish out)).written ≡ length (kept_dictionary s cs)
  pub state : run s cs ≡ (step (run s before) (finish out)).state
  pub dictionary : dictionary_bytes s cs ≡ kept_dictionary s cs
  pub names : run_names s cs ≡ (kept s cs).names

-- ---- the account of the calls so far, fed whether each was refused

abbrev pub no_account : Bool → ℕ → Account
no_account unique floor = record { history = no_history; tallies = no_ledger unique; finished = false; floor = floor }

unfoldable pub account_after : Account → Call → Bool → Account
account_after a c refused =
    record {
      history = fed a.history c refused;
      tallies = ledger_after a.floor a.history a.tallies c refused;
      finished = a.finished || (is_finish c && not refused);
      floor = a.floor;
    }

unfoldable pub account_from : Account → State → List Call → Account
account_from a s [] = a
account_from a s (c ∷ cs) = account_from (account_after a c (refused s c)) (step s c).state cs

-- "From a fresh builder on ..", of "either uniqueness mark"
unfoldable pub account_of : State → List Call → Account
account_of s cs = account_from (no_account s.builder.counts.unique (floor_of s)) s cs

abbrev pub lent_by : Storage → Lent
lent_by l =
    record { value = length l.value; text = length l.text; ends = length l.ends; entries = length l.entries; undo = length l.undo }

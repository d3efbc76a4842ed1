-- Document 02, A6: "The pair that any finished run, as 01 defines it, yields must be accepted." With A1 to A5 and A8 to A10 in force: names
-- registered inside containers, dates and packed decimals, dictionaries with the mark, lists without entries, marks and returns, and every floor.
use mathlib.Core.Path.{◌≡◌}
use mathlib.Core.List.{List}
use mathlib.Core.Option.{some}
use Prim.Native.Nat.{ℕ}
use lib.ListN.{length}
use Rattle.metadata.specs.Names.{Name, sorted}
use Rattle.metadata.specs.Bytes.{joined, number_width, dictionary_names}
use Rattle.semantics.specs.Record.{State, Call}
use Rattle.semantics.specs.Tree.{Tree}
use Rattle.semantics.specs.Run.{FinishedRun, FinishedCalls, floor_of, run, value_bytes, dictionary_bytes, run_names, kept}
use Rattle.semantics.proofs.TreeLaws.{Apart}
use Rattle.semantics.proofs.HistoryLaws.{kept_apart}
use Rattle.semantics.proofs.Demand2.{names_few, value, written}
use Rattle.semantics.proofs.Demand3.{sound}
use Rattle.semantics.proofs.MadeLaws.{made_finished}
use Rattle.semantics.proofs.Demands.{made}
use Rattle.lexicon.specs.Dictionary.{width_in, mark_in}
use Rattle.lexicon.proofs.DictionaryLaws.{dictionary_reads, reads_width, reads_mark, reads_names}
use Rattle.encoding.specs.Rows.{first}
use Rattle.grammar.specs.Grammar.{Shape, ReadsPair}
use Rattle.grammar.specs.Tests.{pair_rows}
use Rattle.grammar.proofs.TestLaws.{reads_pair}
use Rattle.accept.specs.Shape.{shape_of}
use Rattle.accept.proofs.TreeReads.{tree_accepted}
use Rattle.accept.proofs.KeptReads.{kept_within, kept_text, kept_small}

-- a pair reads as the dictionary of these names, at that floor, and as this tree
abbrev pub ReadsAs : List ℕ → List ℕ → ℕ → List Name → Tree → Type 0
ReadsAs d v floor names t = ReadsPair d v (number_width floor (length names) (length (joined names))) (sorted names) names (shape_of floor names t)

-- THE READING: what a finished run yields reads as its kept record, the names and the top value.
pub run_read : (s : State) (cs : List Call) → FinishedRun s cs
    → (t : Tree) × ((kept s cs).top ≡ some t) × ReadsAs (dictionary_bytes s cs) (value_bytes (run s cs)) (floor_of s) (kept s cs).names t
run_read s cs r =
    let v = value s cs r in
    let t = v.0 in
    let names = (kept s cs).names in
    let apart : Apart t = rw v.1 at (kept_apart s cs) in
    let second = tree_accepted (floor_of s) names (names_few s cs r) t (sound s cs r) apart (kept_within s cs r.fresh v.1) in
    let first = dictionary_reads (floor_of s) names (kept_text s cs r.fresh) (kept_small s cs r) in
    (t, v.1, rw ((written s cs r).dictionary, v.2) (record { first = first; second = second }))

-- in the width, mark and names that stand in the dictionary
accepted_in : {d v : List ℕ} (floor : ℕ) (names : List Name) (t : Tree) → ReadsAs d v floor names t
    → ReadsPair d v (width_in d) (mark_in d) (dictionary_names d) (shape_of floor names t)
accepted_in floor names t x = rw (reads_width x.first, reads_mark x.first, reads_names x.first) x

-- ACCEPTED: every finished run's pair has a reading.
pub run_accepted : (s : State) (cs : List Call) → FinishedRun s cs
    → (t : Shape) × ReadsPair (dictionary_bytes s cs) (value_bytes (run s cs)) (width_in (dictionary_bytes s cs)) (mark_in (dictionary_bytes s cs)) (run_names s cs) t
unfolding run_names
run_accepted s cs r = let x = run_read s cs r in (shape_of (floor_of s) (kept s cs).names x.0, accepted_in (floor_of s) (kept s cs).names x.0 x.2)

-- The same of calls made: u is what the last one left, and d the dictionary in the output of the accepted finish.
pub made_read : {s u : State} {cs : List Call} {d : List ℕ} → FinishedCalls s cs u d
    → (t : Tree) × ((kept s cs).top ≡ some t) × ReadsAs d (value_bytes u) (floor_of s) (kept s cs).names t
made_read {s} {cs = cs} r = let m = made r.made in rw (m.0, m.1) (run_read s cs (made_finished r))

pub made_accepted : {s u : State} {cs : List Call} {d : List ℕ} → FinishedCalls s cs u d
    → (t : Shape) × ReadsPair d (value_bytes u) (width_in d) (mark_in d) (dictionary_names d) t
made_accepted {s} {cs = cs} r = let x = made_read r in (shape_of (floor_of s) (kept s cs).names x.0, accepted_in (floor_of s) (kept s cs).names x.0 x.2)

-- So the reader answers 0: this is its number (`read_pair`, reader/src/read.rt).
pub run_number : (s : State) (cs : List Call) → FinishedRun s cs → first (pair_rows (dictionary_bytes s cs) (value_bytes (run s cs))) ≡ 0
run_number s cs r = reads_pair (run_read s cs r).2

pub made_number : {s u : State} {cs : List Call} {d : List ℕ} → FinishedCalls s cs u d → first (pair_rows d (value_bytes u)) ≡ 0
made_number r = reads_pair (made_read r).2

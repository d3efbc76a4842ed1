-- Calls made one after the other give the run, so that the demands hold of what they leave.
use mathlib.Core.Path.{◌≡◌, refl, sym, ◌∙◌, ap}
use mathlib.Core.Logic.{◌↔◌}
use mathlib.Core.List.{List}
use mathlib.Core.Option.{some}
use Prim.Native.Nat.{ℕ}
use Rattle.metadata.specs.Bytes.{dictionary_names}
use Rattle.semantics.specs.Record.{State, Call}
use Rattle.semantics.specs.Tree.{Tree, encode}
use Rattle.semantics.specs.Run.{FinishedRun, floor_of, run, value_bytes, dictionary_bytes, run_names, kept, kept_dictionary, Made, no_call, a_call, a_finish, FinishedCalls}
use Rattle.semantics.proofs.Demand2 as two
use Rattle.semantics.proofs.Demand3 as three

-- THE STATE that the last call left is the run's
pub made_run : {s u : State} {cs : List Call} {d : List ℕ} → Made s cs u d → u ≡ run s cs
unfolding run
made_run no_call = refl
made_run (a_call {cs = cs} f e m) = made_run m ∙ ap (λ t. run t cs) e
made_run (a_finish {cs = cs} n e l w m) = made_run m ∙ ap (λ t. run t cs) e

-- THE DICTIONARY is that which the run's accepted finish wrote
pub made_dictionary : {s u : State} {cs : List Call} {d : List ℕ} → Made s cs u d → d ≡ dictionary_bytes s cs
unfolding dictionary_bytes
made_dictionary no_call = refl
made_dictionary (a_call {cs = cs} f e m) = rw f (made_dictionary m ∙ ap (λ t. dictionary_bytes t cs) e)
made_dictionary (a_finish {cs = cs} n e l w m) = rw (n, l, w, made_dictionary m, e)

module _ {s u : State} {cs : List Call} {d : List ℕ} (r : FinishedCalls s cs u d) where
  pub made_finished : FinishedRun s cs
  made_finished = record { fresh = r.fresh; finished = ap (λ (t : State). t.builder.counts.finished) (sym (made_run r.made)) ∙ r.finished }

  pub made_value : (t : Tree) × ((kept s cs).top ≡ some t) × (value_bytes u ≡ encode (floor_of s) (kept s cs).names t)
  made_value = rw (made_run r.made) (two.value s cs made_finished)

  made_names : dictionary_names d ≡ run_names s cs
  unfolding run_names
  made_names = ap dictionary_names (made_dictionary r.made)

  pub made_written : (d ≡ kept_dictionary s cs) × (dictionary_names d ≡ (kept s cs).names)
  made_written = let w = two.written s cs made_finished in (made_dictionary r.made ∙ w.dictionary, made_names ∙ w.names)

pub made_faithful : {s t u v : State} {cs ds : List Call} {d e : List ℕ} → FinishedCalls s cs u d → FinishedCalls t ds v e → floor_of s ≡ floor_of t
    → ((value_bytes u ≡ value_bytes v) × (d ≡ e)) ↔ (kept s cs ≡ kept t ds)
made_faithful {s} {t} {u} {v} {cs} {ds} r q f =
    rw (made_run r.made, made_run q.made, made_dictionary r.made, made_dictionary q.made) (three.demand3 s t cs ds (made_finished r) (made_finished q) f)

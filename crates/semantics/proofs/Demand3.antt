-- Demand 3 over the definitions: two finished runs have equal value bytes and dictionary bytes exactly when their kept records
-- are equal; the same of the names that stand in the dictionary.
use mathlib.Core.Path.{◌≡◌, sym, ◌∙◌, ap}
use mathlib.Core.Logic.{◌↔◌}
use mathlib.Core.List.{List}
use mathlib.Core.Option.{some, some-injective}
use Prim.Native.Nat.{ℕ, ◌^◌, ◌≤◌}
use native.Mathlib.Omega.{arith}
use lib.ListN.{length}
use Rattle.metadata.specs.Names.{Name}
use Rattle.metadata.specs.Bytes.{dictionary, dictionary_names}
use Rattle.semantics.specs.Record.{State, Call}
use Rattle.semantics.specs.Tree.{Tree, encode}
use Rattle.semantics.specs.History.{Kept}
use Rattle.semantics.specs.Run.{FinishedRun, floor_of, run, value_bytes, dictionary_bytes, run_names, kept}
use Rattle.semantics.proofs.TreeLaws.{Sound, tree_inj}
use Rattle.semantics.proofs.HistoryLaws.{kept_sound}
use Rattle.semantics.proofs.Refinement.{represents_value}
use Rattle.semantics.proofs.Simulation.{linked_formed}
use Rattle.semantics.proofs.RunLaws.{follows_run, account_history}
use Rattle.semantics.proofs.Demand2.{names_few, value, written}

-- the kept top value is sound: its bytes lie in a buffer that counts to 4,294,967,295
pub sound : (s : State) (cs : List Call) (r : FinishedRun s cs) → Sound (floor_of s) (kept s cs).names (value s cs r).0
sound s cs r =
    let x = follows_run s cs r.fresh in
    let v = value s cs r in
    let n = x.represents.stored.value ∙ ap length (sym (represents_value x.represents) ∙ v.2) in
    let w = x.represents.stored.within in
    kept_sound (floor_of s) s cs (rw (← account_history s cs) (linked_formed x.linked)) v.1 (omega (arith, n, w))

-- one tree under equal floors and two equal lists of names
same_tree : (floor other : ℕ) (ms ns : List Name) (t u : Tree) → floor ≡ other → ms ≡ ns → length ns ≤ 256 ^ 4 → Sound floor ms t → Sound other ns u
    → encode floor ms t ≡ encode other ns u → t ≡ u
same_tree floor other ms ns t u f p few h k e = tree_inj other ns few t u (rw (f, p) at h) k (rw (f, p) at e)

-- Over the names: equal names give one kept record, whatever else the dictionaries hold.
pub demand3_names : (s t : State) (cs ds : List Call) → FinishedRun s cs → FinishedRun t ds → floor_of s ≡ floor_of t
    → ((value_bytes (run s cs) ≡ value_bytes (run t ds)) × (run_names s cs ≡ run_names t ds)) ↔ (kept s cs ≡ kept t ds)
demand3_names s t cs ds r q f = (forward, backward)
  where
    forward : (value_bytes (run s cs) ≡ value_bytes (run t ds)) × (run_names s cs ≡ run_names t ds) → kept s cs ≡ kept t ds
    forward e =
        let v = value s cs r in
        let w = value t ds q in
        let names = sym (written s cs r).names ∙ (e.1 ∙ (written t ds q).names) in
        let tree = same_tree (floor_of s) (floor_of t) (kept s cs).names (kept t ds).names v.0 w.0 f names (names_few t ds q) (sound s cs r) (sound t ds q) (sym v.2 ∙ (e.0 ∙ w.2)) in
        let top = v.1 ∙ (ap some tree ∙ sym w.1) in
        λ i. record { top = top i; names = names i }

    backward : kept s cs ≡ kept t ds → (value_bytes (run s cs) ≡ value_bytes (run t ds)) × (run_names s cs ≡ run_names t ds)
    backward e =
        let v = value s cs r in
        let w = value t ds q in
        let tree = some-injective v.0 w.0 (sym v.1 ∙ (ap (λ (k : Kept). k.top) e ∙ w.1)) in
        (v.2 ∙ ((λ i. encode (f i) (e i).names (tree i)) ∙ sym w.2), (written s cs r).names ∙ (ap (λ (k : Kept). k.names) e ∙ sym (written t ds q).names))

-- FAITHFUL: one claim about two runs, with no condition but that each is finished from a fresh builder, and both under one floor. Every byte counts: equal
-- dictionary bytes hold equal names, and the bytes are those of the kept names.
pub demand3 : (s t : State) (cs ds : List Call) → FinishedRun s cs → FinishedRun t ds → floor_of s ≡ floor_of t
    → ((value_bytes (run s cs) ≡ value_bytes (run t ds)) × (dictionary_bytes s cs ≡ dictionary_bytes t ds)) ↔ (kept s cs ≡ kept t ds)
unfolding run_names
demand3 s t cs ds r q f =
    let n = demand3_names s t cs ds r q f in (
      (λ e. n.0 (e.0, ap dictionary_names e.1)),
      (λ e. ((n.1 e).0, (written s cs r).dictionary ∙ ((λ i. dictionary (f i) (e i).names) ∙ sym (written t ds q).dictionary))),
    )

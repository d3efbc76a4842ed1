-- Document 01's account of the used value bytes.
use mathlib.Core.Path.{◌≡◌, sym, ◌∙◌, ap}
use mathlib.Core.List.{List}
use lib.ListN.{length}
use Rattle.semantics.specs.Record.{State, Call}
use Rattle.semantics.specs.Ledger.{total}
use Rattle.semantics.specs.Run.{Fresh, run, value_bytes, account_of}
use Rattle.semantics.proofs.Refinement.{represents_value}
use Rattle.semantics.proofs.Simulation.{linked_account}
use Rattle.semantics.proofs.RunLaws.{follows_run}

-- "From a fresh builder on, used value bytes always equal the bytes of the scalars kept plus the headers closed, summed over
-- the calls; replaced ones count, struck-out scalars and headers don't": `always`, since cs is any list of calls.
pub account : (s : State) (cs : List Call) → Fresh s → (run s cs).builder.counts.value ≡ total (account_of s cs).tallies
account s cs f = let x = follows_run s cs f in x.represents.stored.value ∙ linked_account x.linked

-- the used count is the length of the value bytes: they all lie in the lent ones
pub used : (s : State) (cs : List Call) → Fresh s → (run s cs).builder.counts.value ≡ length (value_bytes (run s cs))
used s cs f = let x = follows_run s cs f in x.represents.stored.value ∙ ap length (sym (represents_value x.represents))

-- Thin calls made one after the other are a chain of calls (builder/specs/Calls.antt), so that the demands hold of them
-- (builder/proofs/Demands.antt): each gets the record that the last one left behind its reference.
use mathlib.Core.Path.{◌≡◌, ◌∙◌, sym}
use mathlib.Core.Bool.{false, cond}
use mathlib.Core.List.{List, ◌∷◌}
use Prim.Native.Nat.{ℕ}
use lib.Dec.{eqb}
use lib.ListN.{take}
use Rattle.semantics.specs.declared.Builder.{Builder}
use Rattle.semantics.specs.Record.{Storage, State, Call, finish}
use Rattle.semantics.specs.Run.{is_finish}
use Rattle.std.specs.Prelude.{Result}
use Rattle.semantics.specs.declared.refusal.Refusal.{Refusal}
use Rattle.semantics.specs.Refusal.{number_told}
use Rattle.builder.specs.Calls.{state, Chain, a_call, a_finish}
use Rattle.builder_mut.specs.Calls.{bytes_told, DoesThin, FinishesThin}
use Rattle.builder_mut.proofs.ThinLaws.{by_value, finish_by_value, thin_does, thin_finishes}

module _ {s u : State} {b : Builder} {ms : List ℕ} {after : Storage} {cs : List Call} {d : List ℕ} where
  pub thin_call : {c : Call} (a : Result (Unit {0}) Refusal) → is_finish c ≡ false → DoesThin a b ms after s c → Chain (state b ms after) cs u d
      → Chain s (c ∷ cs) u d
  thin_call {c} a f h m = let g = thin_does a s c h in a_call (by_value b a) f g (rw (g.1 ∙ sym h.1) m)

  pub thin_finish : {out left : List ℕ} (a : Result ℕ Refusal) → FinishesThin a b ms after left s (finish out) → Chain (state b ms after) cs u d
      → Chain s (finish out ∷ cs) u (cond (eqb (number_told a) 0) (take (bytes_told a) left) d)
  thin_finish {out} {left} a h m =
      let g = thin_finishes a s (finish out) h in
      rw (h.0 ∙ sym g.0, h.1 ∙ sym g.1) (a_finish {u = u} (finish_by_value b a) {cs = cs} {d = d} g (rw (g.2 ∙ sym h.2) m))

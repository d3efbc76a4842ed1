-- Word calls made one after the other are calls made (`Made`, semantics/specs/Run.antt), so that the demands hold of them
-- (semantics/proofs/Demands.antt): each gets the words, the table and the storage that the last one left. The maker's words are a fresh
-- builder (`new_fresh`, CallLaws.antt).
use mathlib.Core.Path.{◌≡◌, refl}
use mathlib.Core.Bool.{Bool, true, false, cond}
use mathlib.Core.List.{List, ◌∷◌}
use Prim.Native.Nat.{ℕ}
use lib.Dec.{eqb}
use lib.ListN.{take}
use Rattle.semantics.specs.Record.{Storage, State, Call, finish}
use Rattle.semantics.specs.Step.{step}
use Rattle.semantics.specs.Run.{is_finish, Made, a_call, a_finish}
use Rattle.ffi.specs.Words.{state_of, DoesWords, FinishesWords}

module _ {ws us ms : List ℕ} {l : Storage} {n : ℕ} {u : State} {cs : List Call} {d : List ℕ} where
  pub words_call : {left : List ℕ} {after : Storage} {c : Call} → is_finish c ≡ false → DoesWords n ws us ms left l after c → Made (state_of us left after) cs u d → Made (state_of ws ms l) (c ∷ cs) u d
  words_call f h m = a_call f (λ i. record { builder = h.builder i; marks = h.marks i; storage = h.storage i }) m

  -- was, w: the bytes written, before and then
  pub words_finish : {out left : List ℕ} {was w : ℕ} → FinishesWords n ws us ms l out left was w → Made (state_of us ms l) cs u d
      → Made (state_of ws ms l) (finish out ∷ cs) u (cond (eqb n 0) (take w left) d)
  words_finish {out} {left} {was} h m =
      rw (h.length, same (eqb n 0) (step (state_of ws ms l) (finish out)).written)
      (a_finish h.does.number (λ i. record { builder = h.does.builder i; marks = h.does.marks i; storage = h.does.storage i }) h.output refl m)
    where
      same : (t : Bool) (x : ℕ) → cond t (take (cond t x was) left) d ≡ cond t (take x left) d
      same true x = refl
      same false x = refl

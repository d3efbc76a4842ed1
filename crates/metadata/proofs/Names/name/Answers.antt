-- An id that is held has the part between two ends for its name, and any other the empty one.
use native.Mathlib.Omega.{arith}
use mathlib.Core.Path.{◌≡◌, ◌∙◌}
use Prim.Native.Nat.{◌≤◌, min}
use lib.ListN.{length}
use Rattle.metadata.specs.Names.{start_of}
use Rattle.metadata.proofs.NameLaws.{name_held, name_none, start_before}
use Rattle.metadata.proofs.Names.name.Goals as goal
use Rattle.metadata.proofs.Names.name.Goals.{then-id-eq0, else-id-eq0, then-self-id-via-then-self-id, then-self-id-via-else-self-id+then-self-id-2}

pub returns-then-self-id : goal.returns-then-self-id
returns-then-self-id c =
    let s = c.args.self in
    let h : min s.counts.names (length s.ends.now) ≤ c.args.id =
    elim c.then-self-id.branch [ then-self-id-via-then-self-id w ↦ omega arith | then-self-id-via-else-self-id+then-self-id-2 w ↦ omega arith ] in
    name_none s.counts s.text.now s.ends.now c.args.id h

pub returns : goal.returns
returns c =
    let s = c.args.self in
    let e : c.if-id-eq0.start ≡ start_of s.ends.now c.args.id =
    elim c.if-id-eq0.branch [
      | then-id-eq0 w ↦ rw (w.start-is, w.if-id-eq0.true)
      | else-id-eq0 w ↦ w.start-is ∙ start_before s.ends.now c.args.id w.if-id-eq0.false
    ] in
    c.part.ensures ∙ (rw e (name_held s.counts s.text.now s.ends.now c.args.id (omega arith) (omega arith)))

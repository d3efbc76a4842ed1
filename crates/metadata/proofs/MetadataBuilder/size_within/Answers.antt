-- The size by its summands, of which none wraps.
use native.Mathlib.Omega.{arith}
use mathlib.Core.Path.{◌≡◌, ap}
use Prim.Native.Nat.{◌+◌, ◌*◌}
use Rattle.metadata.specs.Bytes.{number_width}
use Rattle.metadata.proofs.BytesLaws.{size_most}
use Rattle.metadata.proofs.FinishLaws.{size_none}
use Rattle.metadata.proofs.MetadataBuilder.size_within.Goals as goal
use Rattle.metadata.proofs.MetadataBuilder.size_within.Goals.{After-number_width}

-- the product, by what the call ensures
numbers : (c : After-number_width) → let a = c.args in let m = a.self in
    c.number_width.result * (m.names + 2) ≡ number_width a.floor m.names m.text * (m.names + 2)
numbers c = let a = c.args in let m = a.self in ap (λ w. w * (m.names + 2)) c.number_width.ensures

pub returns-then-room-self : goal.returns-then-room-self
returns-then-room-self c = let a = c.args in size_none a.floor a.room a.self c.then-room-self.either

pub overflow_mul-size : goal.overflow_mul-size
overflow_mul-size c =
    let a = c.args in let m = a.self in omega (arith, numbers (goal.at.overflow_mul-size c).After-number_width, size_most a.floor m.names m.text)

pub overflow_add-size-2 : goal.overflow_add-size-2
overflow_add-size-2 c =
    let a = c.args in let m = a.self in omega (arith, numbers (goal.at.overflow_add-size-2 c).After-number_width, size_most a.floor m.names m.text)

pub overflow_add-size-3 : goal.overflow_add-size-3
overflow_add-size-3 c =
    let a = c.args in let m = a.self in omega (arith, numbers (goal.at.overflow_add-size-3 c).After-number_width, size_most a.floor m.names m.text)

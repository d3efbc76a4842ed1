-- The answer of the call that writes packed decimal, from the crate's own.
use mathlib.Core.Path.{◌≡◌, refl, sym, ◌∙◌}
use mathlib.Core.List.{List}
use Prim.Native.Nat.{ℕ}
use lib.IntN.{ℤ}
use borrow.Author.Tests.{ne_eqb}
use Rattle.std.specs.Prelude.{Ok, Err}
use Rattle.packed_decimal.specs.declared.write.WriteError.{WriteError}
use Rattle.packed_decimal.specs.Calls.{WritesPacked, written_answer}
use Rattle.ffi.specs.Packed.{WritesPackedWords}

module _ {z : ℤ} {scale : ℕ} {out after : List ℕ} (was : ℕ) where
  pub packs : {n : ℕ} → WritesPacked z scale out (Ok n) after → WritesPackedWords 0 z scale out after was n
  packs w = let k = sym w.number in record { number = sym k; output = rw k at w.bytes; length = rw k at w.size }

  pub packs_refused : {n : ℕ} {e : WriteError} → WritesPacked z scale out (Err e) after → (written_answer (Err e)).number ≡ n → (n ≡ 0 → ⊥)
      → WritesPackedWords n z scale out after was was
  packs_refused {n} w e q = let k = sym w.number ∙ e in record { number = sym k; output = rw (ne_eqb n 0 q) (rw (k, ne_eqb n 0 q) at w.bytes); length = rw (ne_eqb n 0 q) refl }

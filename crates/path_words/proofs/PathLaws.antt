-- The words of a whole path: `record` before those of its steps, and nothing where they do not fit.
use mathlib.Core.Path.{◌≡◌, sym, ◌∙◌}
use mathlib.Core.Bool.{Bool, true, false}
use mathlib.Core.List.{List}
use Prim.Native.Nat.{ℕ, ◌+◌, ◌≤◌}
use native.Mathlib.Omega.{arith}
use lib.ListN.{length}
use Rattle.std.specs.Prelude.{Ok, Err}
use Rattle.encoding.specs.Slices.{fits, write}
use Rattle.encoding.proofs.SliceLaws.{fits_within}
use Rattle.live.specs.Words.{Path, record_word, steps_words, words}
use Rattle.encoding.specs.declared.slices.NoRoom.{NoRoom}
use Rattle.path_words.specs.Writing.{WritesWords}
use Rattle.path_words.proofs.FrontLaws.{behind, put_behind, then_front}

module _ (path : Path) (out : List ℕ) {n : ℕ} {t : Bool} (e : n ≡ length (steps_words path)) (f : t ≡ fits 0 (6 + n) (length out)) where
  fitting : t ≡ fits 0 (length (words path)) (length out)
  unfolding words
  fitting = let z : 6 + n ≡ length (words path) = omega arith in rw z at f

  pub words_none : {x : NoRoom} → t ≡ false → WritesWords (words path) out (Err x) out
  words_none q = let h = sym fitting ∙ q in record { number = rw h; written = rw h; bytes = rw h }

  pub words_room : t ≡ true → 6 + length (steps_words path) ≤ length out
  words_room q = let r = fits_within 0 (6 + n) (length out) f q in omega arith

  pub words_done : {k : ℕ} {m s : List ℕ} → t ≡ true → m ≡ write 0 record_word out → k ≡ 6 → s ≡ write 0 (steps_words path) (behind k m)
      → WritesWords (words path) out (Ok (6 + n)) (put_behind k m s)
  unfolding words
  words_done q a b g =
      let h = sym fitting ∙ q in
      record { number = rw h; written = rw h (omega arith); bytes = rw h (then_front record_word (steps_words path) out a b g) }

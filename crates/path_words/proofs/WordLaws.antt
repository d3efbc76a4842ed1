-- The words of a step before those of the steps behind it.
use mathlib.Core.Path.{◌≡◌, sym, ◌∙◌, ap}
use mathlib.Core.List.{List, [], ◌∷◌, ◌++◌, append_assoc}
use Prim.Native.Nat.{ℕ, ◌+◌, ◌≤◌}
use native.Mathlib.Omega.{arith}
use lib.ListN.{length, length-append}
use Rattle.encoding.specs.Slices.{write}
use Rattle.metadata.specs.Names.{Name}
use Rattle.live.specs.Words.{Step, field, element, Path, decimal, field_word, bytes_word, steps_words}
use Rattle.container.specs.Sort.{name_at}
use Rattle.path_words.specs.declared.Step.{Step as Way}
use Rattle.path_words.specs.declared.Step.TheVariants.{Field}
use Rattle.path_words.specs.Descent.{step_of}
use Rattle.path_words.specs.Writing.{step_words}
use Rattle.path_words.proofs.DigitLaws.{decimal_append}
use Rattle.path_words.proofs.FrontLaws.{behind, put_behind, then_front}

pub steps_step : (s : Step) (p : Path) → steps_words (s ∷ p) ≡ step_words s ++ steps_words p
unfolding steps_words
steps_step (element k) p = rw (decimal_append k (steps_words p))
steps_step (field n) p =
    let s = bytes_word ++ (n ++ steps_words p) in
    let e : decimal (length n) (bytes_word ++ n) ++ steps_words p ≡ decimal (length n) s =
    ap (λ b. b ++ steps_words p) (decimal_append (length n) (bytes_word ++ n))
    ∙ (append_assoc (decimal (length n) []) (bytes_word ++ n) (steps_words p) ∙ sym (decimal_append (length n) s)) in
    rw e

pub length_field : (n : Name) → length (step_words (field n)) ≡ 15 + length (decimal (length n) []) + length n
length_field n = omega (arith, ap length (decimal_append (length n) (bytes_word ++ n)), length-append (decimal (length n) []) (bytes_word ++ n))

pub field_room : (names : List Name) {s : Way} {i : ℕ} {n : Name} {room : ℕ} → s ≡ Field i → n ≡ name_at names i → length (step_words (step_of names s)) ≤ room
    → 15 + length (decimal (length n) []) + length n ≤ room
field_room names {s} {i} {n} e q h = omega (arith, length_field n, rw (e, ← q) at h)

-- `, field N bytes NAME`, one word behind the other
module _ (name l : List ℕ) where
  abbrev digits_of : List ℕ
  digits_of = decimal (length name) []

  pub field_front : {n i j : ℕ} {m s x y : List ℕ} → m ≡ write 0 field_word l → n ≡ 8 → s ≡ write 0 digits_of (behind n m) → i ≡ length digits_of
      → x ≡ write 0 bytes_word (behind (n + i) (put_behind n m s)) → j ≡ 7
      → y ≡ write 0 name (behind (n + i + j) (put_behind (n + i) (put_behind n m s) x))
      → put_behind (n + i + j) (put_behind (n + i) (put_behind n m s) x) y ≡ write 0 (step_words (field name)) l
  field_front a p b q c r d =
      let first = then_front field_word digits_of l a p b in
      let second = then_front (field_word ++ digits_of) bytes_word l first (omega arith) c in
      let third = then_front ((field_word ++ digits_of) ++ bytes_word) name l second (omega (arith, length-append digits_of bytes_word)) d in
      let z : ((field_word ++ digits_of) ++ bytes_word) ++ name ≡ step_words (field name) =
      ap (λ d. field_word ++ d) (append_assoc digits_of bytes_word name ∙ sym (decimal_append (length name) (bytes_word ++ name))) in
      rw z at third

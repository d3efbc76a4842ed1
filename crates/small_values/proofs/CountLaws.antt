-- "There are 4, 384 and 83,845 of them", by their first bytes; and how long their files are.
use mathlib.Core.Path.{◌≡◌, refl, ◌∙◌, ap}
use mathlib.Core.Logic.{inl, inr}
use mathlib.Core.Bool.{Bool, true, false, cond, ◌&&◌, ◌||◌, or-false, true≢false}
use mathlib.Core.List.{List, [], ◌∷◌, ◌++◌, map}
use Prim.Native.Nat.{ℕ, suc, ◌+◌, ◌*◌, ◌≤◌}
use native.Mathlib.Nat.{mul-suc}
use native.Mathlib.Omega.{arith}
use lib.Dec.{eqb, leb}
use lib.ListN.{length, length-append}
use borrow.Author.Tests.{eqb-true}
use Rattle.encoding.specs.Utf8.{within, ◌‥◌, utf8}
use Rattle.metadata.specs.Bytes.{never_used}
use Rattle.container.proofs.SortLaws.{Mem}
use Rattle.batch.specs.Layout.{big_endian, count_of, record_of, record_bytes, records_bytes, batch_bytes}
use Rattle.batch.proofs.NumberLaws.{length_big}
use Rattle.small_values.specs.Small.{up_from, each, strings, accepted, keep, values_of, file_of}
use Rattle.small_values.proofs.ShortTexts.{text_one, text_two}
use Rattle.small_values.proofs.SmallLaws.{empty, small, accepted_is}
use Rattle.small_values.proofs.ValueLaws.{strings_only, values_are}

abbrev one : Bool → ℕ
one t = cond t 1 0

-- how many pass
tally : (List ℕ → Bool) → List (List ℕ) → ℕ
tally p [] = 0
tally p (x ∷ xs) = one (p x) + tally p xs

sum : (ℕ → ℕ) → List ℕ → ℕ
sum f [] = 0
sum f (a ∷ bytes) = f a + sum f bytes

keep_tally : (xs : List (List ℕ)) → length (keep xs) ≡ tally accepted xs
unfolding keep tally
keep_tally [] = refl
keep_tally (x ∷ xs) = go (accepted x) (keep_tally xs)
  where
    go : (t : Bool) → length (keep xs) ≡ tally accepted xs → length (cond t (x ∷ keep xs) (keep xs)) ≡ one t + tally accepted xs
    go true e = omega arith
    go false e = omega arith

tally_same : (p q : List ℕ → Bool) (xs : List (List ℕ)) → ((x : List ℕ) → Mem x xs → p x ≡ q x) → tally p xs ≡ tally q xs
unfolding tally
tally_same p q [] h = refl
tally_same p q (x ∷ xs) h = λ i. one (h x (inl refl) i) + tally_same p q xs (λ y m. h y (inr m)) i

-- of up to three bytes
values_tally : (n : ℕ) → n ≤ 3 → length (values_of n) ≡ tally small (strings n)
unfolding values_of
values_tally n h =
    keep_tally (strings n)
    ∙ tally_same accepted small (strings n) (λ x m. let s = strings_only n x m in accepted_is x (omega (arith, s.0)) s.1)

tally_append : (p : List ℕ → Bool) (xs ys : List (List ℕ)) → tally p (xs ++ ys) ≡ tally p xs + tally p ys
unfolding tally
tally_append p [] ys = omega arith
tally_append p (x ∷ xs) ys = let e = tally_append p xs ys in omega arith

tally_map : (p : List ℕ → Bool) (a : ℕ) (ts : List (List ℕ)) → tally p (map (λ t. a ∷ t) ts) ≡ tally (λ t. p (a ∷ t)) ts
unfolding tally
tally_map p a [] = refl
tally_map p a (t ∷ ts) = ap (λ n. one (p (a ∷ t)) + n) (tally_map p a ts)

tally_each : (p : List ℕ → Bool) (bytes : List ℕ) (ts : List (List ℕ)) → tally p (each bytes ts) ≡ sum (λ a. tally (λ t. p (a ∷ t)) ts) bytes
unfolding tally sum each
tally_each p [] ts = refl
tally_each p (a ∷ bytes) ts =
    tally_append p (map (λ t. a ∷ t) ts) (each bytes ts) ∙ (λ i. tally_map p a ts i + tally_each p bytes ts i)

sum_same : (f g : ℕ → ℕ) (bytes : List ℕ) → ((a : ℕ) → f a ≡ g a) → sum f bytes ≡ sum g bytes
unfolding sum
sum_same f g [] h = refl
sum_same f g (a ∷ bytes) h = λ i. h a i + sum_same f g bytes h i

-- over all bytes
unfoldable all : (ℕ → ℕ) → ℕ
all f = sum f (up_from 256 0)

all_same : (f g : ℕ → ℕ) → ((a : ℕ) → f a ≡ g a) → all f ≡ all g
unfolding all
all_same f g h = sum_same f g (up_from 256 0) h

tally_none : (p : List ℕ → Bool) → tally p (strings 0) ≡ one (p [])
unfolding tally strings
tally_none p = omega arith

tally_first : (p : List ℕ → Bool) (n : ℕ) → tally p (strings (suc n)) ≡ all (λ a. tally (λ t. p (a ∷ t)) (strings n))
unfolding strings all
tally_first p n = tally_each p (up_from 256 0) (strings n)

tally_one : (p : List ℕ → Bool) → tally p (strings 1) ≡ all (λ a. one (p (a ∷ [])))
tally_one p = tally_first p 0 ∙ all_same _ _ (λ a. tally_none (λ t. p (a ∷ t)))

tally_two : (p : List ℕ → Bool) → tally p (strings 2) ≡ all (λ a. all (λ b. one (p (a ∷ (b ∷ [])))))
tally_two p = tally_first p 1 ∙ all_same _ _ (λ a. tally_one (λ t. p (a ∷ t)))

tally_three : (p : List ℕ → Bool) → tally p (strings 3) ≡ all (λ a. all (λ b. all (λ c. one (p (a ∷ (b ∷ (c ∷ [])))))))
tally_three p = tally_first p 2 ∙ all_same _ _ (λ a. tally_two (λ t. p (a ∷ t)))

-- ---- sums over all bytes

count_all : all (λ b. 1) ≡ 256
unfolding all sum up_from
count_all = refl

count_none : all (λ b. 0) ≡ 0
unfolding all sum up_from
count_none = refl

count_low : all (λ b. one (leb b 0x7F)) ≡ 128
unfolding all sum up_from
count_low = refl

count_middle : all (λ c. one (within (0x80 ‥ 0xBF) c)) ≡ 64
unfolding all sum up_from
count_middle = refl

count_zero : all (λ c. one (eqb c 0)) ≡ 1
unfolding all sum up_from
count_zero = refl

-- ---- two bytes

two : Bool → Bool → ℕ → Bool
two t u b = (t && utf8 (b ∷ [])) || u

row_two : (t u : Bool) → (t ≡ true → u ≡ false) → all (λ b. one (two t u b)) ≡ cond t 128 (cond u 256 0)
unfolding two
row_two true true h = absurd (true≢false (h refl))
row_two true false h = all_same _ _ (λ b. ap one (or-false (utf8 (b ∷ [])) ∙ text_one b)) ∙ count_low
row_two false true h = count_all
row_two false false h = count_none

rows_two : (a : ℕ) → all (λ b. one (small (a ∷ (b ∷ [])))) ≡ cond (eqb a 5) 128 (cond (eqb a 12) 256 0)
unfolding small two
rows_two a = row_two (eqb a 5) (eqb a 12) (λ e. ap (λ x. eqb x 12) (eqb-true a 5 e))

-- ---- three bytes

three : Bool → Bool → Bool → ℕ → ℕ → Bool
three t u v b c = ((t && utf8 (b ∷ (c ∷ []))) || u) || (v && (eqb b 0 && eqb c 0))

text_row : (b : ℕ) → all (λ c. one (utf8 (b ∷ (c ∷ [])))) ≡ cond (leb b 0x7F) 128 (cond (within (0xC2 ‥ 0xDF) b) 64 0)
text_row b = all_same _ _ (λ c. ap one (text_two b c)) ∙ go (leb b 0x7F) (within (0xC2 ‥ 0xDF) b)
  where
    go : (t u : Bool) → all (λ c. one (cond t (leb c 0x7F) (u && within (0x80 ‥ 0xBF) c))) ≡ cond t 128 (cond u 64 0)
    go true u = count_low
    go false true = count_middle
    go false false = count_none

count_text : all (λ b. cond (leb b 0x7F) 128 (cond (within (0xC2 ‥ 0xDF) b) 64 0)) ≡ 18304
unfolding all sum up_from
count_text = refl

zero_row : (b : ℕ) → all (λ c. one (eqb b 0 && eqb c 0)) ≡ one (eqb b 0)
zero_row b = go (eqb b 0)
  where
    go : (t : Bool) → all (λ c. one (t && eqb c 0)) ≡ one t
    go true = count_zero
    go false = count_none

count_square : all (λ b. 256) ≡ 65536
unfolding all sum up_from
count_square = refl

row_three : (t u v : Bool) → (t ≡ true → u ≡ false) → (t ≡ true → v ≡ false) → all (λ b. all (λ c. one (three t u v b c))) ≡ cond t 18304 (cond u 65536 (one v))
unfolding three
row_three true true v h k = absurd (true≢false (h refl))
row_three true false true h k = absurd (true≢false (k refl))
row_three true false false h k =
    all_same _ _ (λ b. all_same _ _ (λ c. ap one (or-false (utf8 (b ∷ (c ∷ [])) || false) ∙ or-false (utf8 (b ∷ (c ∷ []))))) ∙ text_row b) ∙ count_text
row_three false true v h k = all_same _ _ (λ b. count_all) ∙ count_square
row_three false false true h k = all_same _ _ zero_row ∙ count_zero
row_three false false false h k = all_same _ _ (λ b. count_none) ∙ count_none

rows_three : (a : ℕ) → all (λ b. all (λ c. one (small (a ∷ (b ∷ (c ∷ [])))))) ≡ cond (eqb a 9) 18304 (cond (eqb a 16) 65536 (one (empty a)))
unfolding small three
rows_three a = row_three (eqb a 9) (eqb a 16) (empty a) (λ e. ap (λ x. eqb x 16) (eqb-true a 9 e)) (λ e. ap empty (eqb-true a 9 e))

-- ---- all of them

sum_one : all (λ a. one (small (a ∷ []))) ≡ 4
unfolding all sum up_from small
sum_one = refl

pub count_one : length (values_of 1) ≡ 4
count_one = values_tally 1 (omega arith) ∙ (tally_one small ∙ sum_one)

sum_two : all (λ a. cond (eqb a 5) 128 (cond (eqb a 12) 256 0)) ≡ 384
unfolding all sum up_from
sum_two = refl

pub count_two : length (values_of 2) ≡ 384
count_two = values_tally 2 (omega arith) ∙ (tally_two small ∙ (all_same _ _ rows_two ∙ sum_two))

sum_three : all (λ a. cond (eqb a 9) 18304 (cond (eqb a 16) 65536 (one (empty a)))) ≡ 83845
unfolding all sum up_from
sum_three = refl

pub count_three : length (values_of 3) ≡ 83845
count_three = values_tally 3 (omega arith) ∙ (tally_three small ∙ (all_same _ _ rows_three ∙ sum_three))

-- ---- the files

-- "count 4 + 3 + length": four bytes of count, four of the dictionary's length, its three, and the value
pub record_size : (v : List ℕ) → length (record_bytes (record_of never_used v)) ≡ 11 + length v
unfolding record_bytes
record_size v =
    let x = record_of never_used v in
    let a = length-append (big_endian (count_of x)) (big_endian 3 ++ (never_used ++ v)) in
    let b = length-append (big_endian 3) (never_used ++ v) in
    omega (arith, length_big (count_of x), length_big 3)

-- of values of n bytes each
pub records_size : (n : ℕ) (xs : List (List ℕ)) → ((x : List ℕ) → Mem x xs → length x ≡ n)
    → length (records_bytes (map (record_of never_used) xs)) ≡ (11 + n) * length xs
unfolding records_bytes
records_size n [] h = omega arith
records_size n (x ∷ xs) h =
    let a = length-append (record_bytes (record_of never_used x)) (records_bytes (map (record_of never_used) xs)) in
    let e = records_size n xs (λ y m. h y (inr m)) in
    omega (arith, record_size x, h x (inl refl), mul-suc (11 + n) (length xs))

pub file_size : (n : ℕ) → length (file_of n) ≡ 1 + (11 + n) * length (values_of n)
unfolding file_of batch_bytes
file_size n = let e = records_size n (values_of n) (λ x m. ((values_are n x).0 m).0) in omega arith

pub size_one : length (file_of 1) ≡ 49
size_one = omega (arith, file_size 1, count_one)

pub size_two : length (file_of 2) ≡ 4993
size_two = omega (arith, file_size 2, count_two)

pub size_three : length (file_of 3) ≡ 1173831
size_three = omega (arith, file_size 3, count_three)

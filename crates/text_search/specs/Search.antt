-- For the code: the least place of a wanted text (`least_of` of live), found in bytes that are not looked at otherwise. Places are counted from where a
-- value starts. proofs/SearchLaws says that over a reading this is `least_of`.
use Rattle.std.specs.Prelude.{Option, Some, None, Bool, cond, ◌&&◌, List, [], ◌∷◌, ℕ, zero, suc, ◌+◌, ◌-◌, ◌*◌, ◌%◌, eqb, ltb, drop, get_or, length}
use Rattle.value.specs.declared.decoder.VariantPrimitiveType.TheVariants as type
use Rattle.value.specs.Decoder.{code}
use Rattle.metadata.specs.Names.{same}
use Rattle.measure.specs.Measure.{measured}
use Rattle.grammar.specs.Grammar.{most_containers}
use Rattle.grammar.specs.Tests.{list_from, object_from, object_offsets}
use Rattle.header_reader.specs.Heads.{value_from}

-- a short text behind its first byte, or a String behind its first byte and its length, is the wanted one
unfoldable pub is_text : List ℕ → List ℕ → Bool
is_text wanted v = cond (eqb (get_or v 0 0 % 4) 1) (same (drop 1 v) wanted) (eqb (get_or v 0 0) (4 * code type.String) && same (drop 5 v) wanted)

-- the least so far, `best`, or what `deeper` finds less in the value at place n
abbrev pub less_at : (ℕ → List ℕ → ℕ) → List ℕ → ℕ → ℕ → ℕ
less_at deeper v n best = cond (ltb n best) (n + deeper (best - n) (value_from n v)) best

-- in values end to end from place n on, at most `fuel` of them; what starts behind the least so far is not gone into
unfoldable pub elements_in : (ℕ → List ℕ → ℕ) → ℕ → List ℕ → ℕ → ℕ → ℕ
elements_in deeper zero v n best = best
elements_in deeper (suc fuel) v n best =
    cond (ltb n best && ltb 0 (measured (drop n v))) (elements_in deeper fuel v (n + measured (drop n v)) (less_at deeper v n best)) best

-- in an object's fields, as the header has them
unfoldable pub fields_in : (ℕ → List ℕ → ℕ) → List ℕ → ℕ → List ℕ → ℕ
fields_in deeper v best [] = best
fields_in deeper v best (o ∷ os) = fields_in deeper v (less_at deeper v (object_from v + o) best) os

-- in a value, with at most d containers one in another
unfoldable pub least_in : ℕ → List ℕ → ℕ → List ℕ → ℕ
least_in zero wanted best v = cond (is_text wanted v) 0 best
least_in (suc d) wanted best v =
    cond (eqb (get_or v 0 0 % 4) 3) (elements_in (least_in d wanted) (length v) v (list_from v) best)
    (cond (eqb (get_or v 0 0 % 4) 2) (fields_in (least_in d wanted) v best (object_offsets v)) (cond (is_text wanted v) 0 best))

-- in a whole value: the place, where there is one
abbrev pub place_in : List ℕ → List ℕ → Option ℕ
place_in wanted v = let n = least_in most_containers wanted (length v) v in cond (ltb n (length v)) (Some n) None

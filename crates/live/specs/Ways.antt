-- For the code: the least place of a wanted text, over an object's entries as they stand, and the path to a place, found from the top, so that no path
-- is kept. Both go down to values with at most d containers one in another.
use Rattle.std.specs.Prelude.{Bool, false, cond, ◌&&◌, List, [], ◌∷◌, ℕ, zero, suc, ◌+◌, ◌-◌, min, leb, ltb, length}
use Rattle.value.specs.Scalar.{Scalar}
use Rattle.metadata.specs.Names.{Name, same}
use Rattle.container.specs.declared.Entry.{Entry}
use Rattle.container.specs.Sort.{name_at}
use Rattle.grammar.specs.Grammar.{Shape, Shapes, layout}
use Rattle.grammar.specs.Grammar as grammar
use Rattle.grammar.specs.Fields.{shape_at}
use Rattle.live.specs.Words.{field, element, Path}
use Rattle.live.specs.Live.{Leaf, text, other, leaf_of}
use Rattle.live.specs.Texts.{list_data, object_data}

-- ---- the least place

-- a leaf is the wanted text
abbrev pub is_wanted : List ℕ → Leaf → Bool
is_wanted wanted (text bytes) = same bytes wanted
is_wanted wanted (other s) = false

-- the least so far, `best`, and what `deeper` finds less in each value; the first element starts at `at`, an object's data at `from`
unfoldable pub least_element : (ℕ → ℕ → Shape → ℕ) → ℕ → ℕ → Shapes → ℕ
least_element deeper at best grammar.none = best
least_element deeper at best (grammar.more t ts) = least_element deeper (at + length (layout t)) (deeper at best t) ts

unfoldable pub least_field : (ℕ → ℕ → Shape → ℕ) → ℕ → ℕ → Shapes → List Entry → ℕ
least_field deeper from best ts [] = best
least_field deeper from best ts (e ∷ es) = least_field deeper from (deeper (from + e.offset) best (shape_at e.offset 0 ts)) ts es

abbrev pub least_leaf : List ℕ → ℕ → ℕ → Scalar → ℕ
least_leaf wanted at best s = cond (is_wanted wanted (leaf_of s)) (min at best) best

-- the least of `best` and the places of the live texts equal to `wanted`, of a value that starts at `at`
unfoldable pub least_of : ℕ → List ℕ → ℕ → ℕ → Shape → ℕ
least_of zero wanted at best (grammar.scalar s) = least_leaf wanted at best s
least_of zero wanted at best (grammar.list w big ts) = best
least_of zero wanted at best (grammar.object w v big es ts) = best
least_of (suc d) wanted at best (grammar.scalar s) = least_leaf wanted at best s
least_of (suc d) wanted at best (grammar.list w big ts) = least_element (least_of d wanted) (at + list_data w big ts) best ts
least_of (suc d) wanted at best (grammar.object w v big es ts) = least_field (least_of d wanted) (at + object_data w v big es ts) best ts es

-- ---- the path to a place

-- place p of the data is within the value t, which starts at offset n
abbrev pub covers : ℕ → ℕ → Shape → Bool
covers n p t = leb n p && ltb p (n + length (layout t))

-- to the element whose bytes place p of the data is within, and on by `deeper`; the first of these has number k and starts at n
unfoldable pub element_to : (ℕ → Shape → Path) → ℕ → ℕ → ℕ → Shapes → Path
element_to deeper p k n grammar.none = []
element_to deeper p k n (grammar.more t ts) =
    cond (covers n p t) (element k ∷ deeper (p - n) t) (element_to deeper p (suc k) (n + length (layout t)) ts)

-- to the field likewise, over the entries
unfoldable pub field_to : (ℕ → Shape → Path) → List Name → ℕ → Shapes → List Entry → Path
field_to deeper names p ts [] = []
field_to deeper names p ts (e ∷ es) =
    let t = shape_at e.offset 0 ts in
    cond (covers e.offset p t) (field (name_at names e.id) ∷ deeper (p - e.offset) t) (field_to deeper names p ts es)

-- the path to the scalar at place p of a value
unfoldable pub path_to : ℕ → List Name → ℕ → Shape → Path
path_to zero names p t = []
path_to (suc d) names p (grammar.scalar s) = []
path_to (suc d) names p (grammar.list w big ts) = element_to (path_to d names) (p - list_data w big ts) 0 0 ts
path_to (suc d) names p (grammar.object w v big es ts) = field_to (path_to d names) names (p - object_data w v big es ts) ts es

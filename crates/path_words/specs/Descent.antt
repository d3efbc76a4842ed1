-- For the code: the path to a place (`path_to` of live), found in bytes that are not looked at otherwise. Places are counted from where a value starts.
-- proofs/DescentLaws says that to the place of a live text of a reading it is that text's own path.
use Rattle.std.specs.Prelude.{Option, Some, None, Bool, cond, ◌&&◌, List, [], ◌∷◌, ℕ, zero, suc, ◌+◌, ◌-◌, ◌%◌, eqb, leb, ltb, drop, get_or, length}
use Rattle.metadata.specs.Names.{Name}
use Rattle.container.specs.Sort.{name_at}
use Rattle.measure.specs.Measure.{measured}
use Rattle.grammar.specs.Tests.{list_from, object_from, object_offsets, stored_ids}
use Rattle.header_reader.specs.Heads.{value_from}
use Rattle.live.specs.Words.{field, element, Path}
use Rattle.live.specs.Words as live
use Rattle.path_words.specs.declared.Step.{Step}
use Rattle.path_words.specs.declared.Step.TheVariants.{Element, Field}
use Rattle.path_words.specs.declared.Child.{Child}

-- place p is within the value that starts at place n
abbrev pub within : List ℕ → ℕ → ℕ → Bool
within v p n = leb n p && ltb p (n + measured (drop n v))

abbrev pub child_at : Step → ℕ → Option Child
child_at s n = Some (record { step = s; start = n })

-- the element that place p is within, of at most `fuel`; the first of these has number k and starts at place n
unfoldable pub element_over : ℕ → List ℕ → ℕ → ℕ → ℕ → Option Child
element_over zero v p k n = None
element_over (suc fuel) v p k n =
    cond (within v p n) (child_at (Element k) n) (cond (ltb 0 (measured (drop n v))) (element_over fuel v p (suc k) (n + measured (drop n v))) None)

-- the field likewise, by ids and offsets as the header has them
unfoldable pub field_over : List ℕ → ℕ → List ℕ → List ℕ → Option Child
field_over v p [] os = None
field_over v p (i ∷ is) [] = None
field_over v p (i ∷ is) (o ∷ os) = cond (within v p (object_from v + o)) (child_at (Field i) (object_from v + o)) (field_over v p is os)

unfoldable pub child_over : List ℕ → ℕ → Option Child
child_over v p =
    cond (eqb (get_or v 0 0 % 4) 3) (element_over (length v) v p 0 (list_from v))
    (cond (eqb (get_or v 0 0 % 4) 2) (field_over v p (stored_ids v) (object_offsets v)) None)

-- a step as the path has it: a field by its name
abbrev pub step_of : List Name → Step → live.Step
step_of names (Element k) = element k
step_of names (Field i) = field (name_at names i)

-- step by step, through at most d containers
abbrev pub step_over : (ℕ → List ℕ → Path) → List Name → List ℕ → ℕ → Option Child → Path
step_over deeper names v p (Some c) = step_of names c.step ∷ deeper (p - c.start) (value_from c.start v)
step_over deeper names v p None = []

unfoldable pub path_in : ℕ → List Name → ℕ → List ℕ → Path
path_in zero names p v = []
path_in (suc d) names p v = step_over (path_in d names) names v p (child_over v p)

-- Document 02, A12, "find the first live text equal to it, in order of data, and write its path": the live texts of a reading in that order.
use Rattle.std.specs.Prelude.{Bool, true, false, cond, List, [], ◌∷◌, ◌++◌, map, ℕ, zero, suc, ◌+◌, eqb, length}
use Rattle.std.proofs.Math.Option.{Option, none, some}
use Rattle.metadata.specs.Names.{Name, same}
use Rattle.metadata.specs.Bytes.{joined}
use Rattle.container.specs.declared.Entry.{Entry}
use Rattle.container.specs.Layout.{list_header_at, object_header_at}
use Rattle.container.specs.Entries.{ids_of, offsets_of}
use Rattle.container.specs.Sort.{name_at}
use Rattle.grammar.specs.Grammar.{Shape, Shapes, starts_from, layout, layouts}
use Rattle.grammar.specs.Grammar as grammar
use Rattle.live.specs.Words.{Step, field, element, Path, words}
use Rattle.live.specs.Live.{Leaf, text, other, leaf_of, Live, leaf, nest, Lives, end, child}

-- a live text of a value: its path, where its scalar starts among the value's bytes, and its own bytes
pub record Found : Type 0 where
  pub path : Path
  pub place : ℕ
  pub bytes : List ℕ

-- seen from the container in which its value starts at `at`
abbrev pub under : Step → ℕ → Found → Found
under s at f = record { path = s ∷ f.path; place = at + f.place; bytes = f.bytes }

abbrev pub leaf_texts : Leaf → List Found
leaf_texts (text bytes) = record { path = []; place = 0; bytes = bytes } ∷ []
leaf_texts (other s) = []

-- the step to the value that starts at offset n of an object's data; none to a replaced one
unfoldable pub field_step : List Name → List Entry → ℕ → Option Step
field_step names [] n = none
field_step names (e ∷ es) n = cond (eqb e.offset n) (some (field (name_at names e.id))) (field_step names es n)

-- a replaced value's texts are not live
abbrev pub labelled : Option Step → ℕ → List Found → List Found
labelled none at fs = []
labelled (some s) at fs = map (under s at) fs

-- where the data of a list and of an object begins, behind the header
abbrev pub list_data : ℕ → Bool → Shapes → ℕ
list_data w big ts = length (list_header_at w big (starts_from 0 (layouts ts)) (length (joined (layouts ts))))

abbrev pub object_data : ℕ → ℕ → Bool → List Entry → Shapes → ℕ
object_data w v big es ts = length (object_header_at w v big (ids_of es) (offsets_of es) (length (joined (layouts ts))))

-- "in order of data": a container's values are walked as they lie
unfoldable mutual
  pub texts_of : List Name → Shape → List Found
  texts_of names (grammar.scalar s) = leaf_texts (leaf_of s)
  texts_of names (grammar.list w big ts) = child_texts names (λ k n. some (element k)) (list_data w big ts) 0 0 ts
  texts_of names (grammar.object w v big es ts) = child_texts names (λ k n. field_step names es n) (object_data w v big es ts) 0 0 ts

  -- of data that begin at `from`, by the step to each value, of its number k and its offset n; the first has number k and starts at n
  pub child_texts : List Name → (ℕ → ℕ → Option Step) → ℕ → ℕ → ℕ → Shapes → List Found
  child_texts names steps from k n grammar.none = []
  child_texts names steps from k n (grammar.more t ts) =
      labelled (steps k n) (from + n) (texts_of names t) ++ child_texts names steps from (suc k) (n + length (layout t)) ts

-- "the first live text equal to it"
unfoldable pub first_of : List ℕ → List Found → Option Found
first_of wanted [] = none
first_of wanted (f ∷ fs) = cond (same f.bytes wanted) (some f) (first_of wanted fs)

-- its words; none: "It refuses .. with 25 a tag that no live text equals"
abbrev pub saying : Option Found → Option (List ℕ)
saying none = none
saying (some f) = some (words f.path)

unfoldable pub words_for : List Name → Shape → List ℕ → Option (List ℕ)
words_for names t wanted = saying (first_of wanted (texts_of names t))

-- ---- where a path leads in the live tree

unfoldable pub element_at : ℕ → Lives → Option Live
element_at k end = none
element_at zero (child n l ls) = some l
element_at (suc k) (child n l ls) = element_at k ls

abbrev pub bears : Option Name → Name → Bool
bears none n = false
bears (some m) n = same m n

unfoldable pub field_at : Name → Lives → Option Live
field_at n end = none
field_at n (child m l ls) = cond (bears m n) (some l) (field_at n ls)

unfoldable pub child_by : Step → Live → Option Live
child_by s (leaf l) = none
child_by (field n) (nest true ls) = field_at n ls
child_by (field n) (nest false ls) = none
child_by (element k) (nest true ls) = none
child_by (element k) (nest false ls) = element_at k ls

unfoldable pub leads : Path → Live → Option Live
leads [] l = some l
leads (s ∷ p) l = elim (child_by s l) [ none ↦ none | some m ↦ leads p m ]

-- Document 02, A11: the "live tree" that a reading holds, "fields taken by name, short and long text as text, other scalars by type and bits".
use Rattle.std.specs.Prelude.{Bool, true, false, cond, List, [], ◌∷◌, ℕ, ◌+◌, eqb, length, drop}
use Rattle.std.proofs.Math.Option.{Option, none, some}
use Rattle.value.specs.declared.decoder.VariantPrimitiveType.TheVariants as type
use Rattle.value.specs.Decoder.{code}
use Rattle.value.specs.Scalar.{Stored, primitive, short, Scalar, coded}
use Rattle.metadata.specs.Names.{Name}
use Rattle.container.specs.declared.Entry.{Entry}
use Rattle.container.specs.Sort.{name_at}
use Rattle.grammar.specs.Grammar.{Shape, Shapes, layout}
use Rattle.grammar.specs.Grammar as grammar

-- "short and long text as text, other scalars by type and bits"
pub data Leaf : Type 0 where
  text : List ℕ → Leaf
  other : Scalar → Leaf

-- a long text's four bytes of length are no part of the text
unfoldable pub leaf_by : Stored → List ℕ → Leaf
leaf_by short payload = text payload
leaf_by (primitive c) payload = cond (eqb c (code type.String)) (text (drop 4 payload)) (other (record { stored_type = primitive c; payload = payload }))

abbrev pub leaf_of : Scalar → Leaf
leaf_of s = leaf_by s.stored_type s.payload

-- a list's elements, which have no name, or an object's fields, named and in order of names
mutual
  pub data Live : Type 0 where
    leaf : Leaf → Live
    -- true: an object
    nest : Bool → Lives → Live

  pub data Lives : Type 0 where
    end : Lives
    child : Option Name → Live → Lives → Lives

-- "fields taken by name": an object's, in order of names, by a look-up of what starts at an offset
unfoldable pub live_fields : (ℕ → Live) → List Name → List Entry → Lives
live_fields at names [] = end
live_fields at names (e ∷ es) = child (some (name_at names e.id)) (at e.offset) (live_fields at names es)

-- what a reading over these names holds; "replaced values gone": those that no offset names
unfoldable mutual
  pub live_of : List Name → Shape → Live
  live_of names (grammar.scalar s) = leaf (leaf_of s)
  live_of names (grammar.list w big ts) = nest false (live_elements names ts)
  live_of names (grammar.object w v big es ts) = nest true (live_fields (λ o. live_at names o 0 ts) names es)

  pub live_elements : List Name → Shapes → Lives
  live_elements names grammar.none = end
  live_elements names (grammar.more t ts) = child none (live_of names t) (live_elements names ts)

  -- the value that starts at offset n, where the first of these starts at `at`; a null where none does, which no accepted object has
  pub live_at : List Name → ℕ → ℕ → Shapes → Live
  live_at names n at grammar.none = leaf (leaf_of (coded type.Null []))
  live_at names n at (grammar.more t ts) = cond (eqb n at) (live_of names t) (live_at names n (at + length (layout t)) ts)

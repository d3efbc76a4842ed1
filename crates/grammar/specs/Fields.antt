-- The values of an object's fields, by their offsets.
use Rattle.std.specs.Prelude.{cond, [], ℕ, ◌+◌, eqb, length}
use Rattle.value.specs.declared.decoder.VariantPrimitiveType.TheVariants as type
use Rattle.value.specs.Scalar.{coded}
use Rattle.grammar.specs.Grammar.{Shape, scalar, Shapes, none, more, layout}

-- the value that starts at offset n, where the first of these starts at `at`; a null where none does, which no accepted object has
unfoldable pub shape_at : ℕ → ℕ → Shapes → Shape
shape_at n at none = scalar (coded type.Null [])
shape_at n at (more t ts) = cond (eqb n at) t (shape_at n (at + length (layout t)) ts)

-- For the code: a value's kind.
use Rattle.std.specs.Prelude.{Bool, false, cond, List, ℕ, ◌%◌, eqb, get_or}
use Rattle.header_reader.specs.Heads.{is_whole}
use Rattle.header_reader.specs.declared.kinds.Kind.{Kind}
use Rattle.header_reader.specs.declared.kinds.Kind.TheVariants as kind

-- by its first byte
abbrev pub is_list : List ℕ → Bool
is_list v = eqb (get_or v 0 0 % 4) 3

abbrev pub is_object : List ℕ → Bool
is_object v = eqb (get_or v 0 0 % 4) 2

abbrev pub kind_of : List ℕ → Kind
kind_of v = cond (is_list v) kind.List (cond (is_object v) kind.Object kind.Scalar)

-- the kind is one with a header, and the bytes are whole by it: a list's first byte has three unused bits, an object's one
abbrev pub whole_of : Kind → List ℕ → Bool
whole_of kind.List v = is_whole 3 32 v
whole_of kind.Object v = is_whole 2 128 v
whole_of kind.Scalar v = false

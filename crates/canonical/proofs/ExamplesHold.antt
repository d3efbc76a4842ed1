-- The definitions compute on a list of an object with a replaced value, a number and a text; the object's names stand out of order.
use mathlib.Core.Path.{◌≡◌, refl}
use mathlib.Core.Bool.{true, false}
use mathlib.Core.List.{List, [], ◌∷◌}
use mathlib.Core.Option.{none, some}
use Rattle.encoding.specs.Packed.{le, les}
use Rattle.encoding.specs.Width.{width, width_at}
use Rattle.value.specs.Scalar.{primitive, short, scalar_bytes}
use Rattle.metadata.specs.Names.{Name, same, below, place, ascending, sorted}
use Rattle.metadata.specs.Bytes.{joined, ends_from, laid_out, dictionary}
use Rattle.container.specs.Layout.{list_header_at, list_header, object_header_at, object_header, largest}
use Rattle.container.specs.Sort.{insert, sort}
use Rattle.semantics.specs.Tree.{data_of, starts_from, with_field, fields_from, list_bytes, object_bytes, encode}
use Rattle.grammar.specs.Grammar.{Shape, layout}
use Rattle.grammar.specs.Grammar as grammar
use Rattle.live.specs.Live.{leaf_by, live_fields, live_of}
use Rattle.canonical.specs.Canonical.{put, used, in_use, tree_of, one_value, one_dictionary}
use Rattle.canonical.specs.Sizes.{count, last_id, size_of, walk}

names : List Name
names = (98 ∷ []) ∷ (122 ∷ []) ∷ (97 ∷ []) ∷ []

-- fields a, "x" as a long text, and b, "hi"; the last value is replaced; no field has the name z
object : Shape
object =
    grammar.object 2 1 true (record { id = 2; offset = 3 } ∷ record { id = 0; offset = 0 } ∷ [])
    (grammar.more (grammar.scalar (record { stored_type = short; payload = 104 ∷ 105 ∷ [] }))
    (grammar.more (grammar.scalar (record { stored_type = primitive 16; payload = 1 ∷ 0 ∷ 0 ∷ 0 ∷ 120 ∷ [] }))
    (grammar.more (grammar.scalar (record { stored_type = short; payload = 113 ∷ [] })) grammar.none)))

-- the object, 7 as int8, "q"
top : Shape
top =
    grammar.list 1 false (grammar.more object
    (grammar.more (grammar.scalar (record { stored_type = primitive 3; payload = 7 ∷ [] }))
    (grammar.more (grammar.scalar (record { stored_type = short; payload = 113 ∷ [] })) grammar.none)))

the_value : one_value (live_of names top)
    ≡ 3 ∷ 3 ∷ 0 ∷ 12 ∷ 14 ∷ 16 ∷ 2 ∷ 2 ∷ 0 ∷ 1 ∷ 0 ∷ 2 ∷ 5 ∷ 5 ∷ 120 ∷ 9 ∷ 104 ∷ 105 ∷ 12 ∷ 7 ∷ 5 ∷ 113 ∷ []
unfolding top object names layout scalar_bytes live_of live_fields leaf_by tree_of used put below same one_value encode object_bytes list_bytes data_of starts_from fields_from with_field sort insert place object_header object_header_at list_header list_header_at largest width width_at le les
the_value = refl

-- the mark, two names, their ends, "ab"
the_dictionary : one_dictionary (live_of names top) ≡ 17 ∷ 2 ∷ 0 ∷ 1 ∷ 2 ∷ 97 ∷ 98 ∷ []
unfolding top object names layout scalar_bytes live_of live_fields leaf_by used put below same one_dictionary ascending sorted dictionary laid_out joined ends_from width width_at le les
the_dictionary = refl

the_size : size_of (in_use (live_of names top)) (live_of names top) ≡ 22
unfolding top object names layout scalar_bytes live_of live_fields leaf_by used put below same place count last_id size_of width width_at
the_size = refl

-- behind a comes b
the_next : walk (some (97 ∷ [])) (live_of names top) none ≡ some (98 ∷ [])
unfolding top object names layout scalar_bytes live_of live_fields leaf_by below walk
the_next = refl

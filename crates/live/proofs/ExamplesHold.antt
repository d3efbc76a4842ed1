-- The definitions compute on a list of an object with a replaced value, a number and a text; the object's names stand out of order.
use mathlib.Core.Path.{◌≡◌, refl}
use mathlib.Core.Bool.{true, false}
use mathlib.Core.List.{List, [], ◌∷◌}
use mathlib.Core.Option.{none, some}
use Rattle.encoding.specs.Packed.{le, les}
use Rattle.value.specs.Scalar.{primitive, short, scalar_bytes}
use Rattle.metadata.specs.Names.{Name, same}
use Rattle.metadata.specs.Bytes.{joined}
use Rattle.container.specs.Layout.{list_header_at, object_header_at}
use Rattle.grammar.specs.Grammar.{Shape, starts_from, layout}
use Rattle.grammar.specs.Grammar as grammar
use Rattle.grammar.specs.Fields.{shape_at}
use Rattle.live.specs.Words.{field, element, digits, decimal, steps_words, words}
use Rattle.live.specs.Live.{text, other, leaf_by, leaf, nest, end, child, live_fields, live_of}
use Rattle.live.specs.Texts.{field_step, texts_of, first_of, words_for}
use Rattle.live.specs.Ways.{least_element, least_field, least_of, element_to, field_to, path_to}

names : List Name
names = (98 ∷ []) ∷ (97 ∷ []) ∷ []

-- fields a, "x" as a long text, and b, "hi"; the last value is replaced
fields : Shape
fields =
    grammar.object 1 1 false (record { id = 1; offset = 3 } ∷ record { id = 0; offset = 0 } ∷ [])
    (grammar.more (grammar.scalar (record { stored_type = short; payload = 104 ∷ 105 ∷ [] }))
    (grammar.more (grammar.scalar (record { stored_type = primitive 16; payload = 1 ∷ 0 ∷ 0 ∷ 0 ∷ 120 ∷ [] }))
    (grammar.more (grammar.scalar (record { stored_type = short; payload = 113 ∷ [] })) grammar.none)))

-- the object, 7 as int8, "q", "x"
top : Shape
top =
    grammar.list 1 false (grammar.more fields
    (grammar.more (grammar.scalar (record { stored_type = primitive 3; payload = 7 ∷ [] }))
    (grammar.more (grammar.scalar (record { stored_type = short; payload = 113 ∷ [] }))
    (grammar.more (grammar.scalar (record { stored_type = short; payload = 120 ∷ [] })) grammar.none))))

the_bytes : layout top
    ≡ 3 ∷ 4 ∷ 0 ∷ 18 ∷ 20 ∷ 22 ∷ 24 ∷ 2 ∷ 2 ∷ 1 ∷ 0 ∷ 3 ∷ 0 ∷ 11 ∷ 9 ∷ 104 ∷ 105 ∷ 64 ∷ 1 ∷ 0 ∷ 0 ∷ 0 ∷ 120 ∷ 5 ∷ 113 ∷ 12 ∷ 7 ∷ 5 ∷ 113 ∷ 5 ∷ 120 ∷ []
unfolding top fields layout starts_from joined scalar_bytes list_header_at object_header_at le les
the_bytes = refl

the_tree : live_of names top
    ≡ nest false (child none
    (nest true (child (some (97 ∷ [])) (leaf (text (120 ∷ []))) (child (some (98 ∷ [])) (leaf (text (104 ∷ 105 ∷ []))) end)))
    (child none (leaf (other (record { stored_type = primitive 3; payload = 7 ∷ [] })))
    (child none (leaf (text (113 ∷ []))) (child none (leaf (text (120 ∷ []))) end))))
unfolding names top fields layout scalar_bytes live_of live_fields leaf_by
the_tree = refl

the_texts : texts_of names top
    ≡ record { path = element 0 ∷ field (98 ∷ []) ∷ []; place = 14; bytes = 104 ∷ 105 ∷ [] }
    ∷ record { path = element 0 ∷ field (97 ∷ []) ∷ []; place = 17; bytes = 120 ∷ [] }
    ∷ record { path = element 2 ∷ []; place = 27; bytes = 113 ∷ [] }
    ∷ record { path = element 3 ∷ []; place = 29; bytes = 120 ∷ [] }
    ∷ []
unfolding names top fields layout starts_from joined scalar_bytes list_header_at object_header_at le les leaf_by texts_of field_step
the_texts = refl

-- "record, element 0, field 1 bytes a"
the_words : words_for names top (120 ∷ [])
    ≡ some (114 ∷ 101 ∷ 99 ∷ 111 ∷ 114 ∷ 100 ∷ 44 ∷ 32 ∷ 101 ∷ 108 ∷ 101 ∷ 109 ∷ 101 ∷ 110 ∷ 116 ∷ 32 ∷ 48
    ∷ 44 ∷ 32 ∷ 102 ∷ 105 ∷ 101 ∷ 108 ∷ 100 ∷ 32 ∷ 49 ∷ 32 ∷ 98 ∷ 121 ∷ 116 ∷ 101 ∷ 115 ∷ 32 ∷ 97 ∷ [])
unfolding names top fields layout starts_from joined scalar_bytes list_header_at object_header_at le les leaf_by texts_of field_step first_of same words_for words steps_words decimal digits
the_words = refl

-- the replaced "q" is not found, and "record, element 10" has no leading zero
no_words : words_for names fields (113 ∷ []) ≡ none
unfolding names fields layout starts_from joined scalar_bytes list_header_at object_header_at le les leaf_by texts_of field_step first_of same words_for
no_words = refl

ten : words (element 10 ∷ []) ≡ 114 ∷ 101 ∷ 99 ∷ 111 ∷ 114 ∷ 100 ∷ 44 ∷ 32 ∷ 101 ∷ 108 ∷ 101 ∷ 109 ∷ 101 ∷ 110 ∷ 116 ∷ 32 ∷ 49 ∷ 48 ∷ []
unfolding words steps_words decimal digits
ten = refl

the_place : least_of 2 (120 ∷ []) 0 31 top ≡ 17
unfolding top fields layout starts_from joined scalar_bytes list_header_at object_header_at le les leaf_by same shape_at least_element least_field least_of
the_place = refl

the_path : path_to 2 names 17 top ≡ element 0 ∷ field (97 ∷ []) ∷ []
unfolding names top fields layout starts_from joined scalar_bytes list_header_at object_header_at le les shape_at element_to field_to path_to
the_path = refl

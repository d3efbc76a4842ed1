-- Dictionaries accepted and refused, by computing the definition.
use mathlib.Core.Path.{◌≡◌, refl}
use mathlib.Core.Bool.{true, false}
use mathlib.Core.List.{[], ◌∷◌, map}
use Rattle.encoding.specs.Packed.{le, les, number}
use Rattle.encoding.specs.Utf8.{utf8, rest, follow, table}
use Rattle.metadata.specs.Names.{cuts, same, below, ascending}
use Rattle.metadata.specs.Bytes.{joined, ends_from, laid_out, numbers, names_in, dictionary_names}
use Rattle.lexicon.specs.Dictionary.{each_utf8, each_below, is_dictionary}

-- no names, with and without the mark, and in wider numbers; a and b, marked; b and a, unmarked; equal names, unmarked
examples_accepted : map is_dictionary (
    (0x01 ∷ 0x00 ∷ 0x00 ∷ []) ∷
    (0x11 ∷ 0x00 ∷ 0x00 ∷ []) ∷
    (0x41 ∷ 0x00 ∷ 0x00 ∷ 0x00 ∷ 0x00 ∷ []) ∷
    (0x11 ∷ 0x02 ∷ 0x00 ∷ 0x01 ∷ 0x02 ∷ 0x61 ∷ 0x62 ∷ []) ∷
    (0x01 ∷ 0x02 ∷ 0x00 ∷ 0x01 ∷ 0x02 ∷ 0x62 ∷ 0x61 ∷ []) ∷
    (0x01 ∷ 0x02 ∷ 0x00 ∷ 0x01 ∷ 0x02 ∷ 0x61 ∷ 0x61 ∷ []) ∷ [])
    ≡ true ∷ true ∷ true ∷ true ∷ true ∷ true ∷ []
unfolding is_dictionary dictionary_names names_in numbers number cuts laid_out le les ends_from joined each_below each_utf8 utf8 rest follow table same below ascending
examples_accepted = refl

-- no bytes; version 2; bit 5; a byte over; a byte under; an offset that falls; the mark with equal names; a character split between two names
examples_refused : map is_dictionary (
    [] ∷
    (0x02 ∷ 0x00 ∷ 0x00 ∷ []) ∷
    (0x21 ∷ 0x00 ∷ 0x00 ∷ []) ∷
    (0x01 ∷ 0x00 ∷ 0x00 ∷ 0x00 ∷ []) ∷
    (0x01 ∷ 0x00 ∷ []) ∷
    (0x01 ∷ 0x02 ∷ 0x00 ∷ 0x02 ∷ 0x01 ∷ 0x61 ∷ 0x62 ∷ []) ∷
    (0x11 ∷ 0x02 ∷ 0x00 ∷ 0x01 ∷ 0x02 ∷ 0x61 ∷ 0x61 ∷ []) ∷
    (0x01 ∷ 0x02 ∷ 0x00 ∷ 0x01 ∷ 0x02 ∷ 0xC3 ∷ 0xA9 ∷ []) ∷ [])
    ≡ false ∷ false ∷ false ∷ false ∷ false ∷ false ∷ false ∷ false ∷ []
unfolding is_dictionary dictionary_names names_in numbers number cuts laid_out le les ends_from joined each_below each_utf8 utf8 rest follow table same below ascending
examples_refused = refl

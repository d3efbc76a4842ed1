-- One word behind the other.
use native.Mathlib.Omega.{arith}
use mathlib.Core.List.{[]}
use Prim.Native.Nat.{◌+◌}
use Rattle.metadata.specs.Bytes.{dictionary_names}
use Rattle.live.specs.Words.{decimal, element_word}
use Rattle.path_words.proofs.FrontLaws.{put_behind, length_rest, length_put, then_front}
use Rattle.path_words.proofs.WordLaws.{length_field, field_room, field_front}
use Rattle.path_words.proofs.writing.write_step.Goals as goal

pub returns-in-Element : goal.returns-in-Element
returns-in-Element c =
    let p = c.put-n.ensures in
    let d = c.write_decimal.ensures in
    rw c.in-Element.is (omega (arith, p.0, d.0), then_front element_word (decimal c.in-Element.number []) c.args.out.now p.1 p.0 d.1)

pub write_decimal-requires-in-Field : goal.write_decimal-requires-in-Field
write_decimal-requires-in-Field c =
    let w = field_room (dictionary_names c.args.d.now) c.in-Field.is c.name_at-name.ensures c.requires in
    rw (length_rest c.put-field.result c.put-field.new.out) (omega (arith, w, c.put-field.ensures.0))

pub overflow_add-count : goal.overflow_add-count
overflow_add-count c =
    let w = field_room (dictionary_names c.args.d.now) c.in-Field.is c.name_at-name.ensures c.requires in
    omega (arith, w, c.put-field.ensures.0, c.write_decimal-in-Field.ensures.0)

pub slice_bounds-put-count : goal.slice_bounds-put-count
slice_bounds-put-count c =
    let w = field_room (dictionary_names c.args.d.now) c.in-Field.is c.name_at-name.ensures c.requires in
    let k = length_put c.put-field.result c.put-field.new.out c.write_decimal-in-Field.new.out (omega (arith, w, c.put-field.ensures.0)) c.write_decimal-in-Field.auto.out in
    omega (arith, w, c.put-field.ensures.0, c.write_decimal-in-Field.ensures.0)

pub slice_bounds-put-start : goal.slice_bounds-put-start
slice_bounds-put-start c =
    let w = field_room (dictionary_names c.args.d.now) c.in-Field.is c.name_at-name.ensures c.requires in
    let k = length_put c.put-field.result c.put-field.new.out c.write_decimal-in-Field.new.out (omega (arith, w, c.put-field.ensures.0)) c.write_decimal-in-Field.auto.out in
    omega (arith, w, c.put-field.ensures.0, c.write_decimal-in-Field.ensures.0)

pub put-requires : goal.put-requires
put-requires c =
    let w = field_room (dictionary_names c.args.d.now) c.in-Field.is c.name_at-name.ensures c.requires in
    let k = length_put c.put-field.result c.put-field.new.out c.write_decimal-in-Field.new.out (omega (arith, w, c.put-field.ensures.0)) c.write_decimal-in-Field.auto.out in
    rw (length_rest (c.put-field.result + c.write_decimal-in-Field.result) (put_behind c.put-field.result c.put-field.new.out c.write_decimal-in-Field.new.out)) (omega (arith, w, c.put-field.ensures.0, c.write_decimal-in-Field.ensures.0))

pub overflow_add-bytes : goal.overflow_add-bytes
overflow_add-bytes c =
    let w = field_room (dictionary_names c.args.d.now) c.in-Field.is c.name_at-name.ensures c.requires in
    omega (arith, w, c.put-field.ensures.0, c.write_decimal-in-Field.ensures.0, c.put.ensures.0)

pub slice_bounds-put-count-in-Field : goal.slice_bounds-put-count-in-Field
slice_bounds-put-count-in-Field c =
    let w = field_room (dictionary_names c.args.d.now) c.in-Field.is c.name_at-name.ensures c.requires in
    let k = length_put c.put-field.result c.put-field.new.out c.write_decimal-in-Field.new.out (omega (arith, w, c.put-field.ensures.0)) c.write_decimal-in-Field.auto.out in
    let j = length_put (c.put-field.result + c.write_decimal-in-Field.result) (put_behind c.put-field.result c.put-field.new.out c.write_decimal-in-Field.new.out) c.put.new.out (omega (arith, w, c.put-field.ensures.0, c.write_decimal-in-Field.ensures.0)) c.put.auto.out in
    omega (arith, w, c.put-field.ensures.0, c.write_decimal-in-Field.ensures.0, c.put.ensures.0)

pub slice_bounds-put-start-in-Field : goal.slice_bounds-put-start-in-Field
slice_bounds-put-start-in-Field c =
    let w = field_room (dictionary_names c.args.d.now) c.in-Field.is c.name_at-name.ensures c.requires in
    let k = length_put c.put-field.result c.put-field.new.out c.write_decimal-in-Field.new.out (omega (arith, w, c.put-field.ensures.0)) c.write_decimal-in-Field.auto.out in
    let j = length_put (c.put-field.result + c.write_decimal-in-Field.result) (put_behind c.put-field.result c.put-field.new.out c.write_decimal-in-Field.new.out) c.put.new.out (omega (arith, w, c.put-field.ensures.0, c.write_decimal-in-Field.ensures.0)) c.put.auto.out in
    omega (arith, w, c.put-field.ensures.0, c.write_decimal-in-Field.ensures.0, c.put.ensures.0)

pub put-requires-in-Field : goal.put-requires-in-Field
put-requires-in-Field c =
    let w = field_room (dictionary_names c.args.d.now) c.in-Field.is c.name_at-name.ensures c.requires in
    let k = length_put c.put-field.result c.put-field.new.out c.write_decimal-in-Field.new.out (omega (arith, w, c.put-field.ensures.0)) c.write_decimal-in-Field.auto.out in
    let j = length_put (c.put-field.result + c.write_decimal-in-Field.result) (put_behind c.put-field.result c.put-field.new.out c.write_decimal-in-Field.new.out) c.put.new.out (omega (arith, w, c.put-field.ensures.0, c.write_decimal-in-Field.ensures.0)) c.put.auto.out in
    rw (length_rest (c.put-field.result + c.write_decimal-in-Field.result + c.put.result) (put_behind (c.put-field.result + c.write_decimal-in-Field.result) (put_behind c.put-field.result c.put-field.new.out c.write_decimal-in-Field.new.out) c.put.new.out)) (omega (arith, w, c.put-field.ensures.0, c.write_decimal-in-Field.ensures.0, c.put.ensures.0))

pub overflow_add-result-in-Field : goal.overflow_add-result-in-Field
overflow_add-result-in-Field c =
    let w = field_room (dictionary_names c.args.d.now) c.in-Field.is c.name_at-name.ensures c.requires in
    omega (arith, w, c.put-field.ensures.0, c.write_decimal-in-Field.ensures.0, c.put.ensures.0, c.put-in-Field.ensures.0)

pub returns-in-Field : goal.returns-in-Field
returns-in-Field c =
    let a = c.put-field.ensures in
    let d = c.write_decimal-in-Field.ensures in
    let b = c.put.ensures in
    let e = c.put-in-Field.ensures in
    rw (c.in-Field.is, ← c.name_at-name.ensures)
    (omega (arith, length_field c.name_at-name.result.now, a.0, d.0, b.0, e.0), field_front c.name_at-name.result.now c.args.out.now a.1 a.0 d.1 d.0 b.1 b.0 e.1)

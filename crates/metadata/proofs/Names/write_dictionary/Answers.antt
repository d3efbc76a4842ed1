-- What stands in front, the offsets and the names, each written behind the one before.
use native.Mathlib.Omega.{arith}
use mathlib.Core.Path.{◌≡◌, sym}
use Prim.Native.Nat.{◌+◌, ◌-◌, ◌≤◌, max}
use lib.ListN.{length, take}
use lib.Seq.{length-take-le}
use borrow.Rule.Slice.PartMut.{put_mid}
use Rattle.encoding.specs.Packed.{les}
use Rattle.encoding.specs.Slices.{write}
use Rattle.encoding.proofs.WidthLaws.{width_at_low, width_at_high}
use Rattle.metadata.specs.Bytes.{size_of}
use Rattle.metadata.proofs.BytesLaws.{size_split, intact_parts}
use Rattle.metadata.proofs.FinishLaws.{dictionary_written, names_room, offsets_room, offsets_written}
use Rattle.metadata.proofs.Names.write_dictionary.Goals as goal
use Rattle.metadata.proofs.Names.write_dictionary.Goals.{After-write_front, After-write_offsets}

room : (c : After-write_front) → let m = c.args.self.counts in size_of c.args.floor m.names m.text ≤ length c.write_front.new.out
room c = omega (arith, c.requires.text_bound, c.write_front.auto.out)

written : (c : After-write_offsets) → let m = c.args.self.counts in let l = c.write_front.new.out in size_of c.args.floor m.names m.text ≤ length l
    → (let a = 1 + c.number_width-width.result + c.number_width-width.result in
    put_mid a (length l - a) l c.write_offsets.new.out ≡ write a (les c.number_width-width.result (take m.names c.args.self.ends.now)) l)
written c h =
    let s = c.args.self in
    offsets_written c.args.floor s.counts s.text.now s.ends.now c.requires.ends_value c.number_width-width.result c.write_front.new.out
    c.number_width-width.ensures h c.write_offsets.ensures

pub write_front-requires : goal.write_front-requires
write_front-requires c =
    let m = c.args.self.counts in
    let fl = c.args.floor in
    let k = max m.names m.text in
    let w = c.number_width-width.result in
    let s = size_split w fl m.names m.text c.number_width-width.ensures in
    record {
      ends_value = c.requires.ends_value;
      le_width = (omega (arith, width_at_low fl k, c.number_width-width.ensures), omega (arith, width_at_high fl k, c.number_width-width.ensures));
      width_bound = omega (arith, c.requires.text_bound);
    }

pub slice_bounds-write_offsets-end-2 : goal.slice_bounds-write_offsets-end-2
slice_bounds-write_offsets-end-2 c =
    let s = c.args.self in
    let p = intact_parts s.counts s.text.now s.ends.now c.requires.ends_value in
    sym (length-take-le s.counts.names s.ends.now p.many)

pub write_offsets-requires : goal.write_offsets-requires
write_offsets-requires c =
    let s = c.args.self in
    offsets_room c.args.floor s.counts s.text.now s.ends.now c.requires.ends_value c.number_width-width.result c.write_front.new.out
    c.number_width-width.ensures
    (room (goal.at.write_offsets-requires c).After-write_front)

pub slice_bounds-put_slice-end : goal.slice_bounds-put_slice-end
slice_bounds-put_slice-end c =
    let s = c.args.self in
    let p = intact_parts s.counts s.text.now s.ends.now c.requires.ends_value in
    sym (length-take-le s.counts.text s.text.now (omega arith))

pub returns : goal.returns
returns c =
    let s = c.args.self in
    let f = c.write_front.new.out in
    let width = c.number_width-width.result in
    let r = room (goal.at.returns c).After-write_front in
    let w = written (goal.at.returns c).After-write_offsets r in
    let k = names_room c.args.floor s.counts s.text.now s.ends.now c.requires.ends_value width f c.number_width-width.ensures r w in
    dictionary_written c.args.floor s.counts s.text.now s.ends.now c.requires.ends_value width c.args.out.now c.number_width-width.ensures
    c.requires.text_bound
    c.write_front.ensures w (c.put_slice.ensures.room k)

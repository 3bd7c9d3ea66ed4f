-- `rows_text_reader::lines::add_content` meets its contract. Assumes nothing.
use Prim.Native.Nat.{◌≤◌}
use lib.ListN.{length}
use Rattle.lists.proofs.Writing.{append-rest}
use Rattle.rows_text_reader.proofs.Content.{start-inside, numbers-in, content-unread, content-finds, content-read}
use native.Mathlib.Omega.{arith}
use Rattle.rows_text_reader.proofs.lines.add_content.Goals as goal

pub slice_bounds-read_numbers-count : goal.slice_bounds-read_numbers-count
slice_bounds-read_numbers-count c = omega (arith, start-inside _ c.word_of-word.ensures c.word_length-start.ensures)

pub slice_bounds-read_numbers-start : goal.slice_bounds-read_numbers-start
slice_bounds-read_numbers-start c = omega (arith, start-inside _ c.word_of-word.ensures c.word_length-start.ensures)

pub returns-in_default : goal.returns-in_default
returns-in_default c =
    let w = c.word_of-word.ensures in
    let room : c.args.p.count ≤ length c.args.numbers.now = omega (arith, c.requires.kept.count_most, c.requires.kept.layers-most, c.requires.kept.r-most, c.requires.room.for-numbers) in
    content-unread c.args.p c.args.numbers.now _ _ room (append-rest c.args.numbers.now _ c.args.p.count) c.args.line c.args.content.now c.args.rows.now c.args.lines.now
    (numbers-in c.args.content.now w c.word_length-start.ensures _ _ c.read_numbers-read.ensures) c.in_default.is

pub add_numbers-requires : goal.add_numbers-requires
add_numbers-requires c =
    let w = c.word_of-word.ensures in
    let room : c.args.p.count ≤ length c.args.numbers.now = omega (arith, c.requires.kept.count_most, c.requires.kept.layers-most, c.requires.kept.r-most, c.requires.room.for-numbers) in record {
      finds = content-finds c.args.p c.args.numbers.now _ _ room (append-rest c.args.numbers.now _ c.args.p.count) c.args.line c.args.content.now c.args.rows.now c.args.lines.now
          (numbers-in c.args.content.now w c.word_length-start.ensures _ _ c.read_numbers-read.ensures) c.in-Some.is c.requires.kept (omega (arith, c.requires.room.for-numbers, c.numbers-1.given));
      room = record { for-numbers = omega (arith, c.requires.room.for-numbers, c.numbers-1.given); for-rows = c.requires.room.for-rows; for-lines = c.requires.room.for-lines };
    }

pub returns : goal.returns
returns c =
    let w = c.word_of-word.ensures in
    let room : c.args.p.count ≤ length c.args.numbers.now = omega (arith, c.requires.kept.count_most, c.requires.kept.layers-most, c.requires.kept.r-most, c.requires.room.for-numbers) in
    content-read c.args.p c.args.numbers.now _ _ room (append-rest c.args.numbers.now _ c.args.p.count) c.args.line c.args.content.now c.args.rows.now c.args.lines.now
    (numbers-in c.args.content.now w c.word_length-start.ensures _ _ c.read_numbers-read.ensures) c.in-Some.is w _ _ _ _ c.add_numbers.ensures

-- `join_writer::rows::write_layer` meets its contract: three parts, one after another. Assumes nothing.
use Rattle.join.specs.Estate.{part_bytes}
use Rattle.join.proofs.Laying.{room-one, room-two, room-three, three-put}
use Rattle.join_writer.proofs.rows.write_layer.Goals as goal

pub write_part-after_first-requires : goal.write_part-after_first-requires
write_part-after_first-requires c =
    record { part_fits = c.requires.layer_fits.part-a; blocks_in_bounds = room-one c.args.at ((part_bytes c.args.layer.mu c.args.layer.a 0 c.args.first.now)) ((part_bytes c.args.layer.mu c.args.layer.b c.args.layer.second c.args.second.now)) ((part_bytes c.args.layer.mu c.args.layer.c c.args.layer.third c.args.third.now)) c.args.out.now c.requires.third_in_bounds }

pub write_part-after_second-requires : goal.write_part-after_second-requires
write_part-after_second-requires c =
    record { part_fits = c.requires.layer_fits.part-b; blocks_in_bounds = room-two c.args.at ((part_bytes c.args.layer.mu c.args.layer.a 0 c.args.first.now)) ((part_bytes c.args.layer.mu c.args.layer.b c.args.layer.second c.args.second.now)) ((part_bytes c.args.layer.mu c.args.layer.c c.args.layer.third c.args.third.now)) c.args.out.now c.requires.third_in_bounds c.write_part-after_first.ensures.0 c.write_part-after_first.ensures.1 }

pub write_part-requires : goal.write_part-requires
write_part-requires c =
    record {
      part_fits = c.requires.layer_fits.part_c;
      blocks_in_bounds = room-three c.args.at ((part_bytes c.args.layer.mu c.args.layer.a 0 c.args.first.now)) ((part_bytes c.args.layer.mu c.args.layer.b c.args.layer.second c.args.second.now)) ((part_bytes c.args.layer.mu c.args.layer.c c.args.layer.third c.args.third.now)) c.args.out.now c.requires.third_in_bounds c.write_part-after_first.ensures.0 c.write_part-after_first.ensures.1 c.write_part-after_second.ensures.0
          c.write_part-after_second.ensures.1;
    }

pub returns : goal.returns
returns c =
    three-put c.args.at ((part_bytes c.args.layer.mu c.args.layer.a 0 c.args.first.now)) ((part_bytes c.args.layer.mu c.args.layer.b c.args.layer.second c.args.second.now)) ((part_bytes c.args.layer.mu c.args.layer.c c.args.layer.third c.args.third.now)) c.args.out.now c.requires.third_in_bounds c.write_part-after_first.ensures.0 c.write_part-after_first.ensures.1 c.write_part-after_second.ensures.0
    c.write_part-after_second.ensures.1 c.write_part.ensures.0 c.write_part.ensures.1

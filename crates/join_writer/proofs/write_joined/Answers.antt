-- `join_writer::write_joined` meets its contract: the head is made in a buffer, so that the length is known before a byte is
-- written. Assumes nothing.
use native.Mathlib.Omega.{arith}
use lib.ListN.{length-drop}
use Rattle.lists.proofs.Writing.{take-drop-rest}
use Rattle.join.specs.Join.{joined_pack}
use Rattle.join.specs.Estate.{estate_packs}
use Rattle.join.proofs.Writing.{lists-asked, head-asked, rows-length, length-is, layers-asked, joined-written, done-short, done-written}
use Rattle.join_writer.proofs.write_joined.Goals as goal

pub joint_list-dark-requires : goal.joint_list-dark-requires
joint_list-dark-requires c =
    lists-asked c.args.estate c.args.first.now c.args.second.now c.args.third.now c.requires

pub write_head-at-requires : goal.write_head-at-requires
write_head-at-requires c = let w = head-asked c.args.estate c.args.first.now c.args.second.now c.args.third.now c.requires c.joint_list-dark.ensures in record { count_bound = w.0; r_bound = w.1.0; all = w.1.1.0; heads_in_bounds = w.1.1.1 }

pub overflow_mul-length : goal.overflow_mul-length
overflow_mul-length c =
    omega (arith, rows-length c.args.estate c.args.first.now c.args.second.now c.args.third.now c.requires)

pub overflow_add-length : goal.overflow_add-length
overflow_add-length c =
    omega (arith, rows-length c.args.estate c.args.first.now c.args.second.now c.args.third.now c.requires, (head-asked c.args.estate c.args.first.now c.args.second.now c.args.third.now c.requires c.joint_list-dark.ensures).1.1.1, c.write_head-at.ensures.0)

pub returns-then-out-length : goal.returns-then-out-length
returns-then-out-length c =
    done-short (joined_pack (estate_packs c.args.estate c.args.first.now c.args.second.now c.args.third.now)) c.args.out.now
    (length-is c.args.estate c.args.first.now c.args.second.now c.args.third.now c.requires c.joint_list-dark.ensures c.write_head-at.ensures.0) c.if-out-length.true

pub slice_bounds-copy_bytes-end : goal.slice_bounds-copy_bytes-end
slice_bounds-copy_bytes-end c =
    omega (arith, (head-asked c.args.estate c.args.first.now c.args.second.now c.args.third.now c.requires c.joint_list-dark.ensures).1.1.1, c.write_head-at.ensures.0, c.write_head-at.auto.out)

pub write_layers-requires : goal.write_layers-requires
write_layers-requires c =
    layers-asked c.args.estate c.args.first.now c.args.second.now c.args.third.now c.requires c.joint_list-dark.ensures c.write_head-at.ensures.0 _
    (rw (take-drop-rest c.copy_bytes.new.out c.write_head-at.result, length-drop c.write_head-at.result c.copy_bytes.new.out)
    (omega (arith, c.if-out-length.false, c.copy_bytes.auto.out)))

pub returns : goal.returns
returns c =
    let room = c.if-out-length.false in
    done-written (joined_pack (estate_packs c.args.estate c.args.first.now c.args.second.now c.args.third.now)) c.args.out.now _
    (length-is c.args.estate c.args.first.now c.args.second.now c.args.third.now c.requires c.joint_list-dark.ensures c.write_head-at.ensures.0) room
    (joined-written c.args.estate c.args.first.now c.args.second.now c.args.third.now c.requires c.joint_list-dark.ensures c.write_head-at.ensures.0 c.write_head-at.new.out c.args.out.now c.copy_bytes.new.out _ c.write_head-at.ensures.1 c.copy_bytes.ensures
    c.write_layers.new.out (omega (arith, room, c.write_head-at.ensures.0)) c.write_layers.ensures)

-- `join_code::join_estate` meets its contract: each return is a case of `join_packs`. Assumes nothing.
use Rattle.join.proofs.Writing.{too-many-nodes, too-large-mu, too_many_rows, within-done}
use Rattle.join_code.proofs.join_estate.Goals as goal

pub returns-then-n-gt255 : goal.returns-then-n-gt255
returns-then-n-gt255 c = too-many-nodes c.args.estate c.args.first.now c.args.second.now c.args.third.now c.args.out.now c.if-n-gt255.true

pub returns-then-joint-gt4096 : goal.returns-then-joint-gt4096
returns-then-joint-gt4096 c =
    too-large-mu c.args.estate c.args.first.now c.args.second.now c.args.third.now c.joint_heads-joint.ensures c.args.out.now c.if-joint-gt4096.true

pub returns-then-joint-gt4096-2 : goal.returns-then-joint-gt4096-2
returns-then-joint-gt4096-2 c =
    too_many_rows c.args.estate c.args.first.now c.args.second.now c.args.third.now c.joint_heads-joint.ensures c.if-joint-gt4096.false c.args.out.now c.if-joint-gt4096-2.true

pub write_joined-requires : goal.write_joined-requires
write_joined-requires c =
    record {
      estate = c.requires;
      all-nodes = c.if-n-gt255.false;
      joint-is = c.joint_heads-joint.ensures;
      mu-most = c.if-joint-gt4096.false;
      rows-most = c.if-joint-gt4096-2.false;
    }

pub returns : goal.returns
returns c =
    within-done c.args.estate c.args.first.now c.args.second.now c.args.third.now c.joint_heads-joint.ensures c.if-joint-gt4096.false c.args.out.now c.write_joined.new.out c.write_joined.result
    c.if-n-gt255.false c.if-joint-gt4096-2.false c.write_joined.ensures

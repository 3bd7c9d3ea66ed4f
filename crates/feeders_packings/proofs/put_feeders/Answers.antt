-- `feeders_packings::put_feeders` meets its contract: the part of the buffer that it lends comes back with the rows. Assumes nothing.
use native.Mathlib.Omega.{arith}
use lib.ListN.{length-drop}
use Rattle.lists.proofs.Writing.{take-drop-rest}
use Rattle.feeders_packings.proofs.UnitAnswers.{put_back}
use Rattle.feeders_packings.proofs.put_feeders.Goals as goal

pub feeder_rows-requires : goal.feeder_rows-requires
feeder_rows-requires c =
    record {
      r_in_bounds = (
        rw (take-drop-rest c.args.bytes.now c.args.at, length-drop c.args.at c.args.bytes.now) (omega (arith, c.requires.r_in_bounds.0)),
        rw (take-drop-rest c.args.fed.now c.args.at, length-drop c.args.at c.args.fed.now) (omega (arith, c.requires.r_in_bounds.1)),
        c.requires.r_in_bounds.2,
      );
      all = rw (take-drop-rest c.args.bytes.now c.args.at) c.requires.all;
    }

pub returns : goal.returns
returns c =
    put_back c.args.bytes.now c.args.each.now c.args.fed.now c.feeder_rows.new.out c.args.at c.args.r c.args.rows c.requires.r_in_bounds.0 c.requires.r_in_bounds.1
    c.feeder_rows.ensures

-- `rounds_code::play_feeders` meets its contract, over the rows of feeders in its buffer. Assumes nothing.
use Prim.Native.Nat.{ℕ}
use native.Mathlib.Omega.{arith}
use mathlib.Core.Path.{sym}
use lib.ListN.{length-drop, length-replicate}
use Rattle.lists.proofs.Writing.{take-drop-rest}
use Rattle.rounds.proofs.Checking.{fed-length, fed-rows-held, fed-played}
use Rattle.rounds_code.proofs.play_feeders.Goals as goal

pub slice_bounds-feeder_rows-count : goal.slice_bounds-feeder_rows-count
slice_bounds-feeder_rows-count c = omega (arith, c.requires.inside)

pub feeder_rows-requires : goal.feeder_rows-requires
feeder_rows-requires c =
    let p = c.requires in record {
      r_in_bounds = (
        rw (take-drop-rest c.args.bytes.now c.args.head.first, length-drop c.args.head.first c.args.bytes.now) (omega (arith, p.inside)),
        omega (arith, p.few, length-replicate {A = ℕ} 20_480 0),
        p.entries,
      );
      all = rw (take-drop-rest c.args.bytes.now c.args.head.first) p.below;
    }

pub slice_bounds-play_accepted-end : goal.slice_bounds-play_accepted-end
slice_bounds-play_accepted-end c =
    sym (fed-length c.requires _ _ (length-replicate {A = ℕ} 20_480 0) c.feeder_rows.ensures)

pub play_accepted-requires : goal.play_accepted-requires
play_accepted-requires c =
    fed-rows-held c.requires _ _ (length-replicate {A = ℕ} 20_480 0) c.feeder_rows.ensures

pub returns : goal.returns
returns c =
    fed-played c.requires _ _ (length-replicate {A = ℕ} 20_480 0) c.feeder_rows.ensures c.args.q c.play_accepted.ensures

use Rattle.crowding_pairs.proofs.Cells.{part_next, part_all}
use Rattle.crowding_pairs.proofs.count.count_row.Goals as goal

pub loop-k-preserved : goal.loop-k-preserved
loop-k-preserved c =
    part_next c.loop-k.invariant c.loop-k-test.true _ c.from-low.ensures c.requires.short c.count_after.ensures

pub returns : goal.returns
returns c = part_all c.loop-k.invariant c.loop-k-test.false

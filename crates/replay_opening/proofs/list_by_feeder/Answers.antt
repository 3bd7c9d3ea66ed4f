-- `replay_opening::list_by_feeder` meets its contract: the records by the rows of feeders in its buffer. Assumes nothing.
use Prim.Native.Nat.{ℕ}
use native.Mathlib.Omega.{arith}
use lib.ListN.{length-replicate}
use Rattle.replay_opening.proofs.Fed.{few_bytes, rows-below, fed-long, fed-index}
use Rattle.replay_opening.proofs.list_by_feeder.Goals as goal

pub feeder_rows-requires : goal.feeder_rows-requires
feeder_rows-requires c =
    record { r_in_bounds = (omega (arith, c.requires.feeders_asked.inside), omega (arith, few_bytes c.requires.feeders_asked, length-replicate {A = ℕ} 20_480 0), c.requires.feeders_asked.entries); all = rows-below c.requires.feeders_asked }

pub overflow_mul-end : goal.overflow_mul-end
overflow_mul-end c = omega (arith, few_bytes c.requires.feeders_asked)

pub slice_bounds-list_records-end : goal.slice_bounds-list_records-end
slice_bounds-list_records-end c = omega (arith, few_bytes c.requires.feeders_asked)

pub list_records-requires : goal.list_records-requires
list_records-requires c =
    let long = fed-long c.requires.feeders_asked _ c.feeder_rows.ensures in record { rows_len = (long, c.requires.feeders_asked.asked.r-most, c.requires.feeders_asked.asked.b-most); rows_in_bounds = omega (arith, long, c.requires.feeders_asked.inside, c.requires.rows_in_bounds) }

pub returns : goal.returns
returns c = fed-index c.requires.feeders_asked _ c.feeder_rows.ensures c.list_records.ensures

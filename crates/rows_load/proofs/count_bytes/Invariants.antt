-- `rows_load::count_bytes` meets its contract. The loop's invariant: the counts are those of the bytes seen. Assumes nothing.
use mathlib.Core.Path.{◌≡◌}
use lib.ListN.{length}
use Rattle.rows_load.specs.Counts.{Counted}
use Rattle.rows_load.proofs.count_bytes.Given as goal

abbrev pub invariant-loop-seen : goal.invariant-loop-seen
invariant-loop-seen l = (length l.counts ≡ 256) × Counted l.bytes l.seen l.counts

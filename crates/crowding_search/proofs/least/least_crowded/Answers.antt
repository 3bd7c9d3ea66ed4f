-- `crowding_search::least::least_crowded` meets its contract: there is a place for each byte of the rows. Assumes nothing.
use native.Mathlib.Omega.{arith}
use Rattle.crowding.proofs.VisitRows.{few_bytes}
use Rattle.crowding_search.proofs.least.least_crowded.Goals as goal

pub least_along-requires-2 : goal.least_along-requires-2
least_along-requires-2 c = let p = c.requires in (p, omega (arith, few_bytes p))

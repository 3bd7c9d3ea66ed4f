-- `placement_code::records::without_feeders` meets its contract: the table of no feeders beside a good verdict. Assumes nothing.
use mathlib.Core.Path.{refl}
use Rattle.layers.proofs.Listing.{nodes_array-nil}
use Rattle.placement_code.proofs.records.without_feeders.Goals as goal

pub returns : goal.returns
returns c = rw (c.in_ok-verdict.was, ← nodes_array-nil) refl

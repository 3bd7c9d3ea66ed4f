-- `placement_code::refuse` meets its contract: zeros and an empty list beside the refusal. Assumes nothing.
use mathlib.Core.Path.{refl}
use Rattle.layers.proofs.Listing.{nodes_array-nil}
use Rattle.placement_code.proofs.refuse.Goals as goal

pub returns : goal.returns
returns c = rw (← nodes_array-nil) refl

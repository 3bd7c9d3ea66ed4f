-- `placement_code::check_placement` meets its contract: the check without the load. Assumes nothing.
use Rattle.placement_code.proofs.check_placement.Goals as goal

pub returns : goal.returns
returns c = c.check_loaded-loaded.ensures.check_value

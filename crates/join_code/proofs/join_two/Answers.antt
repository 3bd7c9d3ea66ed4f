-- `join_code::join_two` meets its contract. Assumes nothing.
use Rattle.join_code.proofs.join_two.Goals as goal

pub returns : goal.returns
returns c = c.join_packs.ensures

-- `ask_code::ask` meets its contract: a refused pack's refusal is the answer; an accepted pack is asked of by its numbers.
-- Assumes nothing.
use Rattle.planner.proofs.Found.{PackFound, check-refused, check-accepted}
use Rattle.commit.specs.Asking.{ask}
use Rattle.commit.proofs.Offers.{layers-held, ask_layers-held, refused-done}
use Rattle.ask_code.proofs.ask.Goals as goal

pub ask_layers-requires : goal.ask_layers-requires
ask_layers-requires c = layers-held ((let found-here : PackFound c.args.pack.now c.in-Ok.head c.check_pack-checked.result.layers
    c.check_pack-checked.result.dark = check-accepted c.args.pack.now c.check_pack-checked.ensures c.in-Ok.is in found-here)).held

pub returns-in-Err : goal.returns-in-Err
unfolding ask
returns-in-Err c =
    refused-done c.args.work.now
    (rw (check-refused c.args.pack.now c.check_pack-checked.ensures c.in-Err.is))
    c.refuse.ensures

pub returns-in-Ok : goal.returns-in-Ok
unfolding ask
returns-in-Ok c =
    rw (
      ((let found-here : PackFound c.args.pack.now c.in-Ok.head c.check_pack-checked.result.layers
          c.check_pack-checked.result.dark = check-accepted c.args.pack.now c.check_pack-checked.ensures c.in-Ok.is in found-here)).found,
      ask_layers-held,
    ) c.ask_layers.ensures

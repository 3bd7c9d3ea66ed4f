-- `rounds_players::states::is_down` meets its contract. Assumes nothing.
use Rattle.rounds.proofs.States.{bit_shifted}
use Rattle.rounds_players.proofs.states.is_down.Goals as goal

pub returns : goal.returns
returns c = bit_shifted c.args.state c.args.v

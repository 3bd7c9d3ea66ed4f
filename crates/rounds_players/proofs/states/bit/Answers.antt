-- `rounds_players::states::bit` meets its contract. Assumes nothing.
use native.Mathlib.Omega.{arith}
use native.Mathlib.Nat.{one-mul}
use mathlib.Core.Path.{◌∙◌}
use lib.Dec.{lit<}
use lib.Pow.{shl_exact}
use Rattle.rounds_players.proofs.states.bit.Goals as goal

pub returns : goal.returns
returns c = shl_exact 1 c.args.v 64 (lit< tt) (omega arith) ∙ one-mul _

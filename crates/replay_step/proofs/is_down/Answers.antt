-- `replay_step::is_down` meets its contract. Assumes nothing.
use native.Mathlib.Omega.{arith}
use mathlib.Core.Path.{refl}
use borrow.Author.Tests.{lt-ltb}
use Rattle.replay_step.proofs.is_down.Goals as goal

pub returns : goal.returns
returns c = rw (c.from.ensures, lt-ltb c.args.node.0 256 (omega arith)) refl

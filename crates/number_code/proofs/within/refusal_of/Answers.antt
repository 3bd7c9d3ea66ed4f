-- `number_code::within::refusal_of` meets its contract: each arm is a case of `refusal_of`. Assumes nothing.
use mathlib.Core.Path.{sym, ap}
use Rattle.number.specs.Answers.{refusal_of}
use Rattle.number_code.proofs.within.refusal_of.Goals as goal

pub returns-in-Ok : goal.returns-in-Ok
returns-in-Ok c = sym (ap refusal_of c.in-Ok.is)

pub returns-in-Err : goal.returns-in-Err
returns-in-Err c = sym (ap refusal_of c.in-Err.is)

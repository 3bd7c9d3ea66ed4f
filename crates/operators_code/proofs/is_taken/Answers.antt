-- `operators_code::is_taken` meets its contract. Assumes nothing.
use native.Mathlib.Omega.{arith}
use borrow.Author.Tests.{le-leb, lt-leb}
use Rattle.operators_code.proofs.is_taken.Goals as goal

pub returns-then-wish-lt1 : goal.returns-then-wish-lt1
returns-then-wish-lt1 c = rw (lt-leb 1 c.args.wish (omega arith))

pub returns : goal.returns
returns c = rw (le-leb 1 c.args.wish (omega arith))

-- `commit_code::counts::layer_takes` meets its contract. Assumes nothing.
use native.Mathlib.Omega.{arith}
use mathlib.Core.Path.{sym}
use Rattle.commit.proofs.Counts.{takes_none, takes-not-below, takes-some}
use Rattle.commit_code.proofs.counts.layer_takes.Goals as goal

pub returns-then-c-eq0 : goal.returns-then-c-eq0
returns-then-c-eq0 c =
    sym (takes_none c.args.layers c.args.s c.args.x c.args.c c.if-c-eq0.true)

pub returns-then-s-x : goal.returns-then-s-x
returns-then-s-x c =
    sym (takes-not-below c.args.layers c.args.s c.args.x c.args.c (omega arith) (omega arith))

pub returns : goal.returns
returns c =
    sym (takes-some c.args.layers c.args.s c.args.x c.args.c (omega arith) c.if-s-x.false)

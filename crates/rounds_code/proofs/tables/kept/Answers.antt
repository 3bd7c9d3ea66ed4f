use native.Mathlib.Omega.{arith}
use Rattle.rounds.proofs.Listing.{hits-none, hits_next, hits-le}
use Rattle.rounds_code.proofs.tables.kept.Goals as goal

pub loop-v-init : goal.loop-v-init
loop-v-init c = hits-none c.args.state c.args.row.now

pub overflow_add-hit : goal.overflow_add-hit
overflow_add-hit c = omega (arith, hits-le c.args.state c.args.row.now c.loop-v.v-index)

pub loop-v-preserved : goal.loop-v-preserved
loop-v-preserved c = omega (arith, hits_next c.args.state c.args.row.now c.loop-v.v-index c.loop-v-test.true)

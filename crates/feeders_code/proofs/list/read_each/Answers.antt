use mathlib.Core.Path.{sym, ◌∙◌, ap}
use Rattle.refusal.proofs.Answered.{passed-on}
use Rattle.number.specs.Numbers.{read_within}
use Rattle.number.proofs.Within.{was_read, was-refused}
use Rattle.placement.specs.Answers.{feeders_read}
use Rattle.feeders_code.proofs.list.EachLoop.{each-hold, each-done, each-no-feeder, feeder-most, each_again}
use native.Mathlib.Omega.{arith}
use Rattle.feeders_code.proofs.list.read_each.Goals as goal

pub loop-i-init : goal.loop-i-init
loop-i-init c = each-hold _ _ _ _

pub returns-in_err-feeder : goal.returns-in_err-feeder
returns-in_err-feeder c =
    let none = was-refused (read_within _ _ c.args.bytes.now c.loop-i.next) c.read_within.ensures c.in_err-feeder.was in
    passed-on _ c.from_residual.ensures.1
    ∙ sym (ap feeders_read (each-no-feeder _ _ _ _ _ _ _ c.loop-i.invariant c.loop-i-test.true none))

pub overflow_cast-each : goal.overflow_cast-each
overflow_cast-each c =
    let feeder = was_read (read_within _ _ c.args.bytes.now c.loop-i.next) c.read_within.ensures c.in_ok-feeder.was in
    omega (arith, feeder-most _ _ _ _ _ _ _ c.loop-i.invariant c.loop-i-test.true feeder c.requires.1)

pub loop-i-preserved : goal.loop-i-preserved
loop-i-preserved c =
    let feeder = was_read (read_within _ _ c.args.bytes.now c.loop-i.next) c.read_within.ensures c.in_ok-feeder.was in
    each_again _ _ _ _ _ _ _ c.loop-i.invariant c.loop-i-test.true feeder c.requires.2

pub returns : goal.returns
returns c = each-done _ _ _ _ _ _ _ c.loop-i.invariant c.loop-i-test.false

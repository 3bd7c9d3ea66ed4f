use mathlib.Core.Path.{sym, ◌∙◌, ap}
use Rattle.refusal.proofs.Answered.{passed-on}
use Rattle.number.specs.Numbers.{read_within}
use Rattle.number.proofs.Within.{was_read, was-refused}
use Rattle.layers.specs.Answers.{dark_read}
use Rattle.dark_code.proofs.list.NodesLoop.{nodes-hold, nodes-done, nodes-no-node, node-most, nodes-again}
use native.Mathlib.Omega.{arith}
use Rattle.dark_code.proofs.list.read_nodes.Goals as goal

pub loop-i-init : goal.loop-i-init
loop-i-init c = nodes-hold _ _ _ _

pub returns-in_err-node : goal.returns-in_err-node
returns-in_err-node c =
    let no-node = was-refused (read_within _ _ c.args.bytes.now c.loop-i.next) c.read_within.ensures c.in_err-node.was in
    passed-on _ c.from_residual.ensures.1
    ∙ sym (ap dark_read (nodes-no-node _ _ _ _ _ _ _ _ c.loop-i.invariant c.loop-i-test.true no-node))

pub overflow_add-least : goal.overflow_add-least
overflow_add-least c =
    let node = was_read (read_within _ _ c.args.bytes.now c.loop-i.next) c.read_within.ensures c.in_ok-node.was in
    omega (arith, node-most _ _ _ _ _ _ _ _ c.loop-i.invariant c.loop-i-test.true node c.requires.1)

pub loop-i-preserved : goal.loop-i-preserved
loop-i-preserved c =
    let p = c.requires in
    let node = was_read (read_within _ _ c.args.bytes.now c.loop-i.next) c.read_within.ensures c.in_ok-node.was in
    nodes-again _ _ _ _ _ _ _ _ c.loop-i.invariant c.loop-i-test.true node p.1 p.2

pub returns : goal.returns
returns c = nodes-done _ _ _ _ _ _ _ _ c.loop-i.invariant c.loop-i-test.false

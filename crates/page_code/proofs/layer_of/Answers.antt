use mathlib.Core.Path.{sym, ◌∙◌}
use Rattle.page.proofs.Layered.{layer-found, layer-after, layer-none}
use native.Mathlib.Omega.{arith}
use Rattle.page_code.proofs.layer_of.Goals as goal

pub returns-then-left-layer : goal.returns-then-left-layer
returns-then-left-layer c =
    let there = layer-found c.args.layers c.loop-x.x c.loop-x.left (omega arith) c.if-left-layer.true in
    (sym (c.loop-x.invariant ∙ there), omega arith)

pub loop-x-preserved : goal.loop-x-preserved
loop-x-preserved c =
    c.loop-x.invariant ∙ layer-after c.args.layers c.loop-x.x c.loop-x.left (omega arith) c.if-left-layer.false

pub returns : goal.returns
returns c =
    let none = layer-none c.args.layers c.loop-x.x c.loop-x.left (omega arith) in
    (omega (arith, c.loop-x.invariant ∙ none), omega arith)

use native.Mathlib.Omega.{arith}
use mathlib.Core.Path.{◌≡◌, ◌∙◌, ap}
use lib.Seq.{sets}
use Rattle.page.specs.Page.{node_field}
use Rattle.page.proofs.Joined.{joined, joined-none, joined-next}
use Rattle.page.proofs.Lines.{length-node_field}
use Rattle.page_lines.proofs.lines.put_nodes.Goals as goal

pub loop-j-init : goal.loop-j-init
loop-j-init c = joined-none (node_field c.args.row.now) c.args.out.now c.args.at

pub loop-j-preserved : goal.loop-j-preserved
loop-j-preserved c =
    c.put_node_field.ensures
    ∙ joined-next (node_field c.args.row.now) 4 c.args.out.now c.args.at c.loop-j.j (λ j less. length-node_field c.args.row.now c.requires.1 j) c.loop-j.invariant

pub returns : goal.returns
returns c =
    let all : c.loop-j.j ≡ 5 = omega arith in
    c.loop-j.invariant ∙ ap (λ n. sets c.args.out.now c.args.at (joined (node_field c.args.row.now) n)) all

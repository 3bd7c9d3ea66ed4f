use Prim.Native.Nat.{◌<◌}
use mathlib.Core.Path.{refl, ap, ◌∙◌}
use lib.ListN.{set, get_or, length-set}
use Rattle.lists.proofs.Alls.{all_get_d}
use Rattle.lists.proofs.Writing.{set-take-append-drop, take-append-drop-all}
use native.Mathlib.Omega.{arith}
use Rattle.table_blocks.proofs.nodes.put_nodes.Goals as goal

pub loop-i-init : goal.loop-i-init
loop-i-init c = (refl, refl)

pub overflow_cast-rows : goal.overflow_cast-rows
overflow_cast-rows c =
    omega (arith, all_get_d (λ v. v < 256) c.args.nodes.now c.loop-i.i 0 c.requires.all c.loop-i-test.true)

pub loop-i-preserved : goal.loop-i-preserved
loop-i-preserved c =
    let turn = c.loop-i-test.true in (
      simp length-set c.loop-i.invariant.0,
      ap (λ now. set now c.loop-i.i (get_or c.args.nodes.now c.loop-i.i 0)) c.loop-i.invariant.1
          ∙ set-take-append-drop c.args.nodes.now c.args.rows.now c.loop-i.i 0 turn (omega arith),
    )

pub returns : goal.returns
returns c =
    c.loop-i.invariant.1 ∙ take-append-drop-all c.args.nodes.now c.args.rows.now c.loop-i.i (omega arith)

use mathlib.Core.Path.{refl, ◌∙◌, ap}
use Prim.Native.Nat.{ℕ}
use native.Mathlib.Omega.{arith}
use mathlib.Core.List.{List}
use lib.ListN.{set, get_or, length-set}
use Rattle.lists.proofs.Writing.{set-take-append-drop, take-append-drop-all}
use Rattle.reply_worst.proofs.widen.Goals as goal

pub loop-i-init : goal.loop-i-init
loop-i-init c = (refl, refl)

pub loop-i-preserved : goal.loop-i-preserved
loop-i-preserved c =
    let more = c.loop-i-test.true in (
      simp length-set c.loop-i.invariant.0,
      rw c.from.ensures
          (ap (λ (n : List ℕ). set n c.loop-i.i (get_or c.args.nodes.now c.loop-i.i 0)) c.loop-i.invariant.1
          ∙ set-take-append-drop c.args.nodes.now c.args.numbers.now c.loop-i.i 0 more (omega (arith, more, c.requires))),
    )

pub returns : goal.returns
returns c =
    c.loop-i.invariant.1 ∙ take-append-drop-all c.args.nodes.now c.args.numbers.now c.loop-i.i (omega (arith, c.loop-i-test.false))

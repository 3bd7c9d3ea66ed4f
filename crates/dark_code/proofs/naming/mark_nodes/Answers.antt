use Prim.Native.Nat.{◌<◌}
use mathlib.Core.Path.{◌≡◌, refl}
use lib.ListN.{take, get_or, length-set, length-take}
use lib.Seq.{get_or-take}
use Rattle.lists.proofs.Alls.{all_get_d}
use Rattle.dark_code.proofs.naming.Marks.{marked-none, marked_next}
use native.Mathlib.Omega.{arith}
use borrow.Author.Rules.{rules}
use Rattle.dark_code.proofs.naming.mark_nodes.Goals as goal

pub loop-i-init : goal.loop-i-init
loop-i-init c = (search rules, refl, marked-none 256)

pub bounds-marks-v : goal.bounds-marks-v
bounds-marks-v c = omega (
  arith,
  (let node-small-here : get_or c.args.nodes c.loop-i.i 0 < 256 = rw (get_or-take c.args.count c.args.nodes c.loop-i.i 0 c.loop-i-test.true) at
      (all_get_d (λ v. v < 256) (take c.args.count c.args.nodes) c.loop-i.i 0 c.requires.all
      (rw length-take (omega arith))) in node-small-here),
)

pub loop-i-preserved : goal.loop-i-preserved
loop-i-preserved c = (
  omega arith,
  simp length-set c.loop-i.invariant.1,
  marked_next c.loop-i.marks c.args.nodes c.loop-i.i c.loop-i.invariant.2 (omega arith) (omega (
    arith,
    (let node-small-here : get_or c.args.nodes c.loop-i.i 0 < 256 = rw (get_or-take c.args.count c.args.nodes c.loop-i.i 0 c.loop-i-test.true) at
        (all_get_d (λ v. v < 256) (take c.args.count c.args.nodes) c.loop-i.i 0 c.requires.all
        (rw length-take (omega arith))) in node-small-here),
  )),
)

pub returns : goal.returns
returns c =
    let all : c.loop-i.i ≡ c.args.count = omega arith in
    rw all at c.loop-i.invariant.2

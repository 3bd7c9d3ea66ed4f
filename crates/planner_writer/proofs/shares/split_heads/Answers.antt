use Prim.Native.Nat.{◌<◌}
use native.Mathlib.Omega.{arith}
use native.Mathlib.Numerals.{add-one}
use mathlib.Core.Path.{refl, ◌∙◌, ap}
use mathlib.Core.List.{List}
use lib.ListN.{set}
use Rattle.lists.specs.Lists.{up_to}
use Rattle.layers.specs.Answers.{no_head}
use Rattle.layers.specs.declared.LayerHead.{LayerHead}
use Rattle.layers.proofs.Arrays.{five-snoc}
use Rattle.split.specs.Splits.{layer_at, share_head, split_heads, counts_split}
use Rattle.split.proofs.Heads.{split_heads-suc, length-split_heads}
use Rattle.planner_writer.proofs.shares.split_heads.Goals as goal

pub loop-x-init : goal.loop-x-init
unfolding up_to
loop-x-init c = refl

pub loop-x-preserved : goal.loop-x-preserved
loop-x-preserved c =
    let layers = c.args.layers in
    let split = counts_split layers c.args.counts in
    let head : LayerHead = share_head (layer_at layers c.loop-x.x) (split c.loop-x.x) in
    let below : c.loop-x.x < 5 = omega (arith, c.requires.s-most, c.loop-x-test.true) in
    rw (c.copies_for.ensures, add-one c.loop-x.x, split_heads-suc layers c.loop-x.x split)
    (ap (λ (heads : List LayerHead). set heads c.loop-x.x head) c.loop-x.invariant
    ∙ five-snoc no_head (split_heads layers c.loop-x.x split) c.loop-x.x head (length-split_heads layers c.loop-x.x split) below)

-- Whether some layer below s has a block, layer by layer. Assumes nothing.
use Prim.Native.Nat.{ℕ, zero, suc, ◌+◌, ◌≤◌, ◌<◌}
use native.Mathlib.Numerals.{add-one}
use native.Mathlib.Nat.{not-suc-le-zero, le_of_suc-le-suc}
use mathlib.Core.Path.{◌≡◌, refl, ap}
use mathlib.Core.Bool.{Bool, true, false, ◌||◌, or-true}
use mathlib.Core.List.{List, [], ◌∷◌}
use lib.ListN.{take}
use lib.Seq.{take-take}
use lib.Dec.{ltb}
use borrow.Author.Tests.{lt-ltb, le-ltb}
use Rattle.lists.specs.Lists.{any}
use Rattle.layers.specs.Layers.{heads_of}
use Rattle.layers.specs.declared.LayerHead.{LayerHead}
use Rattle.layers.proofs.Layouts.{heads_of-layers_at}
use Rattle.split.specs.Splits.{layer_at, has_block}
use Rattle.planner.specs.Planning.{check_blocks}
use Rattle.planner.specs.Writing.{held_layers}

-- neither of two tests passed
or-false-both : (a b : Bool) → (a || b) ≡ false → (a ≡ false) × (b ≡ false)
or-false-both true b e = (e, cc)
or-false-both false b e = (refl, e)

pub block_none : (layers : List LayerHead) → has_block layers 0 ≡ false
unfolding has_block any
block_none layers = refl

-- one layer without a block more
pub block-next : (layers : List LayerHead) (x : ℕ) → has_block layers x ≡ false → (layer_at layers x).size ≤ 0
    → has_block layers (x + 1) ≡ false
unfolding has_block any
block-next layers x none h = rw (add-one x) (go layers x none h)
  where
    go : (l : List LayerHead) (y : ℕ) → any (λ layer. ltb 0 layer.size) (take y l) ≡ false → (layer_at l y).size ≤ 0
        → any (λ layer. ltb 0 layer.size) (take (suc y) l) ≡ false
    go [] y e g = refl
    go (head ∷ l) zero e g = rw (le-ltb 0 head.size g)
    go (head ∷ l) (suc y) e g =
        let (first, rest) = or-false-both (ltb 0 head.size) _ e in
        rw (first, go l y rest g)

-- a layer below s with a block
pub block-found : (layers : List LayerHead) (x s : ℕ) → x < s → 0 < (layer_at layers x).size → has_block layers s ≡ true
unfolding has_block any
block-found [] x s h some = absurd (not-suc-le-zero some)
block-found (head ∷ layers) x zero h some = absurd (not-suc-le-zero h)
block-found (head ∷ layers) zero (suc s) h some = rw (lt-ltb 0 head.size some)
block-found (head ∷ layers) (suc x) (suc s) h some =
    rw (block-found layers x s (le_of_suc-le-suc h) some) (or-true (ltb 0 head.size))

-- the pack's layers are those of the code's array
pub block_held : (r : ℕ) (layers : List LayerHead) (blocks : List ℕ) (s : ℕ) → s ≤ r
    → has_block (heads_of (held_layers r layers blocks)) s ≡ has_block layers s
unfolding has_block
block_held r layers blocks s h =
    rw (heads_of-layers_at r (take r layers) blocks) (ap (any (λ layer. ltb 0 layer.size)) (take-take s r layers h))

pub check_blocks-held : (r : ℕ) (layers : List LayerHead) (blocks : List ℕ) (s : ℕ) → s ≤ r
    → check_blocks (heads_of (held_layers r layers blocks)) s ≡ check_blocks layers s
unfolding check_blocks
check_blocks-held r layers blocks s h = rw (block_held r layers blocks s h)

-- What a layer loses, by its bound and its records; the losses of layers that are put together. Assumes nothing.
use Prim.Native.Nat.{ℕ, suc, ◌+◌, ◌≤◌}
use native.Mathlib.Omega.{arith}
use mathlib.Core.Path.{◌≡◌}
use mathlib.Core.List.{List, [], ◌∷◌, ◌++◌}
use lib.ListN.{length}
use Rattle.lists.specs.Lists.{total}
use Rattle.layers.specs.Layers.{sizes}
use Rattle.layers.specs.declared.LayerHead.{LayerHead}
use Rattle.placement.specs.declared.Rule.{Rule}
use Rattle.placement.specs.Figure.{loss, losses}
use Rattle.placement.proofs.Losses.{lost_by-mono}

-- a larger bound loses no less, and so do more records
pub loss-mono : (rule : Rule) (s k x : ℕ) (g h : LayerHead) → g.bound ≤ h.bound → g.size ≤ h.size → loss rule s k x g ≤ loss rule s k x h
unfolding loss
loss-mono rule s k x g h p q =
    let e = lost_by-mono rule s k x g.bound h.bound p in
    omega arith

pub losses-append : (rule : Rule) (s k x : ℕ) (g h : List LayerHead) → losses rule s k x (g ++ h) ≡ losses rule s k x g + losses rule s k (x + length g) h
unfolding losses
losses-append rule s k x [] h = let e : x + 0 ≡ x = omega arith in rw e (omega arith)
losses-append rule s k x (head ∷ g) h =
    let e : suc x + length g ≡ x + suc (length g) = omega arith in
    rw (losses-append rule s k (suc x) g h, e) (omega arith)

pub sizes-append : (g h : List LayerHead) → sizes (g ++ h) ≡ sizes g + sizes h
unfolding total
sizes-append [] h = omega arith
sizes-append (head ∷ g) h = rw (sizes-append g h) (omega arith)

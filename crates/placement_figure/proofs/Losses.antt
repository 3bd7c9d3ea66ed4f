-- The losses layer by layer, as the code sums them: what each turn of the loop keeps, and that nothing wraps. Assumes
-- nothing.
use Prim.Native.Nat.{ℕ, ◌+◌, ◌-◌, ◌≤◌, ◌<◌, min}
use native.Mathlib.Omega.{arith}
use native.Mathlib.Numerals.{add-one}
use mathlib.Core.Path.{◌≡◌}
use mathlib.Core.List.{List, []}
use lib.ListN.{length, take, drop, get_or, length-take, drop_of_length-le}
use lib.Seq.{get_or-take, slice-cons}
use Rattle.lists.specs.Lists.{All}
use Rattle.lists.proofs.Alls.{all_get_d}
use Rattle.layers.specs.Layers.{sizes}
use Rattle.layers.specs.declared.LayerHead.{LayerHead}
use Rattle.layers.specs.Answers.{no_head}
use Rattle.placement.specs.declared.Rule.{Rule}
use Rattle.placement.specs.Figure.{lost_by, loss, losses, figure_of}
use Rattle.placement.proofs.Losses.{losses-le-sizes}

-- What each turn keeps: what is lost so far and the losses of the layers from x on are the losses of all.
pub record LossTurn (rule : Rule) (s k : ℕ) (layers : List LayerHead) (lost x : ℕ) : Type 0 where
  pub inside : x ≤ s
  pub same : lost + losses rule s k x (drop x (take s layers)) ≡ losses rule s k 0 (take s layers)

pub loss-holds : (rule : Rule) (s k : ℕ) (layers : List LayerHead) → LossTurn rule s k layers 0 0
loss-holds rule s k layers = record { inside = omega arith; same = omega arith }

module _ (rule : Rule) (s k : ℕ) (layers : List LayerHead) (lost x : ℕ) (turn : LossTurn rule s k layers lost x) where
  -- what is lost is at most the rows
  pub lost-le-sizes : lost ≤ sizes (take s layers)
  lost-le-sizes = omega (arith, turn.same, losses-le-sizes rule s k 0 (take s layers))

  -- the loop ends
  pub loss-done : (b : ℕ) → s ≤ x → b - lost ≡ figure_of rule s k b (take s layers)
  unfolding figure_of losses
  loss-done b h =
      let none_left : drop x (take s layers) ≡ [] = drop_of_length-le (take s layers) {i = x} (omega (arith, length-take s layers)) in
      let all = rw none_left at turn.same in
      omega arith

  module _ (h : x < s) (held : s ≤ length layers) where
    pub lambda-most : All (λ head. head.bound ≤ 16_777_216) (take s layers) → (get_or layers x no_head).bound ≤ 16_777_216
    lambda-most bounds =
        let at = all_get_d (λ head. head.bound ≤ 16_777_216) (take s layers) x no_head bounds
        (omega (arith, length-take s layers)) in
        rw (get_or-take s layers x no_head h) at at

    pub loss-again : {one : ℕ}
        → one ≡ min (get_or layers x no_head).size (lost_by rule s k x (get_or layers x no_head).bound)
        → LossTurn rule s k layers (lost + one) (x + 1)
    unfolding losses loss
    loss-again {one} is =
        let same = rw (slice-cons x s layers no_head h held) at turn.same in
        rw (add-one x) (record { inside = omega arith; same = rw is (omega arith) })

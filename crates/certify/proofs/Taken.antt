-- The layer that is taken: it is below s, has all rows, and the others have none. Assumes nothing.
use Prim.Native.Nat.{ℕ, ◌≤◌, ◌<◌}
use mathlib.Core.Path.{◌≡◌, ap}
use mathlib.Core.Logic.{◌⊎◌, inl, inr}
use lib.ListN.{length, get_or-eq_default}
use Rattle.lists.proofs.Arith.{le-or-lt}
use Rattle.layers.specs.Layers.{Layer, blocks_at}
use Rattle.certify.specs.Bare.{Bare, GoodBare}
use Rattle.certify.specs.Certify.{OnlyIn, most_together, figure_in, layer_taken, placed_in, certified, bare_of}
use Rattle.certify.proofs.Alone.{empty_layer, at_same, at_other, length-alone}
use Rattle.certify.proofs.Certified.{placed_in-rows}
use Rattle.certify.proofs.Highest.{highest-below}

module _ (q : Bare) (good : GoodBare q) where
  abbrev x : ℕ
  x = layer_taken q

  abbrev full : Layer
  full = record { bound = most_together x q.rows; rows = q.rows }

  pub taken-below : x < q.order.s
  taken-below = highest-below (figure_in q.order q.rows) q.order.s good.order.s-least

  pub taken-layer : blocks_at (placed_in q x).layers x ≡ full
  unfolding placed_in
  taken-layer = at_same q.order.s x (empty_layer 0) full (empty_layer 0) taken-below

  pub taken-others : (y : ℕ) → y < q.order.s → (y ≡ x → ⊥) → blocks_at (placed_in q x).layers y ≡ empty_layer 0
  unfolding placed_in
  taken-others y lt ne = at_other q.order.s x y (empty_layer 0) full (empty_layer 0) lt ne

  layers-long : length (placed_in q x).layers ≡ q.order.s
  unfolding placed_in
  layers-long = length-alone q.order.s x (empty_layer 0) full

  pub taken-only : OnlyIn x (placed_in q x).layers
  taken-only = record { inside = rw layers-long taken-below; others = λ y ne. ap (λ (l : Layer). l.rows) (empty y ne) }
    where
      empty : (y : ℕ) → (y ≡ x → ⊥) → blocks_at (placed_in q x).layers y ≡ empty_layer 0
      empty y ne = go (le-or-lt q.order.s y)
        where
          go : (q.order.s ≤ y) ⊎ (y < q.order.s) → blocks_at (placed_in q x).layers y ≡ empty_layer 0
          go (inl past) = get_or-eq_default (placed_in q x).layers (empty_layer 0) (rw layers-long past)
          go (inr lt) = taken-others y lt ne

  -- the bare rows of what is written are the bare rows
  pub certified-bare : bare_of (certified q) ≡ q
  unfolding certified placed_in
  certified-bare = λ i. record { base = q.base; order = q.order; rows = placed_in-rows q good x taken-below i }

-- Good bare rows all in one layer are a placement that the checker accepts. Assumes nothing.
use Prim.Native.Nat.{ℕ, ◌-◌, ◌≤◌, ◌<◌, zero-le}
use native.Mathlib.Omega.{arith}
use mathlib.Core.Path.{◌≡◌, refl, sym, ◌∙◌, ap}
use mathlib.Core.Bool.{true≢false}
use mathlib.Core.List.{List}
use mathlib.Core.Option.{none}
use lib.ListN.{replicate}
use Rattle.refusal.specs.Checked.{accepted}
use Rattle.packing.specs.Rows.{Packing}
use Rattle.layers.specs.Layers.{Layer, all_rows, head_of, heads_of, sizes}
use Rattle.layers.specs.declared.LayerHead.{LayerHead}
use Rattle.placement.specs.Figure.{figure_of}
use Rattle.placement.specs.Placement.{GoodPlacement, check_placement, placement_bytes}
use Rattle.placement.specs.declared.Rule.TheVariants.{NestedFloors}
use Rattle.placement.proofs.Accepted.{placement-accepted-iff}
use Rattle.placement.proofs.Written.{written-file, written-bytes}
use Rattle.certify.specs.Bare.{Bare, GoodBare}
use Rattle.certify.specs.Certify.{most_together, figure_in, one_layer, placed_in}
use Rattle.certify.proofs.Alone.{empty_layer, alone_heads, all_set, all_replicate, length-alone, rows-alone, sizes-alone, heads-alone, packings-alone, losses-alone}
use Rattle.certify.proofs.Most.{most-packing, most-le-length, most-positive}

-- Good bare rows, and a layer below s.
module _ (q : Bare) (good : GoodBare q) (x : ℕ) (below : x < q.order.s) where
  abbrev rows : List (List ℕ)
  rows = q.rows

  abbrev s : ℕ
  s = q.order.s

  abbrev b : ℕ
  b = q.order.b

  abbrev lambda : ℕ
  lambda = most_together x rows

  abbrev full : Layer
  full = record { bound = lambda; rows = rows }

  abbrev head : LayerHead
  head = record { bound = lambda; size = b }

  -- "Lambda never passes b, so the file is within limits"
  pub lambda-most : lambda ≤ b
  lambda-most = omega (arith, most-le-length x rows, good.records-all)

  pub x-below-r : x < q.base.r
  x-below-r = omega (arith, good.order.s-most)

  pub lambda-least : 1 ≤ lambda
  lambda-least =
      most-positive x q.base.n q.base.r rows good.rows x-below-r (omega (arith, good.records-all, good.order.b-least))

  pub head-is : head_of full ≡ head
  head-is = λ i. record { bound = lambda; size = good.records-all i }

  pub packing : Packing x lambda rows
  packing = most-packing x rows q.base.n q.base.r good.rows

  pub heads-one : heads_of (one_layer s x lambda rows) ≡ alone_heads s 0 x head
  heads-one = heads-alone s 0 x full ∙ ap (alone_heads s 0 x) head-is

  -- its figure is that of the layer alone
  pub figure-heads : figure_of NestedFloors s q.order.k b (alone_heads s 0 x head) ≡ figure_in q.order rows x
  unfolding figure_of figure_in
  figure-heads = ap (λ lost. b - lost) (losses-alone NestedFloors s q.order.k s 0 x head below)

  -- what is written is a good placement
  pub placed_in-good : GoodPlacement (placed_in q x)
  unfolding placed_in
  placed_in-good =
      let rows_are = rows-alone s 0 x full below in
      record {
        limits =
            record {
              kind = tt;
              base = good.base;
              dark = record { ordered = good.dark.ordered; unlisted = λ none. absurd (true≢false none) };
              order = good.order;
              layer-each = length-alone s x (empty_layer 0) full;
              lambda-most =
                  all_set (λ layer. layer.bound ≤ 16_777_216) (replicate s (empty_layer 0)) x full
                  (all_replicate (λ layer. layer.bound ≤ 16_777_216) s (empty_layer 0) zero-le)
                  (omega (arith, lambda-most, good.order.b-most));
              records-all = ap sizes heads-one ∙ sizes-alone s 0 x head below;
              feeders = refl;
            };
        rows = rw rows_are good.rows;
        in-service = rw rows_are good.in-service;
        apart = tt;
        packings = packings-alone s 0 x full packing;
        formula = sym (ap (figure_of NestedFloors s q.order.k b) heads-one ∙ figure-heads);
      }

  unfed : (placed_in q x).feeders ≡ none
  unfolding placed_in
  unfed = refl

  -- "accepted by the checker"
  pub placed_in-accepted : check_placement (placement_bytes (placed_in q x)) ≡ accepted (placed_in q x)
  placed_in-accepted =
      (placement-accepted-iff (placement_bytes (placed_in q x)) (placed_in q x) (written-bytes (placed_in q x) placed_in-good)).1
      (written-file (placed_in q x) placed_in-good unfed, placed_in-good)

  -- "with these rows"
  pub placed_in-rows : all_rows (placed_in q x).layers ≡ rows
  unfolding placed_in
  placed_in-rows = rows-alone s 0 x full below

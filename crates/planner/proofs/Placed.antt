-- The placement of a split of an accepted pack is one that document 01 accepts. Assumes nothing.
use Prim.Native.Nat.{ℕ, ◌+◌, ◌*◌, ◌≤◌, ◌<◌}
use native.Mathlib.Omega.{arith}
use mathlib.Core.Path.{◌≡◌, refl, sym, ◌∙◌, ap, subst}
use mathlib.Core.Bool.{true≢false}
use mathlib.Core.List.{List, [], map, map-map}
use mathlib.Core.Option.{none}
use lib.ListN.{length}
use Rattle.lists.specs.Lists.{All, up_to}
use Rattle.lists.proofs.Alls.{all_map, all-flatten}
use Rattle.lists.proofs.UpTo.{length-map-up_to, all-up_to, get_d-map-up_to, map-up_to-congr}
use Rattle.packing.specs.Rows.{Row, Packing}
use Rattle.packing.proofs.Copies.{copies-packing, repeated-rows, length-repeated}
use Rattle.layers.specs.Layers.{Layer, blocks_at, all_rows, head_of, heads_of, Packings, Names}
use Rattle.layers.proofs.Each.{layer-rows, head_of-blocks_at, packing-at, packings-from}
use Rattle.pack.specs.Pack.{Pack, GoodPack}
use Rattle.placement.specs.Figure.{figure_of}
use Rattle.placement.specs.declared.Rule.TheVariants.{NestedFloors}
use Rattle.placement.specs.Placement.{OrderLimits, PlacementLimits, GoodPlacement}
use Rattle.split.specs.Splits.{Share, layer_at, share_head, split_heads, Split}
use Rattle.split.proofs.Heads.{split_heads-congr}
use Rattle.planner.specs.Planning.{placed, split_placement}

module _ (pack : Pack) (s k b : ℕ) (split : ℕ → Share) where
  -- layer x of the split's placement
  abbrev placed_at : ℕ → Layer
  placed_at x = placed (blocks_at pack.layers x) (split x)

  placed-head : (x : ℕ) → head_of (placed_at x) ≡ share_head (layer_at (heads_of pack.layers) x) (split x)
  placed-head x = rw (length-repeated (blocks_at pack.layers x).rows (split x).count, head_of-blocks_at pack.layers x)

  -- the placement's head numbers are the split's
  pub heads-placed : heads_of (map placed_at (up_to s)) ≡ split_heads (heads_of pack.layers) s split
  heads-placed =
      map-map head_of placed_at (up_to s) ∙ map-up_to-congr _ _ s (λ x lt. placed-head x)

  module _ (good : GoodPack pack) (order : OrderLimits pack.n pack.r (record { s = s; k = k; b = b })) (is : Split (heads_of pack.layers) s b split)
      (lambdas : (x : ℕ) → x < s → (split x).copies * (layer_at (heads_of pack.layers) x).bound ≤ 16_777_216) where
    held : (x : ℕ) → x < s → (split x).count ≤ (split x).copies * length (blocks_at pack.layers x).rows
    held x lt = rw (head_of-blocks_at pack.layers x) at (is.held x lt)

    placed-limits : PlacementLimits (split_placement pack s k b split)
    unfolding split_placement
    placed-limits =
        record {
          kind = tt;
          base = good.limits.base;
          dark = record { ordered = good.limits.dark-order; unlisted = λ none. absurd (true≢false none) };
          order = order;
          layer-each = length-map-up_to placed_at s;
          lambda-most = all_map _ placed_at (up_to s) (all-up_to _ s (λ x lt. rw (head_of-blocks_at pack.layers x) at (lambdas x lt)));
          records-all = rw heads-placed is.sum;
          feeders = refl;
        }

    -- what holds of every block holds of every row
    rows_of : (P : List ℕ → Type 0) → All P (all_rows pack.layers) → All P (all_rows (map placed_at (up_to s)))
    rows_of P h =
        all-flatten P (map (λ layer. layer.rows) (map placed_at (up_to s)))
        (rw (map-map (λ layer. layer.rows) placed_at (up_to s))
        (all_map _ (λ x. (placed_at x).rows) (up_to s) (all-up_to _ s each)))
      where
        each : (x : ℕ) → x < s → All P (placed_at x).rows
        each x lt =
            repeated-rows P (split x).copies (split x).count (blocks_at pack.layers x).rows (held x lt) (layer-rows P pack.layers x h)

    placed-packings : Packings 0 (map placed_at (up_to s))
    placed-packings = packings-from 0 (map placed_at (up_to s)) each
      where
        each : (x : ℕ) → x < length (map placed_at (up_to s))
            → Packing (0 + x) (blocks_at (map placed_at (up_to s)) x).bound (blocks_at (map placed_at (up_to s)) x).rows
        each x lt =
            let below : x < s = subst (λ (m : ℕ). x < m) (length-map-up_to placed_at s) lt in
            let within : x < length pack.layers = omega (arith, good.limits.layer-each, order.s-most) in
            subst (λ (layer : Layer). Packing (0 + x) layer.bound layer.rows)
            (sym (get_d-map-up_to placed_at s x (record { bound = 0; rows = [] }) below))
            (copies-packing (0 + x) (blocks_at pack.layers x).bound (split x).copies (split x).count
            (blocks_at pack.layers x).rows (held x below)
            (packing-at 0 pack.layers x within good.packings))

    -- the split's placement is good
    pub placed-good : GoodPlacement (split_placement pack s k b split)
    unfolding split_placement
    placed-good =
        record {
          limits = placed-limits;
          rows = rows_of (Row pack.n pack.r) good.rows;
          in-service = rows_of (λ row. Names pack.dark row → ⊥) good.in-service;
          apart = tt;
          packings = placed-packings;
          formula = ap (figure_of NestedFloors s k b) (sym heads-placed);
        }

-- a placement looks at the split's layers below s alone
pub split_placement-congr : (pack : Pack) (s k b : ℕ) (a c : ℕ → Share) → ((x : ℕ) → x < s → a x ≡ c x)
    → split_placement pack s k b a ≡ split_placement pack s k b c
unfolding split_placement
split_placement-congr pack s k b a c h =
    let figure = ap (figure_of NestedFloors s k b) (split_heads-congr (heads_of pack.layers) s a c h) in
    let layers = map-up_to-congr _ _ s (λ x l. ap (placed (blocks_at pack.layers x)) (h x l)) in
    λ i. record { kind = 5; n = pack.n; r = pack.r; dark = pack.dark; s = s; k = k; b = b; figure = figure i; layers = layers i; feeders = none }

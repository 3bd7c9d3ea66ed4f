-- The planner's writer writes bare rows in one layer: they are the blocks of a pack of which one copy is taken. Assumes nothing.
use Prim.Native.Nat.{ℕ, ◌+◌, ◌≤◌, ◌<◌}
use native.Mathlib.Omega.{arith}
use native.Mathlib.Nat.{le_refl, one-mul}
use mathlib.Core.Path.{◌≡◌, sym, ◌∙◌, ap, subst}
use mathlib.Core.Logic.{◌⊎◌, inl, inr}
use mathlib.Core.List.{List, [], ◌++◌, map, flatten, append-nil}
use mathlib.Core.Option.{none}
use lib.ListN.{length, get_or, take, replicate, set, length-replicate, replicate-append-replicate}
use lib.Seq.{take-set-lt, set-append_left, ext_get_or}
use Rattle.lists.specs.Lists.{All, up_to}
use Rattle.lists.proofs.Alls.{all-imp, all-get_d-default, length-flatten}
use Rattle.lists.proofs.UpTo.{length-map-up_to, get_d-map-up_to}
use Rattle.packing.specs.Rows.{Row}
use Rattle.layers.specs.Layers.{Layer, blocks_at, heads_of, layers_at}
use Rattle.layers.specs.Answers.{five, no_head, dark_of, dark_list, base_of}
use Rattle.layers.specs.declared.LayerHead.{LayerHead}
use Rattle.layers.proofs.Each.{head_of-blocks_at}
use Rattle.layers.proofs.Layouts.{layers_at-flatten}
use Rattle.layers.proofs.Listing.{dark-count, dark_list-dark_of}
use Rattle.pack.specs.Pack.{Pack, GoodPack}
use Rattle.placement.specs.Figure.{figure_of}
use Rattle.placement.specs.declared.Rule.TheVariants.{NestedFloors}
use Rattle.split.specs.Splits.{split_heads, counts_split}
use Rattle.split.proofs.Copies.{copies_for-no-blocks}
use Rattle.planner.specs.Planning.{placed, split_placement}
use Rattle.planner.specs.Answers.{counts_of}
use Rattle.planner.specs.Writing.{held_pack, counts_placement, PackHeld, Writable}
use Rattle.certify.specs.Bare.{Bare, GoodBare}
use Rattle.certify.specs.Certify.{most_together, figure_in, one_layer, placed_in}
use Rattle.certify.proofs.Alone.{empty_layer, alone, alone_heads, all_set, all_replicate, take-replicate-le, map-set, map-replicate, at_same, at_other, length-alone, same-or-other, rows-alone, sizes-alone, heads-alone, packings-alone}
use Rattle.certify.proofs.Certified.{lambda-most, lambda-least, x-below-r, head-is, packing, figure-heads}
use Rattle.certify.proofs.Shares.{one-copy, repeated-self, repeated-none, heads-split, alone-split}

-- Good bare rows, and a layer below s.
module _ (q : Bare) (good : GoodBare q) (x : ℕ) (below : x < q.order.s) where
  abbrev rows : List (List ℕ)
  rows = q.rows

  abbrev s : ℕ
  s = q.order.s

  abbrev r : ℕ
  r = q.base.r

  abbrev b : ℕ
  b = q.order.b

  abbrev lambda : ℕ
  lambda = most_together x rows

  abbrev full : Layer
  full = record { bound = lambda; rows = rows }

  abbrev head : LayerHead
  head = record { bound = lambda; size = b }

  -- the pack whose layer x has these rows as blocks, and whose others have none
  abbrev rows_pack : Pack
  rows_pack = record { n = q.base.n; r = r; dark = q.base.dark; layers = alone r 1 x full }

  in-r : x < r
  in-r = x-below-r q good x below

  pack-heads : heads_of rows_pack.layers ≡ alone_heads r 1 x head
  pack-heads = heads-alone r 1 x full ∙ ap (alone_heads r 1 x) (head-is q good x below)

  pack-good : GoodPack rows_pack
  pack-good =
      let rows_are = rows-alone r 1 x full in-r in
      record {
        limits =
            record {
              base = good.base;
              dark-order = good.dark.ordered;
              layer-each = length-alone r x (empty_layer 1) full;
              mu-limits =
                  all_set (λ layer. (1 ≤ layer.bound) × (layer.bound ≤ 4_096)) (replicate r (empty_layer 1)) x full
                  (all_replicate (λ layer. (1 ≤ layer.bound) × (layer.bound ≤ 4_096)) r (empty_layer 1) (omega arith, omega arith))
                  (lambda-least q good x below, omega (arith, lambda-most q good x below, good.order.b-most));
              blocks-most = rw (pack-heads, sizes-alone r 1 x head in-r) good.order.b-most;
            };
        rows = rw rows_are good.rows;
        in-service = rw rows_are good.in-service;
        packings = packings-alone r 1 x full (packing q good x below);
      }

  -- The code's arrays: five layers' numbers, five counts.
  abbrev code_heads : List LayerHead
  code_heads = alone_heads 5 1 x head

  abbrev code_counts : List ℕ
  code_counts = set (replicate 5 0) x b

  heads-taken : take r code_heads ≡ heads_of rows_pack.layers
  heads-taken =
      take-set-lt r (replicate 5 (record { bound = 1; size = 0 })) x head in-r
      ∙ ap (λ l. set l x head) (take-replicate-le r 5 (record { bound = 1; size = 0 }) good.base.r-most)
      ∙ sym pack-heads

  list-is : dark_list (dark_of q.base.dark) ≡ q.base.dark
  list-is =
      dark_list-dark_of q.base.dark
      (omega (arith, dark-count q.base.n q.base.dark good.dark.ordered, good.base.n-most))

  row-lengths : All (λ row. length row ≡ r) rows
  row-lengths = all-imp (Row q.base.n r) (λ row. length row ≡ r) (λ row h. h.0) rows good.rows

  pack-is : held_pack (base_of q.base) code_heads (flatten rows) ≡ rows_pack
  pack-is =
      let rows_are = rows-alone r 1 x full in-r in
      let layers-are : layers_at r (take r code_heads) (flatten rows) ≡ rows_pack.layers =
      ap (λ heads. layers_at r heads (flatten rows)) heads-taken
      ∙ ap (layers_at r (heads_of rows_pack.layers)) (sym (append-nil (flatten rows)) ∙ ap (λ l. flatten l ++ []) (sym rows_are))
      ∙ layers_at-flatten r rows_pack.layers [] (rw rows_are row-lengths) in
      λ i. record { n = q.base.n; r = r; dark = list-is i; layers = layers-are i }

  -- within a pack's limits
  abbrev Within : LayerHead → Type 0
  Within given = (given.bound ≤ 4_096) × (given.size ≤ 4_096)

  pack-held : PackHeld (base_of q.base) code_heads (flatten rows)
  pack-held =
      record {
        good = subst GoodPack (sym pack-is) pack-good;
        counted = ap length list-is;
        whole = rw (heads-taken, pack-heads, sizes-alone r 1 x head in-r, length-flatten r rows row-lengths, good.records-all) (le_refl _);
        most =
            λ y.
            all-get_d-default Within code_heads y no_head (omega arith, omega arith)
            (all_set Within (replicate 5 (record { bound = 1; size = 0 })) x head
            (all_replicate Within 5 (record { bound = 1; size = 0 }) (omega arith, omega arith))
            (omega (arith, lambda-most q good x below, good.order.b-most), good.order.b-most));
      }

  s-le-five : s ≤ 5
  s-le-five = omega (arith, good.order.s-most, good.base.r-most)

  -- what the writer asks
  pub rows-writable : Writable (base_of q.base) code_heads (flatten rows) q.order code_counts
  rows-writable =
      record {
        held = pack-held;
        within = good.order;
        is-split = alone-split 5 s x b lambda good.order.b-least below s-le-five 5 s-le-five;
      }

  -- layer by layer
  placed_at : (y : ℕ) → y < s
      → placed (blocks_at rows_pack.layers y) (counts_split (heads_of rows_pack.layers) code_counts y) ≡ get_or (one_layer s x lambda rows) y (empty_layer 0)
  placed_at y lt = go (same-or-other x y)
    where
      go : (y ≡ x) ⊎ (y ≡ x → ⊥)
          → placed (blocks_at rows_pack.layers y) (counts_split (heads_of rows_pack.layers) code_counts y)
          ≡ get_or (one_layer s x lambda rows) y (empty_layer 0)
      go (inl e) =
          rw (
            e,
            head_of-blocks_at rows_pack.layers x,
            at_same r x (empty_layer 1) full (empty_layer 0) in-r,
            at_same 5 x 0 b 0 (omega (arith, s-le-five)),
            good.records-all,
            one-copy b good.order.b-least,
            one-mul lambda,
            repeated-self rows b good.records-all,
            at_same s x (empty_layer 0) full (empty_layer 0) below,
          )
      go (inr ne) =
          rw (
            head_of-blocks_at rows_pack.layers y,
            at_other r x y (empty_layer 1) full (empty_layer 0) (omega (arith, good.order.s-most)) ne,
            at_other 5 x y 0 b 0 (omega (arith, s-le-five)) ne,
            copies_for-no-blocks 0,
            repeated-none [],
            at_other s x y (empty_layer 0) full (empty_layer 0) lt ne,
          )

  layers-same : map (λ y. placed (blocks_at rows_pack.layers y) (counts_split (heads_of rows_pack.layers) code_counts y)) (up_to s)
      ≡ one_layer s x lambda rows
  layers-same =
      ext_get_or (empty_layer 0) _ _ (length-map-up_to _ s ∙ sym (length-alone s x (empty_layer 0) full))
      (λ y lt.
      let low : y < s = subst (λ (n : ℕ). y < n) (length-map-up_to _ s) lt in
      get_d-map-up_to _ s y (empty_layer 0) low ∙ placed_at y low)

  figure-same : figure_of NestedFloors s q.order.k b (split_heads (heads_of rows_pack.layers) s (counts_split (heads_of rows_pack.layers) code_counts))
      ≡ figure_in q.order rows x
  figure-same =
      ap (λ heads. figure_of NestedFloors s q.order.k b (split_heads heads s (counts_split heads code_counts))) pack-heads
      ∙ ap (figure_of NestedFloors s q.order.k b)
      (heads-split r s x b lambda good.order.b-least below good.order.s-most 5 s-le-five)
      ∙ figure-heads q good x below

  -- it writes the rows in that layer
  pub counts_placement-is : counts_placement (held_pack (base_of q.base) code_heads (flatten rows)) q.order code_counts ≡ placed_in q x
  unfolding split_placement placed_in
  counts_placement-is =
      ap (λ pack. counts_placement pack q.order code_counts) pack-is
      ∙ (λ i. record {
        kind = 5;
        n = q.base.n;
        r = r;
        dark = q.base.dark;
        s = s;
        k = q.order.k;
        b = b;
        figure = figure-same i;
        layers = layers-same i;
        feeders = none;
      })

  -- the counts beside the answer
  pub counts-are : code_counts ≡ counts_of (placed_in q x)
  unfolding placed_in
  counts-are =
      let sizes-are : map (λ layer. length layer.rows) (one_layer s x lambda rows) ≡ set (replicate s 0) x b =
      map-set (λ layer. length layer.rows) (replicate s (empty_layer 0)) x full
      ∙ (λ i. set (map-replicate (λ layer. length layer.rows) s (empty_layer 0) i) x (good.records-all i)) in
      sym
      (ap (five 0) sizes-are
      ∙ ap (take 5) (sym (set-append_left (replicate s 0) (replicate 5 0) x b (rw (length-replicate {A = ℕ} s 0) below))
      ∙ ap (λ l. set l x b) (replicate-append-replicate s 5 0))
      ∙ take-set-lt 5 (replicate (s + 5) 0) x b (omega (arith, s-le-five))
      ∙ ap (λ l. set l x b) (take-replicate-le 5 (s + 5) 0 (omega arith)))

-- Writing a split's placement: what the code's arrays and bytes stand for. Assumes nothing.
use Rattle.std.specs.Prelude.{ℕ, ◌*◌, ◌≤◌, ◌<◌, ◌≡◌, length, get_or, take}
use mathlib.Core.List.{List, ◌∷◌, ◌++◌, map, flatten}
use Rattle.lists.specs.Lists.{up_to}
use Rattle.packing.specs.Rows.{repeated}
use Rattle.layers.specs.Layers.{Layer, blocks_at, sizes, heads_of, head_numbers, layers_at}
use Rattle.layers.specs.Answers.{dark_list}
use Rattle.layers.specs.Written.{start_numbers}
use Rattle.layers.specs.declared.Base.{Base}
use Rattle.layers.specs.declared.LayerHead.{LayerHead}
use Rattle.pack.specs.Pack.{Pack, GoodPack}
use Rattle.placement.specs.Placement.{Placement, OrderLimits}
use Rattle.placement.specs.declared.Order.{Order}
use Rattle.split.specs.Splits.{Split, layer_at, counts_split}
use Rattle.planner.specs.Planning.{split_placement}

-- the layers below r, of the code's five, whose blocks the bytes begin with
abbrev pub held_layers : (r : ℕ) (layers : List LayerHead) (blocks : List ℕ) → List Layer
held_layers r layers blocks = layers_at r (take r layers) blocks

-- and their pack
abbrev pub held_pack : Base → (layers : List LayerHead) (blocks : List ℕ) → Pack
held_pack base layers blocks =
    record { n = base.n; r = base.r; dark = dark_list base.dark; layers = held_layers base.r layers blocks }

-- the placement of the split with these counts
abbrev pub counts_placement : Pack → Order → (counts : List ℕ) → Placement
counts_placement pack order counts =
    split_placement pack order.s order.k order.b (counts_split (heads_of pack.layers) counts)

-- the numbers of a placement's head: those that every file with a list begins with, then its own
abbrev pub own_numbers : Order → (figure : ℕ) → List LayerHead → List ℕ
own_numbers order figure heads = order.s ∷ order.k ∷ order.b ∷ figure ∷ head_numbers heads

abbrev pub written_numbers : Base → Order → (figure : ℕ) → List LayerHead → List ℕ
written_numbers base order figure heads = start_numbers 5 base ++ own_numbers order figure heads

-- the rows of the layers below x, "layer by layer", with the counts in the placement's head: "Row j (from 0) of a layer is
-- its block j mod m"
abbrev pub rows_below : (blocks : List Layer) (heads : List LayerHead) (x : ℕ) → List ℕ
rows_below blocks heads x =
    flatten (flatten (map (λ y. repeated (blocks_at blocks y).rows (layer_at heads y).size) (up_to x)))

-- what planning on a pack asks of its numbers and its blocks, as the code has them
pub record PackHeld (base : Base) (layers : List LayerHead) (blocks : List ℕ) : Type 0 where
  pub good : GoodPack (held_pack base layers blocks)
  pub counted : length (dark_list base.dark) ≡ base.dark.count
  pub whole : sizes (take base.r layers) * base.r ≤ length blocks
  pub most : (x : ℕ) → ((layer_at layers x).bound ≤ 4_096) × ((layer_at layers x).size ≤ 4_096)

-- what writing a split's placement asks: an order within limits, and counts that are a split
pub record Writable (base : Base) (layers : List LayerHead) (blocks : List ℕ) (order : Order) (counts : List ℕ) : Type 0 where
  pub held : PackHeld base layers blocks
  pub within : OrderLimits base.n base.r order
  pub is-split : Split layers order.s order.b (counts_split layers counts)

-- what the two numbers of each layer of a split's placement ask
pub record SharesFit (layers : List LayerHead) (s : ℕ) (counts : List ℕ) : Type 0 where
  pub s-most : s ≤ 5
  pub most : (x : ℕ) → ((layer_at layers x).bound ≤ 4_096) × ((layer_at layers x).size ≤ 4_096)
  pub count_most : (x : ℕ) → x < s → get_or counts x 0 ≤ 4_096

-- what writing the rows of the layers below s asks: they and their blocks are within the slices, and a layer with records
-- has blocks
pub record RowsFit (r s : ℕ) (layers heads : List LayerHead) (blocks out : List ℕ) : Type 0 where
  pub s-most : s ≤ 5
  pub s-below : s ≤ r
  pub rows_fit : sizes (take s heads) * r ≤ length out
  pub blocks-fit : sizes (take s layers) * r ≤ length blocks
  pub some-blocks : (x : ℕ) → x < s → 0 < (layer_at heads x).size → 0 < (layer_at layers x).size

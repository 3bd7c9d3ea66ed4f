-- What the inner functions of asking ask of the numbers that they are handed. Assumes nothing.
use Rattle.std.specs.Prelude.{ℕ, ◌+◌, ◌≤◌, List, get_or, T}
use Rattle.layers.specs.declared.Base.{Base}
use Rattle.layers.specs.declared.LayerHead.{LayerHead}
use Rattle.placement.specs.declared.Order.{Order}
use Rattle.split.specs.Splits.{layer_at, has_block}
use Rattle.split.specs.Table.{Limits}
use Rattle.planner.specs.Planning.{work_needed}

-- what asking needs of an accepted pack's numbers, as the code has them
pub record LayersHeld (base : Base) (layers : List LayerHead) : Type 0 where
  pub n-most : base.n ≤ 255
  pub r-most : base.r ≤ 5
  pub most : (x : ℕ) → ((layer_at layers x).bound ≤ 4_096) × ((layer_at layers x).size ≤ 4_096)

-- what answering an order asks: it passed the checks
pub record Askable (layers : List LayerHead) (order : Order) (work : ℕ) : Type 0 where
  pub limits : Limits layers order
  pub block : T (has_block layers order.s)
  pub work-fits : work_needed order.s order.b ≤ work

-- what the copies of five counts ask: sums that fit
pub record CopiesFit (layers : List LayerHead) (counts : List ℕ) : Type 0 where
  pub fits : (x : ℕ) → get_or counts x 0 + (layer_at layers x).size ≤ 65_536

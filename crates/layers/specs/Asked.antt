-- What the packing test of all layers asks: few layers and rows, within the bytes, each ascending. Assumes nothing.
use Rattle.std.specs.Prelude.{ℕ, ◌+◌, ◌*◌, ◌≤◌, List, length, take, drop, T}
use Rattle.lists.specs.Lists.{All}
use Rattle.packing.specs.Rows.{ascending}
use Rattle.layers.specs.Layers.{sizes, all_rows, layers_at}
use Rattle.layers.specs.declared.LayerHead.{LayerHead}

-- every row ascends
abbrev pub Ascending : List (List ℕ) → Type 0
Ascending rows = All (λ row. T (ascending 0 row)) rows

pub record PackingsAsked (r layers : ℕ) (heads : List LayerHead) (s : List ℕ) (at : ℕ) : Type 0 where
  pub few : layers ≤ r
  pub r-most : r ≤ 5
  pub rows-most : sizes (take layers heads) ≤ 4_096
  pub within : at + sizes (take layers heads) * r ≤ length s
  pub ordered : Ascending (all_rows (layers_at r (take layers heads) (drop at s)))

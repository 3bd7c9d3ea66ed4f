-- The load of layer 0, which its packing test asks for. Assumes nothing.
use Rattle.std.specs.Prelude.{ℕ, List, drop, get_or}
use Rattle.packing.specs.Rows.{rows_at}
use Rattle.packing.specs.Load.{most}
use Rattle.layers.specs.Answers.{no_head}
use Rattle.layers.specs.declared.LayerHead.{LayerHead}

-- the largest number of rows of layer 0 that hold one node, where the rows start at `at`
abbrev pub first_load : (r : ℕ) (heads : List LayerHead) (s : List ℕ) (at : ℕ) → ℕ
first_load r heads s at = most 256 (rows_at r (get_or heads 0 no_head).size (drop at s))

-- What the load line asks of an accepted placement. Assumes nothing.
use Rattle.std.specs.Prelude.{ℕ, ◌+◌, ◌*◌, ◌≤◌, ◌≡◌, List, T, length, drop}
use Rattle.lists.specs.Lists.{All}
use Rattle.packing.specs.Rows.{is_in_order, rows_at}
use Rattle.packing.specs.Load.{most}
use Rattle.placement.specs.declared.PlacementHead.{PlacementHead}

-- the rows from the first row's place on
abbrev pub rows_of : (input : List ℕ) (h : PlacementHead) (rows : ℕ) → List (List ℕ)
rows_of input h rows = rows_at h.r rows (drop h.first input)

-- b rows in order, few and within the input; without feeders, the load handed on is that of the first `size` of them
pub record LoadAsked (input : List ℕ) (h : PlacementHead) (size load : ℕ) : Type 0 where
  pub n-most : h.n ≤ 255
  pub b-most : h.b ≤ 4_096
  pub r-most : h.r ≤ 5
  pub within : h.first + h.b * h.r ≤ length input
  pub ordered : All (λ row. T (is_in_order h.n row)) (rows_of input h h.b)
  pub handed : (h.kind ≡ 6 → ⊥) → load ≡ most 256 (rows_of input h size)

-- Counts of bytes, and what a pass over rows gives. Assumes nothing.
use Rattle.std.specs.Prelude.{ℕ, ◌<◌, ◌≡◌, Bool, true, List, get_or, take, T, eqb}
use Rattle.lists.specs.Lists.{All, count}
use Rattle.packing.specs.Rows.{is_in_order, rows_at}
use Rattle.packing.specs.Load.{most}

-- element v says how many of the first `seen` bytes are v
abbrev pub Counted : (bytes : List ℕ) (seen : ℕ) (counts : List ℕ) → Type 0
Counted bytes seen counts = (v : ℕ) → v < 256 → get_or counts v 0 ≡ count (λ w. eqb v w) (take seen bytes)

-- rows are called good exactly where all are in order, and where they are the load is that of all nodes
pub record Ordered (n r c : ℕ) (rows : List ℕ) (good : Bool) (load : ℕ) : Type 0 where
  pub in_order : good ≡ true → All (λ row. T (is_in_order n row)) (rows_at r c rows)
  pub loaded : All (λ row. T (is_in_order n row)) (rows_at r c rows) → (good ≡ true) × (load ≡ most 256 (rows_at r c rows))

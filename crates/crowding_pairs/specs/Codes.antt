-- Pairs of nodes as numbers. Assumes nothing.
use Rattle.std.specs.Prelude.{ℕ, ◌+◌, ◌*◌, ◌/◌, ◌≤◌, ◌≡◌, List, [], ◌∷◌, map, length, get_or, Bool, ◌&&◌, eqb, leb}
use Rattle.lists.specs.Lists.{count, total, largest, up_to}
use Rattle.crowding.specs.Chains.{AtMost}

-- the number of a node v and a node `low` before it in a row. Each v has v + 1 numbers, after those of the smaller ones, so that the
-- pairs of rows that ascend have different numbers.
abbrev pub pair_number : (v low : ℕ) → ℕ
pair_number v low = v * (v + 1) / 2 + low

-- how many numbers two bytes have: from 0 to that of 255 and 255
abbrev pub pair_cells : ℕ
pair_cells = 32896

-- how many of the nodes make the number p with the node `low` before them
abbrev pub with_low : (p low : ℕ) → List ℕ → ℕ
with_low p low nodes = count (λ v. eqb p (pair_number v low)) nodes

-- how many pairs of the row's nodes have the number p
unfoldable pub coded : (p : ℕ) → List ℕ → ℕ
coded p [] = 0
coded p (v ∷ row) = with_low p v row + coded p row

-- the same of all rows
abbrev pub coded_rows : (p : ℕ) → List (List ℕ) → ℕ
coded_rows p rows = total (map (coded p) rows)

-- how often the number comes that comes most often
abbrev pub most_coded : List (List ℕ) → ℕ
most_coded rows = largest (map (λ p. coded_rows p rows) (up_to pair_cells))

-- a table has a cell for each number, each cell is at most `most`, and the nodes are few
pub record Room (most : ℕ) (nodes table : List ℕ) : Type 0 where
  pub short : length nodes ≤ 5
  pub cells : pair_cells ≤ length table
  pub few : AtMost most table

-- each cell is raised by what is said of its number
pub record Raised (by : ℕ → ℕ) (table table' : List ℕ) : Type 0 where
  pub same : length table' ≡ length table
  pub cell : (p : ℕ) → get_or table' p 0 ≡ get_or table p 0 + by p

-- c rows of at most five nodes
pub record RowsFit (rows : List ℕ) (c r : ℕ) : Type 0 where
  pub few : c ≤ 4096
  pub five : r ≤ 5
  pub whole : c * r ≤ length rows

-- a table of zeros with a cell for each number
pub record Empty (table : List ℕ) : Type 0 where
  pub cells : pair_cells ≤ length table
  pub none : AtMost 0 table

pub record RowsRoom (rows : List ℕ) (c r : ℕ) (table : List ℕ) : Type 0 where
  pub fit : RowsFit rows c r
  pub empty : Empty table

-- sets of two nodes, many rows, and no pair of nodes in more than `bound` of them: nothing is crowded
abbrev pub few_pairs : (x bound : ℕ) (rows : List (List ℕ)) → Bool
few_pairs x bound rows = eqb x 1 && (leb 256 (length rows) && leb (most_coded rows) bound)

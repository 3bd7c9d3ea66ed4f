-- The packing test by tails: sets of nodes are grown one node at a time, least node first, and what is left of the rows
-- that hold the nodes chosen so far are the tails. Assumes nothing.
use Rattle.std.specs.Prelude.{ℕ, zero, suc, min, Bool, cond, ◌&&◌, List, [], ◌∷◌, length, leb, ltb, eqb}
use Rattle.std.proofs.Math.Option.{Option, none, some}
use Rattle.packing.specs.Rows.{member}

-- a row's number, and its nodes above those already chosen
pub record Tail : Type 0 where
  pub row : ℕ
  pub nodes : List ℕ

-- the nodes after v
unfoldable pub past : (v : ℕ) → List ℕ → List ℕ
past v [] = []
past v (u ∷ nodes) = cond (eqb v u) nodes (past v nodes)

-- v is one of the nodes, and at least w nodes come after it
abbrev pub leaves : (w v : ℕ) → List ℕ → Bool
leaves w v nodes = member v nodes && leb w (length (past v nodes))

-- the tails after v of those that leave w nodes there, the last one first, and then `found`
unfoldable pub tails_after : (w v : ℕ) (tails found : List Tail) → List Tail
tails_after w v [] found = found
tails_after w v (t ∷ tails) found =
    tails_after w v tails (cond (leaves w v t.nodes) (record { row = t.row; nodes = past v t.nodes } ∷ found) found)

-- the least of `least` and the tails' row numbers
unfoldable pub lowest_row : (least : ℕ) → List Tail → ℕ
lowest_row least [] = least
lowest_row least (t ∷ tails) = lowest_row (min least t.row) tails

-- `step` for each node below n, the largest first
unfoldable pub over_nodes : (step : ℕ → ℕ → ℕ) (n least : ℕ) → ℕ
over_nodes step zero least = least
over_nodes step (suc v) least = over_nodes step v (step v least)

-- the least of `least` and the row numbers of the tails that have w nodes which stand together in more than `bound` of
-- the tails
unfoldable pub lowest_crowded : (w bound : ℕ) (tails : List Tail) (least : ℕ) → ℕ
lowest_crowded zero bound tails least = cond (ltb bound (length tails)) (lowest_row least tails) least
lowest_crowded (suc w) bound tails least =
    over_nodes (λ v least. lowest_crowded w bound (tails_after w v tails []) least) 256 least

-- the rows as tails, the first of which has the number i
unfoldable pub row_tails : (i : ℕ) → List (List ℕ) → List Tail
row_tails i [] = []
row_tails i (row ∷ rows) = record { row = i; nodes = row } ∷ row_tails (suc i) rows

-- a row's number, and 65,536 where there is none
abbrev pub row_number : Option ℕ → ℕ
row_number none = 65536
row_number (some i) = i

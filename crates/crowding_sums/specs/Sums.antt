-- Sets of nodes by the sums of their nodes' weights: a set stands in no more rows than its sum comes in. Assumes nothing.
use Rattle.std.specs.Prelude.{ℕ, zero, suc, ◌+◌, ◌*◌, ◌-◌, ◌%◌, max, ◌≤◌, ◌<◌, ◌≡◌, Bool, true, cond, List, [], ◌∷◌, length, get_or, T, eqb, ltb}
use Rattle.std.proofs.Math.Option.{none}
use Rattle.lists.specs.Lists.{All, tally}
use Rattle.packing.specs.Rows.{ascending, rows_at, first_crowded}
use Rattle.crowding.specs.Chains.{AtMost}
use Rattle.crowding_pairs.specs.Codes.{RowsFit}
use Rattle.crowding_sums.specs.declared.Sets.{Sets}

-- the sum of the nodes' weights
unfoldable pub weigh : (weights : List ℕ) → List ℕ → ℕ
weigh weights [] = 0
weigh weights (v ∷ nodes) = get_or weights v 0 + weigh weights nodes

-- how many of the sums pass the test that are left where the weights of d of the nodes are taken off
unfoldable pub leaving : (weights : List ℕ) (f : ℕ → Bool) (d sum : ℕ) → List ℕ → ℕ
leaving weights f zero sum nodes = tally (f sum) 0
leaving weights f (suc d) sum [] = 0
leaving weights f (suc d) sum (v ∷ nodes) = leaving weights f d (sum - get_or weights v 0) nodes + leaving weights f (suc d) sum nodes

-- the same of a row's own sum
abbrev pub leaving_row : (weights : List ℕ) (f : ℕ → Bool) (d : ℕ) → List ℕ → ℕ
leaving_row weights f d row = leaving weights f d (weigh weights row) row

-- a sum is counted in cell p of 65,536
abbrev pub in_cell : (p sum : ℕ) → Bool
in_cell p sum = eqb p (sum % 65536)

-- how often the sum comes that comes most often, of those that are left where d of the nodes are left out
unfoldable pub most_left : (weights table : List ℕ) (d sum : ℕ) → List ℕ → ℕ
most_left weights table zero sum nodes = get_or table (sum % 65536) 0
most_left weights table (suc d) sum [] = 0
most_left weights table (suc d) sum (v ∷ nodes) =
    max (most_left weights table d (sum - get_or weights v 0) nodes) (most_left weights table (suc d) sum nodes)

-- the same of a row's own sum
abbrev pub most_of : (weights table : List ℕ) (d : ℕ) → List ℕ → ℕ
most_of weights table d row = most_left weights table d (weigh weights row) row

-- the sum of one of the row's sets with d nodes less comes more than `bound` times
abbrev pub is_kept : (weights table : List ℕ) (bound d : ℕ) → List ℕ → Bool
is_kept weights table bound d row = ltb bound (most_of weights table d row)

-- the rows that pass
unfoldable pub kept_of : (List ℕ → Bool) → List (List ℕ) → List (List ℕ)
kept_of f [] = []
kept_of f (row ∷ rows) = cond (f row) (row ∷ kept_of f rows) (kept_of f rows)

-- a few nodes, whose weights are in the sum, and a table with a cell for each sum
pub record Looked (weights : List ℕ) (sum : ℕ) (nodes table : List ℕ) : Type 0 where
  pub short : length nodes ≤ 5
  pub known : length weights ≡ 256
  pub held : weigh weights nodes ≤ sum
  pub cells : length table ≡ 65536

-- and each cell is at most `most`
pub record Room (weights : List ℕ) (sum most : ℕ) (nodes table : List ℕ) : Type 0 where
  pub look : Looked weights sum nodes table
  pub few : AtMost most table

-- c rows of at most five nodes, sets with d nodes less that have three or more, weights, and a table
pub record ToLook (rows : List ℕ) (c r d : ℕ) (weights table : List ℕ) : Type 0 where
  pub fit : RowsFit rows c r
  pub three : d + 3 ≤ r
  pub known : length weights ≡ 256
  pub cells : length table ≡ 65536

-- the same with a table of zeros
pub record ToCount (rows : List ℕ) (c r d : ℕ) (weights table : List ℕ) : Type 0 where
  pub look : ToLook rows c r d weights table
  pub zeros : AtMost 0 table

-- and with room for the rows
pub record ToKeep (rows : List ℕ) (c r d : ℕ) (weights table kept : List ℕ) : Type 0 where
  pub look : ToLook rows c r d weights table
  pub room : c * r ≤ length kept

-- m rows were written: those that pass
pub record KeptRows (f : List ℕ → Bool) (rows : List (List ℕ)) (r m : ℕ) (kept : List ℕ) : Type 0 where
  pub many : m ≡ length (kept_of f rows)
  pub whole : m * r ≤ length kept
  pub are : rows_at r m kept ≡ kept_of f rows

-- rows in order, sets of three nodes or more, and room for the rows
pub record SetsFit (rows : List ℕ) (r : ℕ) (sets : Sets) (kept : List ℕ) : Type 0 where
  pub fit : RowsFit rows sets.c r
  pub three : 2 ≤ sets.x
  pub small : sets.x < r
  pub order : All (λ row. T (ascending 0 row)) (rows_at r sets.c rows)
  pub room : sets.c * r ≤ length kept

-- m rows in order were written, and nothing is crowded in all rows where nothing is in these
pub record Sifted (r : ℕ) (sets : Sets) (rows : List ℕ) (m : ℕ) (kept : List ℕ) : Type 0 where
  pub fewer : m ≤ sets.c
  pub whole : m * r ≤ length kept
  pub order : All (λ row. T (ascending 0 row)) (rows_at r m kept)
  pub enough : first_crowded sets.x sets.bound (rows_at r m kept) ≡ none
      → first_crowded sets.x sets.bound (rows_at r sets.c rows) ≡ none

-- a yes means that no x+1 nodes stand together in more than `bound` of the rows
abbrev pub Settles : (few : Bool) (x bound : ℕ) (rows : List (List ℕ)) → Type 0
Settles few x bound rows = few ≡ true → first_crowded x bound rows ≡ none

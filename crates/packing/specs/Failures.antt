-- Document 01, "Terms": failed nodes and usable records. Which nodes are failed is a test of a node. Assumes nothing.
use Rattle.std.specs.Prelude.{ℕ, ◌<◌, ◌≡◌, Bool, List, length, T, ltb}
use Rattle.lists.specs.Lists.{All, count, up_to}
use Rattle.packing.specs.Rows.{distinct}

-- "k is the number of failed nodes": just k of the n nodes are failed
abbrev pub Failure : (n k : ℕ) (failed : ℕ → Bool) → Type 0
Failure n k failed = count failed (up_to n) ≡ k

-- the same as a list: k different nodes below n
pub record FailedNodes (n k : ℕ) (nodes : List ℕ) : Type 0 where
  pub number : length nodes ≡ k
  pub different : T (distinct nodes)
  pub below : All (λ v. v < n) nodes

-- the record's replicas that are on failed nodes
abbrev pub hits : (failed : ℕ → Bool) (row : List ℕ) → ℕ
hits failed row = count failed row

-- A record "fails when at least s of them are on failed nodes": how many records have fewer
unfoldable pub usable : (s : ℕ) (rows : List (List ℕ)) (failed : ℕ → Bool) → ℕ
usable s rows failed = count (λ row. ltb (hits failed row) s) rows

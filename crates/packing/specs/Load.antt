-- Document 01, "Row walk and programs", and document 02, (f): the load of the nodes. Assumes nothing.
use Rattle.std.specs.Prelude.{ℕ, List, map}
use Rattle.lists.specs.Lists.{count, largest, up_to}
use Rattle.packing.specs.Rows.{member, rows_at}

-- (f) "each node's count is the number of rows holding it"
abbrev pub load : (rows : List (List ℕ)) (node : ℕ) → ℕ
load rows node = count (λ row. member node row) rows

-- (f) "Count for all nodes": the counts of nodes 0 to n-1, in order
abbrev pub loads : (n : ℕ) (rows : List (List ℕ)) → List ℕ
loads n rows = map (load rows) (up_to n)

-- the counts of the c rows of r bytes that the bytes begin with, of every node that a byte can name
unfoldable pub node_counts : (r c : ℕ) (bytes : List ℕ) → List ℕ
node_counts r c bytes = loads 256 (rows_at r c bytes)

-- "most is the largest number of rows holding one node": (f) "most is the largest" of the n counts
abbrev pub most : (n : ℕ) (rows : List (List ℕ)) → ℕ
most n rows = largest (loads n rows)

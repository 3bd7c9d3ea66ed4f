-- Document 01, "Numbers and rows": rows, and sets of nodes that stand together in rows. Nodes are compared and counted
-- by membership, and sets have any size x+1. Assumes nothing.
use Rattle.std.specs.Prelude.{ℕ, zero, suc, ◌+◌, ◌*◌, ◌%◌, ◌≤◌, ◌<◌, ◌≡◌, Bool, true, false, not, ◌&&◌, ◌||◌, List, [], ◌∷◌, ◌++◌, map, length, get_or, take, drop, T, leb, ltb, eqb}
use Rattle.std.proofs.Math.Option.{Option}
use Rattle.lists.specs.Lists.{count, every, any, first_where, up_to}

-- each node is at least `lo` and above the one before it
unfoldable pub ascending : (lo : ℕ) → List ℕ → Bool
ascending lo [] = true
ascending lo (v ∷ row) = leb lo v && ascending (suc v) row

-- "strictly ascending, all below n"
abbrev pub is_in_order : (n : ℕ) → List ℕ → Bool
is_in_order n row = ascending 0 row && every (λ v. ltb v n) row

-- "A row is r bytes, one node number each, strictly ascending, all below n."
abbrev pub Row : (n r : ℕ) → List ℕ → Type 0
Row n r row = (length row ≡ r) × T (is_in_order n row)

-- the c rows of r bytes each that s begins with
unfoldable pub rows_at : (r c : ℕ) → List ℕ → List (List ℕ)
rows_at r zero s = []
rows_at r (suc c) s = take r s ∷ rows_at r c (drop r s)

-- record j of a file whose first row starts at `first`: "b records are numbered from 0 in the order of their rows"
abbrev pub record_at : (bytes : List ℕ) (first r j : ℕ) → List ℕ
record_at bytes first r j = take r (drop (first + j * r) bytes)

abbrev pub records_in : (bytes : List ℕ) (first r b : ℕ) → List (List ℕ)
records_in bytes first r b = map (record_at bytes first r) (up_to b)

-- "Row j (from 0) of a layer is its block j mod m": the first c rows
unfoldable pub repeated : (blocks : List (List ℕ)) (c : ℕ) → List (List ℕ)
repeated blocks c = map (λ j. get_or blocks (j % length blocks) []) (up_to c)

-- v is one of the nodes
unfoldable pub member : ℕ → List ℕ → Bool
member v [] = false
member v (w ∷ nodes) = eqb v w || member v nodes

-- no node comes twice
unfoldable pub distinct : List ℕ → Bool
distinct [] = true
distinct (v ∷ nodes) = not (member v nodes) && distinct nodes

-- all of the nodes are in the row
unfoldable pub holds : List ℕ → (nodes : List ℕ) → Bool
holds row nodes = every (λ v. member v row) nodes

-- in how many of the rows the nodes stand together: "equal rows are allowed and counted"
unfoldable pub together : (rows : List (List ℕ)) (nodes : List ℕ) → ℕ
together rows nodes = count (λ row. holds row nodes) rows

-- "In layer x every set of x+1 nodes stands in at most mu rows"
abbrev pub Packing : (x bound : ℕ) (rows : List (List ℕ)) → Type 0
Packing x bound rows = (nodes : List ℕ) → length nodes ≡ suc x → T (distinct nodes) → together rows nodes ≤ bound

-- the sets of j of the row's nodes
unfoldable pub subsets : (j : ℕ) → List ℕ → List (List ℕ)
subsets zero row = [] ∷ []
subsets (suc j) [] = []
subsets (suc j) (v ∷ row) = map (λ set. v ∷ set) (subsets j row) ++ subsets (suc j) row

-- the nodes are a set of j nodes that the row holds
pub record SetIn (j : ℕ) (row nodes : List ℕ) : Type 0 where
  pub size : length nodes ≡ j
  pub apart : T (distinct nodes)
  pub held : T (holds row nodes)

-- "x+1 nodes together in too many rows": the row holds x+1 nodes that stand together in more than `bound` of the rows
pub record CrowdedSet (x bound : ℕ) (rows : List (List ℕ)) (row : List ℕ) : Type 0 where
  pub nodes : List ℕ
  pub inside : SetIn (suc x) row nodes
  pub crowds : bound < together rows nodes

-- the same as a test: one of the row's sets of x+1 nodes
unfoldable pub crowded : (x bound : ℕ) (rows : List (List ℕ)) → List ℕ → Bool
crowded x bound rows row = any (λ nodes. ltb bound (together rows nodes)) (subsets (suc x) row)

-- refusal 7: "the first row .. that holds such a set"
unfoldable pub first_crowded : (x bound : ℕ) (rows : List (List ℕ)) → Option ℕ
first_crowded x bound rows = first_where (crowded x bound rows) rows

-- refusal 6: the first row "not ascending or with a node at or above n"
unfoldable pub first_bad : (n : ℕ) (rows : List (List ℕ)) → Option ℕ
first_bad n rows = first_where (λ row. not (is_in_order n row)) rows
